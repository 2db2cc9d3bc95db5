-- `words_of` meets its contract: each word is the request's, and the narrow numbers fit their types. Assumes nothing.
use native.Mathlib.Omega.{arith}
use mathlib.Core.Path.{◌≡◌}
use Rattle.std.proofs.lemmas.Grind.{common_steps}
use Rattle.records.specs.Coding.{encode, first_of, last_of}
use Rattle.records.proofs.Coding.{decode_encode}
use Rattle.records.proofs.words_of.Goals as goal

pub returns : goal.returns
unfolding encode
returns c =
    let f : c.map_or-first.result.0 ≡ first_of c.args.r.send_times = grind (arith, common_steps) in
    let l : c.map_or-first.result.1 ≡ last_of c.args.r.send_times = grind (arith, common_steps) in (
      rw (c.words_of_host.ensures.0, c.flags.ensures, f, l) (cc),
      decode_encode c.args.r record {
        id = omega arith;
        lo = c.words_of_host.ensures.1;
        flow = c.words_of_host.ensures.2;
        scope = c.words_of_host.ensures.3;
        port = omega arith;
        sends = omega arith;
        count = omega arith;
      },
    )
