-- `place` meets its contract: it is the place of the first request whose key isn't below. Assumes nothing.
use mathlib.Core.Path.{◌∙◌}
use mathlib.Core.Bool.{true, false}
use Rattle.std.proofs.Common.{rules, tests, arith}
use Rattle.std.proofs.lemmas.Iterator.{first_from_Range}
use Rattle.message.specs.Head.{key}
use Rattle.table.proofs.Searches.{IsBelow, placed, ge_at}
use Rattle.table.proofs.place.Goals as goal

pub returns : goal.returns
returns c =
    let a = c.args in
    let t = a.t.now in
    c.unwrap_or.ensures
    ∙ placed t a.n (key a.id) c.find.result
    (first_from_Range _ _ _ c.find.result (IsBelow t (key a.id) false) (IsBelow t (key a.id) true) c.find.ensures.ran
    (λ x q k. ge_at t (λ j. omega (arith, c.type_inv.t j)) a.id (omega arith) x true (search (rules, tests)))
    (λ x q k. (search (rules, tests), ge_at t (λ j. omega (arith, c.type_inv.t j)) a.id (omega arith) x false (search (rules, tests)))))
