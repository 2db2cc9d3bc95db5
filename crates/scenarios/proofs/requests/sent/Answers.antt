-- The test of the settings decides what `submitted` asks for.
use Rattle.std.proofs.Common.{arith, sym, ◌∙◌}
use Rattle.waits.proofs.Limits.{within_limits_lem}
use Rattle.scenarios.proofs.requests.sent.Goals as goal

pub submitted-requires : goal.submitted-requires
submitted-requires c = record {
  least = omega arith;
  most = omega arith;
  is_row = omega arith;
  settings = (within_limits_lem _).0 (sym c.within_limits.ensures ∙ c.if-not-within_limits.false);
}
