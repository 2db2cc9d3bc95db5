-- A table that passed the test is searched.
use native.Mathlib.Omega.{arith}
use Rattle.std.proofs.Common.{not, ap}
use Rattle.costs.proofs.Tested.{kept}
use Rattle.costs.proofs.find.Goals as goal

pub find-requires : goal.find-requires
find-requires c = kept _ _ _ c.is_formed.ensures (ap not c.if-not-is_formed.false) (omega arith)
