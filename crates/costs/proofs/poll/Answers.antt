-- A table that passed the test is scanned.
use native.Mathlib.Omega.{arith}
use Rattle.std.proofs.Common.{not, ap}
use Rattle.costs.proofs.Tested.{few, within}
use Rattle.costs.proofs.poll.Goals as goal

pub poll-requires : goal.poll-requires
poll-requires c =
    let e = c.is_formed.ensures in
    let p = ap not c.if-not-is_formed.false in
    let a = c.args in
    (few a.n a.t.now _ e p, c.if-clock-gt-MARK.false, (omega arith), within a.n a.t.now _ e p)
