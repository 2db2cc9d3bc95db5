-- As many bytes as places were passed, and the digits come to an end.
use Rattle.std.proofs.Common.{◌≡◌}
use Rattle.vectors.proofs.unhex.Given as goal

abbrev pub invariant-loop-byte : goal.invariant-loop-byte
invariant-loop-byte l =
    (l.n ≡ l.byte-index) × (goal.iterator-loop-byte).can_next l.digits × (goal.iterator-loop-byte).is_finite l.digits
