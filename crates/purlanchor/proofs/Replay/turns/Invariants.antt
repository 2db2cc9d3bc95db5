-- The place stays within the part, and each turn uses something of it.
use Rattle.std.proofs.Common.{◌-◌, ◌≤◌, length}
use Rattle.purlanchor.proofs.Replay.turns.Given as goal

abbrev pub invariant-loop-at : goal.invariant-loop-at
invariant-loop-at l = l.at ≤ length l.part

abbrev pub decreases-loop-at : goal.decreases-loop-at
decreases-loop-at l = length l.part - l.at
