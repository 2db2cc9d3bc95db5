-- `replay::lines` meets its contract. The loop's invariant: the lines put so far, with those of what is left, are all that fit.
use Prim.Native.Nat.{◌-◌}
use lib.ListN.{length}
use Rattle.replay.specs.Lent.{stand_of}
use Rattle.replay.proofs.Fits.{Stands}
use Rattle.replay.proofs.lines.Given as goal

abbrev pub invariant-loop-at : goal.invariant-loop-at
invariant-loop-at l =
    Stands l.trace (length l.initial.out) l.out (stand_of l.standing l.table l.store) l.at l.number l.put

abbrev pub decreases-loop-at : goal.decreases-loop-at
decreases-loop-at l =
    length l.trace - l.at
