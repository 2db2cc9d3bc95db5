-- `message::integrity_of` meets its contract. The loop's invariant: what has been found so far, with the walk from this place on, makes
-- the walk over all. The measure is what is left of the message. Assumes nothing.
use mathlib.Core.Path.{◌≡◌}
use Prim.Native.Nat.{◌-◌}
use lib.ListN.{length, drop}
use Rattle.message.specs.Attributes.{attributes_from, walk_with, walk_of}
use Rattle.message.proofs.integrity_of.Given as goal

abbrev pub invariant-loop-at : goal.invariant-loop-at
invariant-loop-at l = walk_with l.found (attributes_from (drop l.at l.s) l.at 0) ≡ walk_of l.s

abbrev pub decreases-loop-at : goal.decreases-loop-at
decreases-loop-at l = length l.s - l.at
