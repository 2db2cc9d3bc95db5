-- `table::poll_transmit` meets its contract: `Stands` holds at the head of each turn, and each way through one is a law.
-- Assumes nothing.
use Prim.Native.Nat.{◌-◌}
use Rattle.table.proofs.Scans.{Stands}
use Rattle.table.proofs.poll_transmit.Given as goal

abbrev pub invariant-loop-i : goal.invariant-loop-i
invariant-loop-i l = Stands l.transport l.n l.clock l.initial.t l.t l.i

abbrev pub decreases-loop-i : goal.decreases-loop-i
decreases-loop-i l = l.n - l.i
