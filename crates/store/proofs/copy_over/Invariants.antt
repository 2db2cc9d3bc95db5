-- The bytes passed stand at the start, and behind them what stood there.
use Rattle.std.proofs.Common.{◌≡◌, ◌++◌, length, take, drop}
use Rattle.store.proofs.copy_over.Given as goal

abbrev pub invariant-loop-i : goal.invariant-loop-i
invariant-loop-i l = (length l.to ≡ length l.from) × (l.to ≡ take l.i l.from ++ drop l.i l.initial.to)
