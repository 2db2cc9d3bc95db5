-- The sum so far is the capped sum of the waits passed.
use Rattle.std.proofs.Common.{◌≡◌, ◌+◌, ◌^◌, min}
use Rattle.waits.specs.Waits.{sum_of}
use Rattle.waits.proofs.RequestRto.span.Given as goal

abbrev pub invariant-loop-i : goal.invariant-loop-i
invariant-loop-i l = l.sum ≡ min (l.self.last_retransmit + sum_of l.self.initial l.self.max l.i) (2 ^ 61)
