-- The bytes passed are put.
use Rattle.std.proofs.Common.{take}
use Rattle.line.specs.Texts.{Adds}
use Rattle.line.proofs.Text.bytes.Given as goal

abbrev pub invariant-loop-b : goal.invariant-loop-b
invariant-loop-b l = Adds l.initial.self (take l.b-index l.bytes) l.self
