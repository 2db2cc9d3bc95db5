-- One more byte is put.
use mathlib.Core.Path.{sym}
use native.Mathlib.Numerals.{add-one}
use lib.Seq.{take-suc}
use Rattle.line.proofs.Adding.{adds_then, adds_same}
use Rattle.line.proofs.Text.bytes.Goals as goal

pub loop-b-preserved : goal.loop-b-preserved
loop-b-preserved c =
    adds_same (adds_then c.loop-b.invariant c.byte.ensures) (sym (rw add-one (take-suc c.args.bytes.now c.loop-b.b-index 0 c.loop-b-test.true)))
