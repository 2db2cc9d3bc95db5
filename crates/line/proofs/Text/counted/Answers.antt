-- The word, then the number.
use Rattle.line.proofs.Adding.{adds_then}
use Rattle.line.proofs.Text.counted.Goals as goal

pub returns : goal.returns
returns c = adds_then c.bytes.ensures c.field.ensures
