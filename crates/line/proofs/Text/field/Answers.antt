-- The space, then the number.
use Rattle.line.specs.Lines.{field_of}
use Rattle.line.proofs.Adding.{adds_then}
use Rattle.line.proofs.Text.field.Goals as goal

pub returns : goal.returns
unfolding field_of
returns c = adds_then c.byte.ensures c.decimal.ensures
