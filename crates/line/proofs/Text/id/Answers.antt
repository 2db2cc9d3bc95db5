-- The digits of the higher part, then those of the lower.
use Rattle.line.specs.Lines.{id_text}
use Rattle.line.proofs.Adding.{adds_then}
use Rattle.line.proofs.Text.id.Goals as goal

pub returns : goal.returns
unfolding id_text
returns c = adds_then c.hex.ensures c.hex-2.ensures
