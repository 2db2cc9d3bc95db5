-- The word, then the identifier.
use Rattle.line.proofs.Adding.{adds_then}
use Rattle.line.proofs.Text.named.Goals as goal

pub returns : goal.returns
returns c = adds_then c.bytes.ensures c.id.ensures
