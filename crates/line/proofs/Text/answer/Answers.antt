-- A word, and what follows it.
use Rattle.line.specs.Lines.{answer_text}
use Rattle.line.proofs.Adding.{adds_then}
use Rattle.line.proofs.Text.answer.Goals as goal

pub returns-in-Send : goal.returns-in-Send
unfolding answer_text
returns-in-Send c = rw c.in-Send.is (adds_then c.named.ensures c.field.ensures)

pub returns-in-Average : goal.returns-in-Average
unfolding answer_text
returns-in-Average c = rw c.in-Average.is (adds_then c.bytes-in-Average.ensures c.rtt.ensures)
