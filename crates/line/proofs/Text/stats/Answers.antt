-- The word, then the 14 fields one behind the other.
use Rattle.line.specs.Lines.{stats_text}
use Rattle.line.proofs.Adding.{adds_then}
use Rattle.line.proofs.Text.stats.Goals as goal

pub returns : goal.returns
unfolding stats_text
returns c =
    adds_then c.bytes.ensures
    (adds_then c.field.ensures
    (adds_then c.field-2.ensures
    (adds_then c.field-3.ensures
    (adds_then c.field-4.ensures
    (adds_then c.field-5.ensures
    (adds_then c.field-6.ensures
    (adds_then c.field-7.ensures
    (adds_then c.field-8.ensures
    (adds_then c.field-9.ensures
    (adds_then c.field-10.ensures
    (adds_then c.field-11.ensures
    (adds_then c.rtt.ensures
    (adds_then c.rtt-2.ensures c.field-12.ensures)))))))))))))
