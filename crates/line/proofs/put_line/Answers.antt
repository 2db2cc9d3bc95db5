-- The number, a space, the reply and the line feed, one behind the other.
use mathlib.Core.Path.{◌∙◌}
use borrow.Author.Rules.{rules}
use Rattle.line.proofs.Adding.{adds_then, adds_put, adds_same}
use Rattle.line.proofs.Replies.{whole_line}
use Rattle.line.proofs.put_line.Goals as goal

pub returns : goal.returns
returns c =
    let parts = adds_then c.decimal.ensures (adds_then c.byte.ensures (adds_then c.said.ensures c.byte-2.ensures)) in
    let whole = adds_same parts (whole_line c.args.number c.args.reply) in
    let same = whole.same ∙ c.new-text.ensures.same in
    adds_put c.new-text.ensures.bytes c.new-text.ensures.place whole (search rules)
