-- `remove` meets its contract: the copy closes the gap of one row. Assumes nothing.
use Rattle.table.proofs.Moves.{moved_down}
use Rattle.table.proofs.remove.Goals as goal

pub returns : goal.returns
returns c =
    let a = c.args in
    moved_down a.n a.at a.t.now _ c.requires.0 c.requires.1 c.requires.2 c.copy_within.ensures.after
