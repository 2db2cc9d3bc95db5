-- `insert` meets its contract: the copy opens a gap of one row, and `put` fills it. Assumes nothing.
use Rattle.table.proofs.Moves.{moved_up}
use Rattle.table.proofs.insert.Goals as goal

pub returns : goal.returns
returns c =
    let a = c.args in
    moved_up a.n a.at a.t.now _ _ a.r c.requires.0 c.requires.1 c.requires.2 c.copy_within.ensures.after c.put.ensures
