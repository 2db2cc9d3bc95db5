-- `table::replace` meets its contract: one row written.
-- Assumes nothing.
use native.Mathlib.Omega.{arith}
use Rattle.records.proofs.Live.{became_set}
use Rattle.table.proofs.replace.Goals as goal

pub returns : goal.returns
returns c =
    let a = c.args in
    became_set a.n a.t.now _ (omega arith) a.at a.r c.requires.0 c.put.ensures
