-- `replay::start` meets its contract.
use Rattle.stats.proofs.Default.{zeroed_is}
use Rattle.replay.proofs.Turns.{begins}
use Rattle.replay.proofs.start.Goals as goal

pub returns : goal.returns
returns c = begins c.default.ensures (zeroed_is c.default-2.ensures)
