-- `call` meets its contract: the dispatch, the peer that is put down and the event that is counted make the model's promise.
use Rattle.entry.proofs.Join.{joins}
use Rattle.entry.proofs.call.Goals as goal

pub returns : goal.returns
returns c =
    joins _ _ _ _ _ _ _ _ _ _ _ _ _ _ _ c.address_of-from.ensures c.has_peer-known.ensures c.dispatch-out.ensures c.settle.ensures
