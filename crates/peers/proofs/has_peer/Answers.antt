-- `peers::has_peer` meets its contract: the chain gives the first n peers, and the closure's test is the definition's.
use Rattle.std.proofs.Common.{◌∙◌, rules, tests}
use Rattle.std.proofs.lemmas.Iterator.{YieldsList-from_slice, YieldsList-from_take}
use Rattle.std.proofs.lemmas.Iterator.Search.{any_from_yields_List}
use Rattle.address.specs.Address.{same_address}
use Rattle.address.specs.declared.Address.{Address}
use Rattle.peers.proofs.Scan.{listed_any}
use Rattle.peers.proofs.has_peer.Goals as goal

pub returns : goal.returns
returns c =
    any_from_yields_List (λ (p : Address). same_address p c.args.a) _ _ _ c.any.ensures.ran
    (YieldsList-from_take c.args.n (YieldsList-from_slice c.args.peers.now cc) cc)
    (λ x b q k. search (rules, tests))
    ∙ listed_any c.args.a _
