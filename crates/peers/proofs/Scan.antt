-- Law of the scan: the library's search for an address is the definition's.
use Rattle.std.proofs.Common.{◌≡◌, List, [], ◌∷◌, Bool, ◌||◌, ap, refl}
use Rattle.std.specs.List.{list_any}
use Rattle.address.specs.Address.{same_address}
use Rattle.address.specs.declared.Address.{Address}
use Rattle.peers.specs.Peers.{listed}

pub listed_any : (a : Address) (ps : List Address) → list_any (λ (p : Address). same_address p a) ps ≡ listed a ps
listed_any a [] = refl
listed_any a (p ∷ ps) = ap (λ (t : Bool). same_address p a || t) (listed_any a ps)
