-- Whether an address is in a list.
use Rattle.std.specs.Prelude.{Bool, false, ◌||◌, List, [], ◌∷◌}
use Rattle.address.specs.Address.{same_address}
use Rattle.address.specs.declared.Address.{Address}

abbrev pub listed : Address → List Address → Bool
listed a [] = false
listed a (p ∷ ps) = same_address p a || listed a ps
