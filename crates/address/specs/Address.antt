-- When two addresses are equal (document 01, "Numbers"): the kind and every number are.
use Rattle.std.specs.Prelude.{ℕ, Bool, false, ◌&&◌, ◌==◌}
use Rattle.address.specs.declared.Address.{Address}
use Rattle.address.specs.declared.Host.{Host}
use Rattle.address.specs.declared.Host.TheVariants.{V4, V6}

abbrev pub is_v4 : ℕ → Host → Bool
is_v4 i (V4 j) = i == j
is_v4 i (V6 hi lo flow scope) = false

abbrev pub is_v6 : ℕ → ℕ → ℕ → ℕ → Host → Bool
is_v6 h l f s (V4 j) = false
is_v6 h l f s (V6 hi lo flow scope) = h == hi && (l == lo && (f == flow && s == scope))

abbrev pub same_host : Host → Host → Bool
same_host (V4 i) b = is_v4 i b
same_host (V6 hi lo flow scope) b = is_v6 hi lo flow scope b

abbrev pub same_address : Address → Address → Bool
same_address a b = a.port == b.port && same_host a.host b.host
