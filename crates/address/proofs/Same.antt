-- `same_address` is true exactly when the two addresses are the same value.
use Rattle.std.specs.Prelude.{◌≡◌, ℕ, true, eqb, ◌↔◌}
use mathlib.Core.Path.{refl, ap, ap₂}
use mathlib.Core.Bool.{and-eq-true_iff}
use native.Mathlib.Omega.{arith}
use Rattle.std.proofs.lemmas.Bool.Decides.{nat_tests}
use borrow.Author.Tests.{eq-eqb, eqb-true}
use Rattle.address.specs.Address.{same_host, same_address}
use Rattle.address.specs.declared.Address.{Address}
use Rattle.address.specs.declared.Host.{Host}
use Rattle.address.specs.declared.Host.TheVariants.{V4, V6}

eqb_refl : (n : ℕ) → eqb n n ≡ true
eqb_refl n = eq-eqb n n refl

host_refl : (h : Host) → same_host h h ≡ true
host_refl (V4 i) = eqb_refl i
host_refl (V6 h l f s) = simp eqb_refl

host_same : (h k : Host) → same_host h k ≡ true → h ≡ k
host_same (V4 i) (V4 j) e = ap V4 (eqb-true i j e)
host_same (V4 i) (V6 h l f s) e = cc
host_same (V6 h l f s) (V4 j) e = cc
host_same (V6 h l f s) (V6 i m g t) e = grind (arith, nat_tests)

pub same_refl : (a : Address) → same_address a a ≡ true
same_refl a = simp (eqb_refl, host_refl)

pub same_value : (a b : Address) → same_address a b ≡ true → a ≡ b
same_value a b e =
    let both = (and-eq-true_iff _ _).0 e in
    ap₂ made (host_same _ _ both.1) (eqb-true _ _ both.0)
  where
    made : Host → ℕ → Address
    made h p = record { host = h; port = p }

pub same_exactly : (a b : Address) → (same_address a b ≡ true) ↔ (a ≡ b)
same_exactly a b = (same_value a b, λ e. rw e (same_refl b))
