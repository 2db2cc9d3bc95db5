-- Numbers compare as their digits do, the first one heaviest; so do byte strings of one length and the numbers that they spell.
--     below, digits, by_digits two numbers of two digits, to any base
--     same_ltb, same_eqb       two tests that hold together are one Bool
--     order, spelled_once      byte strings of one length: by the first differing byte; equal only where their numbers are
use Prim.Native.Nat.{ℕ, suc, ◌+◌, ◌*◌, ◌^◌, ◌≤◌, ◌<◌}
use mathlib.Core.Path.{◌≡◌, refl, sym, ap, ap₂, ◌∙◌}
use mathlib.Core.Bool.{Bool, true, false, cond}
use mathlib.Core.List.{List, [], ◌∷◌}
use native.Mathlib.Nat.{mul-le-mul_right, suc-mul, pow-suc, mul_comm}
use native.Mathlib.Omega.{arith}
use lib.Dec.{ltb, eqb}
use lib.ListN.{length}
use borrow.Author.Tests.{eqb-true, eqb-false}
use Rattle.std.proofs.lemmas.Bool.Decides.{nat_tests}
use Rattle.wire.specs.Wire.{number, Bytes, first_less}

pub same_eqb : (a b c d : ℕ) → (a ≡ b → c ≡ d) → (c ≡ d → a ≡ b) → eqb a b ≡ eqb c d
same_eqb a b c d f g = grind (arith, nat_tests)

pub same_ltb : (a b c d : ℕ) → (a < b → c < d) → (b ≤ a → d ≤ c) → ltb a b ≡ ltb c d
same_ltb a b c d f g = grind (arith, nat_tests)

module _ (B h l k m : ℕ) where
  pub below : l < B → h < k → h * B + l < k * B + m
  below p q =
      let a : suc h * B ≤ k * B = mul-le-mul_right B q in
      let b : suc h * B ≡ h * B + B = suc-mul h B in
      omega arith

not_less : {a b : ℕ} → (a < b → ⊥) → b ≤ a
not_less f = omega arith

pub digits : (B h l k m : ℕ) → l < B → m < B → h * B + l ≡ k * B + m → (h ≡ k) × (l ≡ m)
digits B h l k m p q e =
    let a : k ≤ h = not_less (λ r. absurd (let z = below B h l k m p r in omega arith)) in
    let b : h ≤ k = not_less (λ r. absurd (let z = below B k m h l q r in omega arith)) in
    let c : h ≡ k = omega arith in
    let d : h * B ≡ k * B = ap (λ (n : ℕ). n * B) c in
    (c, omega arith)

number_below : (bs : List ℕ) → Bytes bs → number bs < 256 ^ length bs
unfolding number
number_below [] h = omega arith
number_below (b ∷ bs) h =
    let r = number_below bs h.1 in
    let s = below (256 ^ length bs) b (number bs) 256 0 r h.0 in
    let e : 256 ^ suc (length bs) ≡ 256 * 256 ^ length bs = pow-suc 256 (length bs) ∙ mul_comm (256 ^ length bs) 256 in
    omega arith

-- Two numbers of two digits compare by the first digit, and by the second where the first ones are equal.
pub by_digits : (B a x b y : ℕ) (t : Bool) → x < B → y < B → eqb a b ≡ t → ltb (a * B + x) (b * B + y) ≡ cond t (ltb x y) (ltb a b)
by_digits B a x b y true p q e =
    let d : a * B ≡ b * B = ap (λ (n : ℕ). n * B) (eqb-true a b e) in
    sym (same_ltb x y (a * B + x) (b * B + y) (λ h. omega arith) (λ h. omega arith))
by_digits B a x b y false p q e =
    let apart = eqb-false a b e in
    sym (same_ltb a b (a * B + x) (b * B + y) (below B a x b y p) (λ h. let r = below B b y a x q (omega (arith, apart)) in omega arith))

pub order : (as' bs : List ℕ) → length as' ≡ length bs → Bytes as' → Bytes bs → ltb (number as') (number bs) ≡ first_less as' bs
unfolding number first_less
order [] [] e ha hb = refl
order [] (b ∷ bs) e ha hb = absurd (omega arith)
order (a ∷ as') [] e ha hb = absurd (omega arith)
order (a ∷ as') (b ∷ bs) e ha hb =
    let n : length as' ≡ length bs = omega arith in
    let y : number bs < 256 ^ length as' = rw n (number_below bs hb.1) in
    rw (← n, ← order as' bs n ha.1 hb.1) (by_digits (256 ^ length as') a (number as') b (number bs) (eqb a b) (number_below as' ha.1) y refl)

pub spelled_once : (as' bs : List ℕ) → length as' ≡ length bs → Bytes as' → Bytes bs → number as' ≡ number bs → as' ≡ bs
unfolding number
spelled_once [] [] e ha hb h = refl
spelled_once [] (b ∷ bs) e ha hb h = absurd (omega arith)
spelled_once (a ∷ as') [] e ha hb h = absurd (omega arith)
spelled_once (a ∷ as') (b ∷ bs) e ha hb h =
    let n : length as' ≡ length bs = omega arith in
    let y : number bs < 256 ^ length as' = rw n (number_below bs hb.1) in
    let d = digits (256 ^ length as') a (number as') b (number bs) (number_below as' ha.1) y (h ∙ ap (λ (k : ℕ). b * 256 ^ k + number bs) (sym n)) in
    ap₂ (λ (x : ℕ) (xs : List ℕ). x ∷ xs) d.0 (spelled_once as' bs n ha.1 hb.1 d.1)
