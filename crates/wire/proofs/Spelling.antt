-- The readers' numbers are those that the bytes spell.
--     spelled_join                    a string cut in two
--     spells16, spells32, spells64    the number at a place is spelled by the 2, 4 or 8 bytes there
use Prim.Native.Nat.{ℕ, ◌+◌, ◌*◌, ◌^◌, ◌≤◌, ◌<◌}
use mathlib.Core.Path.{◌≡◌, sym, ap, ap₂, ◌∙◌}
use mathlib.Core.List.{List, [], ◌∷◌, ◌++◌}
use native.Mathlib.Nat.{add-mul, mul_assoc, add_assoc}
use lib.Pow.{pow-add}
use native.Mathlib.Omega.{arith}
use lib.ListN.{length, get_or, take, drop, length-append, length-drop}
use lib.Seq.{drop-cons, take-add, drop-drop, length-take-le}
use Rattle.wire.specs.Wire.{be16, be32, be64, bytes_at, number}

number_append : (xs ys : List ℕ) → number (xs ++ ys) ≡ number xs * 256 ^ length ys + number ys
unfolding number
number_append [] ys = omega arith
number_append (x ∷ xs) ys =
    let p : 256 ^ (length xs + length ys) ≡ 256 ^ length xs * 256 ^ length ys = pow-add 256 (length xs) (length ys) in
    rw (length-append xs ys, p, number_append xs ys, ← mul_assoc, add-mul, add_assoc)

pub spelled_join : (s : List ℕ) (i a b : ℕ) → i + a + b ≤ length s
    → number (bytes_at s i (a + b)) ≡ number (bytes_at s i a) * 256 ^ b + number (bytes_at s (i + a) b)
spelled_join s i a b h =
    let n : length (take b (drop (i + a) s)) ≡ b = length-take-le b (drop (i + a) s) (rw length-drop (omega arith)) in
    ap number (take-add a b (drop i s) ∙ ap (λ (l : List ℕ). take a (drop i s) ++ take b l) (drop-drop a i s))
    ∙ number_append (bytes_at s i a) (bytes_at s (i + a) b)
    ∙ ap (λ (k : ℕ). number (bytes_at s i a) * 256 ^ k + number (bytes_at s (i + a) b)) n

module _ (s : List ℕ) (i : ℕ) where
  spells8 : i + 1 ≤ length s → get_or s i 0 ≡ number (bytes_at s i 1)
  unfolding number
  spells8 h = let k : i < length s = omega arith in rw (drop-cons s i 0 k) (omega arith)

pub spells16 : (s : List ℕ) (i : ℕ) → i + 2 ≤ length s → be16 s i ≡ number (bytes_at s i 2)
spells16 s i h = ap₂ (λ (a b : ℕ). a * 256 + b) (spells8 s i (omega arith)) (spells8 s (i + 1) (omega arith)) ∙ sym (spelled_join s i 1 1 (omega arith))

pub spells32 : (s : List ℕ) (i : ℕ) → i + 4 ≤ length s → be32 s i ≡ number (bytes_at s i 4)
spells32 s i h = ap₂ (λ (a b : ℕ). a * 65536 + b) (spells16 s i (omega arith)) (spells16 s (i + 2) (omega arith)) ∙ sym (spelled_join s i 2 2 (omega arith))

pub spells64 : (s : List ℕ) (i : ℕ) → i + 8 ≤ length s → be64 s i ≡ number (bytes_at s i 8)
spells64 s i h = ap₂ (λ (a b : ℕ). a * 4294967296 + b) (spells32 s i (omega arith)) (spells32 s (i + 4) (omega arith)) ∙ sym (spelled_join s i 4 4 (omega arith))
