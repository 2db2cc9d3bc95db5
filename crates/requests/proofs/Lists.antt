-- Facts about lists and tests that the laws of this crate cite.
--     neither, apart                       tests that fail, and the two constructors of `Bool`
--     placed_below, placed_split, ..       what stands at a place, `slice_get l i ≡ Some x`
--     among_insert_at, among_remove_at       numbers that are not in a list
--     insert_different, remove_different   no number twice, after either
--     remove_ascending                     the order, after one is taken out
use Rattle.std.specs.Prelude.{None, Some, slice_get}
use Prim.Native.Nat.{ℕ, zero, suc, ◌≤◌, ◌<◌}
use mathlib.Core.Path.{◌≡◌, refl, sym, ap, ◌∙◌}
use mathlib.Core.Bool.{Bool, true, false, ◌||◌, true≢false}
use mathlib.Core.List.{List, [], ◌∷◌, ◌++◌, map}
use native.Mathlib.Nat.{not-suc-le-zero}
use native.Mathlib.Omega.{arith}
use lib.Dec.{eqb}
use lib.ListN.{length, take, drop, get_or, set}
use borrow.Author.Tests.{eqb-false, ne_eqb}
use Rattle.rows.specs.Lists.{insert_at, remove_at, among}
use Rattle.requests.specs.Formed.{Ascending, Different}

pub neither : (a b : Bool) → (a || b) ≡ false → (a ≡ false) × (b ≡ false)
neither false b e = (refl, e)
neither true false e = (e, refl)
neither true true e = (e, e)

pub apart : {C : Type 0} → true ≡ false → C
apart e = absurd (true≢false e)

pub is_false : (b : Bool) → (b ≡ true → ⊥) → b ≡ false
is_false true f = absurd (f refl)
is_false false f = refl

-- the library's `same_Some` and `none-some`, with what they speak of left out where they are cited
pub some_same : {A : Type 0} {a b : A} → Some a ≡ Some b → a ≡ b
some_same e = cc

pub none_some : {A C : Type 0} {a : A} → None ≡ Some a → C
none_some e = absurd (let z : ◌≡◌ {A = ℕ} 0 1 = cc in omega arith)

-- x stands at place i of l
module _ {A : Type 0} where
  pub placed_below : (l : List A) (i : ℕ) (x : A) → slice_get l i ≡ Some x → i < length l
  placed_below [] i x e = none_some e
  placed_below (y ∷ l) zero x e = omega arith
  placed_below (y ∷ l) (suc i) x e = omega (arith, placed_below l i x e)

  pub placed_split : (l : List A) (i : ℕ) (x : A) → slice_get l i ≡ Some x → l ≡ take i l ++ (x ∷ drop (suc i) l)
  placed_split [] i x e = none_some e
  placed_split (y ∷ l) zero x e = ap (λ (z : A). z ∷ l) (some_same e)
  placed_split (y ∷ l) (suc i) x e = ap (λ (t : List A). y ∷ t) (placed_split l i x e)

  pub placed_at : (l : List A) (i : ℕ) (x d : A) → slice_get l i ≡ Some x → get_or l i d ≡ x
  placed_at [] i x d e = none_some e
  placed_at (y ∷ l) zero x d e = some_same e
  placed_at (y ∷ l) (suc i) x d e = placed_at l i x d e

  pub placed_there : (l : List A) (i : ℕ) (d : A) → i < length l → slice_get l i ≡ Some (get_or l i d)
  placed_there [] i d h = absurd (not-suc-le-zero h)
  placed_there (y ∷ l) zero d h = refl
  placed_there (y ∷ l) (suc i) d h = placed_there l i d (omega arith)

  pub placed_set : (l : List A) (i : ℕ) (x y : A) → slice_get l i ≡ Some x → slice_get (set l i y) i ≡ Some y
  placed_set [] i x y e = none_some e
  placed_set (z ∷ l) zero x y e = refl
  placed_set (z ∷ l) (suc i) x y e = placed_set l i x y e

  pub length_removed : (l : List A) (i : ℕ) → length (remove_at l i) ≤ length l
  length_removed [] i = omega arith
  length_removed (y ∷ l) zero = omega arith
  length_removed (y ∷ l) (suc i) = omega (arith, length_removed l i)

-- what is read of each stays, where it is the same of the one that is put there
pub map_kept : {A B : Type 0} (f : A → B) (l : List A) (i : ℕ) (x y : A) → slice_get l i ≡ Some x → f y ≡ f x → map f (set l i y) ≡ map f l
map_kept f [] i x y e h = refl
map_kept f (z ∷ l) zero x y e h = rw (h ∙ ap f (sym (some_same e)))
map_kept f (z ∷ l) (suc i) x y e h = rw (map_kept f l i x y e h)

pub among_insert_at : (j k : ℕ) (l : List ℕ) (i : ℕ) → among j l ≡ false → eqb k j ≡ false → among j (insert_at l i k) ≡ false
among_insert_at j k l zero e f = rw (f, e)
among_insert_at j k [] (suc i) e f = rw f
among_insert_at j k (y ∷ l) (suc i) e f =
    let p = neither (eqb y j) (among j l) e in
    rw p.0 (among_insert_at j k l i p.1 f)

pub among_remove_at : (j : ℕ) (l : List ℕ) (i : ℕ) → among j l ≡ false → among j (remove_at l i) ≡ false
among_remove_at j [] i e = refl
among_remove_at j (y ∷ l) zero e = (neither (eqb y j) (among j l) e).1
among_remove_at j (y ∷ l) (suc i) e =
    let p = neither (eqb y j) (among j l) e in
    rw p.0 (among_remove_at j l i p.1)

pub insert_different : (k : ℕ) (l : List ℕ) (i : ℕ) → Different l → among k l ≡ false → Different (insert_at l i k)
insert_different k l zero d f = (λ e. apart (sym e ∙ f), d)
insert_different k [] (suc i) d f = (λ e. apart (sym e), tt)
insert_different k (y ∷ l) (suc i) d f =
    let q = neither (eqb y k) (among k l) f in
    let h : eqb k y ≡ false = ne_eqb k y (λ z. eqb-false y k q.0 (sym z)) in
    (λ e. apart (sym e ∙ among_insert_at y k l i (is_false (among y l) d.0) h), insert_different k l i d.1 q.1)

pub remove_different : (l : List ℕ) (i : ℕ) → Different l → Different (remove_at l i)
remove_different [] i d = tt
remove_different (y ∷ l) zero d = d.1
remove_different (y ∷ l) (suc i) d =
    (λ e. apart (sym e ∙ among_remove_at y l i (is_false (among y l) d.0)), remove_different l i d.1)

-- the list behind its first, and behind a lower first
pub ascending_tail : (a : ℕ) (l : List ℕ) → Ascending (a ∷ l) → Ascending l
ascending_tail a [] h = tt
ascending_tail a (b ∷ l) h = h.1

pub ascending_lower : (a b : ℕ) (l : List ℕ) → a ≤ b → Ascending (b ∷ l) → Ascending (a ∷ l)
ascending_lower a b [] h s = tt
ascending_lower a b (c ∷ l) h s = (omega (arith, s.0), s.1)

-- a number that isn't above the first is not behind it
pub ascending_absent : (a k : ℕ) (l : List ℕ) → Ascending (a ∷ l) → k ≤ a → among k l ≡ false
ascending_absent a k [] s h = refl
ascending_absent a k (b ∷ l) s h =
    let p : a < b = s.0 in
    rw (ne_eqb b k (λ e. omega arith)) (ascending_absent b k l s.1 (omega arith))

remove_above : (a : ℕ) (l : List ℕ) (i : ℕ) → Ascending (a ∷ l) → Ascending (a ∷ remove_at l i)
remove_above a [] i s = tt
remove_above a (b ∷ l) zero s = let p : a < b = s.0 in ascending_lower a b l (omega arith) s.1
remove_above a (b ∷ l) (suc i) s = (s.0, remove_above b l i s.1)

pub remove_ascending : (l : List ℕ) (i : ℕ) → Ascending l → Ascending (remove_at l i)
remove_ascending [] i s = tt
remove_ascending (a ∷ l) zero s = ascending_tail a l s
remove_ascending (a ∷ l) (suc i) s = remove_above a l i s
