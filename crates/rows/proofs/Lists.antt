-- Facts about lists and tests that several proofs cite.
use Prim.Native.Nat.{ℕ, zero, suc, ◌+◌, ◌≤◌, ◌<◌}
use mathlib.Core.Path.{◌≡◌, refl, ap}
use mathlib.Core.List.{List, [], ◌∷◌, ◌++◌, map}
use native.Mathlib.Nat.{le_of_suc-le-suc, not-suc-le-zero, zero-add, suc-add}
use native.Mathlib.Omega.{arith}
use lib.ListN.{length, take, drop, get_or, set}
use lib.Seq.{slice, take-nil, drop-nil, take-suc, drop-append-le, length-take-le}
use Rattle.rows.specs.Lists.{insert_at, remove_at}

module _ {A : Type 0} where
  -- a part of what is behind the first w
  pub slice_drop : (w f t : ℕ) (l : List A) → slice f t (drop w l) ≡ slice (w + f) (w + t) l
  slice_drop zero f t l = rw (zero-add f, zero-add t)
  slice_drop (suc w) f t [] = rw (take-nil t, take-nil (suc w + t), drop-nil f, drop-nil (suc w + f))
  slice_drop (suc w) f t (x ∷ l) = rw (suc-add w f, suc-add w t) (slice_drop w f t l)

  -- one more element at a part's end
  pub slice_snoc : (f t : ℕ) (l : List A) (d : A) → f ≤ t → t < length l → slice f (suc t) l ≡ slice f t l ++ (get_or l t d ∷ [])
  slice_snoc f t l d h k =
      rw (take-suc l t d k) (drop-append-le f (take t l) (get_or l t d ∷ []) (rw (length-take-le t l (omega arith)) h))

  pub length_insert_at : (l : List A) (i : ℕ) (x : A) → length (insert_at l i x) ≡ suc (length l)
  length_insert_at l zero x = refl
  length_insert_at [] (suc i) x = refl
  length_insert_at (y ∷ l) (suc i) x = ap suc (length_insert_at l i x)

  pub length_remove_at : (l : List A) (i : ℕ) → i < length l → suc (length (remove_at l i)) ≡ length l
  length_remove_at [] i h = absurd (not-suc-le-zero h)
  length_remove_at (y ∷ l) zero h = refl
  length_remove_at (y ∷ l) (suc i) h = ap suc (length_remove_at l i (le_of_suc-le-suc h))

module _ {A B : Type 0} (f : A → B) where
  pub map_insert_at : (l : List A) (i : ℕ) (x : A) → map f (insert_at l i x) ≡ insert_at (map f l) i (f x)
  map_insert_at l zero x = refl
  map_insert_at [] (suc i) x = refl
  map_insert_at (y ∷ l) (suc i) x = ap (λ (t : List B). f y ∷ t) (map_insert_at l i x)

  pub map_remove_at : (l : List A) (i : ℕ) → map f (remove_at l i) ≡ remove_at (map f l) i
  map_remove_at [] i = refl
  map_remove_at (y ∷ l) zero = refl
  map_remove_at (y ∷ l) (suc i) = ap (λ (t : List B). f y ∷ t) (map_remove_at l i)

  pub map_set : (l : List A) (i : ℕ) (x : A) → map f (set l i x) ≡ set (map f l) i (f x)
  map_set [] i x = refl
  map_set (y ∷ l) zero x = refl
  map_set (y ∷ l) (suc i) x = ap (λ (t : List B). f y ∷ t) (map_set l i x)

  pub drop_map : (i : ℕ) (l : List A) → drop i (map f l) ≡ map f (drop i l)
  drop_map zero l = refl
  drop_map (suc i) [] = refl
  drop_map (suc i) (y ∷ l) = drop_map i l
