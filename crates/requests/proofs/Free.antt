-- The lowest free row, and when there is none.
--     free_row_lem, row_exactly, full_exactly      what `free_row` says
--     free_exists                              fewer requests than rows leave a row free
--     count_most, free_exactly, full_count     different rows below `rows`: one is free exactly when there are fewer requests
--     free_different                           a request that takes the free row keeps the rows different
use Rattle.std.specs.Prelude.{Option, None, Some}
use Prim.Native.Nat.{ℕ, zero, suc, ◌+◌, ◌≤◌, ◌<◌}
use mathlib.Core.Path.{◌≡◌, refl, sym, ap, ◌∙◌}
use mathlib.Core.Bool.{Bool, true, false, cond, ◌||◌}
use mathlib.Core.Logic.{◌↔◌}
use mathlib.Core.List.{List, [], ◌∷◌}
use native.Mathlib.Nat.{not-suc-le-zero}
use native.Mathlib.Omega.{arith}
use lib.Dec.{eqb, leb, ltb}
use lib.ListN.{length, length-map}
use borrow.Author.Tests.{eqb-true, eqb-false, ne_eqb, leb-true, leb-false, ltb-true, ltb-false}
use Rattle.rows.specs.Lists.{among}
use Rattle.request.specs.declared.StunRequestState.{StunRequestState}
use Rattle.requests.specs.Search.{row_of, rows_of, added, free_from, free_row}
use Rattle.requests.specs.Formed.{Different, AllWithin}
use Rattle.requests.proofs.Lists.{neither, apart, is_false}
use Rattle.requests.proofs.Search.{added_different}

-- row i is the lowest of `rows` that is not taken
pub record Lowest (rows : ℕ) (taken : List ℕ) (i : ℕ) : Type 0 where
  pub below : i < rows
  pub free : among i taken ≡ false
  pub lower : (j : ℕ) → j < i → among j taken ≡ true

free_says : (i n : ℕ) (taken : List ℕ) (row : ℕ) → free_from i n taken ≡ Some row
    → (i ≤ row) × (row < i + n) × (among row taken ≡ false) × ((j : ℕ) → i ≤ j → j < row → among j taken ≡ true)
free_says i zero taken row e = let z : ◌≡◌ {A = ℕ} 0 1 = cc in absurd (omega arith)
free_says i (suc n) taken row e = go (among i taken) refl e (free_says (i + 1) n taken row)
  where
    here : i ≡ row → among i taken ≡ false
        → (i ≤ row) × (row < i + suc n) × (among row taken ≡ false) × ((j : ℕ) → i ≤ j → j < row → among j taken ≡ true)
    here z b = (omega arith, omega arith, rw z at b, λ j h k. absurd (omega arith))

    at_or_above : among i taken ≡ true → ((j : ℕ) → i + 1 ≤ j → j < row → among j taken ≡ true) → (j : ℕ) → i ≤ j → j < row
        → (b : Bool) → eqb i j ≡ b → among j taken ≡ true
    at_or_above t f j h k true b = rw (eqb-true i j b) at t
    at_or_above t f j h k false b = f j (omega (arith, eqb-false i j b)) k

    go : (b : Bool) → among i taken ≡ b → cond b (free_from (i + 1) n taken) (Some i) ≡ Some row
        → (free_from (i + 1) n taken ≡ Some row → (i + 1 ≤ row) × (row < i + 1 + n) × (among row taken ≡ false) × ((j : ℕ) → i + 1 ≤ j → j < row → among j taken ≡ true))
        → (i ≤ row) × (row < i + suc n) × (among row taken ≡ false) × ((j : ℕ) → i ≤ j → j < row → among j taken ≡ true)
    go true b h ih =
        let r = ih h in
        (omega arith, omega arith, r.2, λ j p q. at_or_above b r.3 j p q (eqb i j) refl)
    go false b h ih = here (cc) b

full_says : (i n : ℕ) (taken : List ℕ) → free_from i n taken ≡ None → (j : ℕ) → i ≤ j → j < i + n → among j taken ≡ true
full_says i zero taken e j h k = absurd (omega arith)
full_says i (suc n) taken e j h k = go (among i taken) refl e (full_says (i + 1) n taken)
  where
    at_or_above : among i taken ≡ true → (i + 1 ≤ j → j < i + 1 + n → among j taken ≡ true) → (b : Bool) → eqb i j ≡ b → among j taken ≡ true
    at_or_above t f true b = rw (eqb-true i j b) at t
    at_or_above t f false b = let m = eqb-false i j b in f (omega arith) (omega arith)

    go : (b : Bool) → among i taken ≡ b → cond b (free_from (i + 1) n taken) (Some i) ≡ None
        → (free_from (i + 1) n taken ≡ None → (m : ℕ) → i + 1 ≤ m → m < i + 1 + n → among m taken ≡ true) → among j taken ≡ true
    go true b f ih = at_or_above b (ih f j) (eqb i j) refl
    go false b f ih = let z : ◌≡◌ {A = ℕ} 0 1 = cc in absurd (omega arith)

full_holds : (i n : ℕ) (taken : List ℕ) → ((j : ℕ) → i ≤ j → j < i + n → among j taken ≡ true) → free_from i n taken ≡ None
full_holds i zero taken f = refl
full_holds i (suc n) taken f =
    rw (f i (omega arith) (omega arith)) (full_holds (i + 1) n taken (λ j h k. f j (omega arith) (omega arith)))

module _ (rows : ℕ) (l : List StunRequestState) where
  pub free_row_lem : (i : ℕ) → free_row rows l ≡ Some i → Lowest rows (rows_of l) i
  free_row_lem i e =
      let s = free_says 0 rows (rows_of l) i e in
      record { below = omega arith; free = s.2; lower = λ j h. s.3 j (omega arith) h }

  pub row_exactly : (i : ℕ) → (free_row rows l ≡ Some i) ↔ Lowest rows (rows_of l) i
  row_exactly i = (free_row_lem i, λ w. go w (free_row rows l) refl)
    where
      by : Lowest rows (rows_of l) i → (j : ℕ) → Lowest rows (rows_of l) j → (a b : Bool) → ltb i j ≡ a → ltb j i ≡ b → j ≡ i
      by w j v true b f g = apart (sym (v.lower i (ltb-true i j f)) ∙ w.free)
      by w j v false true f g = apart (sym (w.lower j (ltb-true j i g)) ∙ v.free)
      by w j v false false f g = omega (arith, ltb-false i j f, ltb-false j i g)

      go : Lowest rows (rows_of l) i → (f : Option ℕ) → free_row rows l ≡ f → f ≡ Some i
      go w (Some j) e = ap Some (by w j (free_row_lem j e) (ltb i j) (ltb j i) refl refl)
      go w None e = apart (sym (full_says 0 rows (rows_of l) e i (omega arith) (omega (arith, w.below))) ∙ w.free)

  pub full_exactly : (free_row rows l ≡ None) ↔ ((j : ℕ) → j < rows → among j (rows_of l) ≡ true)
  full_exactly = (
    λ e j h. full_says 0 rows (rows_of l) e j (omega arith) (omega arith),
    λ f. full_holds 0 rows (rows_of l) (λ j h k. f j (omega arith)),
  )

-- ---- counting. The numbers of l other than k: shorter where k is in l, and the same for any other number
without : ℕ → List ℕ → List ℕ
without k [] = []
without k (x ∷ xs) = cond (eqb x k) (without k xs) (x ∷ without k xs)

without_length : (k : ℕ) (l : List ℕ) → length (without k l) ≤ length l
unfolding without
without_length k [] = omega arith
without_length k (x ∷ xs) = go (eqb x k) (without_length k xs)
  where
    go : (t : Bool) → length (without k xs) ≤ length xs → length (cond t (without k xs) (x ∷ without k xs)) ≤ suc (length xs)
    go true h = omega arith
    go false h = omega arith

without_shorter : (k : ℕ) (l : List ℕ) → among k l ≡ true → length (without k l) < length l
unfolding without
without_shorter k [] e = apart (sym e)
without_shorter k (x ∷ xs) e = go (eqb x k) e (without_shorter k xs) (without_length k xs)
  where
    go : (t : Bool) → (t || among k xs) ≡ true → (among k xs ≡ true → length (without k xs) < length xs) → length (without k xs) ≤ length xs
        → length (cond t (without k xs) (x ∷ without k xs)) < suc (length xs)
    go true g r h = omega arith
    go false g r h = let z = r g in omega arith

without_other : (k j : ℕ) (l : List ℕ) → (j ≡ k → ⊥) → among j (without k l) ≡ among j l
unfolding without
without_other k j [] h = refl
without_other k j (x ∷ xs) h = go (eqb x k) refl (without_other k j xs h)
  where
    go : (t : Bool) → eqb x k ≡ t → among j (without k xs) ≡ among j xs → among j (cond t (without k xs) (x ∷ without k xs)) ≡ (eqb x j || among j xs)
    go true g r =
        let e : eqb x j ≡ false = ne_eqb x j (λ z. h (sym z ∙ eqb-true x k g)) in
        rw e r
    go false g r = rw r

free_without : (n j k : ℕ) (l : List ℕ) → k < j → free_from j n (without k l) ≡ free_from j n l
free_without zero j k l h = refl
free_without (suc n) j k l h = rw (without_other k j l (omega arith), free_without n (j + 1) k l (omega arith))

-- where the list is shorter than the numbers that are tried, one of them is free
free_from_lem : (n k : ℕ) (l : List ℕ) → length l < n → (i : ℕ) × (free_from k n l ≡ Some i)
free_from_lem zero k l h = absurd (not-suc-le-zero h)
free_from_lem (suc n) k l h = go (among k l) refl (free_from_lem n (k + 1) (without k l))
  where
    go : (t : Bool) → among k l ≡ t → (length (without k l) < n → (i : ℕ) × (free_from (k + 1) n (without k l) ≡ Some i))
        → (i : ℕ) × (cond t (free_from (k + 1) n l) (Some k) ≡ Some i)
    go true e r =
        let s = without_shorter k l e in
        let q = r (omega arith) in
        (q.0, sym (free_without n (k + 1) k l (omega arith)) ∙ q.1)
    go false e r = (k, refl)

-- different numbers below n are at most n
abbrev Below : ℕ → List ℕ → Type 0
Below n [] = Unit
Below n (x ∷ xs) = (x < n) × Below n xs

without_same : (k : ℕ) (l : List ℕ) → among k l ≡ false → without k l ≡ l
unfolding without
without_same k [] e = refl
without_same k (x ∷ xs) e =
    let p = neither (eqb x k) (among k xs) e in
    rw (p.0, without_same k xs p.1)

-- a number that stands once at most
without_once : (k : ℕ) (l : List ℕ) → Different l → length l ≤ suc (length (without k l))
unfolding without
without_once k [] d = omega arith
without_once k (x ∷ xs) d = go (eqb x k) refl (without_once k xs d.1)
  where
    go : (t : Bool) → eqb x k ≡ t → length xs ≤ suc (length (without k xs)) → suc (length xs) ≤ suc (length (cond t (without k xs) (x ∷ without k xs)))
    go true e h =
        let n : among k xs ≡ false = rw (eqb-true x k e) at (is_false (among x xs) d.0) in
        rw (without_same k xs n) (omega arith)
    go false e h = omega arith

without_different : (k : ℕ) (l : List ℕ) → Different l → Different (without k l)
unfolding without
without_different k [] d = tt
without_different k (x ∷ xs) d = go (eqb x k) refl (without_different k xs d.1)
  where
    go : (t : Bool) → eqb x k ≡ t → Different (without k xs) → Different (cond t (without k xs) (x ∷ without k xs))
    go true e h = h
    go false e h = (λ a. d.0 (sym (without_other k x xs (eqb-false x k e)) ∙ a), h)

without_below : (n : ℕ) (l : List ℕ) → Below (suc n) l → Below n (without n l)
unfolding without
without_below n [] b = tt
without_below n (x ∷ xs) b = go (eqb x n) refl (without_below n xs b.1)
  where
    go : (t : Bool) → eqb x n ≡ t → Below n (without n xs) → Below n (cond t (without n xs) (x ∷ without n xs))
    go true e h = h
    go false e h = let m = eqb-false x n e in let q : x < suc n = b.0 in (omega arith, h)

different_short : (n : ℕ) (l : List ℕ) → Different l → Below n l → length l ≤ n
different_short zero [] d b = omega arith
different_short zero (x ∷ xs) d b = absurd (not-suc-le-zero b.0)
different_short (suc n) l d b =
    let h = without_once n l d in
    let k = different_short n (without n l) (without_different n l d) (without_below n l b) in
    omega arith

rows_below : (rows mark : ℕ) (l : List StunRequestState) → AllWithin rows mark l → Below rows (rows_of l)
rows_below rows mark [] w = tt
rows_below rows mark (r ∷ rs) w = (w.0.row, rows_below rows mark rs w.1)

-- "a free row exists exactly when fewer rows are taken than there are"
module _ (rows : ℕ) (l : List StunRequestState) where
  pub free_exists : length l < rows → (i : ℕ) × (free_row rows l ≡ Some i)
  free_exists h = free_from_lem rows 0 (rows_of l) (rw (length-map l row_of) h)

  module _ (mark : ℕ) (d : Different (rows_of l)) (w : AllWithin rows mark l) where
    pub count_most : length l ≤ rows
    count_most = rw (length-map l row_of) at (different_short rows (rows_of l) d (rows_below rows mark l w))

    pub free_fewer : (i : ℕ) → free_row rows l ≡ Some i → length l < rows
    free_fewer i e =
        let s = free_row_lem rows l i e in
        let d' : Different (i ∷ rows_of l) = (λ a. apart (sym a ∙ s.free), d) in
        let m = different_short rows (i ∷ rows_of l) d' (s.below, rows_below rows mark l w) in
        omega (arith, length-map l row_of)

    pub free_exactly : ((i : ℕ) × (free_row rows l ≡ Some i)) ↔ (length l < rows)
    free_exactly = (λ e. free_fewer e.0 e.1, free_exists)

    pub full_count : (free_row rows l ≡ None) ↔ (length l ≡ rows)
    full_count = (to, from)
      where
        to : free_row rows l ≡ None → length l ≡ rows
        to e = go (leb (suc (length l)) rows) refl
          where
            go : (b : Bool) → leb (suc (length l)) rows ≡ b → length l ≡ rows
            go true b =
                let f = free_exists (leb-true (suc (length l)) rows b) in
                let g = f.1 in
                let z : ◌≡◌ {A = ℕ} 0 1 = cc in absurd (omega arith)
            go false b = let h = leb-false (suc (length l)) rows b in let m = count_most in omega arith

        from : length l ≡ rows → free_row rows l ≡ None
        from e = go (free_row rows l) refl
          where
            go : (f : Option ℕ) → free_row rows l ≡ f → f ≡ None
            go (Some i) g = let h = free_fewer i g in absurd (omega arith)
            go None g = refl

pub free_different : (rows : ℕ) (r : StunRequestState) (l : List StunRequestState) → free_row rows l ≡ Some (row_of r) → Different (rows_of l)
    → Different (rows_of (added r l))
free_different rows r l e d = added_different r l d (free_row_lem rows l (row_of r) e).free
