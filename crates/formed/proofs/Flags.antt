-- The flags of the rows that are taken.
--     flags_none, flags_mark, flags_outside    no row taken, one row more, a row that has no flag
--     flag_at                                  one flag
--     lowest_flag                              the first flag that isn't set is the lowest free row
--     lowest_is                                and what `position` finds
use Rattle.std.specs.Prelude.{Option, Some}
use Prim.Native.Nat.{ℕ, zero, suc, ◌+◌, ◌≤◌, ◌<◌}
use mathlib.Core.Path.{◌≡◌, refl, ap, ◌∙◌}
use mathlib.Core.Bool.{Bool, true, false, cond, not}
use Rattle.std.specs.List.{position_from}
use mathlib.Core.List.{List, [], ◌∷◌}
use native.Mathlib.Nat.{not-suc-le-zero, add-zero}
use native.Mathlib.Omega.{arith}
use lib.ListN.{get_or, set, replicate}
use borrow.Author.Tests.{eq-eqb, ne_eqb}
use Rattle.rows.specs.Lists.{among}
use Rattle.requests.specs.Search.{free_from}
use Rattle.formed.specs.Flags.{flags_from, flags, lowest_from}

none_from : (i n : ℕ) → replicate n false ≡ flags_from i n []
none_from i zero = refl
none_from i (suc n) = ap (λ (l : List Bool). false ∷ l) (none_from (i + 1) n)

-- a row before the first flag, or behind the last one
below_from : (i n k : ℕ) (taken : List ℕ) → k < i → flags_from i n taken ≡ flags_from i n (k ∷ taken)
below_from i zero k taken h = refl
below_from i (suc n) k taken h =
    rw (ne_eqb k i (λ e. omega arith)) (ap (λ (l : List Bool). among i taken ∷ l) (below_from (i + 1) n k taken (omega arith)))

outside_from : (i n k : ℕ) (taken : List ℕ) → i + n ≤ k → flags_from i n taken ≡ flags_from i n (k ∷ taken)
outside_from i zero k taken h = refl
outside_from i (suc n) k taken h =
    rw (ne_eqb k i (λ e. omega arith)) (ap (λ (l : List Bool). among i taken ∷ l) (outside_from (i + 1) n k taken (omega arith)))

mark_from : (i n k : ℕ) (taken : List ℕ) → k < n → set (flags_from i n taken) k true ≡ flags_from i n ((i + k) ∷ taken)
mark_from i zero k taken h = absurd (not-suc-le-zero h)
mark_from i (suc n) zero taken h =
    rw (add-zero i, eq-eqb i i refl) (ap (λ (l : List Bool). true ∷ l) (below_from (i + 1) n i taken (omega arith)))
mark_from i (suc n) (suc k) taken h =
    let e : i + 1 + k ≡ i + suc k = omega arith in
    rw (ne_eqb (i + suc k) i (λ e. omega arith))
    (ap (λ (l : List Bool). among i taken ∷ l) (mark_from (i + 1) n k taken (omega arith) ∙ ap (λ (m : ℕ). flags_from (i + 1) n (m ∷ taken)) e))

at_from : (i n k : ℕ) (taken : List ℕ) (d : Bool) → k < n → get_or (flags_from i n taken) k d ≡ among (i + k) taken
at_from i zero k taken d h = absurd (not-suc-le-zero h)
at_from i (suc n) zero taken d h = rw (add-zero i)
at_from i (suc n) (suc k) taken d h =
    let e : i + 1 + k ≡ i + suc k = omega arith in
    at_from (i + 1) n k taken d (omega arith) ∙ ap (λ (m : ℕ). among m taken) e

pub flags_none : (n : ℕ) → replicate n false ≡ flags n []
unfolding flags
flags_none n = none_from 0 n

module _ (n k : ℕ) (taken : List ℕ) where
  pub flags_mark : k < n → set (flags n taken) k true ≡ flags n (k ∷ taken)
  unfolding flags
  flags_mark h = let e : 0 + k ≡ k = omega arith in mark_from 0 n k taken h ∙ ap (λ (m : ℕ). flags_from 0 n (m ∷ taken)) e

  pub flags_outside : n ≤ k → flags n taken ≡ flags n (k ∷ taken)
  unfolding flags
  flags_outside h = outside_from 0 n k taken (omega arith)

  pub flag_at : (d : Bool) → k < n → get_or (flags n taken) k d ≡ among k taken
  unfolding flags
  flag_at d h = let e : 0 + k ≡ k = omega arith in at_from 0 n k taken d h ∙ ap (λ (m : ℕ). among m taken) e

lowest_from_lem : (i n : ℕ) (taken : List ℕ) → lowest_from i (flags_from i n taken) ≡ free_from i n taken
lowest_from_lem i zero taken = refl
lowest_from_lem i (suc n) taken = ap (λ (f : Option ℕ). cond (among i taken) f (Some i)) (lowest_from_lem (i + 1) n taken)

pub lowest_flag : (n : ℕ) (taken : List ℕ) → lowest_from 0 (flags n taken) ≡ free_from 0 n taken
unfolding flags
lowest_flag n taken = lowest_from_lem 0 n taken

-- the first flag that isn't set, as `position` looks for it
pub lowest_is : (i : ℕ) (l : List Bool) → position_from not i l ≡ lowest_from i l
lowest_is i [] = refl
lowest_is i (true ∷ l) = lowest_is (i + 1) l
lowest_is i (false ∷ l) = refl
