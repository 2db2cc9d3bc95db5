-- The outstanding requests of a well-formed state: document 01, "Refusal numbers", as far as it speaks of requests. The number of rows
-- is a parameter, of which contracts say 32.
use Rattle.std.specs.Prelude.{ℕ, ◌≤◌, ◌<◌, Bool, true, not, ◌&&◌, List, [], ◌∷◌, leb, ltb, length, ◌≡◌}
use Rattle.rows.specs.Lists.{all, among}
use Rattle.request.specs.Limits.{RequestLimits, within_limits}
use Rattle.request.specs.declared.StunRequestState.{StunRequestState}
use Rattle.requests.specs.Search.{keys_of, rows_of}

-- Strictly ascending numbers: each is above the one before it.
abbrev pub Ascending : List ℕ → Type 0
Ascending [] = Unit
Ascending (a ∷ []) = Unit
Ascending (a ∷ (b ∷ l)) = (a < b) × Ascending (b ∷ l)

-- No number stands twice.
abbrev pub Different : List ℕ → Type 0
Different [] = Unit
Different (a ∷ l) = (among a l ≡ true → ⊥) × Different l

-- Each request is within its limits.
abbrev pub AllWithin : ℕ → ℕ → List StunRequestState → Type 0
AllWithin rows mark [] = Unit
AllWithin rows mark (r ∷ rs) = RequestLimits rows mark r × AllWithin rows mark rs

pub record Formed (rows mark : ℕ) (l : List StunRequestState) : Type 0 where
  -- "at most 32 requests"
  pub count : length l ≤ rows
  -- "in ascending order of identifier"
  pub order : Ascending (keys_of l)
  -- "different rows below 32"
  pub apart : Different (rows_of l)
  -- "lengths 20 to 1,024; settings within limits; step count at most 32; first and last send both present or both absent, not above the
  -- mark, first not above last"; rows below 32
  pub within : AllWithin rows mark l

-- The same as tests.
abbrev pub ascending : List ℕ → Bool
ascending [] = true
ascending (a ∷ []) = true
ascending (a ∷ (b ∷ l)) = ltb a b && ascending (b ∷ l)

abbrev pub different : List ℕ → Bool
different [] = true
different (a ∷ l) = not (among a l) && different l

abbrev pub all_within : ℕ → ℕ → List StunRequestState → Bool
all_within rows mark l = all (within_limits rows mark) l

unfoldable pub formed : ℕ → ℕ → List StunRequestState → Bool
formed rows mark l = leb (length l) rows && (ascending (keys_of l) && (different (rows_of l) && all_within rows mark l))
