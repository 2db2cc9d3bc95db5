-- Plain definitions on lists.
use Rattle.std.specs.Prelude.{ℕ, zero, suc, Bool, true, false, ◌&&◌, ◌||◌, List, [], ◌∷◌, eqb}

module _ {A : Type 0} where
  -- x put in at place i; what stood there and behind it moves up by one
  abbrev pub insert_at : List A → ℕ → A → List A
  insert_at l zero x = x ∷ l
  insert_at [] (suc i) x = x ∷ []
  insert_at (y ∷ l) (suc i) x = y ∷ insert_at l i x

  -- what stands at place i taken out; what stood behind it moves down by one
  abbrev pub remove_at : List A → ℕ → List A
  remove_at [] i = []
  remove_at (y ∷ l) zero = l
  remove_at (y ∷ l) (suc i) = y ∷ remove_at l i

  -- p holds of each
  abbrev pub all : (A → Bool) → List A → Bool
  all p [] = true
  all p (x ∷ xs) = p x && all p xs

-- whether k is among them
abbrev pub among : ℕ → List ℕ → Bool
among k [] = false
among k (x ∷ xs) = eqb x k || among k xs
