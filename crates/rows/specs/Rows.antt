-- Words as rows of w words each. Nothing here speaks of requests.
use Rattle.std.specs.Prelude.{ℕ, zero, suc, ◌+◌, ◌*◌, List, [], ◌∷◌, ◌++◌, length, take, drop}

-- row i
unfoldable pub row : ℕ → List ℕ → ℕ → List ℕ
row w t i = take w (drop (i * w) t)

-- the first n rows
abbrev pub rows : ℕ → ℕ → List ℕ → List (List ℕ)
rows w zero t = []
rows w (suc n) t = take w t ∷ rows w n (drop w t)

-- rows one behind the other
abbrev pub joined : List (List ℕ) → List ℕ
joined [] = []
joined (x ∷ xs) = x ++ joined xs

-- t with the words ws from place b on
unfoldable pub put_at : List ℕ → ℕ → List ℕ → List ℕ
put_at t b ws = take b t ++ ws ++ drop (b + length ws) t

-- the words that hold the rows rs; those behind them stay as they were in t
unfoldable pub with_rows : ℕ → List ℕ → List (List ℕ) → List ℕ
with_rows w t rs = joined rs ++ drop (length rs * w) t
