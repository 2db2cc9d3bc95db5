-- The rows that are taken, as a flag for each row.
use Rattle.std.specs.Prelude.{ℕ, zero, suc, ◌+◌, Bool, cond, List, [], ◌∷◌, Option, None, Some}
use Rattle.rows.specs.Lists.{among}

-- For each of n rows from i on: whether it is taken.
abbrev pub flags_from : ℕ → ℕ → List ℕ → List Bool
flags_from i zero taken = []
flags_from i (suc n) taken = among i taken ∷ flags_from (i + 1) n taken

unfoldable pub flags : ℕ → List ℕ → List Bool
flags n taken = flags_from 0 n taken

-- The first row whose flag isn't set, counted from i.
abbrev pub lowest_from : ℕ → List Bool → Option ℕ
lowest_from i [] = None
lowest_from i (b ∷ bs) = cond b (lowest_from (i + 1) bs) (Some i)
