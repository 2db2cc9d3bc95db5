-- The part of the store that holds a request's bytes: document 01, "What must change shape". "For a row not in use, or another length
-- than its request's, that part is empty."
use Rattle.std.specs.Prelude.{ℕ, Bool, false, ◌&&◌, ◌||◌, List, [], ◌∷◌, eqb}
use Rattle.request.specs.declared.StunRequestState.{StunRequestState}

-- Whether a request has this row and this length.
abbrev pub has : ℕ → ℕ → StunRequestState → Bool
has row len r = eqb r.row row && eqb r.len len

-- Whether one of them has.
abbrev pub in_use : ℕ → ℕ → List StunRequestState → Bool
in_use row len [] = false
in_use row len (r ∷ rs) = has row len r || in_use row len rs
