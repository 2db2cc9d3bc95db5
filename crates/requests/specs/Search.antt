-- Finding a request, the place of a new one, and a row for its bytes.
use Rattle.std.specs.Prelude.{ℕ, zero, suc, ◌+◌, cond, List, [], ◌∷◌, map, eqb, ltb, Option, None, Some}
use Rattle.rows.specs.Lists.{insert_at, among}
use Rattle.message.specs.Head.{key}
use Rattle.request.specs.declared.StunRequestState.{StunRequestState}

-- A request's identifier as one number, by which requests are ordered.
abbrev pub key_of : StunRequestState → ℕ
key_of r = key r.transaction_id

abbrev pub keys_of : List StunRequestState → List ℕ
keys_of l = map key_of l

abbrev pub row_of : StunRequestState → ℕ
row_of r = r.row

abbrev pub rows_of : List StunRequestState → List ℕ
rows_of l = map row_of l

-- The first request with the key k, and its place counted from i.
abbrev pub lookup_from : ℕ → ℕ → List StunRequestState → Option (ℕ × StunRequestState)
lookup_from i k [] = None
lookup_from i k (r ∷ rs) = cond (eqb (key_of r) k) (Some (i, r)) (lookup_from (i + 1) k rs)

abbrev pub lookup : ℕ → List StunRequestState → Option (ℕ × StunRequestState)
lookup k l = lookup_from 0 k l

-- Where a request with the key k goes: before the first one, counted from i, whose key isn't below k.
abbrev pub place_from : ℕ → ℕ → List StunRequestState → ℕ
place_from i k [] = i
place_from i k (r ∷ rs) = cond (ltb (key_of r) k) (place_from (i + 1) k rs) i

abbrev pub place_of : ℕ → List StunRequestState → ℕ
place_of k l = place_from 0 k l

-- The list with a new request at its place.
abbrev pub added : StunRequestState → List StunRequestState → List StunRequestState
added r l = insert_at l (place_of (key_of r) l) r

-- "A row is free when no outstanding request has it." The lowest free one of n rows, counted from i.
abbrev pub free_from : ℕ → ℕ → List ℕ → Option ℕ
free_from i zero taken = None
free_from i (suc n) taken = cond (among i taken) (free_from (i + 1) n taken) (Some i)

abbrev pub free_row : ℕ → List StunRequestState → Option ℕ
free_row n l = free_from 0 n (rows_of l)

-- The request that was found, whatever its place.
abbrev pub request_of : Option (ℕ × StunRequestState) → Option StunRequestState
request_of (Some (place, request)) = Some request
request_of None = None
