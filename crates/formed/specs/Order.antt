-- The order of identifiers, read from the last request to the first.
use Rattle.message.specs.declared.TransactionId.{TransactionId}
use Rattle.std.specs.Prelude.{ℕ, Bool, true, List, [], ◌∷◌, ltb, Option, None, Some}
use Rattle.message.specs.Head.{key}
use Rattle.request.specs.declared.StunRequestState.{StunRequestState}

-- Whether a request with the key k may stand before it.
abbrev pub is_after : Option TransactionId → ℕ → Bool
is_after (Some a) k = ltb k (key a)
is_after None k = true

-- The first identifier of a list.
abbrev pub next_of : List StunRequestState → Option TransactionId
next_of [] = None
next_of (r ∷ rs) = Some r.transaction_id
