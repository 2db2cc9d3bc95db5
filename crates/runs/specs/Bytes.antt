-- The bytes that are handed out for a request, from its acceptance to its end: the message that was submitted, for the address asked.
-- Document 01, "The agent": "`send_request` stores the bytes and hands out the first transmission itself", "the bytes to send are a part
-- of the lent message store".
use Rattle.std.specs.Prelude.{ℕ, ◌≡◌, List, [], ◌∷◌, None, Some}
use Rattle.address.specs.declared.Address.{Address}
use Rattle.message.specs.Head.{key}
use Rattle.message.specs.declared.TransactionId.{TransactionId}
use Rattle.request.specs.declared.StunRequestState.{StunRequestState}
use Rattle.requests.specs.Search.{lookup}
use Rattle.model.specs.World.{World}
use Rattle.model.specs.Says.{Said}
use Rattle.model.specs.Parts.{transmission_of}
use Rattle.model.specs.Runs.{Turn}
use Rattle.model.specs.declared.Answer.TheVariants as answer
use Rattle.runs.specs.Run.{said}
use Rattle.runs.specs.Counts.{exchange}
use Rattle.runs.specs.Ends.{end_of}

-- What a call says, and the moment after it, of the request x, whose message m was submitted to the address `to`.
pub record Delivers (rows x : ℕ) (to : Address) (m : List ℕ) (s : Said) : Type 0 where
  -- Each transmission of x goes to the address asked, and its part is the message.
  pub transmission : (id : TransactionId) (a : Address) (row len : ℕ) → s.answer ≡ answer.Send id a row len → key id ≡ x
      → (a ≡ to) × (transmission_of rows s.world row len ≡ m)
  -- While x is outstanding, the part of its row is the message, and there is none of another length.
  pub part : (i : ℕ) (r : StunRequestState) → lookup x s.world.requests ≡ Some (i, r) → transmission_of rows s.world r.row r.len ≡ m
  pub no_other : (i : ℕ) (r : StunRequestState) (len : ℕ) → lookup x s.world.requests ≡ Some (i, r) → (r.len ≡ len → ⊥)
      → transmission_of rows s.world r.row len ≡ []

-- So at every call of a run up to the one that ends x.
abbrev pub DeliversThrough : ℕ → ℕ → Address → List ℕ → World → List Turn → Type 0
DeliversThrough rows x to m w [] = Unit {0}
DeliversThrough rows x to m w (t ∷ ts) =
    Delivers rows x to m (said rows w t) × (end_of x (exchange rows w t) ≡ None → DeliversThrough rows x to m (said rows w t).world ts)
