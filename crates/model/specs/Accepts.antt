-- Which received messages are accepted, and whose address a call validates: document 01, "The agent".
use Rattle.std.specs.Prelude.{ℕ, Bool, true, false, cond, not, ◌||◌, List, Option, None, Some, is_some}
use Rattle.address.specs.declared.Address.{Address}
use Rattle.message.specs.Head.{key}
use Rattle.message.specs.Attributes.{message_of}
use Rattle.message.specs.declared.TransactionId.{TransactionId}
use Rattle.message.specs.declared.MessageClass.{MessageClass}
use Rattle.message.specs.declared.MessageClass.TheVariants.{Request, Indication, Success, Error}
use Rattle.message.specs.declared.Message.{Message}
use Rattle.request.specs.declared.StunRequestState.{StunRequestState}
use Rattle.requests.specs.Search.{lookup}
use Rattle.model.specs.World.{World, known}
use Rattle.model.specs.Calls.{Passage, submits, sends, receives, Meeting, ask, validate, Kind, carries, scans, names, meets, counts, on_some}

-- Whether an identifier is outstanding.
abbrev pub is_outstanding : List StunRequestState → TransactionId → Bool
is_outstanding l id = is_some (lookup (key id) l)

abbrev pub is_response : MessageClass → Bool
is_response Request = false
is_response Indication = false
is_response Success = true
is_response Error = true

-- A received message is accepted unless it is a response whose identifier isn't outstanding, "whatever address it came from".
unfoldable pub accepts : List StunRequestState → Address → Message → Bool
accepts l from x = not (is_response x.class) || is_outstanding l x.transaction_id

-- The address to be validated: "every accepted message validates its sender", and `validated_peer` its address.
abbrev pub sender : World → List ℕ → Passage → Option Address
sender w m (submits to now) = None
sender w m (sends to) = None
sender w m (receives from clock) = on_some (message_of m) None (λ x. cond (accepts w.requests from x) (Some from) None)

abbrev pub met : Address → Meeting → Option Address
met a ask = None
met a validate = Some a

abbrev pub validated : World → Kind → List ℕ → Option Address
validated w (carries p) m = sender w m p
validated w (scans s now) m = None
validated w (names id wish) m = None
validated w (meets a x) m = met a x
validated w (counts f) m = None

-- A new one: not a peer yet.
unfoldable pub new_peer : World → Kind → List ℕ → Option Address
new_peer w k m = on_some (validated w k m) None (λ a. cond (known w a) None (Some a))
