-- The row and the length that a host was handed with the first transmission of a request: it may keep them, for they stay those of the
-- request until its end. `Delivers`, of crate `runs`, speaks of the row that the table gives at each moment.
use Rattle.std.specs.Prelude.{ℕ, ◌≡◌, List, length}
use Rattle.address.specs.declared.Address.{Address}
use Rattle.message.specs.Head.{key}
use Rattle.message.specs.declared.TransactionId.{TransactionId}
use Rattle.model.specs.Runs.{Turn}
use Rattle.model.specs.declared.Answer.TheVariants as answer
use Rattle.agent.specs.Ready.{HandsOut}
use Rattle.runs.specs.Demand.{Submission}
use Rattle.hosted.specs.Session.{Owned, Calls}

-- Of the request x, submitted by q, and of what the host owns while x is outstanding.
pub record RowKept (x : ℕ) (q : Submission) (row len : ℕ) (o : Owned) : Type 0 where
  -- What `agent::transmission` hands out for that row and length is the message.
  pub part : (bytes : List ℕ) → HandsOut o.agent (length o.peers) o.table o.store row len bytes → bytes ≡ q.bytes
  -- The next call, if it hands out x, hands out the same row and length, for the address asked.
  pub handed_again : (t : Turn) (id : TransactionId) (to : Address) (row' len' : ℕ) (o' : Owned) → Calls o t (answer.Send id to row' len') o'
      → key id ≡ x → (to ≡ q.to) × (row' ≡ row) × (len' ≡ len)
