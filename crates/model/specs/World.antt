-- What a call of the agent can see and change, and when it is well formed: document 01, "Numbers" and "Refusal numbers". The number of
-- rows is a parameter, of which contracts say 32.
use Rattle.std.specs.Prelude.{ℕ, ◌*◌, ◌^◌, ◌≤◌, ◌≡◌, Bool, ◌&&◌, List, leb, eqb, length, take}
use Rattle.address.specs.declared.Address.{Address}
use Rattle.waits.specs.Waits as waits
use Rattle.stats.specs.declared.StunAgentStats.{StunAgentStats}
use Rattle.request.specs.declared.StunRequestState.{StunRequestState}
use Rattle.requests.specs.Formed.{Formed, formed}
use Rattle.peers.specs.Peers.{listed}
use Rattle.model.specs.declared.StunAgent.{StunAgent}

-- The agent, its outstanding requests, and what the host lends: the message store, the "list of peer addresses, whose length is its
-- capacity" and of which the first `agent.peers` are in use, and the statistics record.
pub record World : Type 0 where
  pub agent : StunAgent
  pub requests : List StunRequestState
  pub store : List ℕ
  pub peers : List Address
  pub stats : StunAgentStats

-- What refusal 1 asks of a state.
pub record StateFormed (rows : ℕ) (w : World) : Type 0 where
  -- "a message store of at least 32,768 bytes (32 rows of 1,024)"
  pub room : rows * 1024 ≤ length w.store
  -- not a "peer count above the lent list"
  pub places : w.agent.peers ≤ length w.peers
  -- the agent's count of its requests
  pub count : w.agent.requests ≡ length w.requests
  -- "mark at most 2^60"
  pub mark : w.agent.mark ≤ 2 ^ 60
  -- "settings within limits": the agent's own
  pub settings : waits.Limits w.agent.rto
  -- "at most 32 requests in ascending order of identifier; different rows below 32", and the limits of each
  pub requests : Formed rows w.agent.mark w.requests

-- The same as a test.
unfoldable pub state_formed : ℕ → World → Bool
state_formed rows w =
    leb (rows * 1024) (length w.store)
    && (leb w.agent.peers (length w.peers)
    && (eqb w.agent.requests (length w.requests)
    && (leb w.agent.mark (2 ^ 60) && (waits.within_limits w.agent.rto && formed rows w.agent.mark w.requests))))

-- Whether an address is a validated peer.
abbrev pub known : World → Address → Bool
known w a = listed a (take w.agent.peers w.peers)
