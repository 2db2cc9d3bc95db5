-- The world that an agent and what the host lends make, whether a call may start from it, and the part of the store that is handed out.
use Rattle.std.specs.Prelude.{ℕ, ◌*◌, ◌^◌, ◌≤◌, ◌≡◌, Bool, cond, ◌&&◌, List, [], leb, length}
use Rattle.address.specs.declared.Address.{Address}
use Rattle.waits.specs.Waits.{Limits, within_limits}
use Rattle.stats.specs.declared.StunAgentStats.{StunAgentStats}
use Rattle.request.specs.declared.StunRequestState.{StunRequestState}
use Rattle.requests.specs.Formed.{Formed, formed}
use Rattle.records.specs.Coding.{size}
use Rattle.records.specs.Live.{live}
use Rattle.model.specs.World.{World}
use Rattle.model.specs.Parts.{transmission_of}
use Rattle.model.specs.declared.StunAgent.{StunAgent}

-- An agent with these requests, and what is lent.
abbrev pub world_with : StunAgent → List StunRequestState → List ℕ → List Address → StunAgentStats → World
world_with a l store peers st = record { agent = a; requests = l; store = store; peers = peers; stats = st }

-- The requests are those that the lent words hold.
abbrev pub world_of : StunAgent → List ℕ → List ℕ → List Address → StunAgentStats → World
world_of a t store peers st = world_with a (live a.requests t) store peers st

-- What refusal 1 tests: the model's test of the state, of a table that has all its rows. The requests are as many as the agent says, for
-- they are read by that number.
unfoldable pub ready : StunAgent → ℕ → List ℕ → List ℕ → Bool
ready a places t store =
    leb size (length t)
    && (leb (32 * 1024) (length store)
    && (leb a.peers places
    && (leb a.mark (2 ^ 60) && (within_limits a.rto && formed 32 a.mark (live a.requests t)))))

-- What the calls over the table ask of the agent and the words, which a state has that is ready.
pub record Lent (a : StunAgent) (t : List ℕ) : Type 0 where
  pub fits : size ≤ length t
  pub mark : a.mark ≤ 2 ^ 60
  pub settings : Limits a.rto
  pub requests : Formed 32 a.mark (live a.requests t)

-- The part is the model's, whoever the peers are and whatever was counted; of a table that is too short it is empty.
pub record HandsOut (a : StunAgent) (places : ℕ) (t store : List ℕ) (row len : ℕ) (part : List ℕ) : Type 0 where
  pub says : (peers : List Address) (st : StunAgentStats) → length peers ≡ places
      → part ≡ cond (leb size (length t)) (transmission_of 32 (world_of a t store peers st) row len) []
