-- What the public calls promise: the answer, the agent, and all that the host lends.
use Rattle.model.specs.declared.Refusal.{Refusal}
use Rattle.std.specs.Prelude.{ℕ, ◌≡◌, List, length, set, Option, None, Some, Result, Ok, Err}
use Rattle.address.specs.declared.Address.{Address}
use Rattle.stats.specs.Count.{counted}
use Rattle.stats.specs.declared.StunAgentStats.{StunAgentStats}
use Rattle.stats.specs.declared.Event.{Event}
use Rattle.stats.specs.declared.Event.TheVariants as event
use Rattle.model.specs.Calls.{kind_of}
use Rattle.model.specs.Fresh.{build_of}
use Rattle.model.specs.Says.{Said}
use Rattle.model.specs.declared.StunAgent.{StunAgent}
use Rattle.model.specs.declared.StunAgentBuilder.{StunAgentBuilder}
use Rattle.model.specs.declared.Call.{Call}
use Rattle.agent.specs.Ready.{world_of}
use Rattle.agent.specs.Said.{said_in, words_in}
use Rattle.agent.specs.declared.Called.{Called}
use Rattle.entry.specs.declared.Answered.{Answered}
use Rattle.entry.specs.declared.Stepped.{Stepped}

abbrev pub answered_of : Called → Answered
answered_of out = record { agent = out.agent; answer = out.answer }

-- A place as an index into a list of so many; the length stands for nowhere.
abbrev pub index_of : Option ℕ → ℕ → ℕ
index_of (Some i) places = i
index_of None places = places

-- The new peer is put down, the event is counted.
pub record Settled (out : Called) (from : Address) (peers peers' : List Address) (st st' : StunAgentStats) (r : Answered) : Type 0 where
  pub says : r ≡ answered_of out
  pub puts : peers' ≡ set peers (index_of out.place (length peers)) from
  pub records : st' ≡ counted out.event st

-- What the host has after a call.
abbrev pub told_of : Answered → List ℕ → List ℕ → List Address → StunAgentStats → Said
told_of r t store peers st = record { answer = r.answer; world = world_of r.agent t store peers st }

-- A call's promise: the model's answer and world, and every word of the table.
pub record Performed
    (a : StunAgent) (c : Call) (m t store : List ℕ) (peers : List Address) (st : StunAgentStats)
    (t' store' : List ℕ) (peers' : List Address) (st' : StunAgentStats) (r : Answered) : Type 0 where
  pub says : told_of r t' store' peers' st' ≡ said_in t (world_of a t store peers st) (kind_of c) m
  pub words : t' ≡ words_in t (world_of a t store peers st) (kind_of c) m

-- The same for a caller that holds the peers and the statistics by value.
abbrev pub answered_in : Stepped → Answered
answered_in r = record { agent = r.held.agent; answer = r.answer }

-- "Fresh means mark 0, no request, no peer, and the record zeroed if statistics are on."
abbrev pub event_in : Result (StunAgent × Event) Refusal → Event
event_in (Err q) = event.Nothing
event_in (Ok (agent, e)) = e

pub record Started (b : StunAgentBuilder) (st st' : StunAgentStats) (r : Result (StunAgent × Event) Refusal) : Type 0 where
  pub says : r ≡ build_of b
  pub records : st' ≡ counted (event_in r) st
