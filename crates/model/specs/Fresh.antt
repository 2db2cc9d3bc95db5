-- A fresh agent, and what `build` answers: document 01, "The agent" and "Waits and one request".
use Rattle.model.specs.declared.Refusal.{Refusal}
use Rattle.model.specs.declared.Refusal.TheVariants.{Settings}
use Rattle.std.specs.Prelude.{ℕ, Bool, false, cond, List, [], Result, Ok, Err}
use Rattle.address.specs.declared.Address.{Address}
use Rattle.waits.specs.Waits.{default_rto, within_limits}
use Rattle.waits.specs.declared.Transport.{Transport}
use Rattle.waits.specs.declared.RequestRto.{RequestRto}
use Rattle.stats.specs.Count.{counted}
use Rattle.stats.specs.declared.StunAgentStats.{StunAgentStats}
use Rattle.stats.specs.declared.Event.{Event}
use Rattle.stats.specs.declared.Event.TheVariants as event
use Rattle.model.specs.World.{World}
use Rattle.model.specs.declared.StunAgent.{StunAgent}
use Rattle.model.specs.declared.StunAgentBuilder.{StunAgentBuilder}

-- A builder of the transport, with all else left unset: "default: initial 500 ms, no maximum, R = 7, final wait 8,000 ms"; no statistics.
abbrev pub unset : Transport → StunAgentBuilder
unset t = record { transport = t; rto = default_rto; stats = false }

-- "Fresh means mark 0, no request, no peer, and the record zeroed if statistics are on."
abbrev pub fresh_agent : Transport → Bool → RequestRto → StunAgent
fresh_agent t stats rto = record { transport = t; stats = stats; rto = rto; mark = 0; requests = 0; peers = 0 }

abbrev pub fresh_event : Bool → Event
fresh_event stats = cond stats event.Reset event.Nothing

abbrev pub fresh : Transport → Bool → RequestRto → List ℕ → List Address → StunAgentStats → World
fresh t stats rto store peers st = record {
  agent = fresh_agent t stats rto;
  requests = [];
  store = store;
  peers = peers;
  stats = counted (fresh_event stats) st;
}

-- `build`: refused by 2, or a fresh agent with the event that zeroes the record.
unfoldable pub build_of : StunAgentBuilder → Result (StunAgent × Event) Refusal
build_of b =
    cond (within_limits b.rto)
    (Ok (fresh_agent b.transport b.stats b.rto, fresh_event b.stats))
    (Err Settings)
