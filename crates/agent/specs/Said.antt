-- The model's promise for an agent and what the host lends it: refusal, answer, world and every word of the table after a call.
use Rattle.model.specs.declared.Refusal.TheVariants.{State}
use Rattle.model.specs.declared.Refusal.{Refusal}
use Rattle.std.specs.Prelude.{ℕ, None, Some, Option, ◌≡◌, Bool, cond, List, leb, length, Option, Some}
use Rattle.address.specs.declared.Address.{Address}
use Rattle.address.specs.declared.Host.TheVariants.{V4}
use Rattle.rows.specs.Rows.{with_rows}
use Rattle.stats.specs.declared.StunAgentStats.{StunAgentStats}
use Rattle.records.specs.Coding.{width, size}
use Rattle.records.specs.Live.{live}
use Rattle.model.specs.World.{World, known}
use Rattle.model.specs.Calls.{Kind, kind_of, address_of, on_some}
use Rattle.model.specs.Refusals.{refusal_of}
use Rattle.model.specs.Effects.{change_of, answer_of, after}
use Rattle.model.specs.Says.{Said, decided}
use Rattle.model.specs.declared.StunAgent.{StunAgent}
use Rattle.model.specs.declared.Call.{Call}
use Rattle.agent.specs.Ready.{world_of}
use Rattle.agent.specs.Called.{tried, effect, rows_after}
use Rattle.agent.specs.declared.Called.{Called}

-- The model's refusal; a table that hasn't all its rows is "a state not well formed".
unfoldable pub refusal_in : List ℕ → World → Kind → List ℕ → Option Refusal
refusal_in t w k m = cond (leb size (length t)) (refusal_of 32 w k m) (Some State)

-- The model's answer and world.
unfoldable pub said_in : List ℕ → World → Kind → List ℕ → Said
said_in t w k m = decided (refusal_in t w k m) w (record { answer = answer_of 32 w k m; world = after 32 w k m })

abbrev pub unless_refused : Option Refusal → List ℕ → List ℕ → List ℕ
unless_refused None t t' = t'
unless_refused (Some q) t t' = t

-- Every word of the table: the rows of the requests, and behind them what was there.
unfoldable pub words_in : List ℕ → World → Kind → List ℕ → List ℕ
words_in t w k m =
    unless_refused (refusal_in t w k m) t (with_rows width t (rows_after w.agent.transport (change_of 32 w k m) w.agent.requests t))

-- What a call does, but for what is still to be counted and the peer that is still to be put down.
pub record Does (w : World) (k : Kind) (m t t' store' : List ℕ) (r : Called) : Type 0 where
  pub says : r ≡ tried (refusal_in t w k m) w.agent (effect 32 w k m)
  pub words : t' ≡ words_in t w k m
  pub holds : live r.agent.requests t' ≡ (said_in t w k m).world.requests
  pub stores : store' ≡ (said_in t w k m).world.store

-- The address of a call that carries none.
abbrev pub nowhere : Address
nowhere = record { host = V4 0; port = 0 }

abbrev pub address_in : Call → Address
address_in c = on_some (address_of (kind_of c)) nowhere (λ a. a)

-- Of every list of peers with so many places, in which the call's address is known or isn't.
abbrev pub Dispatched : StunAgent → Call → Bool → ℕ → StunAgentStats → List ℕ → List ℕ → List ℕ → List ℕ → List ℕ → Called → Type 0
Dispatched a c isKnown places st m t store t' store' r =
    (peers : List Address) → length peers ≡ places → known (world_of a t store peers st) (address_in c) ≡ isKnown
    → Does (world_of a t store peers st) (kind_of c) m t t' store' r
