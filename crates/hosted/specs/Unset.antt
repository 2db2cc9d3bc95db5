-- An agent that was built with its settings left unset, by UDP, and a request that it accepted and that is left alone while the host plays
-- rounds: how often it goes out, when its timeout is reported, and until when a response to it is accepted. RFC 8489's final wait is
-- 8,000 ms by default, where the Rust has 8 ms.
use Rattle.model.specs.declared.Refusal.TheVariants.{Clock, PeersFull}
use Rattle.std.specs.Prelude.{ℕ, ◌+◌, ◌≤◌, ◌<◌, ◌≡◌, true, false, List, [], ◌∷◌, length, Option, Some}
use Rattle.address.specs.declared.Address.{Address}
use Rattle.message.specs.Head.{key}
use Rattle.message.specs.Attributes.{message_of}
use Rattle.message.specs.declared.Message.{Message}
use Rattle.waits.specs.Waits.{milliseconds}
use Rattle.model.specs.Calls.{receives, carries}
use Rattle.model.specs.Accepts.{is_response}
use Rattle.model.specs.Refusals.{holds}
use Rattle.model.specs.Runs.{Turn}
use Rattle.model.specs.declared.Answer.{Answer}
use Rattle.model.specs.declared.Answer.TheVariants as answer
use Rattle.runs.specs.Run.{kind_in}
use Rattle.runs.specs.Times.{next, list_of}
use Rattle.runs.specs.Counts.{Exchange}
use Rattle.hosted.specs.Session.{Owned, world_in, Calls, sent_in, timed_out_at}

-- The last of some clocks; `first` if there are none.
abbrev pub last_of : ℕ → List ℕ → ℕ
last_of first [] = first
last_of first (t ∷ ts) = last_of t ts

abbrev pub AllBefore : ℕ → List ℕ → Type 0
AllBefore a [] = Unit {0}
AllBefore a (t ∷ ts) = (t < a) × AllBefore a ts

-- A call that hands the agent a response to x, from any address, with a clock or without.
pub record Response (x : ℕ) (t : Turn) : Type 0 where
  pub from : Address
  pub clock : Option ℕ
  pub is_received : kind_in t ≡ carries (receives from clock)
  pub message : Message
  pub reads : message_of t.bytes ≡ Some message
  pub responds : is_response message.class ≡ true
  pub named : key message.transaction_id ≡ x

-- 8,000 ms after the last send of a request that was submitted at `first` and sent at these clocks.
abbrev pub ends_at : ℕ → List ℕ → ℕ
ends_at first sent = last_of first sent + milliseconds 8000

-- Of the request x, submitted at `first`, of what the host saw from then on, of the clocks of the rounds that it played, and of what it owns
-- now.
pub record UnsetWaits (x first : ℕ) (l : List Exchange) (ticks : List ℕ) (o : Owned) : Type 0 where
  pub at_most_seven : length (sent_in x l) ≤ 7
  -- The timeout isn't reported before the seventh send,
  pub none_before_the_seventh : length (sent_in x l) < 7 → timed_out_at x l ≡ []
  -- and then once, at the first round 8,000 ms after it or later.
  pub timeout_is : length (sent_in x l) ≡ 7 → timed_out_at x l ≡ list_of (next ticks (ends_at first (sent_in x l)))
  pub never_sooner : (t : ℕ) → timed_out_at x l ≡ t ∷ [] → ends_at first (sent_in x l) ≤ t
  -- Until such a round a response is accepted, unless its clock is refused, or its sender is new and the list of peers full.
  pub accepted : AllBefore (ends_at first (sent_in x l)) ticks → (t : Turn) (a : Answer) (o' : Owned) → Response x t → Calls o t a o'
      → holds 32 (world_in o) (kind_in t) t.bytes Clock ≡ false → holds 32 (world_in o) (kind_in t) t.bytes PeersFull ≡ false
      → a ≡ answer.Yes
