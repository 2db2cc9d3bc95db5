-- What a call's function answers, in the terms of the model at its own call: behind the test of the state, for all that it isn't handed.
use Rattle.model.specs.declared.Refusal.{Refusal}
use Rattle.model.specs.declared.Refusal.TheVariants.{Clock, PeersFull, NoStats}
use Rattle.std.specs.Prelude.{ℕ, ◌+◌, ◌^◌, ◌≡◌, Bool, false, cond, not, ◌||◌, List, leb, ltb, length, set, Option, None, Some, Result, Ok, Err}
use Rattle.address.specs.declared.Address.{Address}
use Rattle.message.specs.declared.TransactionId.{TransactionId}
use Rattle.waits.specs.Waits.{within_limits}
use Rattle.waits.specs.declared.Transport.{Transport}
use Rattle.rows.specs.Lists.{insert_at, remove_at}
use Rattle.rows.specs.Rows.{rows}
use Rattle.stats.specs.declared.StunAgentStats.{StunAgentStats}
use Rattle.stats.specs.declared.Event.{Event}
use Rattle.stats.specs.declared.Event.TheVariants as event
use Rattle.request.specs.Times.{rtt_of}
use Rattle.request.specs.Limits.{RequestLimits}
use Rattle.request.specs.declared.StunRequestState.{StunRequestState}
use Rattle.requests.specs.Search as Search
use Rattle.requests.specs.Search.{key_of}
use Rattle.records.specs.Coding.{width, encode}
use Rattle.records.specs.Live.{live, Became}
use Rattle.table.specs.Table.{walk_rows}
use Rattle.model.specs.World.{World, known}
use Rattle.model.specs.Calls.{Kind, Wish, names, wish_settings, on_some}
use Rattle.model.specs.Calls as model
use Rattle.model.specs.Accepts.{new_peer}
use Rattle.model.specs.Refusals.{refusal_past}
use Rattle.model.specs.Effects.{Change, keeps, adds, removes, sets, steps, changed, count_after, change_of, stored_by, wished, wish_answer, answer_of, event_of, after}
use Rattle.model.specs.declared.StunAgent.{StunAgent}
use Rattle.model.specs.declared.Answer.{Answer}
use Rattle.model.specs.declared.Answer.TheVariants as answer
use Rattle.agent.specs.Ready.{world_with, world_of}
use Rattle.agent.specs.declared.Called.{Called}
use Rattle.agent.specs.declared.Contact.{Contact}

abbrev pub called_of : StunAgent → Answer → Event → Option ℕ → Called
called_of a x e p = record { agent = a; answer = x; event = e; place = p }

-- A refused call: nothing changes, nothing is counted.
abbrev pub refused_with : StunAgent → Refusal → Called
refused_with a q = called_of a (answer.Refused q) event.Nothing None

-- What a call leaves that answers this or is refused.
abbrev pub settled : StunAgent → Result Called Refusal → Called
settled a (Ok r) = r
settled a (Err q) = refused_with a q

abbrev pub tried : Option Refusal → StunAgent → Called → Called
tried None a done = done
tried (Some q) a done = refused_with a q

-- "Statistics are optional": the event where they are on.
abbrev pub noted : StunAgent → Event → Event
noted a e = cond a.stats e event.Nothing

-- Refusal 11: the record, if statistics are on.
abbrev pub counted : StunAgent → StunAgentStats → Result StunAgentStats Refusal
counted a st = cond a.stats (Ok st) (Err NoStats)

-- "A new peer goes behind the last one."
abbrev pub place_of : World → Kind → List ℕ → Option ℕ
place_of w k m = on_some (new_peer w k m) None (λ a. Some w.agent.peers)

-- The model at one call, behind the test of the state.
abbrev pub effect : ℕ → World → Kind → List ℕ → Called
effect rows w k m = called_of (after rows w k m).agent (answer_of rows w k m) (event_of w k m) (place_of w k m)

unfoldable pub called : ℕ → World → Kind → List ℕ → Called
called rows w k m = tried (refusal_past rows w k m) w.agent (effect rows w k m)

-- Of every world with this agent, and any message.
abbrev pub Everywhere : StunAgent → Kind → Called → Type 0
Everywhere a k r =
    (l : List StunRequestState) (store m : List ℕ) (peers : List Address) (st : StunAgentStats)
    → r ≡ called 32 (world_with a l store peers st) k m

-- Where the statistics are these.
abbrev pub Counting : StunAgent → StunAgentStats → Kind → Called → Type 0
Counting a st k r =
    (l : List StunRequestState) (store m : List ℕ) (peers : List Address) → r ≡ called 32 (world_with a l store peers st) k m

-- Where there are so many places for peers, and it is known whether this address is one.
abbrev pub Meeting : StunAgent → Address → Bool → ℕ → Kind → Called → Type 0
Meeting a addr isKnown places k r =
    (l : List StunRequestState) (store m : List ℕ) (peers : List Address) (st : StunAgentStats)
    → length peers ≡ places → known (world_with a l store peers st) addr ≡ isKnown → r ≡ called 32 (world_with a l store peers st) k m

-- Where the message is this.
abbrev pub Carrying : StunAgent → Kind → List ℕ → Called → Type 0
Carrying a k m r = (l : List StunRequestState) (store : List ℕ) (peers : List Address) (st : StunAgentStats) → r ≡ called 32 (world_with a l store peers st) k m

-- Where the requests are those of these words.
abbrev pub Looking : StunAgent → List ℕ → Kind → Called → Type 0
Looking a t k r = (store m : List ℕ) (peers : List Address) (st : StunAgentStats) → r ≡ called 32 (world_of a t store peers st) k m

-- ---- the table

-- The rows after a change; those of requests that it doesn't touch keep their words.
abbrev pub rows_after : Transport → Change → ℕ → List ℕ → List (List ℕ)
rows_after tr keeps n t = rows width n t
rows_after tr (adds r) n t = insert_at (rows width n t) (Search.place_of (key_of r) (live n t)) (encode r)
rows_after tr (removes i) n t = remove_at (rows width n t) i
rows_after tr (sets i r) n t = set (rows width n t) i (encode r)
rows_after tr (steps now) n t = (walk_rows tr now (rows width n t)).after

-- t became t': every word, and the requests, which are the model's.
abbrev pub TableAfter : Transport → Change → ℕ → List ℕ → List ℕ → Type 0
TableAfter tr c n t t' = Became t t' (count_after c n) (rows_after tr c n t) (changed tr c (live n t))

-- A refused call changes no request.
abbrev pub unless : Option Refusal → Change → Change
unless None c = c
unless (Some q) c = keeps

unfoldable pub change_past : ℕ → World → Kind → List ℕ → Change
change_past rows w k m = unless (refusal_past rows w k m) (change_of rows w k m)

-- What a call over the table answers, and every word after it.
pub record Acts (w : World) (k : Kind) (m t t' : List ℕ) (r : Called) : Type 0 where
  pub says : r ≡ called 32 w k m
  pub then : TableAfter w.agent.transport (change_past 32 w k m) w.agent.requests t t'

abbrev pub Turning : StunAgent → Kind → List ℕ → List ℕ → Called → Type 0
Turning a k t t' r = (store m : List ℕ) (peers : List Address) (st : StunAgentStats) → Acts (world_of a t store peers st) k m t t' r

-- ---- parts of the calls

-- Refusal 3.
abbrev pub is_late : StunAgent → ℕ → Bool
is_late a now = ltb (2 ^ 60) now || ltb now a.mark

-- The agent with another clock mark and other numbers of requests and peers.
abbrev pub moved : StunAgent → ℕ → ℕ → ℕ → StunAgent
moved a mark requests peers = record { transport = a.transport; stats = a.stats; rto = a.rto; mark = mark; requests = requests; peers = peers }

-- The agent at the clock, if it isn't refused.
unfoldable pub at_clock : StunAgent → ℕ → Result StunAgent Refusal
at_clock a now = cond (is_late a now) (Err Clock) (Ok (moved a now a.requests a.peers))

-- A wish that changes the request as a function may: its settings are within limits, and that is the record that it asks for.
pub record Alters (wish : Wish) (may : StunRequestState → StunRequestState → Type 0) : Type 0 where
  pub fits : on_some (wish_settings wish) false (λ rto. not (within_limits rto)) ≡ false
  pub answers : (q : StunRequestState) → wish_answer wish q ≡ answer.Ok
  pub alters : (i : ℕ) (q p : StunRequestState) → may q p → wished wish i q ≡ sets i p

-- Whichever wish that is; a function that is none of the wishes is promised nothing, and `agent` passes none such.
abbrev pub Changing : StunAgent → TransactionId → (StunRequestState → StunRequestState → Type 0) → List ℕ → List ℕ → Result Called Refusal → Type 0
Changing a id may t t' r = (wish : Wish) → Alters wish may → Turning a (names id wish) t t' (settled a r)

-- Refusal 10, or the agent with the address among its peers, and its place there if it is new.
unfoldable pub admitted : Contact → StunAgent → Result (StunAgent × Option ℕ) Refusal
admitted x a =
    cond x.known (Ok (a, None))
    (cond (leb x.places a.peers) (Err PeersFull) (Ok (moved a a.mark a.requests (a.peers + 1), Some a.peers)))

-- A clock, if there is one: refusal 3, the mark afterwards, and the round trip.
abbrev pub is_past : StunAgent → Option ℕ → Bool
is_past a clock = on_some clock false (λ now. is_late a now)

abbrev pub mark_by : StunAgent → Option ℕ → ℕ
mark_by a clock = on_some clock a.mark (λ now. now)

-- The agent at the clock of a received message.
unfoldable pub on_receipt : StunAgent → Option ℕ → Result StunAgent Refusal
on_receipt a clock = cond (is_past a clock) (Err Clock) (Ok (moved a (mark_by a clock) a.requests a.peers))

abbrev pub rtt_by : Option ℕ → StunRequestState → Option ℕ
rtt_by clock r = on_some clock None (λ now. rtt_of now r)

-- The request was last sent no later than that clock.
abbrev pub Timely : Option ℕ → StunRequestState → Type 0
Timely (Some now) r = RequestLimits 32 now r
Timely None r = Unit

-- A received message, where there are so many places for peers, and it is known whether the sender is one.
abbrev pub Receiving : StunAgent → Address → Bool → ℕ → Option ℕ → List ℕ → List ℕ → List ℕ → Called → Type 0
Receiving a from isKnown places clock m t t' r =
    (store : List ℕ) (peers : List Address) (st : StunAgentStats)
    → length peers ≡ places → known (world_of a t store peers st) from ≡ isKnown
    → Acts (world_of a t store peers st) (model.carries (model.receives from clock)) m t t' r

-- A request to be sent, and every byte of the store after it.
pub record Submits (w : World) (to : Address) (now : ℕ) (m t t' store' : List ℕ) (r : Called) : Type 0 where
  pub acts : Acts w (model.carries (model.submits to now)) m t t' r
  pub stores : store' ≡ stored_by 32 w.store m (change_past 32 w (model.carries (model.submits to now)) m)

abbrev pub Submitting : StunAgent → Address → ℕ → List ℕ → List ℕ → List ℕ → List ℕ → List ℕ → Called → Type 0
Submitting a to now m t store t' store' r =
    (peers : List Address) (st : StunAgentStats) → Submits (world_of a t store peers st) to now m t t' store' r
