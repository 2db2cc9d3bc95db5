-- When a call is refused, and by which number: document 01, "Refusal numbers". Each predicate says what the table's line says and
-- nothing of the others; "where several apply, the lowest number is answered".
use Rattle.model.specs.declared.Refusal.{Refusal}
use Rattle.model.specs.declared.Refusal.TheVariants.{State, Settings, Clock, TooLong, BadMessage, WrongClass, InProgress, TableFull, NoRequest, PeersFull, NoStats, Counts}
use Rattle.std.specs.Prelude.{ℕ, ◌^◌, Bool, true, false, cond, not, ◌&&◌, ◌||◌, List, [], ◌∷◌, leb, ltb, length, Option, None, Some, is_none}
use Rattle.message.specs.Attributes.{message_of}
use Rattle.message.specs.declared.MessageClass.{MessageClass}
use Rattle.message.specs.declared.MessageClass.TheVariants.{Request, Indication, Success, Error}
use Rattle.waits.specs.Waits as waits
use Rattle.stats.specs.Query.{outstanding_of}
use Rattle.model.specs.World.{World, state_formed}
use Rattle.model.specs.Calls.{Passage, submits, sends, receives, Figure, numbers, mean, unsettled, anew, Kind, kind_of, clock_of, settings_of, id_of, passage_of, figure_of, on_some}
use Rattle.model.specs.Accepts.{is_outstanding, new_peer}
use Rattle.model.specs.declared.Call.{Call}

-- The number that document 01 gives each.
abbrev pub number_of : Refusal → ℕ
number_of State = 1
number_of Settings = 2
number_of Clock = 3
number_of TooLong = 4
number_of BadMessage = 5
number_of WrongClass = 6
number_of InProgress = 7
number_of TableFull = 8
number_of NoRequest = 9
number_of PeersFull = 10
number_of NoStats = 11
number_of Counts = 12

-- 1: "store too short, peer count above the lent list, or a state not well formed"
abbrev pub bad_state : ℕ → World → Bool
bad_state rows w = not (state_formed rows w)

-- 2: "R above 33 or a duration above 2^61"
abbrev pub bad_settings : Kind → Bool
bad_settings k = on_some (settings_of k) false (λ rto. not (waits.within_limits rto))

-- 3: "above 2^60, or below the highest clock that an unrefused call carried"
abbrev pub bad_clock : World → Kind → Bool
bad_clock w k = on_some (clock_of k) false (λ now. ltb (2 ^ 60) now || ltb now w.agent.mark)

abbrev pub is_submitted : Passage → Bool
is_submitted (submits to now) = true
is_submitted (sends to) = false
is_submitted (receives from clock) = false

-- 4: "`send_request` with more than 1,024 bytes"
abbrev pub too_long : Kind → List ℕ → Bool
too_long k m = on_some (passage_of k) false (λ p. is_submitted p && ltb 1024 (length m))

-- 5: "the bytes break a rule" of the message head and its attributes
abbrev pub bad_message : Kind → List ℕ → Bool
bad_message k m = on_some (passage_of k) false (λ p. on_some (message_of m) true (λ x. false))

abbrev pub is_request : MessageClass → Bool
is_request Request = true
is_request Indication = false
is_request Success = false
is_request Error = false

abbrev pub wrong_for : Passage → MessageClass → Bool
wrong_for (submits to now) class = not (is_request class)
wrong_for (sends to) class = is_request class
wrong_for (receives from clock) class = false

-- 6: "`send_request` with another class; `send` with a request"
abbrev pub wrong_class : Kind → List ℕ → Bool
wrong_class k m = on_some (passage_of k) false (λ p. on_some (message_of m) false (λ x. wrong_for p x.class))

-- 7: "`send_request` of an identifier outstanding"
abbrev pub in_progress : World → Kind → List ℕ → Bool
in_progress w k m =
    on_some (passage_of k) false (λ p. is_submitted p && on_some (message_of m) false (λ x. is_outstanding w.requests x.transaction_id))

-- 8: "`send_request` while 32 requests are outstanding"
abbrev pub table_full : ℕ → World → Kind → Bool
table_full rows w k = on_some (passage_of k) false (λ p. is_submitted p && leb rows (length w.requests))

-- 9: "cancel, configure or query of an identifier not outstanding"
abbrev pub no_request : World → Kind → Bool
no_request w k = on_some (id_of k) false (λ id. not (is_outstanding w.requests id))

-- 10: "a new address to be validated, and no free place in the list". A received response with no outstanding request validates nobody,
-- so that it "is "not accepted" before 10 is considered".
abbrev pub peers_full : World → Kind → List ℕ → Bool
peers_full w k m = on_some (new_peer w k m) false (λ a. leb (length w.peers) w.agent.peers)

-- 11: "statistics asked for or reset while off"
abbrev pub no_stats : World → Kind → Bool
no_stats w k = on_some (figure_of k) false (λ f. not w.agent.stats)

abbrev pub is_unsettled : Figure → Bool
is_unsettled numbers = false
is_unsettled mean = false
is_unsettled unsettled = true
is_unsettled anew = false

-- 12: "the query for the outstanding count finds it below zero"
abbrev pub bad_counts : World → Kind → Bool
bad_counts w k = on_some (figure_of k) false (λ f. is_unsettled f && is_none (outstanding_of w.stats))

-- The table.
abbrev pub holds : ℕ → World → Kind → List ℕ → Refusal → Bool
holds rows w k m State = bad_state rows w
holds rows w k m Settings = bad_settings k
holds rows w k m Clock = bad_clock w k
holds rows w k m TooLong = too_long k m
holds rows w k m BadMessage = bad_message k m
holds rows w k m WrongClass = wrong_class k m
holds rows w k m InProgress = in_progress w k m
holds rows w k m TableFull = table_full rows w k
holds rows w k m NoRequest = no_request w k
holds rows w k m PeersFull = peers_full w k m
holds rows w k m NoStats = no_stats w k
holds rows w k m Counts = bad_counts w k

-- In ascending order of their numbers: all of them, and those behind the test of the state.
abbrev pub past_state : List Refusal
past_state = Settings ∷ Clock ∷ TooLong ∷ BadMessage ∷ WrongClass ∷ InProgress ∷ TableFull ∷ NoRequest ∷ PeersFull ∷ NoStats ∷ Counts ∷ []

abbrev pub refusals : List Refusal
refusals = State ∷ past_state

-- The first whose test holds.
abbrev pub lowest : (Refusal → Bool) → List Refusal → Option Refusal
lowest test [] = None
lowest test (r ∷ rs) = cond (test r) (Some r) (lowest test rs)

-- What a call is refused by, if it is; and the same behind the test of the state.
unfoldable pub refusal_of : ℕ → World → Kind → List ℕ → Option Refusal
refusal_of rows w k m = lowest (holds rows w k m) refusals

unfoldable pub refusal_past : ℕ → World → Kind → List ℕ → Option Refusal
refusal_past rows w k m = lowest (holds rows w k m) past_state

abbrev pub refusal : ℕ → World → Call → List ℕ → Option Refusal
refusal rows w c m = refusal_of rows w (kind_of c) m
