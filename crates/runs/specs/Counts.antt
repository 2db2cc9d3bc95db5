-- What the ten counters mean: over a run from a fresh agent with statistics on and without a reset, each is a count or a sum over the
-- run's calls and answers, refused calls included, stopped at 2^64-1. Document 01, "What the statements have to shut out": "invented
-- counters (each is a count over the calls)". The definitions read calls, messages and answers; none reads the statistics record.
use Rattle.std.specs.Prelude.{ℕ, ◌+◌, ◌-◌, ◌^◌, min, ◌≡◌, Bool, true, false, cond, ◌&&◌, List, [], ◌∷◌, length, Option, None, is_none}
use Rattle.message.specs.Attributes.{message_of}
use Rattle.message.specs.declared.TransactionId.{TransactionId}
use Rattle.message.specs.declared.MessageClass.{MessageClass}
use Rattle.message.specs.declared.MessageClass.TheVariants.{Request, Indication, Success, Error}
use Rattle.stats.specs.declared.StunAgentStats.{StunAgentStats}
use Rattle.model.specs.World.{World}
use Rattle.model.specs.Calls.{Passage, submits, sends, receives, transmits, reports, Figure, numbers, mean, unsettled, anew, Kind, carries, scans, names, meets, counts, passage_of, figure_of, on_some}
use Rattle.model.specs.Accepts.{is_response}
use Rattle.model.specs.Refusals.{is_request}
use Rattle.model.specs.Says.{refused_by}
use Rattle.model.specs.Runs.{Turn}
use Rattle.model.specs.declared.Answer.{Answer}
use Rattle.runs.specs.Answers.{is_yes, on_transmission, timed_out_in, cancelled_in}
use Rattle.runs.specs.Run.{kind_in, said, hands_out}

-- ---- what the host saw of a run

-- A call, by what it is about, with its message and its answer.
pub record Exchange : Type 0 where
  pub about : Kind
  pub bytes : List ℕ
  pub answer : Answer

abbrev pub seen : Kind → List ℕ → Answer → Exchange
seen k m a = record { about = k; bytes = m; answer = a }

abbrev pub exchange : ℕ → World → Turn → Exchange
exchange rows w t = seen (kind_in t) t.bytes (said rows w t).answer

-- Every call of a run.
unfoldable pub history : ℕ → World → List Turn → List Exchange
history rows w [] = []
history rows w (t ∷ ts) = exchange rows w t ∷ history rows (said rows w t).world ts

-- ---- messages sent and received

-- The length that an answer hands out.
abbrev pub length_out : Answer → ℕ
length_out a = on_transmission a 0 (λ id row len. len)

-- The call sent its message: `send_request` that answered with the first transmission, `send` that wasn't refused.
abbrev pub passage_sent : Passage → Answer → Bool
passage_sent (submits to now) a = hands_out a
passage_sent (sends to) a = is_none (refused_by a)
passage_sent (receives from clock) a = false

abbrev pub sent : Exchange → Bool
sent e = on_some (passage_of e.about) false (λ p. passage_sent p e.answer)

-- The call received its message and accepted it.
abbrev pub passage_received : Passage → Answer → Bool
passage_received (submits to now) a = false
passage_received (sends to) a = false
passage_received (receives from clock) a = is_yes a

abbrev pub received : Exchange → Bool
received e = on_some (passage_of e.about) false (λ p. passage_received p e.answer)

abbrev pub is_indication : MessageClass → Bool
is_indication Request = false
is_indication Indication = true
is_indication Success = false
is_indication Error = false

-- Whether its message has a class that passes a test.
abbrev pub classed : (MessageClass → Bool) → Exchange → Bool
classed test e = on_some (message_of e.bytes) false (λ x. test x.class)

-- ---- what one call adds to each counter

abbrev pub one : Bool → ℕ
one b = cond b 1 0

abbrev pub requests_sent : Exchange → ℕ
requests_sent e = one (sent e && classed is_request e)

abbrev pub requests_received : Exchange → ℕ
requests_received e = one (received e && classed is_request e)

abbrev pub responses_sent : Exchange → ℕ
responses_sent e = one (sent e && classed is_response e)

abbrev pub responses_received : Exchange → ℕ
responses_received e = one (received e && classed is_response e)

abbrev pub indications_sent : Exchange → ℕ
indications_sent e = one (sent e && classed is_indication e)

abbrev pub indications_received : Exchange → ℕ
indications_received e = one (received e && classed is_indication e)

-- What `poll` reports, and what `poll_transmit` hands out.
abbrev pub report_by : (Answer → Option TransactionId) → Kind → Answer → Option TransactionId
report_by read (carries p) a = None
report_by read (scans transmits now) a = None
report_by read (scans reports now) a = read a
report_by read (names id wish) a = None
report_by read (meets addr m) a = None
report_by read (counts f) a = None

abbrev pub resent_by : Kind → Answer → ℕ
resent_by (carries p) a = 0
resent_by (scans transmits now) a = length_out a
resent_by (scans reports now) a = 0
resent_by (names id wish) a = 0
resent_by (meets addr m) a = 0
resent_by (counts f) a = 0

abbrev pub timed_out : Exchange → ℕ
timed_out e = on_some (report_by timed_out_in e.about e.answer) 0 (λ id. 1)

-- "Cancelled counts when poll reports it."
abbrev pub cancelled : Exchange → ℕ
cancelled e = on_some (report_by cancelled_in e.about e.answer) 0 (λ id. 1)

-- "`send_request` counts a request and its bytes; later sends count bytes only."
abbrev pub bytes_sent : Exchange → ℕ
bytes_sent e = cond (sent e) (length e.bytes) 0 + resent_by e.about e.answer

abbrev pub bytes_received : Exchange → ℕ
bytes_received e = cond (received e) (length e.bytes) 0

-- ---- over a run

abbrev pub total : (Exchange → ℕ) → List Exchange → ℕ
total f [] = 0
total f (e ∷ l) = f e + total f l

-- "A counter at 2^64-1 stays there."
abbrev pub stopped : ℕ → ℕ
stopped n = min n (2 ^ 64 - 1)

pub record Counters (l : List Exchange) (s : StunAgentStats) : Type 0 where
  pub requests_sent_lem : s.requests_sent ≡ stopped (total requests_sent l)
  pub requests_received_lem : s.requests_received ≡ stopped (total requests_received l)
  pub responses_sent_lem : s.responses_sent ≡ stopped (total responses_sent l)
  pub responses_received_lem : s.responses_received ≡ stopped (total responses_received l)
  pub indications_sent_lem : s.indications_sent ≡ stopped (total indications_sent l)
  pub indications_received_lem : s.indications_received ≡ stopped (total indications_received l)
  pub transactions_timed_out : s.transactions_timed_out ≡ stopped (total timed_out l)
  pub transactions_cancelled : s.transactions_cancelled ≡ stopped (total cancelled l)
  pub bytes_sent_lem : s.bytes_sent ≡ stopped (total bytes_sent l)
  pub bytes_received_lem : s.bytes_received ≡ stopped (total bytes_received l)

-- "Without reset."
abbrev pub figure_resets : Figure → Bool
figure_resets numbers = false
figure_resets mean = false
figure_resets unsettled = false
figure_resets anew = true

abbrev pub resets : Kind → Bool
resets k = on_some (figure_of k) false figure_resets

abbrev pub NoReset : List Turn → Type 0
NoReset [] = Unit {0}
NoReset (t ∷ ts) = (resets (kind_in t) ≡ false) × NoReset ts
