-- The round trips of a run, and the four numbers that are kept of them. Document 01, "The agent": "RTT is now minus last send, counted only
-- with a clock and step count 0." The sample of a response is read from the request as the calls before it left it (Followed.antt), by
-- calls, messages and answers alone: neither the statistics record nor the table is read. That it is the clock minus the clock of the
-- request's submission, and that there is one exactly if the request made no step since, is a theorem, `sample_is`.
use Rattle.std.specs.Prelude.{ℕ, ◌+◌, ◌≡◌, cond, not, ◌&&◌, List, [], ◌∷◌, ◌++◌, length, Option, None, Some}
use Rattle.message.specs.Head.{key}
use Rattle.message.specs.Attributes.{message_of}
use Rattle.waits.specs.declared.RequestRto.{RequestRto}
use Rattle.waits.specs.declared.Transport.{Transport}
use Rattle.stats.specs.Count.{lesser, greater}
use Rattle.stats.specs.declared.StunAgentStats.{StunAgentStats}
use Rattle.request.specs.Times.{is_due, rtt_of}
use Rattle.request.specs.declared.StunRequestState.{StunRequestState}
use Rattle.model.specs.Calls.{Passage, submits, sends, receives, transmits, reports, Kind, carries, scans, names, meets, counts, passage_of, on_some}
use Rattle.model.specs.Accepts.{is_response}
use Rattle.model.specs.declared.Answer.{Answer}
use Rattle.runs.specs.Answers.{is_yes}
use Rattle.runs.specs.Counts.{Exchange, one, stopped, Counters}
use Rattle.runs.specs.Followed.{reaches, followed, followed_through}

-- The requests as the calls so far left them, by identifier.
abbrev pub Left : Type 0
Left = ℕ → Option StunRequestState

abbrev pub left_by : Transport → RequestRto → List Exchange → Left
left_by tr rto l x = followed_through tr rto x None l

-- The sample of one call: an accepted response with a clock, whose request made no step.
abbrev pub measured : Option ℕ → Option StunRequestState → Option ℕ
measured clock o = on_some clock None (λ now. on_some o None (λ r. rtt_of now r))

abbrev pub passage_sample : Left → List ℕ → Answer → Passage → Option ℕ
passage_sample left m a (submits to now) = None
passage_sample left m a (sends to) = None
passage_sample left m a (receives from clock) =
    cond (is_yes a) (on_some (message_of m) None (λ y. cond (is_response y.class) (measured clock (left (key y.transaction_id))) None)) None

abbrev pub sample_of : Left → Exchange → Option ℕ
sample_of left e = on_some (passage_of e.about) None (passage_sample left e.bytes e.answer)

abbrev pub listed : Option ℕ → List ℕ
listed None = []
listed (Some t) = t ∷ []

-- Those of a run, in its order.
abbrev pub samples_from : Transport → RequestRto → Left → List Exchange → List ℕ
samples_from tr rto left [] = []
samples_from tr rto left (e ∷ l) = listed (sample_of left e) ++ samples_from tr rto (λ x. followed tr rto x e (left x)) l

abbrev pub samples : Transport → RequestRto → List Exchange → List ℕ
samples tr rto l = samples_from tr rto (λ x. None) l

abbrev pub sum_of : List ℕ → ℕ
sum_of [] = 0
sum_of (t ∷ l) = t + sum_of l

abbrev pub least_of : List ℕ → Option ℕ
least_of [] = None
least_of (t ∷ l) = lesser (least_of l) t

abbrev pub greatest_of : List ℕ → Option ℕ
greatest_of [] = None
greatest_of (t ∷ l) = greater (greatest_of l) t

pub record RoundTrips (l : List ℕ) (s : StunAgentStats) : Type 0 where
  pub rtt_sum : s.rtt_sum ≡ stopped (sum_of l)
  pub rtt_min : s.rtt_min ≡ least_of l
  pub rtt_max : s.rtt_max ≡ greatest_of l
  pub rtt_count : s.rtt_count ≡ stopped (length l)

-- All 14 numbers of the record.
pub record Accounts (tr : Transport) (rto : RequestRto) (l : List Exchange) (s : StunAgentStats) : Type 0 where
  pub counters : Counters l s
  pub round_trips : RoundTrips (samples tr rto l) s

-- The steps that the request x makes, with or without sending: one at each `poll_transmit` that reaches it while it is due and not cancelled.
abbrev pub steps_by : Transport → ℕ → Kind → Answer → StunRequestState → ℕ
steps_by tr x (carries p) a r = 0
steps_by tr x (scans transmits now) a r = one (reaches x a && (not r.recv_cancelled && is_due tr now r))
steps_by tr x (scans reports now) a r = 0
steps_by tr x (names id wish) a r = 0
steps_by tr x (meets addr y) a r = 0
steps_by tr x (counts f) a r = 0

abbrev pub steps_through : Transport → RequestRto → ℕ → Option StunRequestState → List Exchange → ℕ
steps_through tr rto x o [] = 0
steps_through tr rto x o (e ∷ l) = on_some o 0 (steps_by tr x e.about e.answer) + steps_through tr rto x (followed tr rto x e o) l
