-- Demand 3: the words of its hypotheses, and what it says of each run.
use Rattle.model.specs.declared.Refusal.TheVariants.{State, Clock}
use Rattle.std.specs.Prelude.{ℕ, ◌*◌, ◌^◌, ◌≤◌, max, ◌≡◌, Bool, false, List, [], ◌∷◌, ◌++◌, length, Option, None, Some}
use Rattle.address.specs.declared.Address.{Address}
use Rattle.message.specs.Head.{key}
use Rattle.message.specs.Attributes.{message_of}
use Rattle.message.specs.declared.Message.{Message}
use Rattle.waits.specs.Waits.{Limits, waits_of}
use Rattle.waits.specs.declared.RequestRto.{RequestRto}
use Rattle.waits.specs.declared.Transport.{Transport}
use Rattle.waits.specs.declared.Transport.TheVariants.{Udp, Tcp}
use Rattle.stats.specs.declared.StunAgentStats.{StunAgentStats}
use Rattle.model.specs.World.{World}
use Rattle.model.specs.Calls.{clock_of}
use Rattle.model.specs.Refusals.{refusal_of}
use Rattle.model.specs.Fresh.{fresh}
use Rattle.model.specs.Runs.{Turn, with, run}
use Rattle.model.specs.declared.Call.TheVariants as call
use Rattle.runs.specs.Run.{kind_in, said, sends, timeouts, handled_by}
use Rattle.runs.specs.Round.{Step, calls, plays, Runs}
use Rattle.runs.specs.Times.{send_times, end_time, Gaps, list_of}

-- After clock m a step with clock c, if it has one, and then K of the clock reached.
abbrev pub SteadyAt : Option ℕ → ℕ → (ℕ → Type 0) → Type 0
SteadyAt None m K = K m
SteadyAt (Some t) m K = (m ≤ t) × (t ≤ 2 ^ 60) × K t

abbrev pub step_clock : Step → Option ℕ
step_clock (calls t) = clock_of (kind_in t)
step_clock (plays now) = Some now

-- "Clocks never falling nor above 2^60", from m on.
abbrev pub Steady : ℕ → List Step → Type 0
Steady m [] = Unit {0}
Steady m (s ∷ ss) = SteadyAt (step_clock s) m (λ u. Steady u ss)

-- The clocks of the rounds.
abbrev pub rounds_of : Step → List ℕ
rounds_of (calls t) = []
rounds_of (plays now) = now ∷ []

abbrev pub rounds : List Step → List ℕ
rounds [] = []
rounds (s ∷ ss) = rounds_of s ++ rounds ss

-- In no call of a run "answered, cancelled in either way, reconfigured or submitted again".
abbrev pub LeftAlone : ℕ → ℕ → World → List Turn → Type 0
LeftAlone rows x w [] = Unit {0}
LeftAlone rows x w (t ∷ ts) = (handled_by rows x w t ≡ false) × LeftAlone rows x (said rows w t).world ts

-- What a fresh agent is made of: its settings, and the memory that the host lends.
pub record Start : Type 0 where
  pub transport : Transport
  pub stats : Bool
  pub rto : RequestRto
  pub store : List ℕ
  pub peers : List Address
  pub counters : StunAgentStats

abbrev pub begins : Start → World
begins s = fresh s.transport s.stats s.rto s.store s.peers s.counters

-- What a host has to bring: settings that `build` takes, and a store with all its rows.
pub record Fit (rows : ℕ) (s : Start) : Type 0 where
  pub limits : Limits s.rto
  pub room : rows * 1024 ≤ length s.store

-- The submission of a message to an address at a clock.
pub record Submission : Type 0 where
  pub to : Address
  pub now : ℕ
  pub bytes : List ℕ

abbrev pub submits : Submission → Turn
submits q = with (call.SendRequest q.to q.now) q.bytes

-- One run from a fresh agent: steps up to the submission, which is accepted, and steps after it, none of which handles the request. The
-- calls of those steps are `before` and `later`.
pub record Life (rows x : ℕ) (s : Start) (q : Submission) (pre post : List Step) (before later : List Turn) : Type 0 where
  pub steady : Steady 0 (pre ++ (calls (submits q) ∷ post))
  pub runs_before : Runs rows (begins s) pre before
  pub accepted : refusal_of rows (run rows (begins s) before) (kind_in (submits q)) q.bytes ≡ None
  pub named : (y : Message) → message_of q.bytes ≡ Some y → key y.transaction_id ≡ x
  pub runs_later : Runs rows (said rows (run rows (begins s) before) (submits q)).world post later
  pub alone : LeftAlone rows x (said rows (run rows (begins s) before) (submits q)).world later

-- The clocks of the sends of that request, the first among them, and of its timeout.
abbrev pub sends_of : ℕ → ℕ → Start → Submission → List Turn → List Turn → List ℕ
sends_of rows x s q before later = sends rows x (run rows (begins s) before) (submits q ∷ later)

abbrev pub timeout_of : ℕ → ℕ → Start → Submission → List Turn → List Turn → List ℕ
timeout_of rows x s q before later = timeouts rows x (run rows (begins s) before) (submits q ∷ later)

-- How often a request may go out: "max(R,1) times by UDP, once by TCP".
abbrev pub most : Transport → RequestRto → ℕ
most Udp s = max s.retransmits 1
most Tcp s = 1

-- "Gap k is at least min(initial × 2^(k-1), max)": `wait_of` counts k - 1 from 0.
abbrev pub Spaced : RequestRto → List ℕ → Type 0
Spaced s [] = Unit {0}
Spaced s (t ∷ ts) = Gaps s 0 t ts

-- No call of a run is refused by 1 or 3.
abbrev pub NeverBad : ℕ → World → List Turn → Type 0
NeverBad rows w [] = Unit {0}
NeverBad rows w (t ∷ ts) =
    (refusal_of rows w (kind_in t) t.bytes ≡ Some State → ⊥)
    × (refusal_of rows w (kind_in t) t.bytes ≡ Some Clock → ⊥)
    × NeverBad rows (said rows w t).world ts

-- The closed form, exported: each send is at the first round at or after the last send plus its wait, and the end likewise.
pub record ClosedForm (rows x : ℕ) (s : Start) (q : Submission) (post : List Step) (before later : List Turn) : Type 0 where
  pub sends_are : sends_of rows x s q before later ≡ q.now ∷ send_times s.rto (waits_of s.transport s.rto) 0 q.now (rounds post)
  pub timeout_is :
      timeout_of rows x s q before later ≡ list_of (end_time s.transport s.rto (waits_of s.transport s.rto) 0 q.now (rounds post))

-- What demand 3 says of one run of the two.
pub record EachRun (rows x : ℕ) (s : Start) (q : Submission) (before later : List Turn) : Type 0 where
  -- "goes out at most max(R,1) times by UDP, once by TCP"
  pub goes_out_at_most : length (sends_of rows x s q before later) ≤ most s.transport s.rto
  pub once_by_tcp : s.transport ≡ Tcp → sends_of rows x s q before later ≡ q.now ∷ []
  -- "gap k is at least min(initial × 2^(k-1), max)"
  pub gap_at_least : Spaced s.rto (sends_of rows x s q before later)
  -- no call of it is refused by 1 or 3
  pub never_bad : NeverBad rows (begins s) (before ++ (submits q ∷ later))
