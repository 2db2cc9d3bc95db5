-- Demand 3's last sentence, of one run: "the wait that ends a round lies after its clock unless an initial or max of zero was set or a
-- request whose retransmissions were cancelled has a step still due, and a round before it, with no other call between, sends and reports
-- nothing".
use Rattle.std.specs.Prelude.{ℕ, ◌^◌, ◌≤◌, ◌<◌, max, ◌≡◌, true, false, List, [], ◌∷◌, Option, None, Some}
use Rattle.waits.specs.declared.RequestRto.{RequestRto}
use Rattle.waits.specs.declared.Transport.{Transport}
use Rattle.request.specs.Times.{is_due, moment_of}
use Rattle.request.specs.declared.StunRequestState.{StunRequestState}
use Rattle.requests.specs.Search.{lookup}
use Rattle.model.specs.World.{World}
use Rattle.model.specs.Calls.{settings_of}
use Rattle.model.specs.Refusals.{refusal_of}
use Rattle.model.specs.Runs.{Turn}
use Rattle.model.specs.declared.Answer.TheVariants as answer
use Rattle.runs.specs.Run.{kind_in, said}
use Rattle.runs.specs.Round.{transmission, poll, Round}
use Rattle.runs.specs.Demand.{Start, begins}

-- Of each request.
abbrev pub All : (StunRequestState → Type 0) → List StunRequestState → Type 0
All P [] = Unit {0}
All P (r ∷ rs) = P r × All P rs

-- Neither an initial nor a maximum of zero.
pub record Positive (s : RequestRto) : Type 0 where
  pub initial : 0 < s.initial
  pub max : 0 < s.max

abbrev pub PositiveIf : Option RequestRto → Type 0
PositiveIf None = Unit {0}
PositiveIf (Some rto) = Positive rto

-- No call of a run that isn't refused set a zero.
abbrev pub NoZeroSet : ℕ → World → List Turn → Type 0
NoZeroSet rows w [] = Unit {0}
NoZeroSet rows w (t ∷ ts) =
    (refusal_of rows w (kind_in t) t.bytes ≡ None → PositiveIf (settings_of (kind_in t))) × NoZeroSet rows (said rows w t).world ts

-- No "request whose retransmissions were cancelled has a step still due".
abbrev pub NoSilentDue : Transport → ℕ → List StunRequestState → Type 0
NoSilentDue tr now l = All (λ r. r.send_cancelled ≡ true → is_due tr now r ≡ false) l

-- A round "sends and reports nothing", and leaves the requests.
pub record Idle (rows now : ℕ) (w : World) (rs : List Turn) (u : World) : Type 0 where
  pub calls_are : rs ≡ transmission now ∷ (poll now ∷ [])
  pub sends_nothing : (said rows w (transmission now)).answer ≡ answer.None
  pub reports_nothing : (clock : ℕ) × ((said rows (said rows w (transmission now)).world (poll now)).answer ≡ answer.Wait clock)
  pub left : u.requests ≡ w.requests

-- The sentence, of a round at `now` after the calls `before`, which ends in the world u with the wait `clock`.
pub record LastSentence (rows : ℕ) (s : Start) (before : List Turn) (now clock : ℕ) (u : World) : Type 0 where
  -- "lies after its clock unless an initial or max of zero was set"
  pub after_unless_zero : Positive s.rto → NoZeroSet rows (begins s) before → now < clock
  -- "or a request whose retransmissions were cancelled has a step still due"
  pub after_unless_silenced : NoSilentDue s.transport now u.requests → now < clock
  -- It is at most the next moment of each request outstanding: its next send, or its end.
  pub at_most : (x i : ℕ) (r : StunRequestState) → lookup x u.requests ≡ Some (i, r) → clock ≤ max now (moment_of s.transport now r)
  -- "a round before it, with no other call between, sends and reports nothing"
  pub nothing_before : (soon again : ℕ) (rs : List Turn) (v : World) → now ≤ soon → soon < clock → soon ≤ 2 ^ 60 → Round rows soon u rs v again
      → Idle rows soon u rs v
