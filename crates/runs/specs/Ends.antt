-- The life of a request in a run, by the run's calls and answers: it is accepted, and then answered, reported timed out, reported cancelled
-- or still in the table, exactly one of them; after its end nothing of it is sent, until a request with its identifier is accepted again.
-- Requests are told apart by their identifier as one number, x.
use Rattle.std.specs.Prelude.{ℕ, ◌≡◌, Bool, true, false, cond, ◌&&◌, ◌⊎◌, List, [], ◌∷◌, ◌++◌, eqb, Option, None, Some, is_some}
use Rattle.message.specs.Head.{key}
use Rattle.message.specs.Attributes.{message_of}
use Rattle.model.specs.World.{World}
use Rattle.model.specs.Calls.{submits, sends, receives, transmits, reports, Kind, carries, scans, names, meets, counts, on_some}
use Rattle.model.specs.Accepts.{is_response}
use Rattle.model.specs.declared.Answer.{Answer}
use Rattle.requests.specs.Search.{lookup}
use Rattle.runs.specs.Run.{hands_out_it}
use Rattle.runs.specs.Answers.{is_yes, timed_out_in, cancelled_in}
use Rattle.runs.specs.Counts.{Exchange, one, total}

-- ---- one call

-- x is accepted: `send_request` answers with its first transmission.
abbrev pub submits_by : ℕ → Kind → Answer → Bool
submits_by x (carries (submits to now)) a = hands_out_it x a
submits_by x (carries (sends to)) a = false
submits_by x (carries (receives from clock)) a = false
submits_by x (scans s now) a = false
submits_by x (names id wish) a = false
submits_by x (meets addr m) a = false
submits_by x (counts f) a = false

abbrev pub submits_it : ℕ → Exchange → Bool
submits_it x e = submits_by x e.about e.answer

-- A transmission of x is handed out.
abbrev pub sends_it : ℕ → Exchange → Bool
sends_it x e = hands_out_it x e.answer

-- How x can end.
pub data End : Type 0 where
  by_response : End
  by_timeout : End
  by_cancel : End

-- A message that is a response to x.
abbrev pub responds_to : ℕ → List ℕ → Bool
responds_to x m = on_some (message_of m) false (λ y. is_response y.class && eqb (key y.transaction_id) x)

-- How `poll` reports x.
abbrev pub report_end : ℕ → Answer → Option End
report_end x a =
    on_some (timed_out_in a) (on_some (cancelled_in a) None (λ id. cond (eqb (key id) x) (Some by_cancel) None))
    (λ id. cond (eqb (key id) x) (Some by_timeout) None)

-- A response to x is accepted, or `poll` reports x.
abbrev pub end_by : ℕ → Kind → List ℕ → Answer → Option End
end_by x (carries (submits to now)) m a = None
end_by x (carries (sends to)) m a = None
end_by x (carries (receives from clock)) m a = cond (is_yes a && responds_to x m) (Some by_response) None
end_by x (scans transmits now) m a = None
end_by x (scans reports now) m a = report_end x a
end_by x (names id wish) m a = None
end_by x (meets addr y) m a = None
end_by x (counts f) m a = None

abbrev pub end_of : ℕ → Exchange → Option End
end_of x e = end_by x e.about e.bytes e.answer

-- ---- a run

-- The whole of a run as x has it: whether x is outstanding before and after.
pub data Lives (x : ℕ) : Bool → List Exchange → Bool → Type 0 where
  as_it_is : {b : Bool} → Lives x b [] b
  -- not outstanding: nothing of it is sent or reported
  absent : {e : Exchange} {l : List Exchange} {b : Bool} → sends_it x e ≡ false → end_of x e ≡ None → Lives x false l b → Lives x false (e ∷ l) b
  accepted : {e : Exchange} {l : List Exchange} {b : Bool} → submits_it x e ≡ true → Lives x true l b → Lives x false (e ∷ l) b
  -- outstanding: not accepted a second time
  stays : {e : Exchange} {l : List Exchange} {b : Bool} → submits_it x e ≡ false → end_of x e ≡ None → Lives x true l b → Lives x true (e ∷ l) b
  ends : {e : Exchange} {l : List Exchange} {b : Bool} (how : End) → submits_it x e ≡ false → end_of x e ≡ Some how → Lives x false l b
      → Lives x true (e ∷ l) b

-- Whether x is in the table.
abbrev pub in_table : ℕ → World → Bool
in_table x w = is_some (lookup x w.requests)

-- ---- an accepted request, by the calls after it

-- None of them ends x, or accepts it again.
abbrev pub Unended : ℕ → List Exchange → Type 0
Unended x [] = Unit {0}
Unended x (e ∷ l) = (end_of x e ≡ None) × (submits_it x e ≡ false) × Unended x l

-- Nothing of x is sent or reported until it is accepted again.
abbrev pub SilentUntil : ℕ → List Exchange → Type 0
SilentUntil x [] = Unit {0}
SilentUntil x (e ∷ l) = (submits_it x e ≡ true) ⊎ ((sends_it x e ≡ false) × (end_of x e ≡ None) × SilentUntil x l)

-- It is still in the table and no call ended it; or one call did, in one of the three ways, and the first that did is its end.
pub data Fate (x : ℕ) (later : List Exchange) (w : World) : Type 0 where
  in_the_table : Unended x later → in_table x w ≡ true → Fate x later w
  ended : (before : List Exchange) (e : Exchange) (after : List Exchange) (how : End) → later ≡ before ++ (e ∷ after)
      → Unended x before → end_of x e ≡ Some how → SilentUntil x after → Fate x later w

-- As numbers: how often x was accepted, and how often it ended.
abbrev pub acceptances : ℕ → List Exchange → ℕ
acceptances x l = total (λ e. one (submits_it x e)) l

abbrev pub endings : ℕ → List Exchange → ℕ
endings x l = total (λ e. on_some (end_of x e) 0 (λ how. 1)) l
