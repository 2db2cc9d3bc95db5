-- The life of a request in a run: accepted, then ended once or still in the table, and nothing of it sent after its end.
--     submits_other     what `send_request` of another request makes of the request x
--     stays_call        a call that doesn't end the request x leaves it in the table
--     lives             a run as x has it
--     fate              each accepted request is answered, reported timed out, reported cancelled or still in the table
--     ends_counted      as numbers
use Rattle.std.specs.Prelude.{None, Some, Option, is_none, is_some}
use Rattle.message.specs.declared.Message.{Message}
use Prim.Native.Nat.{ℕ, ◌+◌}
use mathlib.Core.Path.{◌≡◌, refl, sym, ap, ◌∙◌}
use mathlib.Core.Bool.{Bool, true, false, cond, ◌&&◌}
use mathlib.Core.Logic.{inl, inr}
use mathlib.Core.List.{List, [], ◌∷◌}
use native.Mathlib.Omega.{arith}
use lib.Dec.{eqb}
use Rattle.address.specs.declared.Address.{Address}
use Rattle.message.specs.Head.{key}
use Rattle.message.specs.Attributes.{message_of}
use Rattle.message.specs.declared.TransactionId.{TransactionId}
use Rattle.waits.specs.declared.RequestRto.{RequestRto}
use Rattle.waits.specs.declared.Transport.{Transport}
use Rattle.request.specs.Request.{submitted, transmit_of}
use Rattle.request.specs.Answers.{record_after}
use Rattle.request.specs.declared.StunRequestState.{StunRequestState}
use Rattle.requests.specs.Search.{lookup, request_of}
use Rattle.requests.proofs.Lists.{apart, none_some}
use Rattle.model.specs.World.{World}
use Rattle.model.specs.Calls.{submits, sends, receives, transmits, reports, Kind, carries, scans, names, meets, counts, on_some}
use Rattle.model.specs.Says.{refused_by, says_of}
use Rattle.model.specs.Runs.{Turn, run}
use Rattle.model.specs.declared.Answer.{Answer}
use Rattle.model.specs.declared.Answer.TheVariants as answer
use Rattle.runs.specs.Run.{kind_in, said, hands_out_it}
use Rattle.runs.specs.Demand.{Start, begins}
use Rattle.runs.specs.Answers.{on_transmission, is_yes}
use Rattle.runs.specs.Counts.{Exchange, exchange, history, one}
use Rattle.runs.specs.Ends.{End, by_response, submits_by, submits_it, responds_to, report_end, end_by, end_of, Lives, as_it_is, absent, accepted, stays, ends, in_table, SilentUntil, Fate, in_the_table, ended, acceptances, endings}
use Rattle.runs.specs.Followed.{reaches, wished_of, followed_by}
use Rattle.runs.proofs.Followed.{Traced, traced}

-- ---- one call, by the definitions alone

-- no transmission of x
no_transmission : {B : Type 0} (x : ℕ) (a : Answer) (o : B) (f : TransactionId → ℕ → ℕ → B) → hands_out_it x a ≡ false
    → on_transmission a o (λ id row len. cond (eqb (key id) x) (f id row len) o) ≡ o
no_transmission x (answer.Refused q) o f e = refl
no_transmission x answer.Ok o f e = refl
no_transmission x answer.Yes o f e = refl
no_transmission x answer.No o f e = refl
no_transmission x answer.None o f e = refl
no_transmission x (answer.Send id to row len) o f e = rw e
no_transmission x (answer.Wait clock) o f e = refl
no_transmission x (answer.TimedOut id) o f e = refl
no_transmission x (answer.Cancelled id) o f e = refl
no_transmission x (answer.Stats s) o f e = refl
no_transmission x (answer.Average b) o f e = refl
no_transmission x (answer.Outstanding n) o f e = refl
no_transmission x (answer.Request to integrity) o f e = refl

module _ (tr : Transport) (rto : RequestRto) (x : ℕ) (m : List ℕ) (a : Answer) where
  none_either : (b : Bool) → ◌≡◌ {A = Option StunRequestState} (cond b None None) None
  none_either true = refl
  none_either false = refl

  none_reported : (o : Option End) → on_some {B = Option StunRequestState} o None (λ how. None) ≡ None
  none_reported None = refl
  none_reported (Some how) = refl

  -- what `send_request` makes of another request
  pub submits_other : (o : Option StunRequestState) (to : Address) (now : ℕ) (p : Option Message) → hands_out_it x a ≡ false
      → on_some p o (λ y. on_transmission a o (λ id row len. cond (eqb (key id) x) (Some (submitted now id y.integrity row len to rto)) o)) ≡ o
  submits_other o to now (Some y) e = no_transmission x a o (λ id row len. Some (submitted now id y.integrity row len to rto)) e
  submits_other o to now None e = refl

  -- where x isn't outstanding, nor accepted
  away_followed : (k : Kind) → submits_by x k a ≡ false → followed_by tr rto x k m a None ≡ None
  away_followed (carries (submits to now)) e = submits_other None to now (message_of m) e
  away_followed (carries (sends to)) e = refl
  away_followed (carries (receives from clock)) e = none_either (is_yes a && responds_to x m)
  away_followed (scans transmits now) e = none_either (reaches x a)
  away_followed (scans reports now) e = none_reported (report_end x a)
  away_followed (names id wish) e = none_either (is_none (refused_by a) && eqb (key id) x)
  away_followed (meets addr y) e = refl
  away_followed (counts f) e = refl

  -- where it is, and doesn't end
  some_either : (b : Bool) (r q : StunRequestState) → (p : StunRequestState) × (cond b (Some r) (Some q) ≡ Some p)
  some_either true r q = (r, refl)
  some_either false r q = (q, refl)

  stays_followed : (k : Kind) (r : StunRequestState) → submits_by x k a ≡ false → end_by x k m a ≡ None
      → (q : StunRequestState) × (followed_by tr rto x k m a (Some r) ≡ Some q)
  stays_followed (carries (submits to now)) r e n = (r, submits_other (Some r) to now (message_of m) e)
  stays_followed (carries (sends to)) r e n = (r, refl)
  stays_followed (carries (receives from clock)) r e n = go (is_yes a && responds_to x m) n
    where
      go : (b : Bool) → cond b (Some by_response) None ≡ None → (q : StunRequestState) × (cond b None (Some r) ≡ Some q)
      go true n = none_some (sym n)
      go false n = (r, refl)
  stays_followed (scans transmits now) r e n = some_either (reaches x a) (record_after r (transmit_of tr now r)) r
  stays_followed (scans reports now) r e n = (r, rw n)
  stays_followed (names id wish) r e n = some_either (is_none (refused_by a) && eqb (key id) x) (wished_of wish r) r
  stays_followed (meets addr y) r e n = (r, refl)
  stays_followed (counts f) r e n = (r, refl)

  -- where it ends
  over_followed : (k : Kind) (o : Option StunRequestState) (how : End) → end_by x k m a ≡ Some how → followed_by tr rto x k m a o ≡ None
  over_followed (carries (submits to now)) o how e = none_some e
  over_followed (carries (sends to)) o how e = none_some e
  over_followed (carries (receives from clock)) o how e = go (is_yes a && responds_to x m) e
    where
      go : (b : Bool) → cond b (Some by_response) None ≡ Some how → cond b None o ≡ None
      go true e = refl
      go false e = none_some e
  over_followed (scans transmits now) o how e = none_some e
  over_followed (scans reports now) o how e = rw e
  over_followed (names id wish) o how e = none_some e
  over_followed (meets addr y) o how e = none_some e
  over_followed (counts f) o how e = none_some e

-- ---- one call of a run

module _ (rows x : ℕ) (w : World) (k : Kind) (m : List ℕ) where
  abbrev next : Option StunRequestState → Option StunRequestState
  next = followed_by w.agent.transport w.agent.rto x k m (says_of rows w k m).answer

  away_call : request_of (lookup x w.requests) ≡ None → submits_by x k (says_of rows w k m).answer ≡ false
      → request_of (lookup x (says_of rows w k m).world.requests) ≡ None
  away_call o s = (traced rows x w m k).after ∙ ap next o ∙ away_followed w.agent.transport w.agent.rto x m (says_of rows w k m).answer k s

  pub stays_call : (r : StunRequestState) → request_of (lookup x w.requests) ≡ Some r → end_by x k m (says_of rows w k m).answer ≡ None
      → (q : StunRequestState) × (request_of (lookup x (says_of rows w k m).world.requests) ≡ Some q)
  stays_call r o n =
      let t = traced rows x w m k in
      let q = stays_followed w.agent.transport w.agent.rto x m (says_of rows w k m).answer k r (t.once r o) n in
      (q.0, t.after ∙ ap next o ∙ q.1)

  over_call : (how : End) → end_by x k m (says_of rows w k m).answer ≡ Some how → request_of (lookup x (says_of rows w k m).world.requests) ≡ None
  over_call how e =
      (traced rows x w m k).after
      ∙ over_followed w.agent.transport w.agent.rto x m (says_of rows w k m).answer k (request_of (lookup x w.requests)) how e

-- ---- a run

found_some : (f : Option (ℕ × StunRequestState)) (q : StunRequestState) → request_of f ≡ Some q → is_some f ≡ true
found_some (Some (i, r)) q e = refl
found_some None q e = none_some e

found_none : (f : Option (ℕ × StunRequestState)) → request_of f ≡ None → is_some f ≡ false
found_none (Some (i, r)) e = none_some (sym e)
found_none None e = refl

pub lives_from : (rows x : ℕ) (ts : List Turn) (w : World) → Lives x (in_table x w) (history rows w ts) (in_table x (run rows w ts))
unfolding history
lives_from rows x [] w = as_it_is
lives_from rows x (t ∷ ts) w = go (lookup x w.requests) refl (lives_from rows x ts (said rows w t).world)
  where
    e : Exchange
    e = exchange rows w t

    v : World
    v = (said rows w t).world

    d : Traced rows x w (kind_in t) t.bytes
    d = traced rows x w t.bytes (kind_in t)

    rest : (b : Bool) → in_table x v ≡ b → Lives x (in_table x v) (history rows v ts) (in_table x (run rows v ts))
        → Lives x b (history rows v ts) (in_table x (run rows v ts))
    rest b z l = rw z at l

    go_absent : request_of (lookup x w.requests) ≡ None → (b : Bool) → submits_it x e ≡ b
        → Lives x (in_table x v) (history rows v ts) (in_table x (run rows v ts)) → Lives x false (e ∷ history rows v ts) (in_table x (run rows v ts))
    go_absent o true s l = let q = d.begun s in accepted s (rest true (found_some (lookup x v.requests) q.0 q.1) l)
    go_absent o false s l = absent (d.unsent o ∙ s) (d.unended o) (rest false (found_none (lookup x v.requests) (away_call rows x w (kind_in t) t.bytes o s)) l)

    go_present : (r : StunRequestState) → request_of (lookup x w.requests) ≡ Some r → (h : Option End) → end_of x e ≡ h
        → Lives x (in_table x v) (history rows v ts) (in_table x (run rows v ts)) → Lives x true (e ∷ history rows v ts) (in_table x (run rows v ts))
    go_present r o None h l = let q = stays_call rows x w (kind_in t) t.bytes r o h in stays (d.once r o) h (rest true (found_some (lookup x v.requests) q.0 q.1) l)
    go_present r o (Some how) h l = ends how (d.once r o) h (rest false (found_none (lookup x v.requests) (over_call rows x w (kind_in t) t.bytes how h)) l)

    go : (f : Option (ℕ × StunRequestState)) → lookup x w.requests ≡ f → Lives x (in_table x v) (history rows v ts) (in_table x (run rows v ts))
        → Lives x (is_some f) (e ∷ history rows v ts) (in_table x (run rows v ts))
    go (Some (i, r)) f l = go_present r (ap request_of f) (end_of x e) refl l
    go None f l = go_absent (ap request_of f) (submits_it x e) refl l

pub lives : (rows x : ℕ) (s : Start) (ts : List Turn) → Lives x false (history rows (begins s) ts) (in_table x (run rows (begins s) ts))
lives rows x s ts = lives_from rows x ts (begins s)

-- ---- an accepted request

silent_until : (x : ℕ) (l : List Exchange) (b c : Bool) → b ≡ false → Lives x b l c → SilentUntil x l
silent_until x l b c z as_it_is = tt
silent_until x l b c z (absent {l = l'} {b = d} s e h) = inr (s, e, silent_until x l' false d refl h)
silent_until x l b c z (accepted s h) = inl s
silent_until x l b c z (stays s e h) = apart z
silent_until x l b c z (ends how s e h) = apart z

fate_from : (x : ℕ) (w : World) (l : List Exchange) (b c : Bool) → b ≡ true → c ≡ in_table x w → Lives x b l c → Fate x l w
fate_from x w l b c z t as_it_is = in_the_table tt (sym t ∙ z)
fate_from x w l b c z t (absent s e h) = apart (sym z)
fate_from x w l b c z t (accepted s h) = apart (sym z)
fate_from x w l b c z t (stays {e} {l = l'} s n h) = go (fate_from x w l' true c refl t h)
  where
    go : Fate x l' w → Fate x (e ∷ l') w
    go (in_the_table u k) = in_the_table (n, s, u) k
    go (ended before d after how split u k q) = ended (e ∷ before) d after how (ap (λ (y : List Exchange). e ∷ y) split) (n, s, u) k q
fate_from x w l b c z t (ends {e} {l = l'} how s n h) = ended [] e l' how refl tt n (silent_until x l' false c refl h)

module _ (rows x : ℕ) (s : Start) (before : List Turn) (t : Turn) (later : List Turn) where
  abbrev here : World
  here = run rows (begins s) before

  -- A call that accepts x, anywhere in a run, and the calls after it.
  pub fate : submits_it x (exchange rows here t) ≡ true
      → Fate x (history rows (said rows here t).world later) (run rows (said rows here t).world later)
  fate a =
      let q = (traced rows x here t.bytes (kind_in t)).begun a in
      let v = (said rows here t).world in
      fate_from x (run rows v later) (history rows v later) (in_table x v) (in_table x (run rows v later))
      (found_some (lookup x v.requests) q.0 q.1) refl (lives_from rows x later v)

-- ---- as numbers

-- a call that sends nothing of x doesn't accept it, and one that accepts it doesn't end it
not_submitted : (x : ℕ) (k : Kind) (a : Answer) → hands_out_it x a ≡ false → submits_by x k a ≡ false
not_submitted x (carries (submits to now)) a e = e
not_submitted x (carries (sends to)) a e = refl
not_submitted x (carries (receives from clock)) a e = refl
not_submitted x (scans s now) a e = refl
not_submitted x (names id wish) a e = refl
not_submitted x (meets addr y) a e = refl
not_submitted x (counts f) a e = refl

not_ended : (x : ℕ) (k : Kind) (m : List ℕ) (a : Answer) → submits_by x k a ≡ true → end_by x k m a ≡ None
not_ended x (carries (submits to now)) m a e = refl
not_ended x (carries (sends to)) m a e = apart (sym e)
not_ended x (carries (receives from clock)) m a e = apart (sym e)
not_ended x (scans s now) m a e = apart (sym e)
not_ended x (names id wish) m a e = apart (sym e)
not_ended x (meets addr y) m a e = apart (sym e)
not_ended x (counts f) m a e = apart (sym e)

counted_from : (x : ℕ) (l : List Exchange) (b c : Bool) → Lives x b l c → one b + acceptances x l ≡ endings x l + one c
counted_from x l b c as_it_is = omega arith
counted_from x l b c (absent {e} {l = l'} s n h) =
    rw (not_submitted x e.about e.answer s, n) (omega (arith, counted_from x l' false c h))
counted_from x l b c (accepted {e} {l = l'} s h) =
    rw (s, not_ended x e.about e.bytes e.answer s) (omega (arith, counted_from x l' true c h))
counted_from x l b c (stays {l = l'} s n h) = rw (s, n) (omega (arith, counted_from x l' true c h))
counted_from x l b c (ends {l = l'} how s n h) = rw (s, n) (omega (arith, counted_from x l' false c h))

-- In every run x was accepted as often as it ended, and once more while it is in the table.
pub ends_counted : (rows x : ℕ) (s : Start) (ts : List Turn)
    → acceptances x (history rows (begins s) ts) ≡ endings x (history rows (begins s) ts) + one (in_table x (run rows (begins s) ts))
ends_counted rows x s ts =
    omega (arith, counted_from x (history rows (begins s) ts) false (in_table x (run rows (begins s) ts)) (lives rows x s ts))
