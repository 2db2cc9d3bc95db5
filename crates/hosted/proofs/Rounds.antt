-- What a host played, by the answers that it saw, is what `Runs` and `Life` of crate `runs` say of the model.
--     transmits, polls, played_runs    rounds, and steps
--     plays_life                       demand 3's hypotheses
use Rattle.model.specs.declared.Refusal.{Refusal}
use Rattle.std.specs.Prelude.{Option, None, Some, is_none}
use Prim.Native.Nat.{ℕ}
use mathlib.Core.Path.{◌≡◌, refl, sym, ap, subst, ◌∙◌}
use mathlib.Core.Bool.{Bool, true, false, ◌&&◌}
use mathlib.Core.List.{List, [], ◌∷◌, ◌++◌, append_assoc}
use lib.Dec.{eqb}
use Rattle.address.specs.declared.Address.{Address}
use Rattle.message.specs.Head.{key}
use Rattle.message.specs.Attributes.{message_of}
use Rattle.message.specs.declared.Message.{Message}
use Rattle.stats.specs.declared.StunAgentStats.{StunAgentStats}
use Rattle.model.specs.World.{World}
use Rattle.model.specs.Calls.{submits as submits-to, sends, receives, Kind, carries, scans, names, meets, counts, on_some}
use Rattle.model.specs.Accepts.{is_response, accepts}
use Rattle.model.specs.Refusals.{refusal_of}
use Rattle.model.specs.Effects.{yes_or_no, passage_answer}
use Rattle.model.specs.Says.{refused_by, says_of}
use Rattle.model.specs.Runs.{Turn, answers, run}
use Rattle.model.specs.declared.StunAgentBuilder.{StunAgentBuilder}
use Rattle.model.specs.declared.Answer.{Answer}
use Rattle.model.specs.declared.Answer.TheVariants as answer
use Rattle.model.proofs.Refused.{refused_same}
use Rattle.model.proofs.Answers.{answer_number}
use Rattle.model.proofs.Classes.{done, answer_receives}
use Rattle.model.proofs.Store.{request_accepted}
use Rattle.runs.specs.Answers.{is_yes}
use Rattle.runs.specs.Run.{kind_in, said, hands_out, answers_to, handles}
use Rattle.runs.specs.Round as runs
use Rattle.runs.specs.Round.{transmission, poll, is_report, Step, plays, Runs, Transmits, Polls}
use Rattle.runs.specs.Demand.{LeftAlone, begins, Submission, submits, Life}
use Rattle.runs.specs.Counts.{exchange}
use Rattle.runs.specs.Ends.{submits_it, responds_to}
use Rattle.runs.proofs.Bytes.{passes, formed, is_x}
use Rattle.hosted.specs.Session.{Owned, start_of, Submitted}
use Rattle.hosted.specs.Rounds.{Transmissions, none_left, one_more, Reports, told_to_wait, one_report, Played, ends, then_call, then_round, touches, Untouched, Plays}
use Rattle.hosted.proofs.Theorems.{session_here, session_world, taken}

-- ---- rounds

head_same : {a c : Answer} {l k : List Answer} → a ∷ l ≡ c ∷ k → a ≡ c
head_same e = cc

tail_same : {a c : Answer} {l k : List Answer} → a ∷ l ≡ c ∷ k → l ≡ k
tail_same e = cc

module _ (rows : ℕ) where
  pub transmits : {now : ℕ} {rs : List Turn} {k : List Answer} → Transmissions now rs k → (w : World) (bs : List Turn) (l : List Answer)
      → k ++ l ≡ answers rows w (rs ++ bs) → (v : World) × Transmits rows now w rs v × (l ≡ answers rows v bs)
  transmits {now} none_left w bs l e =
      ((said rows w (transmission now)).world, runs.none_left (sym (head_same e)), tail_same e)
  transmits {now} (one_more {a} h d) w bs l e =
      let z : a ≡ (said rows w (transmission now)).answer = head_same e in
      let y = transmits d (said rows w (transmission now)).world bs l (tail_same e) in
      (y.0, runs.one_more (ap hands_out (sym z) ∙ h) y.1, y.2)

  pub polls : {now clock : ℕ} {ps : List Turn} {j : List Answer} → Reports now ps j clock → (w : World) (bs : List Turn) (l : List Answer)
      → j ++ l ≡ answers rows w (ps ++ bs) → (u : World) × Polls rows now w ps u clock × (l ≡ answers rows u bs)
  polls {now} told_to_wait w bs l e = ((said rows w (poll now)).world, runs.told_to_wait (sym (head_same e)), tail_same e)
  polls {now} (one_report {a} h d) w bs l e =
      let z : a ≡ (said rows w (poll now)).answer = head_same e in
      let y = polls d (said rows w (poll now)).world bs l (tail_same e) in
      (y.0, runs.one_report (ap is_report (sym z) ∙ h) y.1, y.2)

  pub played_runs : {ss : List Step} {ts : List Turn} {l : List Answer} → Played ss ts l → (w : World) → l ≡ answers rows w ts → Runs rows w ss ts
  played_runs ends w e = runs.ends
  played_runs (then_call {t} c d) w e = runs.then_call c (played_runs d (said rows w t).world (tail_same e))
  played_runs (then_round {now} {rs = rs} {ps} {ts} {j = j} {l} {ss} a b d) w e =
      let y = transmits a w (ps ++ ts) (j ++ l) e in
      let z = polls b y.0 ts l y.2 in
      subst (Runs rows w (plays now ∷ ss)) (append_assoc rs ps ts) (runs.then_round (runs.round y.1 z.1) (played_runs d z.0 z.2))

-- ---- a request that is left alone

module _ (rows x : ℕ) (w : World) (m : List ℕ) where
  refused_touches : (q : Refusal) (k : Kind) → touches x k m (answer.Refused q) ≡ false
  refused_touches q (carries (submits-to to now)) = refl
  refused_touches q (carries (sends to)) = refl
  refused_touches q (carries (receives from clock)) = refl
  refused_touches q (scans s now) = refl
  refused_touches q (names id wish) = refl
  refused_touches q (meets addr y) = refl
  refused_touches q (counts f) = refl

  received : (from : Address) (p : Option Message)
      → (is_yes (on_some p answer.No (λ y. yes_or_no (accepts w.requests from y)))
      && on_some p false (λ y. is_response y.class && eqb (key y.transaction_id) x))
      ≡ on_some p false (answers_to x w.requests from)
  received from (Some y) = go (accepts w.requests from y)
    where
      go : (b : Bool) → (is_yes (yes_or_no b) && (is_response y.class && eqb (key y.transaction_id) x))
          ≡ (b && (is_response y.class && eqb (key y.transaction_id) x))
      go true = refl
      go false = refl
  received from None = refl

  -- a call that isn't refused
  passed_touches : (k : Kind) (a : Answer) → a ≡ (says_of rows w k m).answer → refusal_of rows w k m ≡ None → touches x k m a ≡ handles x w k m
  passed_touches (carries (submits-to to now)) a z e =
      let n : refused_by a ≡ None = ap refused_by z ∙ answer_number rows w m (carries (submits-to to now)) ∙ e in rw n
  passed_touches (carries (sends to)) a z e = refl
  passed_touches (carries (receives from clock)) a z e =
      let s : a ≡ passage_answer rows w m (receives from clock) =
      z ∙ (done rows w (carries (receives from clock)) m e).answer ∙ answer_receives rows w m from clock in
      ap (λ (c : Answer). is_yes c && responds_to x m) s ∙ received from (message_of m)
  passed_touches (scans s now) a z e = refl
  passed_touches (names id wish) a z e = let n : refused_by a ≡ None = ap refused_by z ∙ answer_number rows w m (names id wish) ∙ e in rw n
  passed_touches (meets addr y) a z e = refl
  passed_touches (counts f) a z e = refl

  touches_is : (k : Kind) → touches x k m (says_of rows w k m).answer ≡ (is_none (refusal_of rows w k m) && handles x w k m)
  touches_is k = go (refusal_of rows w k m) refl
    where
      go : (o : Option Refusal) → refusal_of rows w k m ≡ o → touches x k m (says_of rows w k m).answer ≡ (is_none (refusal_of rows w k m) && handles x w k m)
      go None e = rw e (passed_touches k (says_of rows w k m).answer refl e)
      go (Some q) e = rw (e, refused_same rows w k m q e) (refused_touches q k)

left_alone : (rows x : ℕ) (ts : List Turn) (w : World) → Untouched x ts (answers rows w ts) → LeftAlone rows x w ts
left_alone rows x [] w h = tt
left_alone rows x (t ∷ ts) w h = (sym (touches_is rows x w t.bytes (kind_in t)) ∙ h.0, left_alone rows x ts (said rows w t).world h.1)

-- ---- a session

module _ (x : ℕ) (b : StunAgentBuilder) (was : StunAgentStats) (o : Owned) (before : List Turn) (q : Submission) (later : List Turn)
    (s : Submitted x b was o before q later) (pre post : List Step) (p : Plays s pre post) where
  abbrev here : World
  here = run 32 (begins (start_of b was o)) before

  accepts_it : submits_it x (exchange 32 here (submits q)) ≡ true
  accepts_it =
      subst (λ (w : World). submits_it x (exchange 32 w (submits q)) ≡ true) (session_here x b was o before q later s).world_is
      (taken x b was o before q later s)

  later_are : s.replies ≡ answers 32 (said 32 here (submits q)).world later
  later_are = tail_same (session_world x b was o before q later s).answers_are

  is_named : (y : Message) → message_of q.bytes ≡ Some y → key y.transaction_id ≡ x
  is_named y e =
      let a = request_accepted 32 here q.to q.now q.bytes (formed 32 x here q accepts_it) (passes 32 x here q accepts_it) in
      let z : Some y ≡ Some a.message = sym e ∙ a.reads in
      let u : y ≡ a.message = cc in
      rw u (is_x 32 x here q accepts_it a)

  pub plays_life : Life 32 x (start_of b was o) q pre post before later
  plays_life = record {
    steady = p.steady;
    runs_before = played_runs 32 p.played_before (begins (start_of b was o)) (session_here x b was o before q later s).answers_are;
    accepted = passes 32 x here q accepts_it;
    named = is_named;
    runs_later = played_runs 32 p.played_later (said 32 here (submits q)).world later_are;
    alone = left_alone 32 x later (said 32 here (submits q)).world (subst (Untouched x later) later_are p.alone);
  }
