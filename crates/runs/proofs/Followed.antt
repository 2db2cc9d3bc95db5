-- A request of the table is the request as the calls left it: what one call does to the request x, by its message and answer.
--     Traced, traced            one call, refused or not
--     handed                    only `send_request` and `poll_transmit` hand it out
--     follows, follows_fresh    a run, from any world and from a fresh agent
use Rattle.model.specs.declared.Refusal.{Refusal}
use Rattle.std.specs.Prelude.{None, Some, Option}
use Prim.Native.Nat.{ℕ, ◌+◌}
use mathlib.Core.Path.{◌≡◌, refl, sym, ap, ◌∙◌}
use mathlib.Core.Bool.{Bool, true, false, cond, ◌&&◌, and-eq-true_iff, and-false}
use mathlib.Core.List.{List, [], ◌∷◌}
use lib.Dec.{eqb, leb}
use borrow.Author.Tests.{eqb-true, eqb-false, ne_eqb}
use Rattle.address.specs.declared.Address.{Address}
use Rattle.message.specs.Head.{key}
use Rattle.message.specs.Attributes.{message_of}
use Rattle.message.specs.declared.TransactionId.{TransactionId}
use Rattle.message.specs.declared.Message.{Message}
use Rattle.waits.specs.declared.RequestRto.{RequestRto}
use Rattle.waits.specs.declared.Transport.{Transport}
use Rattle.request.specs.Request.{silenced, cancelled, configured, transmit_of}
use Rattle.request.specs.Answers.{record_after}
use Rattle.request.specs.declared.StunRequestState.{StunRequestState}
use Rattle.request.specs.declared.StunRequestPollRet.{StunRequestPollRet}
use Rattle.request.specs.declared.StunRequestPollRet.TheVariants as poll-ret
use Rattle.request.proofs.Kept.{same_silenced, same_cancelled, same_configured}
use Rattle.requests.specs.Search.{key_of, keys_of, lookup, place_of, request_of}
use Rattle.requests.specs.Formed.{Ascending}
use Rattle.requests.specs.Scan.{hour, walk, poll_all}
use Rattle.requests.specs.declared.Polled.{Polled}
use Rattle.requests.specs.declared.Polled.TheVariants.{TimedOut, Cancelled, WaitUntil}
use Rattle.requests.proofs.Lists.{apart, none_some}
use Rattle.requests.proofs.Search.{found_at, lookup_removed, lookup_set}
use Rattle.requests.proofs.Transmits.{OtherKey, scanned, scanned_found, transmit_none}
use Rattle.requests.proofs.Polls.{Ended, Says, poll_says, poll_none}
use Rattle.model.specs.World.{World, StateFormed, known}
use Rattle.model.specs.Calls.{Meeting, ask, validate, Figure, numbers, mean, unsettled, anew, submits, sends, receives, transmits, reports, Wish, silence, cancel, configure, query, Kind, carries, scans, names, meets, counts, on_some}
use Rattle.model.specs.Accepts.{is_response, accepts}
use Rattle.model.specs.Refusals.{refusal_of}
use Rattle.model.specs.Effects.{on_found, keeps, removes, changed, reported, wished, yes_or_no, transmit_answer, poll_answer, wish_answer, meeting_answer, figure_answer}
use Rattle.model.specs.Says.{Said, says_of}
use Rattle.model.specs.Runs.{Turn, run}
use Rattle.model.specs.declared.Answer.{Answer}
use Rattle.model.specs.declared.Answer.TheVariants as answer
use Rattle.model.proofs.Refused.{refused_same}
use Rattle.model.proofs.Classes.{passed_formed, done, change_names, answer_sends, answer_receives, answer_reports, answer_names, answer_meets, answer_counts}
use Rattle.model.proofs.Answers.{answer_number}
use Rattle.model.proofs.Received.{response_found, response_taken}
use Rattle.model.proofs.Kept.{says_agent}
use Rattle.model.proofs.Store.{RequestAccepted, request_accepted}
use Rattle.runs.specs.Run.{kind_in, said, hands_out_it, answers_to, handles}
use Rattle.runs.specs.Demand.{Start, begins}
use Rattle.runs.specs.Answers.{is_yes}
use Rattle.runs.specs.Counts.{exchange, history}
use Rattle.runs.specs.Ends.{End, by_timeout, by_cancel, submits_by, responds_to, report_end, end_by}
use Rattle.runs.specs.Followed.{reaches, wished_of, mapped, followed_by, followed, followed_through}
use Rattle.runs.proofs.Spared.{ScanSaid, passed_spares, scan_said, ended_other, not_found}

-- The calls that hand a request out.
abbrev pub handed_by : ℕ → Kind → Answer → Bool
handed_by x (carries (submits to now)) a = hands_out_it x a
handed_by x (carries (sends to)) a = false
handed_by x (carries (receives from clock)) a = false
handed_by x (scans transmits now) a = hands_out_it x a
handed_by x (scans reports now) a = false
handed_by x (names id wish) a = false
handed_by x (meets addr y) a = false
handed_by x (counts f) a = false

pub record Traced (rows x : ℕ) (w : World) (k : Kind) (m : List ℕ) : Type 0 where
  pub after : request_of (lookup x (says_of rows w k m).world.requests)
      ≡ followed_by w.agent.transport w.agent.rto x k m (says_of rows w k m).answer (request_of (lookup x w.requests))
  -- where x isn't outstanding, nothing of it is sent but by its acceptance, and it doesn't end
  pub unsent : request_of (lookup x w.requests) ≡ None → hands_out_it x (says_of rows w k m).answer ≡ submits_by x k (says_of rows w k m).answer
  pub unended : request_of (lookup x w.requests) ≡ None → end_by x k m (says_of rows w k m).answer ≡ None
  -- accepted, it is outstanding; where it was, it isn't accepted
  pub begun : submits_by x k (says_of rows w k m).answer ≡ true
      → (q : StunRequestState) × (request_of (lookup x (says_of rows w k m).world.requests) ≡ Some q)
  pub once : (r : StunRequestState) → request_of (lookup x w.requests) ≡ Some r → submits_by x k (says_of rows w k m).answer ≡ false

none_not : {C : Type 0} {r : StunRequestState} {f : Option (ℕ × StunRequestState)} → f ≡ None → request_of f ≡ Some r → C
none_not e s = none_some (sym (ap request_of e) ∙ s)

-- an accepted request stands under its identifier
pub stands_at : (rows x : ℕ) (w : World) (to : Address) (now : ℕ) (m : List ℕ) (s : Said) (a : RequestAccepted rows w to now m s)
    → key a.message.transaction_id ≡ x
    → lookup x s.world.requests ≡ Some ((place_of (key a.message.transaction_id) w.requests), a.request)
stands_at rows x w to now m s a z = ap (λ (n : ℕ). lookup n s.world.requests) (sym z) ∙ a.stands

choice_unsent : (x : ℕ) (b : Bool) → hands_out_it x (yes_or_no b) ≡ false
choice_unsent x true = refl
choice_unsent x false = refl

module _ (rows x : ℕ) (w : World) (m : List ℕ) where
  -- ---- only `send_request` and `poll_transmit` hand x out

  heard_unsent : (p : Option Message) (takes : Message → Bool) → hands_out_it x (on_some p answer.No (λ y. yes_or_no (takes y))) ≡ false
  heard_unsent None takes = refl
  heard_unsent (Some y) takes = choice_unsent x (takes y)

  poll_unsent : (o : Polled) → hands_out_it x (poll_answer o) ≡ false
  poll_unsent (TimedOut i id) = refl
  poll_unsent (Cancelled i id) = refl
  poll_unsent (WaitUntil clock) = refl

  wish_unsent : (wish : Wish) (f : Option (ℕ × StunRequestState)) → hands_out_it x (on_found f answer.None (λ i r. wish_answer wish r)) ≡ false
  wish_unsent wish None = refl
  wish_unsent silence (Some (i, r)) = refl
  wish_unsent cancel (Some (i, r)) = refl
  wish_unsent (configure rto) (Some (i, r)) = refl
  wish_unsent query (Some (i, r)) = refl

  figure_unsent : (f : Figure) → hands_out_it x (figure_answer w f) ≡ false
  figure_unsent numbers = refl
  figure_unsent mean = refl
  figure_unsent unsettled = refl
  figure_unsent anew = refl

  meeting_unsent : (a : Address) (y : Meeting) → hands_out_it x (meeting_answer w a y) ≡ false
  meeting_unsent a ask = choice_unsent x (known w a)
  meeting_unsent a validate = refl

  handed_passed : (k : Kind) → refusal_of rows w k m ≡ None → hands_out_it x (says_of rows w k m).answer ≡ handed_by x k (says_of rows w k m).answer
  handed_passed (carries (submits to now)) e = refl
  handed_passed (carries (sends to)) e = rw ((done rows w (carries (sends to)) m e).answer, answer_sends rows w m to)
  handed_passed (carries (receives from clock)) e =
      rw ((done rows w (carries (receives from clock)) m e).answer, answer_receives rows w m from clock)
      (heard_unsent (message_of m) (accepts w.requests from))
  handed_passed (scans transmits now) e = refl
  handed_passed (scans reports now) e =
      rw ((done rows w (scans reports now) m e).answer, answer_reports rows w m now) (poll_unsent (poll_all w.agent.transport now w.requests))
  handed_passed (names id wish) e =
      rw ((done rows w (names id wish) m e).answer, answer_names rows w m id wish) (wish_unsent wish (lookup (key id) w.requests))
  handed_passed (meets a y) e = rw ((done rows w (meets a y) m e).answer, answer_meets rows w m a y) (meeting_unsent a y)
  handed_passed (counts f) e = rw ((done rows w (counts f) m e).answer, answer_counts rows w m f) (figure_unsent f)

  -- ---- `send_request`

  traced_submits : (to : Address) (now : ℕ) → StateFormed rows w → refusal_of rows w (carries (submits to now)) m ≡ None
      → Traced rows x w (carries (submits to now)) m
  traced_submits to now formed e =
      let a = request_accepted rows w to now m formed e in
      go a (eqb (key a.message.transaction_id) x) refl
    where
      go : (a : RequestAccepted rows w to now m (says_of rows w (carries (submits to now)) m)) (b : Bool)
          → eqb (key a.message.transaction_id) x ≡ b → Traced rows x w (carries (submits to now)) m
      go a true b =
          let z : key a.message.transaction_id ≡ x = eqb-true (key a.message.transaction_id) x b in
          let gone : lookup x w.requests ≡ None = rw z at a.new in
          let here = ap request_of (stands_at rows x w to now m (says_of rows w (carries (submits to now)) m) a z) in
          record {
            after = here ∙ rw (a.answers, a.reads, b, a.request_is);
            unsent = λ n. refl;
            unended = λ n. refl;
            begun = λ h. (a.request, here);
            once = λ r f. none_not gone f;
          }
      go a false b =
          let handled : handles x w (carries (submits to now)) m ≡ false = rw a.reads b in
          let s = passed_spares rows x w formed (carries (submits to now)) m refl e handled in
          record {
            after = s.kept ∙ rw (a.answers, a.reads, b);
            unsent = λ n. refl;
            unended = λ n. refl;
            begun = λ h. apart (sym (rw (a.answers, b) at h));
            once = λ r f. rw (a.answers, b);
          }

  -- ---- a received message

  module _ (from : Address) (clock : Option ℕ) (formed : StateFormed rows w) (e : refusal_of rows w (carries (receives from clock)) m ≡ None) where
    answer_is : (says_of rows w (carries (receives from clock)) m).answer ≡ on_some (message_of m) answer.No (λ y. yes_or_no (accepts w.requests from y))
    answer_is = (done rows w (carries (receives from clock)) m e).answer ∙ answer_receives rows w m from clock

    -- x is answered exactly where the call is said to handle it
    responds_is : (p : Option Message) (takes test : Message → Bool)
        → (is_yes (on_some p answer.No (λ y. yes_or_no (takes y))) && on_some p false test) ≡ on_some p false (λ y. takes y && test y)
    responds_is None takes test = refl
    responds_is (Some y) takes test = go (takes y)
      where
        go : (b : Bool) → (is_yes (yes_or_no b) && test y) ≡ (b && test y)
        go true = refl
        go false = refl

    handled_is : (is_yes (says_of rows w (carries (receives from clock)) m).answer && responds_to x m) ≡ handles x w (carries (receives from clock)) m
    handled_is = rw answer_is (responds_is (message_of m) (accepts w.requests from) (λ y. is_response y.class && eqb (key y.transaction_id) x))

    -- it was outstanding, and is no more
    taken_out : (p : Option Message) → message_of m ≡ p → on_some p false (answers_to x w.requests from) ≡ true
        → (request_of (lookup x w.requests) ≡ None → ⊥)
        × (request_of (lookup x (says_of rows w (carries (receives from clock)) m).world.requests) ≡ None)
    taken_out None r h = apart (sym h)
    taken_out (Some y) r h =
        let a = (and-eq-true_iff _ _).0 h in
        let b = (and-eq-true_iff _ _).0 a.1 in
        let z : key y.transaction_id ≡ x = eqb-true (key y.transaction_id) x b.1 in
        let f = response_found w.requests from y a.0 b.0 in
        let l' = (says_of rows w (carries (receives from clock)) m).world.requests in (
          λ n. none_some (sym n ∙ ap (λ (k : ℕ). request_of (lookup k w.requests)) (sym z) ∙ ap request_of f.2),
          ap (λ (k : ℕ). request_of (lookup k l')) (sym z)
              ∙ ap request_of (response_taken rows w from clock m y r a.0 e f.0 f.1 b.0 f.2 formed),
        )

    traced_receives : Traced rows x w (carries (receives from clock)) m
    traced_receives = go (handles x w (carries (receives from clock)) m) refl
      where
        go : (b : Bool) → handles x w (carries (receives from clock)) m ≡ b → Traced rows x w (carries (receives from clock)) m
        go true b =
            let t = taken_out (message_of m) refl b in
            record {
              after = t.1 ∙ rw (handled_is, b);
              unsent = λ n. handed_passed (carries (receives from clock)) e;
              unended = λ n. absurd (t.0 n);
              begun = λ h. apart (sym h);
              once = λ r f. refl;
            }
        go false b =
            let s = passed_spares rows x w formed (carries (receives from clock)) m refl e b in
            record {
              after = s.kept ∙ rw (handled_is, b);
              unsent = λ n. handed_passed (carries (receives from clock)) e;
              unended = λ n. rw (handled_is, b);
              begun = λ h. apart (sym h);
              once = λ r f. refl;
            }

  -- ---- `poll_transmit`

  scan_mapped : (t : Transport) (now : ℕ) (o : Option StunRequestState) (r : StunRequestState) → key_of r ≡ x
      → Some (scanned t now o r) ≡ cond (reaches x (transmit_answer o)) (Some (record_after r (transmit_of t now r))) (Some r)
  scan_mapped t now (Some p) r z = rw z (go (leb x (key_of p)))
    where
      go : (b : Bool) → Some (cond b (record_after r (transmit_of t now r)) r) ≡ cond b (Some (record_after r (transmit_of t now r))) (Some r)
      go true = refl
      go false = refl
  scan_mapped t now None r z = refl

  none_mapped : (b : Bool) (f : StunRequestState → StunRequestState) → None ≡ cond b (mapped None f) None
  none_mapped true f = refl
  none_mapped false f = refl

  other_unsent : (o : Option StunRequestState) → OtherKey x o → hands_out_it x (transmit_answer o) ≡ false
  other_unsent (Some p) n = ne_eqb (key_of p) x n
  other_unsent None n = refl

  traced_transmits : (now : ℕ) → StateFormed rows w → refusal_of rows w (scans transmits now) m ≡ None → Traced rows x w (scans transmits now) m
  traced_transmits now formed e = record {
    after = rw (s.answers, s.requests) (go (lookup x w.requests) refl);
    unsent = λ n.
        let z = transmit_none t now w.requests x (not_found (lookup x w.requests) n) in
        rw s.answers (other_unsent (walk t now w.requests).out z.1);
    unended = λ n. refl;
    begun = λ h. apart (sym h);
    once = λ r f. refl;
  }
    where
      t : Transport
      t = w.agent.transport

      s : ScanSaid rows w transmits now m
      s = scan_said rows w transmits now m e

      go : (f : Option (ℕ × StunRequestState)) → lookup x w.requests ≡ f
          → request_of (lookup x (walk t now w.requests).after)
          ≡ cond (reaches x (transmit_answer (walk t now w.requests).out)) (mapped (request_of f) (λ r. record_after r (transmit_of t now r)))
          (request_of f)
      go (Some (i, r)) f =
          ap request_of (scanned_found t now w.requests x i r formed.requests.order f)
          ∙ scan_mapped t now (walk t now w.requests).out r (found_at x i r w.requests f).key_is
      go None f =
          ap request_of (transmit_none t now w.requests x f).0
          ∙ none_mapped (reaches x (transmit_answer (walk t now w.requests).out)) (λ r. record_after r (transmit_of t now r))

  -- ---- `poll`

  module _ (t : Transport) (now : ℕ) (l : List StunRequestState) where
    ended_after : Ascending (keys_of l) → (how : End) (i : ℕ) (id : TransactionId) (a : StunRequestPollRet) → Ended t now l i id a
        → request_of (lookup x (changed t (removes i) l)) ≡ on_some (cond (eqb (key id) x) (Some how) None) (request_of (lookup x l)) (λ h. None)
    ended_after order how i id a s = go (eqb (key id) x) refl
      where
        go : (b : Bool) → eqb (key id) x ≡ b
            → request_of (lookup x (changed t (removes i) l)) ≡ on_some (cond b (Some how) None) (request_of (lookup x l)) (λ h. None)
        go true b =
            let z : key_of s.request ≡ x = ap key s.id_is ∙ eqb-true (key id) x b in
            ap (λ (k : ℕ). request_of (lookup k (changed t (removes i) l))) (sym z) ∙ ap request_of (lookup_removed i s.request l order s.placed)
        go false b = ended_other x t now l i id a (eqb-false (key id) x b) s

    poll_after : Ascending (keys_of l) → (o : Polled) → Says t now (now + hour) l o
        → request_of (lookup x (changed t (reported o) l)) ≡ on_some (report_end x (poll_answer o)) (request_of (lookup x l)) (λ h. None)
    poll_after order (TimedOut i id) s = ended_after order by_timeout i id poll-ret.TimedOut s
    poll_after order (Cancelled i id) s = ended_after order by_cancel i id poll-ret.Cancelled s
    poll_after order (WaitUntil clock) s = refl

    poll_unended : lookup x l ≡ None → (o : Polled) → Says t now (now + hour) l o → report_end x (poll_answer o) ≡ None
    poll_unended e (TimedOut i id) s = rw (ne_eqb (key id) x (poll_none t now l x i id poll-ret.TimedOut e s))
    poll_unended e (Cancelled i id) s = rw (ne_eqb (key id) x (poll_none t now l x i id poll-ret.Cancelled e s))
    poll_unended e (WaitUntil clock) s = refl

  traced_reports : (now : ℕ) → StateFormed rows w → refusal_of rows w (scans reports now) m ≡ None → Traced rows x w (scans reports now) m
  traced_reports now formed e =
      let s = scan_said rows w reports now m e in
      let t = w.agent.transport in
      let o = poll_all t now w.requests in
      let p = poll_says t now w.requests in
      record {
        after = rw (s.answers, s.requests) (poll_after t now w.requests formed.requests.order o p);
        unsent = λ n. handed_passed (scans reports now) e;
        unended = λ n. rw s.answers (poll_unended t now w.requests (not_found (lookup x w.requests) n) o p);
        begun = λ h. apart (sym h);
        once = λ r f. refl;
      }

  -- ---- a call with an identifier

  wish_after : (t : Transport) (l : List StunRequestState) (wish : Wish) (f : Option (ℕ × StunRequestState)) → lookup x l ≡ f
      → request_of (lookup x (changed t (on_found f keeps (wished wish)) l)) ≡ mapped (request_of f) (wished_of wish)
  wish_after t l wish None e = ap request_of e
  wish_after t l wish (Some (i, r)) e = go wish
    where
      is : key_of r ≡ x
      is = (found_at x i r l e).key_is

      go : (wish : Wish) → request_of (lookup x (changed t (wished wish i r) l)) ≡ Some (wished_of wish r)
      go silence = ap request_of (lookup_set x i r (silenced r) l e (ap key (same_silenced r).id ∙ is))
      go cancel = ap request_of (lookup_set x i r (cancelled r) l e (ap key (same_cancelled r).id ∙ is))
      go (configure rto) = ap request_of (lookup_set x i r (configured rto r) l e (ap key (same_configured r rto).id ∙ is))
      go query = ap request_of e

  traced_names : (id : TransactionId) (wish : Wish) → StateFormed rows w → refusal_of rows w (names id wish) m ≡ None → Traced rows x w (names id wish) m
  traced_names id wish formed e = record {
    after = rw (answer_number rows w m (names id wish) ∙ e) (go (eqb (key id) x) refl);
    unsent = λ n. handed_passed (names id wish) e;
    unended = λ n. refl;
    begun = λ h. apart (sym h);
    once = λ r f. refl;
  }
    where
      go : (b : Bool) → eqb (key id) x ≡ b
          → request_of (lookup x (says_of rows w (names id wish) m).world.requests)
          ≡ cond b (mapped (request_of (lookup x w.requests)) (wished_of wish)) (request_of (lookup x w.requests))
      go true b =
          rw ((done rows w (names id wish) m e).requests, change_names rows w m id wish, eqb-true (key id) x b)
          (wish_after w.agent.transport w.requests wish (lookup x w.requests) refl)
      go false b = (passed_spares rows x w formed (names id wish) m refl e (rw (b, and-false))).kept

  -- ---- the calls that touch no request

  traced_passed : (k : Kind) → refusal_of rows w k m ≡ None → StateFormed rows w → Traced rows x w k m
  traced_passed (carries (submits to now)) e formed = traced_submits to now formed e
  traced_passed (carries (sends to)) e formed = record {
    after = (passed_spares rows x w formed (carries (sends to)) m refl e refl).kept;
    unsent = λ n. handed_passed (carries (sends to)) e;
    unended = λ n. refl;
    begun = λ h. apart (sym h);
    once = λ r f. refl;
  }
  traced_passed (carries (receives from clock)) e formed = traced_receives from clock formed e
  traced_passed (scans transmits now) e formed = traced_transmits now formed e
  traced_passed (scans reports now) e formed = traced_reports now formed e
  traced_passed (names id wish) e formed = traced_names id wish formed e
  traced_passed (meets a y) e formed = record {
    after = (passed_spares rows x w formed (meets a y) m refl e refl).kept;
    unsent = λ n. handed_passed (meets a y) e;
    unended = λ n. refl;
    begun = λ h. apart (sym h);
    once = λ r f. refl;
  }
  traced_passed (counts f) e formed = record {
    after = (passed_spares rows x w formed (counts f) m refl e refl).kept;
    unsent = λ n. handed_passed (counts f) e;
    unended = λ n. refl;
    begun = λ h. apart (sym h);
    once = λ r f. refl;
  }

  -- ---- a refused call

  same_either : (p : Option Message) (o : Option StunRequestState) → o ≡ on_some p o (λ y. o)
  same_either (Some y) o = refl
  same_either None o = refl

  refused_followed : (q : Refusal) (k : Kind) (o : Option StunRequestState)
      → o ≡ followed_by w.agent.transport w.agent.rto x k m (answer.Refused q) o
  refused_followed q (carries (submits to now)) o = same_either (message_of m) o
  refused_followed q (carries (sends to)) o = refl
  refused_followed q (carries (receives from clock)) o = refl
  refused_followed q (scans transmits now) o = refl
  refused_followed q (scans reports now) o = refl
  refused_followed q (names id wish) o = refl
  refused_followed q (meets a y) o = refl
  refused_followed q (counts f) o = refl

  pub refused_does : (q : Refusal) (k : Kind) → (submits_by x k (answer.Refused q) ≡ false) × (end_by x k m (answer.Refused q) ≡ None)
  refused_does q (carries (submits to now)) = (refl, refl)
  refused_does q (carries (sends to)) = (refl, refl)
  refused_does q (carries (receives from clock)) = (refl, refl)
  refused_does q (scans transmits now) = (refl, refl)
  refused_does q (scans reports now) = (refl, refl)
  refused_does q (names id wish) = (refl, refl)
  refused_does q (meets a y) = (refl, refl)
  refused_does q (counts f) = (refl, refl)

  pub traced : (k : Kind) → Traced rows x w k m
  traced k = go (refusal_of rows w k m) refl
    where
      go : (o : Option Refusal) → refusal_of rows w k m ≡ o → Traced rows x w k m
      go None e = traced_passed k e (passed_formed rows w k m e)
      go (Some q) e =
          let s = refused_same rows w k m q e in
          record {
            after = rw s (refused_followed q k (request_of (lookup x w.requests)));
            unsent = λ z. rw s (sym (refused_does q k).0);
            unended = λ z. rw s (refused_does q k).1;
            begun = λ h. apart (sym (rw s at h) ∙ (refused_does q k).0);
            once = λ r z. rw s (refused_does q k).0;
          }

  -- ---- only two calls hand it out

  refused_handed : (q : Refusal) (k : Kind) → hands_out_it x (answer.Refused q) ≡ handed_by x k (answer.Refused q)
  refused_handed q (carries (submits to now)) = refl
  refused_handed q (carries (sends to)) = refl
  refused_handed q (carries (receives from clock)) = refl
  refused_handed q (scans transmits now) = refl
  refused_handed q (scans reports now) = refl
  refused_handed q (names id wish) = refl
  refused_handed q (meets a y) = refl
  refused_handed q (counts f) = refl

  pub handed : (k : Kind) → hands_out_it x (says_of rows w k m).answer ≡ handed_by x k (says_of rows w k m).answer
  handed k = go (refusal_of rows w k m) refl
    where
      go : (o : Option Refusal) → refusal_of rows w k m ≡ o → hands_out_it x (says_of rows w k m).answer ≡ handed_by x k (says_of rows w k m).answer
      go None e = handed_passed k e
      go (Some q) e = rw (refused_same rows w k m q e) (refused_handed q k)

-- ---- a run

pub followed_at : (rows x : ℕ) (tr : Transport) (rto : RequestRto) (w : World) → w.agent.transport ≡ tr → w.agent.rto ≡ rto → (c : Turn)
    → request_of (lookup x (said rows w c).world.requests) ≡ followed tr rto x (exchange rows w c) (request_of (lookup x w.requests))
followed_at rows x tr rto w t s c =
    let e = exchange rows w c in
    let o = request_of (lookup x w.requests) in
    (traced rows x w c.bytes (kind_in c)).after ∙ ap (λ (u : Transport). followed u w.agent.rto x e o) t
    ∙ ap (λ (u : RequestRto). followed tr u x e o) s

pub follows : (rows x : ℕ) (tr : Transport) (rto : RequestRto) (ts : List Turn) (w : World) → w.agent.transport ≡ tr → w.agent.rto ≡ rto
    → request_of (lookup x (run rows w ts).requests) ≡ followed_through tr rto x (request_of (lookup x w.requests)) (history rows w ts)
unfolding history
follows rows x tr rto [] w t s = refl
follows rows x tr rto (c ∷ ts) w t s =
    let a = says_agent rows w (kind_in c) c.bytes in
    follows rows x tr rto ts (said rows w c).world (a.transport ∙ t) (a.rto ∙ s)
    ∙ ap (λ (o : Option StunRequestState). followed_through tr rto x o (history rows (said rows w c).world ts)) (followed_at rows x tr rto w t s c)

pub follows_fresh : (rows x : ℕ) (s : Start) (ts : List Turn)
    → request_of (lookup x (run rows (begins s) ts).requests) ≡ followed_through s.transport s.rto x None (history rows (begins s) ts)
follows_fresh rows x s ts = follows rows x s.transport s.rto ts (begins s) refl refl
