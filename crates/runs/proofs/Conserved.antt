-- The conservation law: requests sent equal responses received, timed out, cancelled and still in the table.
--     balanced        over the calls and answers of any run from a fresh agent
--     conserved       of the record, below the stop, with the answer of the query for the outstanding count
use Rattle.model.specs.declared.Refusal.{Refusal}
use Rattle.model.specs.declared.Refusal.TheVariants.{WrongClass}
use Rattle.std.specs.Prelude.{None, Some, Option}
use Rattle.message.specs.declared.Message.{Message}
use Prim.Native.Nat.{ℕ, ◌+◌}
use mathlib.Core.Path.{◌≡◌, refl, sym, ap, ◌∙◌}
use mathlib.Core.Bool.{Bool, true, false, cond}
use mathlib.Core.List.{List, [], ◌∷◌}
use native.Mathlib.Omega.{arith}
use lib.ListN.{length, length-set}
use Rattle.rows.proofs.Lists.{length_insert_at, length_remove_at}
use Rattle.address.specs.declared.Address.{Address}
use Rattle.message.specs.Head.{key}
use Rattle.message.specs.Attributes.{message_of}
use Rattle.waits.specs.declared.Transport.{Transport}
use Rattle.request.specs.Request as one
use Rattle.request.specs.Request.{silenced, configured}
use Rattle.request.specs.declared.StunRequestState.{StunRequestState}
use Rattle.requests.specs.Search.{key_of, lookup, place_of}
use Rattle.requests.specs.Scan.{hour, poll_all}
use Rattle.requests.specs.declared.Polled.{Polled}
use Rattle.requests.specs.declared.Polled.TheVariants.{TimedOut, Cancelled, WaitUntil}
use Rattle.requests.proofs.Search.{found_at}
use Rattle.requests.proofs.Transmits.{walk_length}
use Rattle.requests.proofs.Polls.{Says, poll_says}
use Rattle.stats.specs.Query.{outstanding_of, outstanding_count}
use Rattle.stats.proofs.Query.{not_below_zero}
use Rattle.model.specs.World.{World}
use Rattle.model.specs.Calls.{submits, sends, receives, transmits, reports, Wish, silence, cancel, configure, query, unsettled, Kind, carries, scans, names, meets, counts, on_some}
use Rattle.model.specs.Accepts.{is_response, accepts}
use Rattle.model.specs.Refusals.{is_request, refusal_of}
use Rattle.model.specs.Effects.{on_found, keeps, changed, taken, answered, reported, wished, yes_or_no, poll_answer}
use Rattle.model.specs.Says.{says_of}
use Rattle.model.specs.Runs.{Turn, with, run}
use Rattle.model.specs.declared.Call.TheVariants as call
use Rattle.model.specs.declared.Answer.TheVariants as answer
use Rattle.model.proofs.Refused.{passed_exactly, past_state_lem, refused_same}
use Rattle.model.proofs.State.{state_exactly}
use Rattle.model.proofs.Classes.{passed_formed, past_counts, done, change_sends, change_receives, change_transmits, change_reports, change_names, change_meets, change_counts, answer_sends, answer_receives, answer_reports, answer_counts}
use Rattle.model.proofs.Kept.{run_formed, run_agent}
use Rattle.model.proofs.Received.{response_found}
use Rattle.model.proofs.Store.{request_accepted}
use Rattle.runs.specs.Run.{kind_in, said}
use Rattle.runs.specs.Demand.{Start, begins, Fit}
use Rattle.runs.specs.Counts.{Exchange, seen, history, requests_sent, responses_received, timed_out, cancelled, total, NoReset}
use Rattle.runs.specs.Conserved.{Balanced, BelowStop, Conserved}
use Rattle.runs.proofs.Demand.{fit_formed}
use Rattle.runs.proofs.Counts.{Amounts, refused_tallied, counters_are}

-- The requests that a call settles, and what a call has to keep, where the list of requests was l and is l'.
abbrev settles : Exchange → ℕ
settles e = responses_received e + timed_out e + cancelled e

abbrev Keeps : Exchange → List StunRequestState → List StunRequestState → Type 0
Keeps e l l' = requests_sent e + length l ≡ settles e + length l'

module _ (from : Address) (clock : Option ℕ) (m : List ℕ) (t : Transport) (l : List StunRequestState) where
  received_keeps : (p : Option Message) → message_of m ≡ p
      → Keeps (seen (carries (receives from clock)) m (on_some p answer.No (λ x. yes_or_no (accepts l from x)))) l
      (changed t (on_some p keeps (answered l from)) l)
  received_keeps None e = refl
  received_keeps (Some x) e = go (accepts l from x) refl (is_response x.class) refl
    where
      go : (a : Bool) → accepts l from x ≡ a → (b : Bool) → is_response x.class ≡ b
          → Keeps (seen (carries (receives from clock)) m (yes_or_no a)) l
          (changed t (cond a (cond b (taken (lookup (key x.transaction_id) l)) keeps) keeps) l)
      go false y b r = refl
      go true y false r = rw (e, r)
      go true y true r =
          let f = response_found l from x y r in
          rw (e, r, f.2) (omega (arith, length_remove_at l f.0 (found_at (key x.transaction_id) f.0 f.1 l f.2).below))

module _ (now : ℕ) (m : List ℕ) (t : Transport) (l : List StunRequestState) where
  poll_keeps : (o : Polled) → Says t now (now + hour) l o → Keeps (seen (scans reports now) m (poll_answer o)) l (changed t (reported o) l)
  poll_keeps (TimedOut i id) s = omega (arith, length_remove_at l i s.below)
  poll_keeps (Cancelled i id) s = omega (arith, length_remove_at l i s.below)
  poll_keeps (WaitUntil clock) s = refl

wish_length : (t : Transport) (l : List StunRequestState) (wish : Wish) (f : Option (ℕ × StunRequestState)) → length (changed t (on_found f keeps (wished wish)) l) ≡ length l
wish_length t l wish None = refl
wish_length t l silence (Some (i, r)) = length-set l i (silenced r)
wish_length t l cancel (Some (i, r)) = length-set l i (one.cancelled r)
wish_length t l (configure rto) (Some (i, r)) = length-set l i (configured rto r)
wish_length t l query (Some (i, r)) = refl

module _ (rows : ℕ) (w : World) (m : List ℕ) where
  passed_keeps : (k : Kind) → refusal_of rows w k m ≡ None
      → Keeps (seen k m (says_of rows w k m).answer) w.requests (says_of rows w k m).world.requests
  passed_keeps (carries (submits to now)) e =
      let a = request_accepted rows w to now m (passed_formed rows w (carries (submits to now)) m e) e in
      rw (a.answers, a.reads, a.class_is, a.requests)
      (omega (arith, length_insert_at w.requests (place_of (key_of a.request) w.requests) a.request))
  passed_keeps (carries (sends to)) e =
      let d = done rows w (carries (sends to)) m e in
      rw (d.requests, d.answer, answer_sends rows w m to, change_sends rows w m to)
      (go (message_of m) ((passed_exactly rows w (carries (sends to)) m).0 e WrongClass))
    where
      go : (p : Option Message) → on_some p false (λ x. is_request x.class) ≡ false
          → cond (on_some p false (λ x. is_request x.class)) 1 0 + length w.requests ≡ 0 + length w.requests
      go p f = rw f
  passed_keeps (carries (receives from clock)) e =
      let d = done rows w (carries (receives from clock)) m e in
      rw (d.requests, d.answer, answer_receives rows w m from clock, change_receives rows w m from clock)
      (received_keeps from clock m w.agent.transport w.requests (message_of m) refl)
  passed_keeps (scans transmits now) e =
      rw ((done rows w (scans transmits now) m e).requests, change_transmits rows w m now)
      (omega (arith, walk_length w.agent.transport now w.requests))
  passed_keeps (scans reports now) e =
      let d = done rows w (scans reports now) m e in
      let t = w.agent.transport in
      rw (d.requests, d.answer, answer_reports rows w m now, change_reports rows w m now)
      (poll_keeps now m t w.requests (poll_all t now w.requests) (poll_says t now w.requests))
  passed_keeps (names id wish) e =
      let d = done rows w (names id wish) m e in
      rw (d.requests, change_names rows w m id wish, wish_length w.agent.transport w.requests wish (lookup (key id) w.requests))
  passed_keeps (meets a x) e = rw ((done rows w (meets a x) m e).requests, change_meets rows w m a x)
  passed_keeps (counts f) e = rw ((done rows w (counts f) m e).requests, change_counts rows w m f)

  refused_keeps : (q : Refusal) (k : Kind) → Keeps (seen k m (answer.Refused q)) w.requests w.requests
  refused_keeps n k =
      let z = refused_tallied n m k in
      rw (
        ← ap (λ (a : Amounts). a.requests_sent) z,
        ← ap (λ (a : Amounts). a.responses_received) z,
        ← ap (λ (a : Amounts). a.timed_out) z,
        ← ap (λ (a : Amounts). a.cancelled) z,
      )

  keeps_call : (k : Kind) → Keeps (seen k m (says_of rows w k m).answer) w.requests (says_of rows w k m).world.requests
  keeps_call k = go (refusal_of rows w k m) refl
    where
      go : (o : Option Refusal) → refusal_of rows w k m ≡ o → Keeps (seen k m (says_of rows w k m).answer) w.requests (says_of rows w k m).world.requests
      go None e = passed_keeps k e
      go (Some q) e = rw (refused_same rows w k m q e) (refused_keeps q k)

-- ---- a run

balanced_from : (rows : ℕ) (ts : List Turn) (w : World)
    → total requests_sent (history rows w ts) + length w.requests
    ≡ total responses_received (history rows w ts) + total timed_out (history rows w ts) + total cancelled (history rows w ts)
    + length (run rows w ts).requests
unfolding history
balanced_from rows [] w = refl
balanced_from rows (t ∷ ts) w =
    let one = keeps_call rows w t.bytes (kind_in t) in
    let rest = balanced_from rows ts (said rows w t).world in
    omega arith

pub balanced : (rows : ℕ) (s : Start) (ts : List Turn) → Balanced (history rows (begins s) ts) (run rows (begins s) ts)
balanced rows s ts = omega (arith, balanced_from rows ts (begins s))

-- ---- the record

module _ (rows : ℕ) (s : Start) (ts : List Turn) (on : s.stats ≡ true) (kept : NoReset ts) (below : BelowStop (run rows (begins s) ts).stats) where
  pub conserved : Conserved (run rows (begins s) ts)
  conserved =
      let c = counters_are rows s ts on kept in
      omega (arith, balanced rows s ts, c.requests_sent_lem, c.responses_received_lem, c.transactions_timed_out, c.transactions_cancelled, below)

  -- The query isn't refused, and answers the number in the table.
  pub outstanding_answered : (m : List ℕ) → Fit rows s
      → (said rows (run rows (begins s) ts) (with call.OutstandingRequests m)).answer ≡ answer.Outstanding (length (run rows (begins s) ts).requests)
  outstanding_answered m fit =
      let w = run rows (begins s) ts in
      let o : outstanding_of w.stats ≡ Some (length w.requests) =
      sym (not_below_zero w.stats (length w.requests) (omega (arith, conserved))) in
      let a = run_agent rows ts (begins s) in
      let passes : refusal_of rows w (counts unsettled) m ≡ None =
      past_state_lem rows w (counts unsettled) m ((state_exactly rows w).1 (run_formed rows ts (begins s) (fit_formed rows s fit)))
      ∙ past_counts rows w m unsettled ∙ rw (a.stats ∙ on, o) in
      (done rows w (counts unsettled) m passes).answer ∙ answer_counts rows w m unsettled
      ∙ ap (λ (n : Option ℕ). answer.Outstanding (outstanding_count n)) o
