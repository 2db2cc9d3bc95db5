-- What a call does to the request x that it doesn't handle: nothing, unless it is a transmission or a poll; and nothing at all if x isn't
-- outstanding.
--     Spared                        x's record stays, and the call neither sends x nor reports it
--     passed_spares, others_spare   a call that is neither a transmission nor a poll
--     absent_run                    any run, where x isn't outstanding
--     Silent                        such a run neither sends x nor reports it, nor is x outstanding after it
--     ended_other                   a poll that reports another request
--     scan_said                     a transmission or a poll that isn't refused
use Rattle.model.specs.declared.Refusal.{Refusal}
use Rattle.std.specs.Prelude.{Option, None, Some}
use Rattle.message.specs.declared.Message.{Message}
use Prim.Native.Nat.{ℕ, ◌+◌}
use mathlib.Core.Path.{◌≡◌, refl, sym, ap, ◌∙◌}
use mathlib.Core.Bool.{Bool, true, false, cond, ◌&&◌}
use mathlib.Core.List.{List, [], ◌∷◌}
use lib.Dec.{eqb}
use lib.ListN.{length, set}
use borrow.Author.Tests.{eqb-false, ne_eqb}
use Rattle.address.specs.declared.Address.{Address}
use Rattle.message.specs.Head.{key}
use Rattle.message.specs.Attributes.{message_of}
use Rattle.message.specs.declared.TransactionId.{TransactionId}
use Rattle.waits.specs.declared.Transport.{Transport}
use Rattle.request.specs.Request.{silenced, cancelled, configured}
use Rattle.request.specs.Kept.{SameRequest}
use Rattle.request.specs.declared.StunRequestState.{StunRequestState}
use Rattle.request.specs.declared.StunRequestPollRet.{StunRequestPollRet}
use Rattle.request.specs.declared.StunRequestPollRet.TheVariants as poll-ret
use Rattle.request.proofs.Kept.{submission, same_silenced, same_cancelled, same_configured}
use Rattle.requests.specs.Search.{key_of, lookup, request_of}
use Rattle.requests.specs.Scan.{hour, walk, poll_all}
use Rattle.requests.specs.declared.Polled.{Polled}
use Rattle.requests.specs.declared.Polled.TheVariants.{TimedOut, Cancelled, WaitUntil}
use Rattle.requests.proofs.Lists.{apart, none_some}
use Rattle.requests.proofs.Search.{found_at, lookup_added_other, lookup_removed_other, lookup_taken_other, lookup_changed_other}
use Rattle.requests.proofs.Transmits.{OtherKey, transmit_none}
use Rattle.requests.proofs.Polls.{Ended, Says, poll_says, poll_none}
use Rattle.model.specs.World.{World, StateFormed}
use Rattle.model.specs.Calls.{submits, sends as sends_other, receives, Scan, transmits, reports, Wish, silence, cancel, configure, query, Kind, carries, scans, names, meets, counts, on_some}
use Rattle.model.specs.Accepts.{is_response, accepts}
use Rattle.model.specs.Refusals.{refusal_of}
use Rattle.model.specs.Effects.{on_found, keeps, removes, changed, taken, answered, reported, wished, transmit_answer, poll_answer, scan_answer, scan_change}
use Rattle.model.specs.Says.{says_of}
use Rattle.model.specs.Runs.{Turn, run}
use Rattle.model.specs.declared.Answer.TheVariants as answer
use Rattle.model.proofs.Refused.{refused_same}
use Rattle.model.proofs.Classes.{done, change_sends, change_receives, change_transmits, change_reports, change_names, change_meets, change_counts, answer_transmits, answer_reports}
use Rattle.model.proofs.Kept.{says_formed}
use Rattle.model.proofs.Store.{request_accepted}
use Rattle.runs.specs.Run.{kind_in, said, hands_out_it, times_out_it, noted, sends_by, timeouts_by, sends, timeouts, answers_to, alters, handles, handled_by}
use Rattle.runs.specs.Round.{is_scan}
use Rattle.runs.specs.Demand.{LeftAlone}

pub record Spared (rows x : ℕ) (w : World) (k : Kind) (b : List ℕ) : Type 0 where
  pub kept : request_of (lookup x (says_of rows w k b).world.requests) ≡ request_of (lookup x w.requests)
  pub unsent : sends_by x k (says_of rows w k b).answer ≡ []
  pub untimed : timeouts_by x k (says_of rows w k b).answer ≡ []

-- a refused call sends and reports nothing
refused_unsent : (x : ℕ) (q : Refusal) (k : Kind) → sends_by x k (answer.Refused q) ≡ []
refused_unsent x q (carries (submits to now)) = refl
refused_unsent x q (carries (sends_other to)) = refl
refused_unsent x q (carries (receives from clock)) = refl
refused_unsent x q (scans transmits now) = refl
refused_unsent x q (scans reports now) = refl
refused_unsent x q (names id wish) = refl
refused_unsent x q (meets a m) = refl
refused_unsent x q (counts f) = refl

refused_untimed : (x : ℕ) (q : Refusal) (k : Kind) → timeouts_by x k (answer.Refused q) ≡ []
refused_untimed x q (carries p) = refl
refused_untimed x q (scans transmits now) = refl
refused_untimed x q (scans reports now) = refl
refused_untimed x q (names id wish) = refl
refused_untimed x q (meets a m) = refl
refused_untimed x q (counts f) = refl

refused_spares : (rows x : ℕ) (w : World) (k : Kind) (b : List ℕ) (q : Refusal) → refusal_of rows w k b ≡ Some q → Spared rows x w k b
refused_spares rows x w k b q e = record {
  kept = rw (refused_same rows w k b q e);
  unsent = rw (refused_same rows w k b q e) (refused_unsent x q k);
  untimed = rw (refused_same rows w k b q e) (refused_untimed x q k);
}

-- a response to another request, or one that isn't accepted
received_keeps : (x : ℕ) (t : Transport) (l : List StunRequestState) (from : Address) (p : Option Message) → on_some p false (answers_to x l from) ≡ false
    → request_of (lookup x (changed t (on_some p keeps (answered l from)) l)) ≡ request_of (lookup x l)
received_keeps x t l from None h = refl
received_keeps x t l from (Some y) h = go (accepts l from y) (is_response y.class) (lookup (key y.transaction_id) l) refl h
  where
    go : (a r : Bool) (f : Option (ℕ × StunRequestState)) → lookup (key y.transaction_id) l ≡ f → (a && (r && eqb (key y.transaction_id) x)) ≡ false
        → request_of (lookup x (changed t (cond a (cond r (taken f) keeps) keeps) l)) ≡ request_of (lookup x l)
    go false r f e h = refl
    go true false f e h = refl
    go true true None e h = refl
    go true true (Some (i, q)) e h = lookup_taken_other (key y.transaction_id) i q l e x (λ z. eqb-false (key y.transaction_id) x h (sym z))

-- a wish for another request
wish_keeps : (x : ℕ) (t : Transport) (l : List StunRequestState) (id : TransactionId) (wish : Wish) (f : Option (ℕ × StunRequestState)) → lookup (key id) l ≡ f
    → (alters wish && eqb (key id) x) ≡ false
    → request_of (lookup x (changed t (on_found f keeps (wished wish)) l)) ≡ request_of (lookup x l)
wish_keeps x t l id wish None e h = refl
wish_keeps x t l id wish (Some (i, r)) e h = go wish h
  where
    other : (q : StunRequestState) → SameRequest r q → eqb (key id) x ≡ false → lookup x (set l i q) ≡ lookup x l
    other q s h =
        lookup_changed_other (key id) i r l e q x (ap key s.id ∙ (found_at (key id) i r l e).key_is) (λ z. eqb-false (key id) x h (sym z))

    go : (wish : Wish) → (alters wish && eqb (key id) x) ≡ false → request_of (lookup x (changed t (wished wish i r) l)) ≡ request_of (lookup x l)
    go silence h = ap request_of (other (silenced r) (same_silenced r) h)
    go cancel h = ap request_of (other (cancelled r) (same_cancelled r) h)
    go (configure rto) h = ap request_of (other (configured rto r) (same_configured r rto) h)
    go query h = refl

module _ (rows x : ℕ) (w : World) (formed : StateFormed rows w) where
  pub passed_spares : (k : Kind) (b : List ℕ) → is_scan k ≡ false → refusal_of rows w k b ≡ None → handles x w k b ≡ false → Spared rows x w k b
  passed_spares (carries (submits to now)) b n e h =
      let a = request_accepted rows w to now b formed e in
      let y = a.message in
      let other : eqb (key y.transaction_id) x ≡ false = rw a.reads at h in
      let s = submission now y.transaction_id y.integrity a.row (length b) to w.agent.rto in
      let is : key_of a.request ≡ key y.transaction_id = ap key_of a.request_is ∙ ap key s.id_is in
      record {
        kept = rw a.requests (lookup_added_other x a.request w.requests (λ z. eqb-false (key y.transaction_id) x other (sym is ∙ z)));
        unsent = rw (a.answers, other);
        untimed = refl;
      }
  passed_spares (carries (sends_other to)) b n e h =
      record { kept = rw ((done rows w (carries (sends_other to)) b e).requests, change_sends rows w b to); unsent = refl; untimed = refl }
  passed_spares (carries (receives from clock)) b n e h = record {
    kept = rw ((done rows w (carries (receives from clock)) b e).requests, change_receives rows w b from clock) (received_keeps x w.agent.transport w.requests from (message_of b) h);
    unsent = refl;
    untimed = refl;
  }
  passed_spares (scans s now) b n e h = apart n
  passed_spares (names id wish) b n e h = record {
    kept = rw ((done rows w (names id wish) b e).requests, change_names rows w b id wish) (wish_keeps x w.agent.transport w.requests id wish (lookup (key id) w.requests) refl h);
    unsent = refl;
    untimed = refl;
  }
  passed_spares (meets a m) b n e h = record { kept = rw ((done rows w (meets a m) b e).requests, change_meets rows w b a m); unsent = refl; untimed = refl }
  passed_spares (counts f) b n e h = record { kept = rw ((done rows w (counts f) b e).requests, change_counts rows w b f); unsent = refl; untimed = refl }

  pub others_spare : (t : Turn) → is_scan (kind_in t) ≡ false → handled_by rows x w t ≡ false → Spared rows x w (kind_in t) t.bytes
  others_spare t n h = go (refusal_of rows w (kind_in t) t.bytes) refl
    where
      go : (o : Option Refusal) → refusal_of rows w (kind_in t) t.bytes ≡ o → Spared rows x w (kind_in t) t.bytes
      go None e = passed_spares (kind_in t) t.bytes n e (rw e at h)
      go (Some q) e = refused_spares rows x w (kind_in t) t.bytes q e

-- a transmission or a poll that isn't refused: its answer, and the requests after it
pub record ScanSaid (rows : ℕ) (w : World) (s : Scan) (now : ℕ) (b : List ℕ) : Type 0 where
  pub answers : (says_of rows w (scans s now) b).answer ≡ scan_answer w s now
  pub requests : (says_of rows w (scans s now) b).world.requests ≡ changed w.agent.transport (scan_change w s now) w.requests

pub scan_said : (rows : ℕ) (w : World) (s : Scan) (now : ℕ) (b : List ℕ) → refusal_of rows w (scans s now) b ≡ None → ScanSaid rows w s now b
scan_said rows w transmits now b e =
    let d = done rows w (scans transmits now) b e in
    record { answers = d.answer ∙ answer_transmits rows w b now; requests = rw (← change_transmits rows w b now) d.requests }
scan_said rows w reports now b e =
    let d = done rows w (scans reports now) b e in
    record { answers = d.answer ∙ answer_reports rows w b now; requests = rw (← change_reports rows w b now) d.requests }

-- ---- x isn't outstanding

pub not_found : (f : Option (ℕ × StunRequestState)) → request_of f ≡ None → f ≡ None
not_found (Some (i, r)) e = none_some (sym e)
not_found None e = refl

quiet_of : (x now : ℕ) (o : Option StunRequestState) → OtherKey x o → noted (hands_out_it x (transmit_answer o)) now ≡ []
quiet_of x now (Some p) n = rw (ne_eqb (key_of p) x n)
quiet_of x now None n = refl

-- the request that ended is another one
pub ended_other : (x : ℕ) (t : Transport) (now : ℕ) (l : List StunRequestState) (i : ℕ) (id : TransactionId) (a : StunRequestPollRet)
    → (key id ≡ x → ⊥) → Ended t now l i id a → request_of (lookup x (changed t (removes i) l)) ≡ request_of (lookup x l)
ended_other x t now l i id a n s = lookup_removed_other x i s.request l s.placed (λ z. n (ap key (sym s.id_is) ∙ z))

absent_poll : (x : ℕ) (t : Transport) (now : ℕ) (l : List StunRequestState) → lookup x l ≡ None → (o : Polled) → Says t now (now + hour) l o
    → (request_of (lookup x (changed t (reported o) l)) ≡ request_of (lookup x l)) × (noted (times_out_it x (poll_answer o)) now ≡ [])
absent_poll x t now l e (TimedOut i id) s =
    let n = poll_none t now l x i id poll-ret.TimedOut e s in
    (ended_other x t now l i id poll-ret.TimedOut n s, rw (ne_eqb (key id) x n))
absent_poll x t now l e (Cancelled i id) s = (ended_other x t now l i id poll-ret.Cancelled (poll_none t now l x i id poll-ret.Cancelled e s) s, refl)
absent_poll x t now l e (WaitUntil clock) s = (refl, refl)

module _ (rows x : ℕ) (w : World) (gone : request_of (lookup x w.requests) ≡ None) where
  absent_scan : (s : Scan) (now : ℕ) (b : List ℕ) → refusal_of rows w (scans s now) b ≡ None → Spared rows x w (scans s now) b
  absent_scan transmits now b e =
      let s = scan_said rows w transmits now b e in
      let z = transmit_none w.agent.transport now w.requests x (not_found (lookup x w.requests) gone) in
      record {
        kept = rw s.requests (ap request_of z.0 ∙ sym gone);
        unsent = rw s.answers (quiet_of x now (walk w.agent.transport now w.requests).out z.1);
        untimed = refl;
      }
  absent_scan reports now b e =
      let s = scan_said rows w reports now b e in
      let z = absent_poll x w.agent.transport now w.requests (not_found (lookup x w.requests) gone) (poll_all w.agent.transport now w.requests) (poll_says w.agent.transport now w.requests) in
      record { kept = rw s.requests z.0; unsent = refl; untimed = rw s.answers z.1 }

  absent_kind : StateFormed rows w → (t : Turn) → handled_by rows x w t ≡ false → (k : Kind) → kind_in t ≡ k → Spared rows x w (kind_in t) t.bytes
  absent_kind f t h (carries p) e = others_spare rows x w f t (rw e) h
  absent_kind f t h (scans s now) e = rw e (go (refusal_of rows w (scans s now) t.bytes) refl)
    where
      go : (o : Option Refusal) → refusal_of rows w (scans s now) t.bytes ≡ o → Spared rows x w (scans s now) t.bytes
      go None r = absent_scan s now t.bytes r
      go (Some q) r = refused_spares rows x w (scans s now) t.bytes q r
  absent_kind f t h (names id wish) e = others_spare rows x w f t (rw e) h
  absent_kind f t h (meets a m) e = others_spare rows x w f t (rw e) h
  absent_kind f t h (counts g) e = others_spare rows x w f t (rw e) h

pub record Silent (rows x : ℕ) (w : World) (ts : List Turn) : Type 0 where
  pub unsent : sends rows x w ts ≡ []
  pub untimed : timeouts rows x w ts ≡ []
  pub gone : request_of (lookup x (run rows w ts).requests) ≡ None

pub absent_run : (rows x : ℕ) (w : World) (ts : List Turn) → StateFormed rows w → LeftAlone rows x w ts → request_of (lookup x w.requests) ≡ None → Silent rows x w ts
unfolding sends timeouts
absent_run rows x w [] f h g = record { unsent = refl; untimed = refl; gone = g }
absent_run rows x w (t ∷ ts) f h g =
    let s = absent_kind rows x w g f t h.0 (kind_in t) refl in
    let z = absent_run rows x (said rows w t).world ts (says_formed rows w (kind_in t) t.bytes f) h.1 (s.kept ∙ g) in
    record { unsent = rw s.unsent z.unsent; untimed = rw s.untimed z.untimed; gone = z.gone }
