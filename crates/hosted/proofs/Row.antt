-- A request keeps the row and the length that were first handed out for it, and its message there, until its end.
--     row_kept     the theorem, of a session
use Rattle.std.proofs.lemmas.Option.{some_pair_parts}
use Rattle.std.specs.Prelude.{Some, None}
use Prim.Native.Nat.{ℕ}
use mathlib.Core.Path.{◌≡◌, refl, sym, ap, subst, ◌∙◌}
use mathlib.Core.Bool.{true}
use mathlib.Core.List.{List, [], ◌∷◌}
use lib.ListN.{length}
use borrow.Author.Tests.{eq-eqb, le-leb}
use Rattle.address.specs.declared.Address.{Address}
use Rattle.message.specs.Head.{key}
use Rattle.message.specs.declared.TransactionId.{TransactionId}
use Rattle.stats.specs.declared.StunAgentStats.{StunAgentStats}
use Rattle.request.specs.declared.StunRequestState.{StunRequestState}
use Rattle.request.proofs.Kept.{submission}
use Rattle.requests.specs.Search.{key_of, lookup, request_of, place_of}
use Rattle.requests.specs.Scan.{walk}
use Rattle.requests.proofs.Lists.{apart}
use Rattle.requests.proofs.Search.{placed_found}
use Rattle.requests.proofs.Transmits.{walk_sends, goes_same}
use Rattle.records.specs.Coding.{size}
use Rattle.model.specs.World.{World, StateFormed}
use Rattle.model.specs.Calls.{submits, sends, receives, transmits, reports, Kind, carries, scans, names, meets, counts}
use Rattle.model.specs.Refusals.{refusal_of}
use Rattle.model.specs.Says.{Said, refused_by, says_of}
use Rattle.model.specs.Parts.{transmission_of}
use Rattle.model.specs.Runs.{Turn, run}
use Rattle.model.specs.declared.StunAgentBuilder.{StunAgentBuilder}
use Rattle.model.specs.declared.Answer.TheVariants as answer
use Rattle.model.proofs.Answers.{answer_number, sends_out}
use Rattle.model.proofs.Kept.{says_formed}
use Rattle.model.proofs.Store.{request_accepted}
use Rattle.model.proofs.Parts.{transmission_kept}
use Rattle.runs.specs.Run.{kind_in, said, hands_out_it}
use Rattle.runs.specs.Demand.{Submission, submits as submission_of}
use Rattle.runs.specs.Counts.{exchange, history}
use Rattle.runs.specs.Ends.{submits_it, end_by, Unended}
use Rattle.runs.proofs.Spared.{scan_said}
use Rattle.runs.proofs.Present.{found_of}
use Rattle.runs.proofs.Followed.{stands_at, traced, handed_by, handed}
use Rattle.runs.proofs.Ends.{stays_call}
use Rattle.runs.proofs.Bytes.{passes, formed, is_x}
use Rattle.hosted.specs.Session.{Owned, world_in, sights, Submitted}
use Rattle.hosted.specs.Row.{RowKept}
use Rattle.hosted.proofs.Session.{call_as_model, seen_is}
use Rattle.hosted.proofs.Theorems.{called, taken, after_it}

-- The request x with that row, length, address and message.
record Rowed (rows x row len : ℕ) (to : Address) (m : List ℕ) (w : World) : Type 0 where
  state : StateFormed rows w
  place : ℕ
  request : StunRequestState
  stands : lookup x w.requests ≡ Some (place, request)
  row_is : request.row ≡ row
  len_is : request.len ≡ len
  address : request.to ≡ to
  part : transmission_of rows w row len ≡ m

-- ---- a call

module _ (rows x row len : ℕ) (to : Address) (m : List ℕ) (w : World) (h : Rowed rows x row len to m w) (b : List ℕ) where
  rowed_after : (k : Kind) → end_by x k b (says_of rows w k b).answer ≡ None → Rowed rows x row len to m (says_of rows w k b).world
  rowed_after k n =
      let q = stays_call rows x w k b h.request (ap request_of h.stands) n in
      let f = found_of (lookup x (says_of rows w k b).world.requests) q.1 in
      let p = transmission_kept rows w k b h.state x h.place f.0 h.request q.0 h.stands f.1 in
      let r : q.0.row ≡ row = p.same.row ∙ h.row_is in
      let l : q.0.len ≡ len = p.same.len ∙ h.len_is in
      record {
        state = says_formed rows w k b h.state;
        place = f.0;
        request = q.0;
        stands = f.1;
        row_is = r;
        len_is = l;
        address = p.same.to ∙ h.address;
        part = rw (r, l, h.row_is, h.len_is, h.part) at p.part;
      }

  -- a transmission of x is one of `poll_transmit`, of the request that stands
  module _ (id : TransactionId) (a : Address) (row' len' : ℕ) (is : key id ≡ x) where
    hit : (k : Kind) → (says_of rows w k b).answer ≡ answer.Send id a row' len' → handed_by x k (says_of rows w k b).answer ≡ true
    hit k e = sym (handed rows x w b k) ∙ ap (hands_out_it x) e ∙ eq-eqb (key id) x is

    sent_again : (now : ℕ) → (says_of rows w (scans transmits now) b).answer ≡ answer.Send id a row' len' → (a ≡ to) × (row' ≡ row) × (len' ≡ len)
    sent_again now e =
        let passed : refusal_of rows w (scans transmits now) b ≡ None = sym (answer_number rows w b (scans transmits now)) ∙ ap refused_by e in
        let s = scan_said rows w transmits now b passed in
        let t = w.agent.transport in
        let o = sends_out (walk t now w.requests).out id a row' len' (sym s.answers ∙ e) in
        let f = walk_sends t now w.requests o.0 o.1 in
        let g = goes_same t now f.request o.0 f.goes in
        let k : key_of f.request ≡ x = ap key (sym g.id ∙ o.2) ∙ is in
        let there : lookup x w.requests ≡ Some (f.place, f.request) =
        ap (λ (n : ℕ). lookup n w.requests) (sym k) ∙ placed_found f.place f.request w.requests h.state.requests.order f.placed in
        let u = (some_pair_parts _ _ _ _ (sym there ∙ h.stands)).1 in (
          sym o.3 ∙ g.to ∙ ap (λ (r : StunRequestState). r.to) u ∙ h.address,
          sym o.4 ∙ g.row ∙ ap (λ (r : StunRequestState). r.row) u ∙ h.row_is,
          sym o.5 ∙ g.len ∙ ap (λ (r : StunRequestState). r.len) u ∙ h.len_is,
        )

    handed_again : (k : Kind) → (says_of rows w k b).answer ≡ answer.Send id a row' len' → (a ≡ to) × (row' ≡ row) × (len' ≡ len)
    handed_again (carries (submits to' now)) e =
        apart (sym (hit (carries (submits to' now)) e) ∙ (traced rows x w b (carries (submits to' now))).once h.request (ap request_of h.stands))
    handed_again (carries (sends to')) e = apart (sym (hit (carries (sends to')) e))
    handed_again (carries (receives from clock)) e = apart (sym (hit (carries (receives from clock)) e))
    handed_again (scans transmits now) e = sent_again now e
    handed_again (scans reports now) e = apart (sym (hit (scans reports now) e))
    handed_again (names i wish) e = apart (sym (hit (names i wish) e))
    handed_again (meets c y) e = apart (sym (hit (meets c y) e))
    handed_again (counts f) e = apart (sym (hit (counts f) e))

-- ---- a run

rowed_run : (rows x row len : ℕ) (to : Address) (m : List ℕ) (ts : List Turn) (w : World)
    → Rowed rows x row len to m w → Unended x (history rows w ts) → Rowed rows x row len to m (run rows w ts)
unfolding history
rowed_run rows x row len to m [] w h u = h
rowed_run rows x row len to m (t ∷ ts) w h u =
    rowed_run rows x row len to m ts (said rows w t).world (rowed_after rows x row len to m w h t.bytes (kind_in t) u.0) u.2

-- ---- the acceptance

rowed_first : (rows x : ℕ) (w : World) (q : Submission) → submits_it x (exchange rows w (submission_of q)) ≡ true
    → (id : TransactionId) (to : Address) (row len : ℕ) → (said rows w (submission_of q)).answer ≡ answer.Send id to row len
    → Rowed rows x row len q.to q.bytes (said rows w (submission_of q)).world
rowed_first rows x w q taken id to row len e =
    let a = request_accepted rows w q.to q.now q.bytes (formed rows x w q taken) (passes rows x w q taken) in
    let y = a.message in
    let s = submission q.now y.transaction_id y.integrity a.row (length q.bytes) q.to w.agent.rto in
    let z : answer.Send y.transaction_id q.to a.row (length q.bytes) ≡ answer.Send id to row len = sym a.answers ∙ e in
    let r : a.row ≡ row = cc in
    let l : length q.bytes ≡ len = cc in
    record {
      state = says_formed rows w (carries (submits q.to q.now)) q.bytes (formed rows x w q taken);
      place = place_of (key y.transaction_id) w.requests;
      request = a.request;
      stands = stands_at rows x w q.to q.now q.bytes (said rows w (submission_of q)) a (is_x rows x w q taken a);
      row_is = ap (λ (p : StunRequestState). p.row) a.request_is ∙ s.row_is ∙ r;
      len_is = ap (λ (p : StunRequestState). p.len) a.request_is ∙ s.len_is ∙ l;
      address = ap (λ (p : StunRequestState). p.to) a.request_is ∙ s.to_is;
      part = rw (r, l) at a.bytes;
    }

-- ---- a session

module _ (x : ℕ) (b : StunAgentBuilder) (was : StunAgentStats) (o : Owned) (before : List Turn) (q : Submission) (later : List Turn)
    (s : Submitted x b was o before q later) where
  -- Until a call ends it: after each of the calls from its acceptance on, `later` being as many of them as one likes.
  pub row_kept : (id : TransactionId) (to : Address) (row len : ℕ) → s.answer ≡ answer.Send id to row len → Unended x (sights later s.replies)
      → RowKept x q row len s.last
  row_kept id to row len e u =
      let c = called x b was o before q later s in
      let after = after_it x b was o before q later s in
      let first : Rowed 32 x row len q.to q.bytes (world_in s.next) =
      subst (Rowed 32 x row len q.to q.bytes) (ap (λ (y : Said). y.world) (sym c))
      (rowed_first 32 x (world_in s.here) q (taken x b was o before q later s) id to row len (ap (λ (y : Said). y.answer) (sym c) ∙ e)) in
      let h : Rowed 32 x row len q.to q.bytes (world_in s.last) =
      subst (Rowed 32 x row len q.to q.bytes) (sym after.world_is)
      (rowed_run 32 x row len q.to q.bytes later (world_in s.next) first (subst (Unended x) (seen_is after) u)) in
      record {
        part = λ bytes d.
            d.says s.last.peers s.last.stats refl
            ∙ rw (le-leb size (length s.last.table) after.whole) h.part;
        handed_again = λ t id' to' row' len' o' k is.
            handed_again 32 x row len q.to q.bytes (world_in s.last) h t.bytes id' to' row' len' is (kind_in t)
            (ap (λ (y : Said). y.answer) (sym (call_as_model s.last t (answer.Send id' to' row' len') o' k after.whole)));
      }
