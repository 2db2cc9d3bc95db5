-- What is handed out for a request is the message that was submitted; and no two requests share a row.
--     passes, formed, is_x    a call that accepts the request x
--     delivered               from a request's acceptance to its end
--     rows_apart              two outstanding requests, in any world that a fresh agent comes to
use Rattle.std.proofs.lemmas.Option.{some_pair_parts}
use Rattle.model.specs.declared.Refusal.{Refusal}
use Rattle.std.specs.Prelude.{None, Some, Option, slice_get}
use Prim.Native.Nat.{ℕ}
use mathlib.Core.Path.{◌≡◌, refl, sym, ap, ◌∙◌}
use mathlib.Core.Bool.{Bool, true, false}
use mathlib.Core.List.{List, [], ◌∷◌}
use lib.ListN.{length}
use borrow.Author.Tests.{eqb-true, eq-eqb}
use Rattle.address.specs.declared.Address.{Address}
use Rattle.message.specs.Head.{key}
use Rattle.message.specs.declared.TransactionId.{TransactionId}
use Rattle.request.specs.declared.StunRequestState.{StunRequestState}
use Rattle.request.proofs.Kept.{submission}
use Rattle.requests.specs.Search.{key_of, lookup, request_of, place_of}
use Rattle.requests.specs.Scan.{walk}
use Rattle.requests.specs.Use.{in_use}
use Rattle.requests.proofs.Lists.{apart, is_false, none_some}
use Rattle.requests.proofs.Search.{found_at, placed_found}
use Rattle.requests.proofs.Transmits.{walk_sends, sent_placed}
use Rattle.requests.proofs.Use.{row_once, in_use_exactly}
use Rattle.model.specs.World.{World, StateFormed, state_formed}
use Rattle.model.specs.Calls.{submits, sends, receives, transmits, reports, Kind, carries, scans, names, meets, counts}
use Rattle.model.specs.Refusals.{refusal_of}
use Rattle.model.specs.Says.{Said, refused_by, says_of}
use Rattle.model.specs.Parts.{transmission_of}
use Rattle.model.specs.Runs.{Turn, run}
use Rattle.model.specs.declared.Answer.TheVariants as answer
use Rattle.model.proofs.Classes.{passed_formed}
use Rattle.model.proofs.Refused.{refused_same}
use Rattle.model.proofs.State.{state_exactly}
use Rattle.model.proofs.Answers.{answer_number, sends_out}
use Rattle.model.proofs.Kept.{says_formed, run_formed}
use Rattle.model.proofs.Store.{part_unused, RequestAccepted, request_accepted}
use Rattle.model.proofs.Parts.{transmission_kept}
use Rattle.runs.specs.Run.{kind_in, said, hands_out_it}
use Rattle.runs.specs.Demand.{Start, begins, Submission, submits as submission_of}
use Rattle.runs.specs.Counts.{exchange}
use Rattle.runs.specs.Ends.{submits_it, end_by}
use Rattle.runs.specs.Bytes.{Delivers, DeliversThrough}
use Rattle.runs.proofs.Spared.{scan_said}
use Rattle.runs.proofs.Present.{found_of}
use Rattle.runs.proofs.Demand.{unformed_run}
use Rattle.runs.proofs.Followed.{stands_at, traced, handed_by, handed}
use Rattle.runs.proofs.Ends.{stays_call}

-- Where the request x stands, and its message.
record Holds (rows x : ℕ) (to : Address) (m : List ℕ) (w : World) : Type 0 where
  formed : StateFormed rows w
  place : ℕ
  request : StunRequestState
  stands : lookup x w.requests ≡ Some (place, request)
  address : request.to ≡ to
  part : transmission_of rows w request.row request.len ≡ m

-- No part of another length.
none_else : (rows x : ℕ) (w : World) → StateFormed rows w → (i : ℕ) (r : StunRequestState) (len : ℕ) → lookup x w.requests ≡ Some (i, r)
    → (r.len ≡ len → ⊥) → transmission_of rows w r.row len ≡ []
none_else rows x w formed i r len e n =
    let u = in_use_exactly len w.requests i r formed.requests.apart (found_at x i r w.requests e).placed in
    part_unused rows w r.row len (is_false (in_use r.row len w.requests) (λ h. n (u.0 h)))

-- ---- a call after the acceptance

module _ (rows x : ℕ) (to : Address) (m : List ℕ) (w : World) (h : Holds rows x to m w) (b : List ℕ) where
  part_after : (k : Kind) (j : ℕ) (q : StunRequestState) → lookup x (says_of rows w k b).world.requests ≡ Some (j, q)
      → (q.to ≡ to) × (transmission_of rows (says_of rows w k b).world q.row q.len ≡ m)
  part_after k j q e =
      let p = transmission_kept rows w k b h.formed x h.place j h.request q h.stands e in
      (p.same.to ∙ h.address, p.part ∙ h.part)

  -- a transmission of x is one of `poll_transmit`
  module _ (id : TransactionId) (a : Address) (row len : ℕ) (is : key id ≡ x) where
    hit : (k : Kind) → (says_of rows w k b).answer ≡ answer.Send id a row len → handed_by x k (says_of rows w k b).answer ≡ true
    hit k e = sym (handed rows x w b k) ∙ ap (hands_out_it x) e ∙ eq-eqb (key id) x is

    sent_again : (now : ℕ) → (says_of rows w (scans transmits now) b).answer ≡ answer.Send id a row len
        → (a ≡ to) × (transmission_of rows (says_of rows w (scans transmits now) b).world row len ≡ m)
    sent_again now e =
        let passed : refusal_of rows w (scans transmits now) b ≡ None = sym (answer_number rows w b (scans transmits now)) ∙ ap refused_by e in
        let s = scan_said rows w transmits now b passed in
        let t = w.agent.transport in
        let o = sends_out (walk t now w.requests).out id a row len (sym s.answers ∙ e) in
        let f = walk_sends t now w.requests o.0 o.1 in
        let placed = sent_placed t now w.requests o.0 (walk t now w.requests).after f in
        let l' = (says_of rows w (scans transmits now) b).world.requests in
        let there : slice_get l' f.place ≡ Some o.0 = ap (λ (l : List StunRequestState). slice_get l f.place) s.requests ∙ placed in
        let found : lookup (key_of o.0) l' ≡ Some (f.place, o.0) =
        placed_found f.place o.0 l' (says_formed rows w (scans transmits now) b h.formed).requests.order there in
        let here : lookup x l' ≡ Some (f.place, o.0) = ap (λ (n : ℕ). lookup n l') (sym (ap key o.2 ∙ is)) ∙ found in
        let p = part_after (scans transmits now) f.place o.0 here in
        (sym o.3 ∙ p.0, rw (o.4, o.5) at p.1)

    transmission_after : (k : Kind) → (says_of rows w k b).answer ≡ answer.Send id a row len
        → (a ≡ to) × (transmission_of rows (says_of rows w k b).world row len ≡ m)
    transmission_after (carries (submits to' now)) e =
        apart (sym (hit (carries (submits to' now)) e) ∙ (traced rows x w b (carries (submits to' now))).once h.request (ap request_of h.stands))
    transmission_after (carries (sends to')) e = apart (sym (hit (carries (sends to')) e))
    transmission_after (carries (receives from clock)) e = apart (sym (hit (carries (receives from clock)) e))
    transmission_after (scans transmits now) e = sent_again now e
    transmission_after (scans reports now) e = apart (sym (hit (scans reports now) e))
    transmission_after (names i wish) e = apart (sym (hit (names i wish) e))
    transmission_after (meets c y) e = apart (sym (hit (meets c y) e))
    transmission_after (counts f) e = apart (sym (hit (counts f) e))

  delivers : (k : Kind) → Delivers rows x to m (says_of rows w k b)
  delivers k = record {
    transmission = λ id a row len e is. transmission_after id a row len is k e;
    part = λ j q e. (part_after k j q e).1;
    no_other = λ j q len e n. none_else rows x (says_of rows w k b).world (says_formed rows w k b h.formed) j q len e n;
  }

  holds_after : (k : Kind) → end_by x k b (says_of rows w k b).answer ≡ None → Holds rows x to m (says_of rows w k b).world
  holds_after k n =
      let q = stays_call rows x w k b h.request (ap request_of h.stands) n in
      let f = found_of (lookup x (says_of rows w k b).world.requests) q.1 in
      let p = part_after k f.0 q.0 f.1 in
      record {
        formed = says_formed rows w k b h.formed;
        place = f.0;
        request = q.0;
        stands = f.1;
        address = p.0;
        part = p.1;
      }

delivers_from : (rows x : ℕ) (to : Address) (m : List ℕ) (ts : List Turn) (w : World) → Holds rows x to m w → DeliversThrough rows x to m w ts
delivers_from rows x to m [] w h = tt
delivers_from rows x to m (t ∷ ts) w h = (
  delivers rows x to m w h t.bytes (kind_in t),
  λ n. delivers_from rows x to m ts (said rows w t).world (holds_after rows x to m w h t.bytes (kind_in t) n),
)

-- ---- the acceptance

module _ (rows x : ℕ) (w : World) (q : Submission) (taken : submits_it x (exchange rows w (submission_of q)) ≡ true) where
  abbrev pub turned : Said
  turned = said rows w (submission_of q)

  pub passes : refusal_of rows w (carries (submits q.to q.now)) q.bytes ≡ None
  passes = go (refusal_of rows w (carries (submits q.to q.now)) q.bytes) refl
    where
      go : (o : Option Refusal) → refusal_of rows w (carries (submits q.to q.now)) q.bytes ≡ o → o ≡ None
      go None e = refl
      go (Some r) e =
          apart (sym taken ∙ ap (λ (s : Said). hands_out_it x s.answer) (refused_same rows w (carries (submits q.to q.now)) q.bytes r e))

  pub formed : StateFormed rows w
  formed = passed_formed rows w (carries (submits q.to q.now)) q.bytes passes

  module _ (a : RequestAccepted rows w q.to q.now q.bytes turned) where
    pub is_x : key a.message.transaction_id ≡ x
    is_x = eqb-true (key a.message.transaction_id) x (sym (ap (hands_out_it x) a.answers) ∙ taken)

    holds : Holds rows x q.to q.bytes turned.world
    holds =
        let y = a.message in
        let s = submission q.now y.transaction_id y.integrity a.row (length q.bytes) q.to w.agent.rto in
        let to_is : a.request.to ≡ q.to = ap (λ (r : StunRequestState). r.to) a.request_is ∙ s.to_is in
        let row_is : a.request.row ≡ a.row = ap (λ (r : StunRequestState). r.row) a.request_is ∙ s.row_is in
        let len_is : a.request.len ≡ length q.bytes = ap (λ (r : StunRequestState). r.len) a.request_is ∙ s.len_is in
        record {
          formed = says_formed rows w (carries (submits q.to q.now)) q.bytes formed;
          place = place_of (key y.transaction_id) w.requests;
          request = a.request;
          stands = stands_at rows x w q.to q.now q.bytes turned a is_x;
          address = to_is;
          part = ap (λ (n : ℕ). transmission_of rows turned.world n a.request.len) row_is
              ∙ ap (λ (n : ℕ). transmission_of rows turned.world a.row n) len_is ∙ a.bytes;
        }

    first_delivers : Delivers rows x q.to q.bytes turned
    first_delivers = record {
      transmission = λ id to row len e is. first id to row len (sym a.answers ∙ e);
      part = λ i r e. let z : r ≡ holds.request = same i r e in rw z holds.part;
      no_other = λ i r len e n. none_else rows x turned.world holds.formed i r len e n;
    }
      where
        same : (i : ℕ) (r : StunRequestState) → lookup x turned.world.requests ≡ Some (i, r) → r ≡ holds.request
        same i r e = (some_pair_parts _ _ _ _ (sym e ∙ holds.stands)).1

        first : (id : TransactionId) (to : Address) (row len : ℕ)
            → answer.Send a.message.transaction_id q.to a.row (length q.bytes) ≡ answer.Send id to row len
            → (to ≡ q.to) × (transmission_of rows turned.world row len ≡ q.bytes)
        first id to row len e =
            let t : q.to ≡ to = cc in
            let r : a.row ≡ row = cc in
            let n : length q.bytes ≡ len = cc in
            (sym t, rw (r, n) at a.bytes)

  -- From its acceptance to its end.
  pub delivered : (later : List Turn) → DeliversThrough rows x q.to q.bytes w (submission_of q ∷ later)
  delivered later =
      let a = request_accepted rows w q.to q.now q.bytes formed passes in
      (first_delivers a, λ n. delivers_from rows x q.to q.bytes later turned.world (holds a))

-- ---- rows

pub rows_apart : (rows : ℕ) (s : Start) (ts : List Turn) (x y i j : ℕ) (r q : StunRequestState) → lookup x (run rows (begins s) ts).requests ≡ Some (i, r)
    → lookup y (run rows (begins s) ts).requests ≡ Some (j, q) → r.row ≡ q.row → x ≡ y
rows_apart rows s ts x y i j r q e f z = go (state_formed rows (begins s)) refl
  where
    l : List StunRequestState
    l = (run rows (begins s) ts).requests

    go : (b : Bool) → state_formed rows (begins s) ≡ b → x ≡ y
    go true b =
        let g = found_at x i r l e in
        let h = found_at y j q l f in
        let formed = run_formed rows ts (begins s) ((state_exactly rows (begins s)).0 b) in
        let same : r ≡ q = row_once l i j r q formed.requests.apart g.placed h.placed z in
        sym g.key_is ∙ ap key_of same ∙ h.key_is
    go false b =
        let none-there : None ≡ Some (i, r) = sym (ap (λ (w : World). lookup x w.requests) (unformed_run rows (begins s) ts b)) ∙ e in
        none_some (ap request_of none-there)
