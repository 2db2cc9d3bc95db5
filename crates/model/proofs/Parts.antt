-- Each call leaves the handed-out part of every request that is outstanding before and after it.
--     request_kept         it is the same request: identifier, integrity, row, length and address
--     transmission_kept    and the part handed out for it is the same
use Rattle.model.specs.declared.Refusal.{Refusal}
use Rattle.std.specs.Prelude.{Option, None, Some, slice_get}
use Prim.Native.Nat.{ℕ, zero, suc}
use mathlib.Core.Path.{◌≡◌, refl, sym, ap, ◌∙◌}
use mathlib.Core.Bool.{Bool, true, false}
use mathlib.Core.List.{List, [], ◌∷◌}
use native.Mathlib.Omega.{arith}
use Rattle.std.proofs.lemmas.Grind.{common_steps}
use lib.Dec.{eqb}
use lib.ListN.{get_or}
use borrow.Author.Tests.{eqb-true, eqb-false}
use Rattle.rows.specs.Lists.{among}
use Rattle.message.specs.Head.{key}
use Rattle.waits.specs.declared.Transport.{Transport}
use Rattle.store.specs.Rows.{part_of}
use Rattle.store.proofs.Rows.{part_other}
use Rattle.request.specs.Kept.{SameRequest}
use Rattle.request.specs.declared.StunRequestState.{StunRequestState}
use Rattle.requests.specs.Search.{key_of, keys_of, row_of, rows_of, lookup, request_of}
use Rattle.requests.specs.Formed.{Ascending}
use Rattle.std.proofs.lemmas.Option.{some_pair_parts}
use Rattle.requests.proofs.Lists.{none_some, neither, placed_there}
use Rattle.requests.proofs.Search.{found_at, lookup_added_other, lookup_removed, lookup_removed_other, lookup_set, lookup_set_other, placed_found}
use Rattle.requests.proofs.Free.{free_row_lem}
use Rattle.requests.proofs.Transmits.{transmit_found, met_same}
use Rattle.model.specs.World.{World, StateFormed}
use Rattle.model.specs.Calls.{Kind}
use Rattle.model.specs.Refusals.{refusal_of}
use Rattle.model.specs.Effects.{Change, keeps, adds, removes, sets, steps, changed, change_of, stored_by, mark_after, after}
use Rattle.model.specs.Says.{says_of}
use Rattle.model.specs.Parts.{transmission_of}
use Rattle.model.proofs.Refused.{passed_exactly, refused_same, passed_does}
use Rattle.model.proofs.Changes.{Fits, change_fits}
use Rattle.model.proofs.Kept.{after_formed}
use Rattle.model.proofs.Store.{part_of_found}

found_nothing : {C : Type 0} {i : ℕ} {r : StunRequestState} {f : Option (ℕ × StunRequestState)} → f ≡ Some (i, r) → f ≡ None → C
found_nothing e n = absurd cc

found_same : {i j : ℕ} {r q : StunRequestState} {f g : Option (ℕ × StunRequestState)} → f ≡ Some (i, r) → g ≡ Some (j, q) → request_of g ≡ request_of f → q ≡ r
found_same e e' h = grind arith

same_as : (r q : StunRequestState) → q ≡ r → SameRequest r q
same_as r q z = grind arith

-- A row that no request has isn't that of a request.
row_placed : (n : ℕ) (l : List StunRequestState) (i : ℕ) (r : StunRequestState) → among n (rows_of l) ≡ false → slice_get l i ≡ Some r → row_of r ≡ n → ⊥
row_placed n [] i r a e z = none_some e
row_placed n (q ∷ qs) zero r a e z = grind (arith, common_steps)
row_placed n (q ∷ qs) (suc i) r a e z = row_placed n qs i r (neither (eqb (row_of q) n) (among n (rows_of qs)) a).1 e z

module _ (rows later : ℕ) (l : List StunRequestState) (m : List ℕ) (t : Transport) (k i j : ℕ) (r q : StunRequestState) (order : Ascending (keys_of l)) (before : lookup k l ≡ Some (i, r)) where
  kept_removed : (p : ℕ) (x : StunRequestState) → slice_get l p ≡ Some x → lookup k (changed t (removes p) l) ≡ Some (j, q) → (b : Bool) → eqb (key_of x) k ≡ b → SameRequest r q
  kept_removed p x e then true b =
      found_nothing then (rw (eqb-true (key_of x) k b) at (lookup_removed p x l order e))
  kept_removed p x e then false b =
      same_as r q (found_same before then (lookup_removed_other k p x l e (eqb-false (key_of x) k b)))

  kept_set : (p : ℕ) (x y : StunRequestState) → slice_get l p ≡ Some x → SameRequest x y → lookup k (changed t (sets p y) l) ≡ Some (j, q) → (b : Bool) → eqb (key_of x) k ≡ b → SameRequest r q
  kept_set p x y e same then true b =
      let z : key_of x ≡ k = eqb-true (key_of x) k b in
      let f : lookup k l ≡ Some (p, x) = rw z at (placed_found p x l order e) in
      let g : lookup k (changed t (sets p y) l) ≡ Some (p, y) = lookup_set k p x y l f (ap key same.id ∙ z) in
      let u = (some_pair_parts _ _ _ _ (sym before ∙ f)).1 in
      let v = (some_pair_parts _ _ _ _ (sym then ∙ g)).1 in
      rw (u, v) same
  kept_set p x y e same then false b =
      same_as r q (found_same before then (ap request_of (lookup_set_other k p x y l e (ap key same.id) (eqb-false (key_of x) k b))))

  pub request_kept : (c : Change) → Fits rows later l m c → lookup k (changed t c l) ≡ Some (j, q) → SameRequest r q
  request_kept keeps f then = same_as r q (found_same before then refl)
  request_kept (adds x) f then =
      let other : key_of x ≡ k → ⊥ = λ z. found_nothing before (rw z at f.new) in
      same_as r q (found_same before then (lookup_added_other k x l other))
  request_kept (removes p) f then = kept_removed p (get_or l p r) (placed_there l p r f) then (eqb (key_of (get_or l p r)) k) refl
  request_kept (sets p y) f then = kept_set p f.request y f.placed f.same then (eqb (key_of f.request) k) refl
  request_kept (steps now) f then =
      let x = transmit_found t now l k i r order before in
      let z : q ≡ x.0 = found_same x.1 then refl in
      rw z (met_same x.2)

  part_kept : (store : List ℕ) (c : Change) → Fits rows later l m c → (len : ℕ) → part_of rows (stored_by rows store m c) r.row len ≡ part_of rows store r.row len
  part_kept store keeps f len = refl
  part_kept store (adds x) f len =
      part_other rows store x.row m r.row len (row_placed (row_of x) l i r (free_row_lem rows l (row_of x) f.free).free (found_at k i r l before).placed)
  part_kept store (removes p) f len = refl
  part_kept store (sets p y) f len = refl
  part_kept store (steps now) f len = refl

-- Of a request that is outstanding before a call, as r, and after it, as q.
pub record PartKept (rows : ℕ) (w v : World) (r q : StunRequestState) : Type 0 where
  pub same : SameRequest r q
  pub part : transmission_of rows v q.row q.len ≡ transmission_of rows w r.row r.len

module _ (rows : ℕ) (w : World) (k : Kind) (m : List ℕ) (formed : StateFormed rows w) (id i j : ℕ) (r q : StunRequestState) (before : lookup id w.requests ≡ Some (i, r)) where
  after_kept : refusal_of rows w k m ≡ None → lookup id (after rows w k m).requests ≡ Some (j, q) → PartKept rows w (after rows w k m) r q
  unfolding after
  after_kept z then =
      let passes = (passed_exactly rows w k m).0 z in
      let c = change_of rows w k m in
      let f = change_fits rows w m formed k passes in
      let same = request_kept rows (mark_after w k) w.requests m w.agent.transport id i j r q formed.requests.order before c f then in
      let kept = part_kept rows (mark_after w k) w.requests m w.agent.transport id i j r q formed.requests.order before w.store c f r.len in
      let was = part_of_found rows w id i r formed before in
      let is = part_of_found rows (after rows w k m) id j q (after_formed rows w k m formed passes) then in
      record { same = same; part = is ∙ rw (same.row, same.len) kept ∙ sym was }

  pub transmission_kept : lookup id (says_of rows w k m).world.requests ≡ Some (j, q) → PartKept rows w (says_of rows w k m).world r q
  transmission_kept then = go (refusal_of rows w k m) refl then
    where
      stays : lookup id w.requests ≡ Some (j, q) → PartKept rows w w r q
      stays e = let z : q ≡ r = found_same before e refl in record { same = same_as r q z; part = rw z }

      go : (o : Option Refusal) → refusal_of rows w k m ≡ o → lookup id (says_of rows w k m).world.requests ≡ Some (j, q) → PartKept rows w (says_of rows w k m).world r q
      go None z e = rw (passed_does rows w k m z) (after_kept z (rw (passed_does rows w k m z) at e))
      go (Some q) z e = rw (refused_same rows w k m q z) (stays (rw (refused_same rows w k m q z) at e))
