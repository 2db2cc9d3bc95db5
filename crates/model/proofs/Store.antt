-- An accepted request stands in the list, and its bytes at its row's start; nothing else in the store changes, nor in any other call.
--     part_of_found       the part handed out for an outstanding request is its row's
--     part_refused, part_unused, part_used    no part where 1 would apply, nor of a row not in use or for another length; else the row's
--     request_accepted    an accepted `send_request`
--     stored_other, store_other    any other call: its change leaves the store alone, refused or not
use Rattle.model.specs.declared.Refusal.{Refusal}
use Rattle.model.specs.declared.Refusal.TheVariants.{BadMessage, WrongClass, TableFull}
use Rattle.std.specs.Prelude.{Option, None, Some}
use Prim.Native.Nat.{ℕ, ◌+◌, ◌*◌, ◌≤◌, ◌<◌}
use mathlib.Core.Path.{◌≡◌, refl, sym, ap, ◌∙◌, subst}
use mathlib.Core.Bool.{true, false, not, and-false}
use mathlib.Core.Logic.{◌⊎◌}
use mathlib.Core.List.{List, []}
use native.Mathlib.Omega.{arith}
use Rattle.std.proofs.lemmas.Grind.{common_steps}
use lib.ListN.{length, get_or}
use borrow.Author.Tests.{leb-false}
use Rattle.address.specs.declared.Address.{Address}
use Rattle.message.specs.Head.{key}
use Rattle.message.specs.Attributes.{message_of}
use Rattle.message.specs.declared.TransactionId.{TransactionId}
use Rattle.message.specs.declared.MessageClass.{MessageClass}
use Rattle.message.specs.declared.MessageClass.TheVariants.{Request}
use Rattle.message.specs.declared.Message.{Message}
use Rattle.store.specs.Rows.{in_store, copied, part_of}
use Rattle.store.proofs.Rows.{in_store_lem, part_copied, byte_kept, length_copied}
use Rattle.request.specs.Request.{submitted}
use Rattle.request.specs.declared.StunRequestState.{StunRequestState}
use Rattle.request.proofs.Kept.{Submission, submission}
use Rattle.requests.specs.Search.{lookup, place_of, added, free_row}
use Rattle.requests.proofs.Search.{found_at, lookup_added}
use Rattle.requests.proofs.Free.{free_row_lem, free_exists}
use Rattle.model.specs.World.{World, StateFormed, state_formed}
use Rattle.model.specs.Calls.{submits, Kind, carries, passage_of, on_some}
use Rattle.model.specs.Refusals.{is_request, is_submitted, holds, refusal_of}
use Rattle.model.specs.Effects.{adds, new_request, change_of, answer_of, stored_by, after}
use Rattle.model.specs.Says.{Said, says_of}
use Rattle.requests.specs.Use.{in_use}
use Rattle.requests.proofs.Use.{own_in_use}
use Rattle.model.specs.Parts.{transmission_of}
use Rattle.model.specs.declared.Answer.TheVariants as answer
use Rattle.model.proofs.Refused.{passed_exactly, passed_does}
use Rattle.model.proofs.State.{state_exactly}
use Rattle.model.proofs.Changes.{Joins, change_fits}
use Rattle.model.proofs.Kept.{after_formed}

module _ (rows : ℕ) (w : World) (row len : ℕ) where
  pub part_refused : state_formed rows w ≡ false → transmission_of rows w row len ≡ []
  unfolding transmission_of
  part_refused e = rw e

  pub part_unused : in_use row len w.requests ≡ false → transmission_of rows w row len ≡ []
  unfolding transmission_of
  part_unused e = rw (e, and-false)

  pub part_used : state_formed rows w ≡ true → in_use row len w.requests ≡ true → transmission_of rows w row len ≡ part_of rows w.store row len
  unfolding transmission_of
  part_used e f = rw (e, f)

-- The part handed out for an outstanding request of a well-formed world.
pub part_of_found : (rows : ℕ) (w : World) (k i : ℕ) (r : StunRequestState) → StateFormed rows w → lookup k w.requests ≡ Some (i, r)
    → transmission_of rows w r.row r.len ≡ part_of rows w.store r.row r.len
part_of_found rows w k i r s e =
    part_used rows w r.row r.len ((state_exactly rows w).1 s) (own_in_use w.requests i r (found_at k i r w.requests e).placed)

-- ---- an accepted request

-- What `send_request` answers and leaves: "an accepted request stands in store and table".
pub record RequestAccepted (rows : ℕ) (w : World) (to : Address) (now : ℕ) (m : List ℕ) (s : Said) : Type 0 where
  pub message : Message
  pub reads : message_of m ≡ Some message
  pub class_is : message.class ≡ Request
  -- it "takes the lowest free" row
  pub row : ℕ
  pub lowest : free_row rows w.requests ≡ Some row
  pub new : lookup (key message.transaction_id) w.requests ≡ None
  pub answers : s.answer ≡ answer.Send message.transaction_id to row (length m)
  -- it stands in the list, and the others as they stood
  pub request : StunRequestState
  pub request_is : request ≡ submitted now message.transaction_id message.integrity row (length m) to w.agent.rto
  pub requests : s.world.requests ≡ added request w.requests
  pub stands : lookup (key message.transaction_id) s.world.requests ≡ Some ((place_of (key message.transaction_id) w.requests), request)
  -- "its bytes go to the row's start; nothing else in the store changes"
  pub bytes : transmission_of rows s.world row (length m) ≡ m
  pub room : length s.world.store ≡ length w.store
  pub other_bytes : (i : ℕ) → (i < row * 1024) ⊎ (row * 1024 + length m ≤ i) → get_or s.world.store i 0 ≡ get_or w.store i 0

good : (p : Option Message) → on_some p true (λ x. false) ≡ false → (x : Message) × (p ≡ Some x)
good (Some x) e = (x, refl)
good None e = absurd cc

is_request_lem : (c : MessageClass) → not (is_request c) ≡ false → c ≡ Request
is_request_lem c e = grind arith

module _ (rows : ℕ) (w : World) (to : Address) (now : ℕ) (m : List ℕ) where
  module _ (x : Message) (row : ℕ) (reads : message_of m ≡ Some x) (lowest : free_row rows w.requests ≡ Some row) where
    abbrev the_request : StunRequestState
    the_request = submitted now x.transaction_id x.integrity row (length m) to w.agent.rto

    fields : Submission now x.transaction_id x.integrity row (length m) to w.agent.rto the_request
    fields = submission now x.transaction_id x.integrity row (length m) to w.agent.rto

    new_is : new_request rows w to now m ≡ Some the_request
    unfolding new_request
    new_is = rw (reads, lowest)

    change_is : change_of rows w (carries (submits to now)) m ≡ adds the_request
    unfolding change_of
    change_is = rw new_is

    answer_is : answer_of rows w (carries (submits to now)) m ≡ answer.Send x.transaction_id to row (length m)
    unfolding answer_of
    answer_is = rw (new_is, fields.id_is, fields.to_is, fields.row_is, fields.len_is)

    requests_are : (after rows w (carries (submits to now)) m).requests ≡ added the_request w.requests
    unfolding after
    requests_are = rw change_is

    store_is : (after rows w (carries (submits to now)) m).store ≡ copied rows w.store row m
    unfolding after
    store_is = ap (stored_by rows w.store m) change_is ∙ ap (λ (n : ℕ). copied rows w.store n m) fields.row_is

    stands_there : lookup (key x.transaction_id) (after rows w (carries (submits to now)) m).requests ≡ Some ((place_of (key x.transaction_id) w.requests), the_request)
    stands_there =
        ap (lookup (key x.transaction_id)) requests_are
        ∙ subst (λ (n : ℕ). lookup n (added the_request w.requests) ≡ Some ((place_of n w.requests), the_request)) (ap key fields.id_is)
        (lookup_added the_request w.requests)

    module _ (formed : StateFormed rows w) (passes : (r : Refusal) → holds rows w (carries (submits to now)) m r ≡ false) where
      joins : Joins rows now w.requests m the_request
      joins = rw change_is at (change_fits rows w m formed (carries (submits to now)) passes)

      part_is : transmission_of rows (after rows w (carries (submits to now)) m) row (length m) ≡ m
      part_is =
          let whole = part_of_found rows (after rows w (carries (submits to now)) m) (key x.transaction_id) (place_of (key x.transaction_id) w.requests) the_request (after_formed rows w (carries (submits to now)) m formed passes) stands_there in
          let at_row : transmission_of rows (after rows w (carries (submits to now)) m) row (length m) ≡ part_of rows (after rows w (carries (submits to now)) m).store row (length m) = rw (fields.row_is, fields.len_is) at whole in
          let part : in_store rows w.store row (length m) ≡ true =
          in_store_lem rows w.store row (length m) (record {
            is_row = (free_row_lem rows w.requests row lowest).below;
            room = omega (arith, joins.within.most, fields.len_is);
            whole = formed.room;
          }) in
          at_row ∙ ap (λ (l : List ℕ). part_of rows l row (length m)) store_is ∙ part_copied rows w.store row m part

      accepted : RequestAccepted rows w to now m (record { answer = answer_of rows w (carries (submits to now)) m; world = after rows w (carries (submits to now)) m })
      accepted = record {
        message = x;
        reads = reads;
        class_is = is_request_lem x.class (rw reads at (passes WrongClass));
        row = row;
        lowest = lowest;
        new = ap (λ (id : TransactionId). lookup (key id) w.requests) (sym fields.id_is) ∙ joins.new;
        answers = answer_is;
        request = the_request;
        request_is = refl;
        requests = requests_are;
        stands = stands_there;
        bytes = part_is;
        room = ap length store_is ∙ length_copied rows w.store row m;
        other_bytes = λ i h. ap (λ (l : List ℕ). get_or l i 0) store_is ∙ byte_kept rows w.store row m i h;
      }

  pub request_accepted : StateFormed rows w → refusal_of rows w (carries (submits to now)) m ≡ None → RequestAccepted rows w to now m (says_of rows w (carries (submits to now)) m)
  request_accepted formed zero_is =
      let passes = (passed_exactly rows w (carries (submits to now)) m).0 zero_is in
      let read = good (message_of m) (passes BadMessage) in
      let free = free_exists rows w.requests (leb-false rows (length w.requests) (passes TableFull)) in
      rw (passed_does rows w (carries (submits to now)) m zero_is) (accepted read.0 free.0 read.1 free.1 formed passes)

-- ---- any other call

module _ (rows : ℕ) (w : World) (m : List ℕ) where
  pub stored_other : (k : Kind) → on_some (passage_of k) false is_submitted ≡ false → stored_by rows w.store m (change_of rows w k m) ≡ w.store
  unfolding change_of
  stored_other k e = grind (arith, common_steps)

  -- A call other than `send_request`.
  pub store_other : (k : Kind) → on_some (passage_of k) false is_submitted ≡ false → (says_of rows w k m).world.store ≡ w.store
  unfolding says_of after
  store_other k e = let s = stored_other k e in grind (arith, common_steps, s)
