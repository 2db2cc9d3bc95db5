-- A law for each way through `send_request`.
use Rattle.model.specs.declared.Refusal.{Refusal}
use Rattle.model.specs.declared.Refusal.TheVariants.{Clock, TooLong, BadMessage, WrongClass, InProgress, TableFull}
use Rattle.std.specs.Prelude.{None, Some, Option, is_some, Ok, Err}
use Prim.Native.Nat.{ℕ, ◌+◌, ◌≤◌, ◌<◌}
use mathlib.Core.Path.{◌≡◌, refl, sym, ap, ◌∙◌}
use mathlib.Core.Bool.{true, false}
use mathlib.Core.List.{List}
use native.Mathlib.Omega.{arith}
use lib.Dec.{ltb}
use lib.ListN.{length}
use borrow.Author.Tests.{le-leb, lt-leb, lt-ltb, le-ltb}
use Rattle.address.specs.declared.Address.{Address}
use Rattle.message.specs.Head.{key}
use Rattle.message.specs.Attributes.{message_of}
use Rattle.message.specs.declared.TransactionId.{TransactionId}
use Rattle.message.specs.declared.Message.{Message}
use Rattle.message.proofs.Messages.{good_length}
use Rattle.rows.specs.Lists.{insert_at}
use Rattle.rows.specs.Rows.{rows}
use Rattle.stats.specs.declared.StunAgentStats.{StunAgentStats}
use Rattle.stats.specs.declared.Event.TheVariants as event
use Rattle.store.specs.Rows.{copied}
use Rattle.request.specs.Limits.{NewLimits}
use Rattle.request.specs.Request.{submitted}
use Rattle.request.specs.declared.StunRequestState.{StunRequestState}
use Rattle.request.proofs.Kept.{submission}
use Rattle.requests.specs.Search.{key_of, lookup, place_of, free_row}
use Rattle.requests.proofs.Search.{place_most}
use Rattle.requests.proofs.Free.{free_row_lem, free_fewer, full_count}
use Rattle.records.specs.Coding.{width, size, encode}
use Rattle.records.specs.Live.{live, Became}
use Rattle.records.proofs.Live.{length_live}
use Rattle.model.specs.Calls.{Kind, carries, submits, on_some}
use Rattle.model.specs.Refusals.{is_request, refusal_past}
use Rattle.model.specs.Effects.{keeps, adds, handed_out, new_request, change_of, answer_of, stored_by}
use Rattle.model.specs.World.{World}
use Rattle.model.specs.declared.StunAgent.{StunAgent}
use Rattle.model.specs.declared.Answer.TheVariants as answer
use Rattle.model.proofs.Classes.{past_submits, new_is, new_request_lem, change_submits, answer_submits}
use Rattle.agent.specs.Ready.{world_of, Lent}
use Rattle.agent.specs.Called.{called_of, refused_with, noted, moved, TableAfter, Submits, is_late, at_clock}
use Rattle.agent.proofs.Model.{refused_keeps, done_changes, refuses, performs}
use Rattle.agent.proofs.Table.{late_is, in_time_is}

-- ---- the ways

module _ (a : StunAgent) (t : List ℕ) (to : Address) (now : ℕ) (m store : List ℕ) (peers : List Address) (st : StunAgentStats) where
  abbrev reqs : List StunRequestState
  reqs = live a.requests t

  abbrev w : World
  w = world_of a t store peers st

  abbrev submission_of : Kind
  submission_of = carries (submits to now)

  turned_down : (q : Refusal) → refusal_past 32 w submission_of m ≡ Some q → Submits w to now m t t store (refused_with a q)
  turned_down q e = record {
    acts = refuses a t store peers st submission_of m q e;
    stores = sym (ap (stored_by 32 store m) (refused_keeps w submission_of m q e));
  }

  pub submits_late : (q : Refusal) → at_clock a now ≡ Err q → Submits w to now m t t store (refused_with a q)
  submits_late q e =
      let z = late_is a now q e in
      rw z.is (turned_down Clock (past_submits 32 w m to now ∙ rw z.late))

  module _ (next : StunAgent) (on_time : at_clock a now ≡ Ok next) where
    early : is_late a now ≡ false
    early = (in_time_is a now next on_time).early

    pub submits_long : 1024 < length m → Submits w to now m t t store (refused_with a TooLong)
    submits_long h = turned_down TooLong (past_submits 32 w m to now ∙ rw (early, lt-ltb 1024 (length m) h))

    module _ (short : length m ≤ 1024) where
      in_row : ltb 1024 (length m) ≡ false
      in_row = le-ltb 1024 (length m) short

      pub submits_bad : message_of m ≡ None → Submits w to now m t t store (refused_with a BadMessage)
      submits_bad e = turned_down BadMessage (past_submits 32 w m to now ∙ rw (early, in_row, e))

      module _ (x : Message) (reads : message_of m ≡ Some x) where
        pub submits_class : is_request x.class ≡ false → Submits w to now m t t store (refused_with a WrongClass)
        submits_class e = turned_down WrongClass (past_submits 32 w m to now ∙ rw (early, in_row, reads, e))

        module _ (class : is_request x.class ≡ true) where
          pub submits_busy : is_some (lookup (key x.transaction_id) reqs) ≡ true → Submits w to now m t t store (refused_with a InProgress)
          submits_busy e =
              turned_down InProgress (past_submits 32 w m to now ∙ rw (early, in_row, reads, class, e))

          module _ (lent : Lent a t) (new : is_some (lookup (key x.transaction_id) reqs) ≡ false) where
            pub submits_full : free_row 32 reqs ≡ None → Submits w to now m t t store (refused_with a TableFull)
            submits_full e =
                let h = (full_count 32 reqs a.mark lent.requests.apart lent.requests.within).0 e in
                let none_left = le-leb 32 (length reqs) (omega arith) in
                turned_down TableFull (past_submits 32 w m to now ∙ rw (early, in_row, reads, class, new, none_left))

            module _ (row : ℕ) (free : free_row 32 reqs ≡ Some row) where
              abbrev the_request : StunRequestState
              the_request = submitted now x.transaction_id x.integrity row (length m) to a.rto

              passes : refusal_past 32 w submission_of m ≡ None
              passes =
                  let h = free_fewer 32 reqs a.mark lent.requests.apart lent.requests.within row free in
                  past_submits 32 w m to now ∙ rw (early, in_row, reads, class, new, lt-leb 32 (length reqs) h)

              sent : (t' store' : List ℕ) (q : StunRequestState) → q ≡ the_request
                  → TableAfter a.transport (adds q) a.requests t t' → store' ≡ copied 32 store q.row m
                  → Submits w to now m t t' store' (called_of (moved a now (a.requests + 1) a.peers) (handed_out q) (noted a (event.RequestSent (length m))) None)
              sent t' store' q e y z =
                  let that : new_request 32 w to now m ≡ Some q = new_request_lem 32 w m to now row x reads free ∙ ap Some (sym e) in
                  let change_is : change_of 32 w submission_of m ≡ adds q =
                  change_submits 32 w m to now ∙ ap (λ (o : Option StunRequestState). on_some o keeps adds) that in
                  let answer_is : answer_of 32 w submission_of m ≡ handed_out q =
                  answer_submits 32 w m to now ∙ ap (λ (o : Option StunRequestState). on_some o answer.None handed_out) that in
                  record {
                    acts =
                        performs a t store peers st submission_of m t' (adds q) (handed_out q) (event.RequestSent (length m)) None passes change_is
                        answer_is refl (new_is 32 w submission_of m) y;
                    stores = z ∙ sym (ap (stored_by 32 store m) (done_changes w submission_of m (adds q) passes change_is));
                  }

              pub submits_sent : (t' store' : List ℕ) (q : StunRequestState) (at : ℕ)
                  → q ≡ the_request → store' ≡ copied 32 store row m → at ≡ place_of (key x.transaction_id) reqs
                  → Became t t' (a.requests + 1) (insert_at (rows width a.requests t) at (encode q)) (insert_at reqs at q)
                  → Submits w to now m t t' store' (called_of (moved next next.mark (next.requests + 1) next.peers) (handed_out q) (noted next (event.RequestSent (length m))) None)
              submits_sent t' store' q at is stored placed became =
                  let fields = submission now x.transaction_id x.integrity row (length m) to a.rto in
                  let id_is : q.transaction_id ≡ x.transaction_id = ap (λ (z : StunRequestState). z.transaction_id) is ∙ fields.id_is in
                  let row_is : q.row ≡ row = ap (λ (z : StunRequestState). z.row) is ∙ fields.row_is in
                  let at-is : at ≡ place_of (key_of q) reqs = placed ∙ ap (λ (id : TransactionId). place_of (key id) reqs) (sym id_is) in
                  rw (in_time_is a now next on_time).agent_is (sent t' store' q is (rw (← at-is) became) (stored ∙ ap (λ (i : ℕ). copied 32 store i m) (sym row_is)))

-- ---- what the parts ask

module _ (a : StunAgent) (t : List ℕ) (s : Lent a t) (row : ℕ) (free : free_row 32 (live a.requests t) ≡ Some row) where
  pub new_within : (m : List ℕ) (x : Message) → length m ≤ 1024 → message_of m ≡ Some x → NewLimits 32 row (length m) a.rto
  new_within m x short reads = record {
    least = good_length m x reads;
    most = short;
    is_row = (free_row_lem 32 (live a.requests t) row free).below;
    settings = s.settings;
  }

  pub fewer : a.requests < 32
  fewer = rw (length_live a.requests t) at (free_fewer 32 (live a.requests t) a.mark s.requests.apart s.requests.within row free)

  pub insertable : (id : TransactionId) (at : ℕ) → at ≡ place_of (key id) (live a.requests t) → (at ≤ a.requests) × (a.requests < 32) × (size ≤ length t)
  insertable id at e =
      let most = place_most (key id) (live a.requests t) in
      (omega (arith, most, e, length_live a.requests t), fewer, s.fits)
