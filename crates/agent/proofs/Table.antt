-- What the calls over the table ask of the words, and the words after a change.
use Rattle.model.specs.declared.Refusal.{Refusal}
use Rattle.model.specs.declared.Refusal.TheVariants.{Clock}
use Rattle.std.specs.Prelude.{Some, Ok, Err}
use Prim.Native.Nat.{ℕ, ◌^◌, ◌≤◌, ◌<◌}
use mathlib.Core.Path.{◌≡◌, refl, ap}
use mathlib.Core.Bool.{Bool, true, false, cond}
use mathlib.Core.List.{List}
use lib.Dec.{ltb}
use lib.ListN.{length}
use borrow.Author.Tests.{ltb-false}
use Rattle.rows.specs.Rows.{rows}
use Rattle.rows.proofs.Rows.{held}
use Rattle.message.specs.Head.{key}
use Rattle.message.specs.declared.TransactionId.{TransactionId}
use Rattle.waits.specs.declared.Transport.{Transport}
use Rattle.request.specs.declared.StunRequestState.{StunRequestState}
use Rattle.requests.specs.Search.{lookup}
use Rattle.requests.specs.Scan.{poll_all}
use Rattle.requests.specs.Formed.{AllWithin}
use Rattle.requests.specs.declared.Polled.TheVariants.{TimedOut, Cancelled}
use Rattle.requests.proofs.Lists.{neither}
use Rattle.requests.proofs.Search.{found_at, later_within}
use Rattle.requests.proofs.Polls.{poll_timed_out, poll_cancelled}
use Rattle.records.specs.Coding.{width, size}
use Rattle.records.specs.Live.{live}
use Rattle.records.proofs.Live.{length_live}
use Rattle.table.specs.Table.{Kept}
use Rattle.model.specs.Effects.{Change, keeps}
use Rattle.model.specs.declared.StunAgent.{StunAgent}
use Rattle.agent.specs.Ready.{Lent}
use Rattle.agent.specs.Called.{moved, TableAfter, is_late, at_clock}
use Rattle.agent.proofs.Ready.{few}

pub kept_same : (tr : Transport) (n : ℕ) (t : List ℕ) → TableAfter tr keeps n t t
kept_same tr n t = record { words = held width n t t (rows width n t) refl refl; holds = refl }

pub table_by : (tr : Transport) (n : ℕ) (t t' : List ℕ) (c d : Change) → c ≡ d → TableAfter tr d n t t' → TableAfter tr c n t t'
table_by tr n t t' c d e x = rw e x

module _ (a : StunAgent) (t : List ℕ) (s : Lent a t) where
  pub searchable : Kept a.requests t
  searchable = record { count = few a t s; fits = s.fits; order = s.requests.order }

  pub is_place : (i : ℕ) → i < length (live a.requests t) → (i < a.requests) × (a.requests ≤ 32) × (size ≤ length t)
  is_place i h = (rw (length_live a.requests t) at h, few a t s, s.fits)

  pub found_place : (id : TransactionId) (i : ℕ) (r : StunRequestState) → lookup (key id) (live a.requests t) ≡ Some (i, r)
      → (i < a.requests) × (a.requests ≤ 32) × (size ≤ length t)
  found_place id i r e = is_place i (found_at (key id) i r (live a.requests t) e).below

  -- The request that `poll` reports.
  pub timed_out_place : (now i : ℕ) (id : TransactionId) → poll_all a.transport now (live a.requests t) ≡ TimedOut i id
      → (i < a.requests) × (a.requests ≤ 32) × (size ≤ length t)
  timed_out_place now i id e = is_place i (poll_timed_out a.transport now (live a.requests t) i id e).below

  pub cancelled_place : (now i : ℕ) (id : TransactionId) → poll_all a.transport now (live a.requests t) ≡ Cancelled i id
      → (i < a.requests) × (a.requests ≤ 32) × (size ≤ length t)
  cancelled_place now i id e = is_place i (poll_cancelled a.transport now (live a.requests t) i id e).below

  pub all_within_lem : AllWithin 32 (2 ^ 60) (live a.requests t)
  all_within_lem = later_within 32 a.mark (2 ^ 60) s.mark (live a.requests t) s.requests.within

-- A clock that isn't refused, and the agent there; and one that is.
pub record InTime (a : StunAgent) (now : ℕ) (b : StunAgent) : Type 0 where
  pub early : is_late a now ≡ false
  pub agent_is : b ≡ moved a now a.requests a.peers

pub record Late (a : StunAgent) (now : ℕ) (q : Refusal) : Type 0 where
  pub late : is_late a now ≡ true
  pub is : q ≡ Clock

pub err_by : {A : Type 0} (late : Bool) (q e : Refusal) (x : A) → cond late (Err q) (Ok x) ≡ Err e → (late ≡ true) × (e ≡ q)
err_by true q e x f = (refl, cc)
err_by false q e x f = cc

pub ok_by : {A : Type 0} (late : Bool) (q : Refusal) (x y : A) → cond late (Err q) (Ok x) ≡ Ok y → (late ≡ false) × (y ≡ x)
ok_by true q x y f = cc
ok_by false q x y f = (refl, cc)

module _ (a : StunAgent) (now : ℕ) where
  pub late_is : (q : Refusal) → at_clock a now ≡ Err q → Late a now q
  unfolding at_clock
  late_is q e = let z = err_by (is_late a now) Clock q (moved a now a.requests a.peers) e in record { late = z.0; is = z.1 }

  pub in_time_is : (b : StunAgent) → at_clock a now ≡ Ok b → InTime a now b
  unfolding at_clock
  in_time_is b e = let z = ok_by (is_late a now) Clock (moved a now a.requests a.peers) b e in record { early = z.0; agent_is = z.1 }

  pub same_count : (b : StunAgent) → at_clock a now ≡ Ok b → b.requests ≡ a.requests
  same_count b e = ap (λ (x : StunAgent). x.requests) (in_time_is b e).agent_is

  pub in_time : (b : StunAgent) → at_clock a now ≡ Ok b → now ≤ 2 ^ 60
  in_time b e = ltb-false (2 ^ 60) now (neither (ltb (2 ^ 60) now) (ltb now a.mark) (in_time_is b e).early).0

-- What `poll` stands on.
pub ruleset polled = (few, all_within_lem, in_time, same_count, timed_out_place, cancelled_place)
