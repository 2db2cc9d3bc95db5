-- Requests after a round: what the transmissions and the polls of a round leave of each.
--     all_at, all_removed, all_set, all_added, all_walk     a property of each request, under the changes of the list
--     wait_positive                  where neither initial nor maximum is zero, no wait is
--     Rested, rested                 a request that a transmission has passed by isn't due, unless it is silent and has a wait of zero
--     Staying, staying               one that a poll has passed by
use Rattle.std.specs.Prelude.{Some, slice_get}
use Prim.Native.Nat.{ℕ, zero, suc, ◌<◌}
use mathlib.Core.Path.{◌≡◌, refl, sym, ◌∙◌}
use mathlib.Core.Bool.{Bool, true, false, cond, not, ◌&&◌, ◌||◌}
use mathlib.Core.List.{List, [], ◌∷◌}
use lib.ListN.{set}
use lib.Pow.{pow_pos}
use native.Mathlib.Nat.{mul-pos}
use native.Mathlib.Omega.{arith}
use Rattle.rows.specs.Lists.{insert_at, remove_at}
use Rattle.waits.specs.Waits.{wait_of}
use Rattle.waits.specs.declared.RequestRto.{RequestRto}
use Rattle.waits.specs.declared.Transport.{Transport}
use Rattle.request.specs.Times.{passed_all, is_due, is_over}
use Rattle.request.specs.Request.{stepped, transmit_of, poll_of}
use Rattle.request.specs.Kept.{SameSettings}
use Rattle.request.specs.Answers.{goes_out, record_after, ends}
use Rattle.request.specs.declared.StunRequestState.{StunRequestState}
use Rattle.request.specs.declared.StunRequestTransmit.{StunRequestTransmit}
use Rattle.request.specs.declared.StunRequestTransmit.TheVariants.{Rests, Passes, Goes}
use Rattle.request.proofs.Answers.{goes_exactly, after_exactly, ends_exactly}
use Rattle.request.proofs.Moments.{step_not_due}
use Rattle.request.proofs.Kept.{settings_stepped}
use Rattle.requests.specs.Search.{key_of, place_of, added}
use Rattle.requests.specs.Scan.{meet, walk}
use Rattle.requests.proofs.Lists.{apart, some_same, none_some, neither}
use Rattle.requests.proofs.Transmits.{passed_by}
use Rattle.runs.specs.Last.{All, Positive}

-- ---- a property of each request

module _ (P : StunRequestState → Type 0) where
  pub all_at : (l : List StunRequestState) (i : ℕ) (r : StunRequestState) → All P l → slice_get l i ≡ Some r → P r
  all_at [] i r h e = none_some e
  all_at (q ∷ qs) zero r h e = rw (some_same e) at h.0
  all_at (q ∷ qs) (suc i) r h e = all_at qs i r h.1 e

  pub all_removed : (l : List StunRequestState) (i : ℕ) → All P l → All P (remove_at l i)
  all_removed [] i h = tt
  all_removed (q ∷ qs) zero h = h.1
  all_removed (q ∷ qs) (suc i) h = (h.0, all_removed qs i h.1)

  pub all_set : (l : List StunRequestState) (i : ℕ) (r : StunRequestState) → P r → All P l → All P (set l i r)
  all_set [] i r p h = tt
  all_set (q ∷ qs) zero r p h = (p, h.1)
  all_set (q ∷ qs) (suc i) r p h = (h.0, all_set qs i r p h.1)

  all_inserted : (l : List StunRequestState) (i : ℕ) (r : StunRequestState) → P r → All P l → All P (insert_at l i r)
  all_inserted l zero r p h = (p, h)
  all_inserted [] (suc i) r p h = (p, tt)
  all_inserted (q ∷ qs) (suc i) r p h = (h.0, all_inserted qs i r p h.1)

  pub all_added : (l : List StunRequestState) (r : StunRequestState) → P r → All P l → All P (added r l)
  all_added l r p h = all_inserted l (place_of (key_of r) l) r p h

  module _ (tr : Transport) (now : ℕ) (keeps : (r : StunRequestState) → P r → P (record_after r (transmit_of tr now r))) where
    pub all_walk : (l : List StunRequestState) → All P l → All P (walk tr now l).after
    all_walk [] h = tt
    all_walk (r ∷ rs) h = go (transmit_of tr now r) (keeps r h.0) (all_walk rs h.1)
      where
        go : (a : StunRequestTransmit) → P (record_after r a) → All P (walk tr now rs).after → All P (meet (λ q. q) a r rs (walk tr now rs)).after
        go (Goes q) p ih = (p, h.1)
        go (Passes q) p ih = (p, ih)
        go Rests p ih = (p, ih)

-- ---- after the transmissions

wait_positive : (s : RequestRto) (i : ℕ) → Positive s → 0 < wait_of s i
wait_positive s i p = omega (arith, mul-pos p.initial (pow_pos i), p.max)

pub record Rested (tr : Transport) (now : ℕ) (r : StunRequestState) : Type 0 where
  pub loud : r.recv_cancelled ≡ false → r.send_cancelled ≡ false → is_due tr now r ≡ false
  pub positive : r.recv_cancelled ≡ false → Positive r.rto → is_due tr now r ≡ false

pub rested : (tr : Transport) (now : ℕ) (r : StunRequestState) → goes_out (transmit_of tr now r) ≡ false → Rested tr now (passed_by tr now r)
rested tr now r e =
    rw (after_exactly tr now r) (go r.recv_cancelled refl (is_due tr now r) refl r.send_cancelled refl (sym (goes_exactly tr now r) ∙ e))
  where
    same : SameSettings r (stepped now r)
    same = settings_stepped r now

    go : (d : Bool) → r.recv_cancelled ≡ d → (u : Bool) → is_due tr now r ≡ u → (s : Bool) → r.send_cancelled ≡ s
        → (not d && (u && not s)) ≡ false → Rested tr now (cond (not d && u) (stepped now r) r)
    go true f u g s k e = record { loud = λ z. apart (sym f ∙ z); positive = λ z. apart (sym f ∙ z) }
    go false f true g true k e = record {
      loud = λ z y. apart (sym k ∙ sym same.send ∙ y);
      positive = λ z p. step_not_due tr now r (λ i. wait_positive r.rto i (rw same.rto at p));
    }
    go false f true g false k e = apart e
    go false f false g s k e = record { loud = λ z y. g; positive = λ z y. g }

-- ---- after the polls

pub record Staying (tr : Transport) (now : ℕ) (r : StunRequestState) : Type 0 where
  pub kept : r.recv_cancelled ≡ false
  pub waiting : is_over tr now r ≡ false
  pub steps : (r.send_cancelled && passed_all tr r) ≡ false

pub staying : (tr : Transport) (now : ℕ) (r : StunRequestState) → ends (poll_of tr now r) ≡ false → Staying tr now r
staying tr now r e =
    let a = neither r.recv_cancelled (is_over tr now r || (r.send_cancelled && passed_all tr r)) (sym (ends_exactly tr now r) ∙ e) in
    let b = neither (is_over tr now r) (r.send_cancelled && passed_all tr r) a.1 in
    record { kept = a.0; waiting = b.0; steps = b.1 }
