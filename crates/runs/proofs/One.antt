-- One request that was sent, and neither silenced nor cancelled: its sends and its end from here on are those of specs/Times.antt.
--     Loud, stepped_facts           such a request, and the same after a step
--     sends_from, end_from            its sends and its end, from its record and the clocks of the rounds
--     sends_step, end_step          at a clock where it is due
--     sends_stay, end_stay          at one where it isn't, nor over
--     sends_over, end_over          at one where it is over
--     loud_goes, timed_over, waits_over, not_cancelled      what the two scans say of it
use Rattle.std.specs.Prelude.{Option, None, Some}
use Rattle.request.specs.Times.{sent_times}
use Prim.Native.Nat.{ℕ, zero, suc, ◌+◌, ◌-◌, ◌≤◌, ◌<◌, max}
use mathlib.Core.Path.{◌≡◌, refl, sym, ◌∙◌}
use mathlib.Core.Bool.{Bool, true, false, cond, not, ◌&&◌, and-true, false≢true}
use mathlib.Core.List.{List, [], ◌∷◌}
use mathlib.Core.Logic.{◌⊎◌, inl, inr}
use lib.Dec.{leb}
use borrow.Author.Tests.{leb-true, leb-false, le-leb, lt-leb}
use native.Mathlib.Omega.{arith}
use native.Mathlib.Numerals.{add-one}
use Rattle.waits.specs.Waits.{waits_of, wait_of, final_wait}
use Rattle.waits.specs.declared.RequestRto.{RequestRto}
use Rattle.waits.specs.declared.Transport.{Transport}
use Rattle.request.specs.Times.{is_due, is_over, moment_of}
use Rattle.request.specs.Request.{stepped, transmit_of, poll_of}
use Rattle.request.specs.Answers.{goes_out}
use Rattle.request.specs.declared.StunRequestState.{StunRequestState}
use Rattle.request.specs.declared.StunRequestPollRet.TheVariants.{WaitUntil, Cancelled, TimedOut}
use Rattle.request.proofs.Answers.{goes_exactly}
use Rattle.request.proofs.Steps.{step_again}
use Rattle.request.proofs.Moments.{due_sent, over_sent, poll_loud}
use Rattle.model.specs.Calls.{on_some}
use Rattle.runs.specs.Times.{next, send_times, end_time}
use Rattle.runs.proofs.Times.{From, next_from}

-- `send_times` and `end_time`, one clock at a time, over numbers
module _ (tr : Transport) (s : RequestRto) (t : ℕ) (ts : List ℕ) where
  sends_due : (k c l : ℕ) → l + wait_of s c ≤ t → send_times s (suc k) c l (t ∷ ts) ≡ t ∷ send_times s k (suc c) t (t ∷ ts)
  unfolding send_times next
  sends_due k c l h = rw (le-leb (l + wait_of s c) t h)

  sends_skip : (k c l : ℕ) → t < l + wait_of s c → send_times s k c l (t ∷ ts) ≡ send_times s k c l ts
  unfolding send_times next
  sends_skip zero c l h = refl
  sends_skip (suc k) c l h = rw (lt-leb (l + wait_of s c) t h) (go (next ts (l + wait_of s c)) (next_from ts (l + wait_of s c)) (sends_skip k (suc c)))
    where
      go : (o : Option ℕ) → From (l + wait_of s c) o → ((l : ℕ) → t < l + wait_of s (suc c) → send_times s k (suc c) l (t ∷ ts) ≡ send_times s k (suc c) l ts)
          → ◌≡◌ {A = List ℕ} (on_some o [] (λ u. u ∷ send_times s k (suc c) u (t ∷ ts))) (on_some o [] (λ u. u ∷ send_times s k (suc c) u ts))
      go None f ih = refl
      go (Some u) f ih = rw (ih u (omega arith))

  -- what is waited for, with k sends left
  abbrev aim : ℕ → ℕ → ℕ → ℕ
  aim zero c l = l + final_wait tr s
  aim (suc k) c l = l + wait_of s c

  aim_from : (k c l : ℕ) → l ≤ aim k c l
  aim_from zero c l = omega arith
  aim_from (suc k) c l = omega arith

  end_due : (k c l : ℕ) → l + wait_of s c ≤ t → end_time tr s (suc k) c l (t ∷ ts) ≡ end_time tr s k (suc c) t (t ∷ ts)
  unfolding end_time next
  end_due k c l h = rw (le-leb (l + wait_of s c) t h)

  end_now : (c l : ℕ) → l + final_wait tr s ≤ t → end_time tr s 0 c l (t ∷ ts) ≡ Some t
  unfolding end_time next
  end_now c l h = rw (le-leb (l + final_wait tr s) t h)

  end_skip : (k c l : ℕ) → t < aim k c l → end_time tr s k c l (t ∷ ts) ≡ end_time tr s k c l ts
  unfolding end_time next
  end_skip zero c l h = rw (lt-leb (l + final_wait tr s) t h)
  end_skip (suc k) c l h = rw (lt-leb (l + wait_of s c) t h) (go (next ts (l + wait_of s c)) (next_from ts (l + wait_of s c)) (end_skip k (suc c)))
    where
      go : (o : Option ℕ) → From (l + wait_of s c) o → ((l : ℕ) → t < aim k (suc c) l → end_time tr s k (suc c) l (t ∷ ts) ≡ end_time tr s k (suc c) l ts)
          → ◌≡◌ {A = Option ℕ} (on_some o None (λ u. end_time tr s k (suc c) u (t ∷ ts))) (on_some o None (λ u. end_time tr s k (suc c) u ts))
      go None f ih = refl
      go (Some u) f ih = ih u (omega (arith, aim_from k (suc c) u))

-- a request that was last sent at a clock, and neither silenced nor cancelled
pub record Loud (last : ℕ) (r : StunRequestState) : Type 0 where
  pub first : ℕ
  pub times : r.send_times ≡ sent_times first last
  pub silent : r.send_cancelled ≡ false
  pub dropped : r.recv_cancelled ≡ false

pub record Stepped (t : ℕ) (r q : StunRequestState) : Type 0 where
  pub loud : Loud t q
  pub rto_is : q.rto ≡ r.rto
  pub count_is : q.timeout_i ≡ suc r.timeout_i

pub stepped_facts : (t last : ℕ) (r : StunRequestState) → Loud last r → Stepped t r (stepped t r)
stepped_facts t last r q =
    rw (← step_again t r q.first last q.times) (record {
      loud = record { first = q.first; times = refl; silent = q.silent; dropped = q.dropped };
      rto_is = refl;
      count_is = add-one r.timeout_i;
    })

-- its sends and its end from here on, if the rounds to come have clocks ts
abbrev pub sends_from : Transport → StunRequestState → ℕ → List ℕ → List ℕ
sends_from tr r last ts = send_times r.rto (waits_of tr r.rto - r.timeout_i) r.timeout_i last ts

abbrev pub end_from : Transport → StunRequestState → ℕ → List ℕ → Option ℕ
end_from tr r last ts = end_time tr r.rto (waits_of tr r.rto - r.timeout_i) r.timeout_i last ts

module _ (tr : Transport) (t last : ℕ) (r : StunRequestState) (q : Loud last r) where
  pub loud_goes : goes_out (transmit_of tr t r) ≡ is_due tr t r
  loud_goes = goes_exactly tr t r ∙ go r.recv_cancelled r.send_cancelled q.dropped q.silent
    where
      go : (d s : Bool) → d ≡ false → s ≡ false → (not d && (is_due tr t r && not s)) ≡ is_due tr t r
      go true s e f = absurd (false≢true (sym e))
      go false true e f = absurd (false≢true (sym f))
      go false false e f = and-true (is_due tr t r)

  -- the two tests, over numbers
  due_is : is_due tr t r ≡ (not (leb (waits_of tr r.rto) r.timeout_i) && leb (last + wait_of r.rto r.timeout_i) t)
  due_is = due_sent tr t r q.first last q.times

  over_is : is_over tr t r ≡ (leb (waits_of tr r.rto) r.timeout_i && leb (last + final_wait tr r.rto) t)
  over_is = over_sent tr t r q.first last q.times

  record DueFacts : Type 0 where
    left : r.timeout_i < waits_of tr r.rto
    past : last + wait_of r.rto r.timeout_i ≤ t

  due_facts : is_due tr t r ≡ true → DueFacts
  due_facts e = go (leb (waits_of tr r.rto) r.timeout_i) refl (leb (last + wait_of r.rto r.timeout_i) t) refl (sym due_is ∙ e)
    where
      go : (p : Bool) → leb (waits_of tr r.rto) r.timeout_i ≡ p → (b : Bool) → leb (last + wait_of r.rto r.timeout_i) t ≡ b
          → (not p && b) ≡ true → DueFacts
      go true e b g f = absurd (false≢true f)
      go false e true g f = record { left = leb-false _ _ e; past = leb-true _ _ g }
      go false e false g f = absurd (false≢true f)

  not_due_facts : is_due tr t r ≡ false
      → (waits_of tr r.rto ≤ r.timeout_i) ⊎ ((r.timeout_i < waits_of tr r.rto) × (t < last + wait_of r.rto r.timeout_i))
  not_due_facts e = go (leb (waits_of tr r.rto) r.timeout_i) refl (leb (last + wait_of r.rto r.timeout_i) t) refl (sym due_is ∙ e)
    where
      go : (p : Bool) → leb (waits_of tr r.rto) r.timeout_i ≡ p → (b : Bool) → leb (last + wait_of r.rto r.timeout_i) t ≡ b
          → (not p && b) ≡ false
          → (waits_of tr r.rto ≤ r.timeout_i) ⊎ ((r.timeout_i < waits_of tr r.rto) × (t < last + wait_of r.rto r.timeout_i))
      go true e b g f = inl (leb-true _ _ e)
      go false e true g f = absurd (false≢true (sym f))
      go false e false g f = inr (leb-false _ _ e, leb-false _ _ g)

  record OverFacts : Type 0 where
    all : waits_of tr r.rto ≤ r.timeout_i
    past : last + final_wait tr r.rto ≤ t

  over_facts : is_over tr t r ≡ true → OverFacts
  over_facts e = go (leb (waits_of tr r.rto) r.timeout_i) refl (leb (last + final_wait tr r.rto) t) refl (sym over_is ∙ e)
    where
      go : (p : Bool) → leb (waits_of tr r.rto) r.timeout_i ≡ p → (b : Bool) → leb (last + final_wait tr r.rto) t ≡ b → (p && b) ≡ true → OverFacts
      go true e true g f = record { all = leb-true _ _ e; past = leb-true _ _ g }
      go true e false g f = absurd (false≢true f)
      go false e b g f = absurd (false≢true f)

  not_over_facts : is_over tr t r ≡ false → waits_of tr r.rto ≤ r.timeout_i → t < last + final_wait tr r.rto
  not_over_facts e h = leb-false _ _ (rw (le-leb (waits_of tr r.rto) r.timeout_i h) at (sym over_is ∙ e))

  module _ (ts : List ℕ) where
    pub sends_step : is_due tr t r ≡ true → sends_from tr r last (t ∷ ts) ≡ t ∷ sends_from tr (stepped t r) t (t ∷ ts)
    sends_step d =
        let f = due_facts d in
        let n = stepped_facts t last r q in
        let e : waits_of tr r.rto - r.timeout_i ≡ suc (waits_of tr r.rto - suc r.timeout_i) = omega (arith, f.left) in
        rw (n.rto_is, n.count_is, e) (sends_due tr r.rto t ts _ _ _ f.past)

    pub end_step : is_due tr t r ≡ true → end_from tr r last (t ∷ ts) ≡ end_from tr (stepped t r) t (t ∷ ts)
    end_step d =
        let f = due_facts d in
        let n = stepped_facts t last r q in
        let e : waits_of tr r.rto - r.timeout_i ≡ suc (waits_of tr r.rto - suc r.timeout_i) = omega (arith, f.left) in
        rw (n.rto_is, n.count_is, e) (end_due tr r.rto t ts _ _ _ f.past)

    pub sends_stay : is_due tr t r ≡ false → sends_from tr r last (t ∷ ts) ≡ sends_from tr r last ts
    unfolding send_times
    sends_stay e = go (not_due_facts e)
      where
        go : (waits_of tr r.rto ≤ r.timeout_i) ⊎ ((r.timeout_i < waits_of tr r.rto) × (t < last + wait_of r.rto r.timeout_i))
            → sends_from tr r last (t ∷ ts) ≡ sends_from tr r last ts
        go (inl h) = let z : waits_of tr r.rto - r.timeout_i ≡ 0 = omega arith in rw z
        go (inr h) = sends_skip tr r.rto t ts (waits_of tr r.rto - r.timeout_i) r.timeout_i last h.1

    pub sends_over : is_over tr t r ≡ true → sends_from tr r last ts ≡ []
    unfolding send_times
    sends_over e = let z : waits_of tr r.rto - r.timeout_i ≡ 0 = omega (arith, (over_facts e).all) in rw z

    pub end_over : is_over tr t r ≡ true → end_from tr r last (t ∷ ts) ≡ Some t
    end_over e =
        let f = over_facts e in
        let z : waits_of tr r.rto - r.timeout_i ≡ 0 = omega (arith, f.all) in
        rw z (end_now tr r.rto t ts r.timeout_i last f.past)

    pub end_stay : is_due tr t r ≡ false → is_over tr t r ≡ false → end_from tr r last (t ∷ ts) ≡ end_from tr r last ts
    end_stay e f = go (not_due_facts e)
      where
        go : (waits_of tr r.rto ≤ r.timeout_i) ⊎ ((r.timeout_i < waits_of tr r.rto) × (t < last + wait_of r.rto r.timeout_i))
            → end_from tr r last (t ∷ ts) ≡ end_from tr r last ts
        go (inl h) =
            let z : waits_of tr r.rto - r.timeout_i ≡ 0 = omega arith in
            rw z (end_skip tr r.rto t ts 0 r.timeout_i last (not_over_facts f h))
        go (inr h) =
            let z : waits_of tr r.rto - r.timeout_i ≡ suc (waits_of tr r.rto - suc r.timeout_i) = omega (arith, h.0) in
            rw z (end_skip tr r.rto t ts (suc (waits_of tr r.rto - suc r.timeout_i)) r.timeout_i last h.1)

  -- what `poll` says of it
  poll_is : poll_of tr t r ≡ cond (is_over tr t r) TimedOut (WaitUntil (max t (moment_of tr t r)))
  poll_is = poll_loud tr t r q.silent q.dropped

  pub timed_over : poll_of tr t r ≡ TimedOut → is_over tr t r ≡ true
  timed_over e = go (is_over tr t r) (sym poll_is ∙ e)
    where
      go : (b : Bool) → cond b TimedOut (WaitUntil (max t (moment_of tr t r))) ≡ TimedOut → b ≡ true
      go true f = refl
      go false f = let z : ◌≡◌ {A = ℕ} 0 1 = cc in absurd (omega arith)

  pub waits_over : (m : ℕ) → poll_of tr t r ≡ WaitUntil m → is_over tr t r ≡ false
  waits_over m e = go (is_over tr t r) (sym poll_is ∙ e)
    where
      go : (b : Bool) → cond b TimedOut (WaitUntil (max t (moment_of tr t r))) ≡ WaitUntil m → b ≡ false
      go true f = let z : ◌≡◌ {A = ℕ} 0 1 = cc in absurd (omega arith)
      go false f = refl

  pub not_cancelled : poll_of tr t r ≡ Cancelled → ⊥
  not_cancelled e = go (is_over tr t r) (sym poll_is ∙ e)
    where
      go : (b : Bool) → cond b TimedOut (WaitUntil (max t (moment_of tr t r))) ≡ Cancelled → ⊥
      go true f = let z : ◌≡◌ {A = ℕ} 0 1 = cc in omega arith
      go false f = let z : ◌≡◌ {A = ℕ} 0 1 = cc in omega arith
