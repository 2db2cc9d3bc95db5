-- One request and two lists of round clocks: with more clocks no send and no end comes later; the gaps, and the number of sends.
--     next_from                      the next clock isn't before the aim
--     more_rising, next_sooner       more clocks: the next one is no later
--     sends_no_later, end_sooner     so are the sends and the end
--     gaps_hold, sends_few           each gap is at least its wait, and there are no more sends than are left
use Rattle.std.specs.Prelude.{Option, None, Some}
use Prim.Native.Nat.{ℕ, zero, suc, ◌+◌, ◌≤◌, zero-le}
use mathlib.Core.Path.{◌≡◌, refl}
use mathlib.Core.Bool.{Bool, true, false, cond}
use mathlib.Core.List.{List, [], ◌∷◌}
use lib.Dec.{leb}
use lib.ListN.{length}
use borrow.Author.Tests.{leb-true, leb-false}
use native.Mathlib.Omega.{arith}
use Rattle.waits.specs.declared.RequestRto.{RequestRto}
use Rattle.waits.specs.declared.Transport.{Transport}
use Rattle.waits.specs.Waits.{wait_of, final_wait}
use Rattle.model.specs.Calls.{on_some}
use Rattle.runs.specs.Times.{next, send_times, end_time, Sooner, NoLater, Gaps, Rising, More, same, both, added}

-- not below a, if there is one
abbrev pub From : ℕ → Option ℕ → Type 0
From a None = Unit {0}
From a (Some t) = a ≤ t

pub next_from : (ts : List ℕ) (a : ℕ) → From a (next ts a)
unfolding next
next_from [] a = tt
next_from (t ∷ ts) a = go (leb a t) refl (next_from ts a)
  where
    go : (p : Bool) → leb a t ≡ p → From a (next ts a) → From a (cond p (Some t) (next ts a))
    go true e ih = leb-true a t e
    go false e ih = ih

pub rising_down : (m t : ℕ) (ts : List ℕ) → m ≤ t → Rising t ts → Rising m ts
rising_down m t [] l h = tt
rising_down m t (u ∷ us) l h = (omega (arith, h.0), h.1)

-- of rising clocks from m on, none is below m
next_rising : (ts : List ℕ) (m a : ℕ) → Rising m ts → From m (next ts a)
unfolding next
next_rising [] m a h = tt
next_rising (t ∷ ts) m a h = go (leb a t) (next_rising ts m a (rising_down m t ts h.0 h.1))
  where
    go : (p : Bool) → From m (next ts a) → From m (cond p (Some t) (next ts a))
    go true ih = h.0
    go false ih = ih

pub more_rising : {ts us : List ℕ} → More ts us → (m : ℕ) → Rising m us → Rising m ts
more_rising same m h = tt
more_rising (both d) m h = (h.0, more_rising d _ h.1)
more_rising (added {u} {ts} d) m h = rising_down m u ts h.0 (more_rising d u h.1)

-- more clocks and an earlier aim: the first clock is no later
pub next_sooner : {ts us : List ℕ} → More ts us → (m a b : ℕ) → Rising m us → a ≤ b → Sooner (next us a) (next ts b)
unfolding next
next_sooner same m a b h l = tt
next_sooner (both {t} {ts} {us} d) m a b h l =
    go (leb a t) refl (leb b t) refl (next ts b) (next_from ts b) (next_sooner d t a b h.1 l)
  where
    go : (p : Bool) → leb a t ≡ p → (q : Bool) → leb b t ≡ q → (o : Option ℕ) → From b o → Sooner (next us a) o
        → Sooner (cond p (Some t) (next us a)) (cond q (Some t) o)
    go true e true e' o f ih = omega arith
    go true e false e' None f ih = tt
    go true e false e' (Some v) f ih = omega (arith, leb-false b t e')
    go false e true e' o f ih = absurd (omega (arith, leb-false a t e, leb-true b t e'))
    go false e false e' o f ih = ih
next_sooner (added {u} {ts} {us} d) m a b h l =
    go (leb a u) (next ts b) (next_rising ts u b (more_rising d u h.1)) (next_sooner d u a b h.1 l)
  where
    go : (p : Bool) (o : Option ℕ) → From u o → Sooner (next us a) o → Sooner (cond p (Some u) (next us a)) o
    go true None f ih = tt
    go true (Some v) f ih = f
    go false o f ih = ih

module _ (tr : Transport) (s : RequestRto) {ts us : List ℕ} (d : More ts us) (m : ℕ) (up : Rising m us) where
  pub sends_no_later : (k c l l' : ℕ) → l' ≤ l → NoLater (send_times s k c l' us) (send_times s k c l ts)
  unfolding send_times
  sends_no_later zero c l l' h = tt
  sends_no_later (suc k) c l l' h =
      go (next us (l' + wait_of s c)) (next ts (l + wait_of s c)) (next_sooner d m (l' + wait_of s c) (l + wait_of s c) up (omega arith))
      (sends_no_later k (suc c))
    where
      go : (o' o : Option ℕ) → Sooner o' o
          → ((l l' : ℕ) → l' ≤ l → NoLater (send_times s k (suc c) l' us) (send_times s k (suc c) l ts))
          → NoLater (on_some o' [] (λ t. t ∷ send_times s k (suc c) t us))
          (on_some o [] (λ t. t ∷ send_times s k (suc c) t ts))
      go o' None q ih = tt
      go None (Some t) q ih = absurd q
      go (Some u) (Some t) q ih = (q, ih t u q)

  pub end_sooner : (k c l l' : ℕ) → l' ≤ l → Sooner (end_time tr s k c l' us) (end_time tr s k c l ts)
  unfolding end_time
  end_sooner zero c l l' h = next_sooner d m (l' + final_wait tr s) (l + final_wait tr s) up (omega arith)
  end_sooner (suc k) c l l' h =
      go (next us (l' + wait_of s c)) (next ts (l + wait_of s c)) (next_sooner d m (l' + wait_of s c) (l + wait_of s c) up (omega arith))
      (end_sooner k (suc c))
    where
      go : (o' o : Option ℕ) → Sooner o' o
          → ((l l' : ℕ) → l' ≤ l → Sooner (end_time tr s k (suc c) l' us) (end_time tr s k (suc c) l ts))
          → Sooner (on_some o' None (λ t. end_time tr s k (suc c) t us)) (on_some o None (λ t. end_time tr s k (suc c) t ts))
      go o' None q ih = tt
      go None (Some t) q ih = absurd q
      go (Some u) (Some t) q ih = ih t u q

pub gaps_hold : (s : RequestRto) (ts : List ℕ) (k c l : ℕ) → Gaps s c l (send_times s k c l ts)
unfolding send_times
gaps_hold s ts zero c l = tt
gaps_hold s ts (suc k) c l = go (next ts (l + wait_of s c)) (next_from ts (l + wait_of s c)) (gaps_hold s ts k (suc c))
  where
    go : (o : Option ℕ) → From (l + wait_of s c) o → ((l : ℕ) → Gaps s (suc c) l (send_times s k (suc c) l ts))
        → Gaps s c l (on_some o [] (λ t. t ∷ send_times s k (suc c) t ts))
    go None f ih = tt
    go (Some t) f ih = (f, ih t)

pub sends_few : (s : RequestRto) (ts : List ℕ) (k c l : ℕ) → length (send_times s k c l ts) ≤ k
unfolding send_times
sends_few s ts zero c l = zero-le
sends_few s ts (suc k) c l = go (next ts (l + wait_of s c)) (sends_few s ts k (suc c))
  where
    go : (o : Option ℕ) → ((l : ℕ) → length (send_times s k (suc c) l ts) ≤ k)
        → length {A = ℕ} (on_some o [] (λ t. t ∷ send_times s k (suc c) t ts)) ≤ suc k
    go None ih = zero-le
    go (Some t) ih = omega (arith, ih t)
