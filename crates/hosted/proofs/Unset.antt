-- The agent whose settings were left unset: seven sends, 8,000 ms after the last of them, and a response until then.
--     unset_waits     the theorem
use Rattle.std.specs.Prelude.{Option, None, Some}
use Prim.Native.Nat.{ℕ, zero, suc, ◌+◌, ◌≤◌, ◌<◌}
use mathlib.Core.Path.{◌≡◌, refl, sym, ap, subst, ◌∙◌}
use mathlib.Core.Bool.{Bool, true, false}
use mathlib.Core.List.{List, [], ◌∷◌}
use native.Mathlib.Omega.{arith}
use lib.Dec.{leb}
use lib.ListN.{length}
use borrow.Author.Tests.{lt-leb, leb-true, leb-false}
use Rattle.waits.specs.Waits.{default_rto, wait_of, final_wait}
use Rattle.waits.specs.declared.RequestRto.{RequestRto}
use Rattle.waits.specs.declared.Transport.{Transport}
use Rattle.waits.specs.declared.Transport.TheVariants.{Udp}
use Rattle.waits.proofs.Doubling.{default_waits, default_final}
use Rattle.stats.specs.declared.StunAgentStats.{StunAgentStats}
use Rattle.requests.specs.Search.{lookup, request_of}
use Rattle.model.specs.World.{World, StateFormed}
use Rattle.model.specs.Calls.{on_some}
use Rattle.model.specs.Fresh.{unset}
use Rattle.model.specs.Says.{Said}
use Rattle.model.specs.Runs.{Turn}
use Rattle.model.specs.declared.StunAgentBuilder.{StunAgentBuilder}
use Rattle.runs.specs.Round.{Step}
use Rattle.runs.specs.Times.{next, send_times, end_time, list_of}
use Rattle.runs.specs.Demand.{rounds, Submission, Life}
use Rattle.runs.proofs.Times.{From, next_from, sends_few}
use Rattle.runs.proofs.Demand.{closed_form}
use Rattle.hosted.specs.Session.{Owned, world_in, start_of, sent_in, timed_out_at, Submitted, saw}
use Rattle.hosted.specs.Rounds.{Plays}
use Rattle.hosted.specs.Unset.{last_of, AllBefore, ends_at, UnsetWaits}
use Rattle.hosted.proofs.Session.{call_as_model}
use Rattle.hosted.proofs.Theorems.{session_sends, session_timeouts, session_world}
use Rattle.hosted.proofs.Rounds.{plays_life}
use Rattle.hosted.proofs.Still.{in_table, stays_formed, response_accepted}

-- ---- the closed form: the end is counted from the last send

module _ (tr : Transport) (s : RequestRto) (ts : List ℕ) where
  end_none : (k c l : ℕ) → length (send_times s k c l ts) < k → end_time tr s k c l ts ≡ None
  unfolding send_times end_time
  end_none zero c l h = absurd (omega arith)
  end_none (suc k) c l h = go (next ts (l + wait_of s c)) h (end_none k (suc c))
    where
      go : (o : Option ℕ) → length {A = ℕ} (on_some o [] (λ t. t ∷ send_times s k (suc c) t ts)) < suc k
          → ((l : ℕ) → length (send_times s k (suc c) l ts) < k → end_time tr s k (suc c) l ts ≡ None)
          → on_some o None (λ t. end_time tr s k (suc c) t ts) ≡ None
      go None h ih = refl
      go (Some t) h ih = ih t (omega arith)

  end_last : (k c l : ℕ) → length (send_times s k c l ts) ≡ k → end_time tr s k c l ts ≡ next ts (last_of l (send_times s k c l ts) + final_wait tr s)
  unfolding send_times end_time
  end_last zero c l h = refl
  end_last (suc k) c l h = go (next ts (l + wait_of s c)) h (end_last k (suc c))
    where
      go : (o : Option ℕ) → length {A = ℕ} (on_some o [] (λ t. t ∷ send_times s k (suc c) t ts)) ≡ suc k
          → ((l : ℕ) → length (send_times s k (suc c) l ts) ≡ k
          → end_time tr s k (suc c) l ts ≡ next ts (last_of l (send_times s k (suc c) l ts) + final_wait tr s))
          → on_some o None (λ t. end_time tr s k (suc c) t ts)
          ≡ next ts (last_of l (on_some o [] (λ t. t ∷ send_times s k (suc c) t ts)) + final_wait tr s)
      go None h ih = absurd (omega arith)
      go (Some t) h ih = ih t (omega arith)

next_none : (ts : List ℕ) (a : ℕ) → AllBefore a ts → next ts a ≡ None
unfolding next
next_none [] a h = refl
next_none (t ∷ ts) a h = rw (lt-leb a t h.0) (next_none ts a h.1)

-- ---- seven sends, and 8,000 ms

module _ (first : ℕ) (ticks sent over : List ℕ) (sent_are : sent ≡ first ∷ send_times default_rto 6 0 first ticks)
    (over_is : over ≡ list_of (end_time Udp default_rto 6 0 first ticks)) where
  few : length sent ≤ 7
  few = rw sent_are (omega (arith, sends_few default_rto ticks 6 0 first))

  before_seven : length sent < 7 → over ≡ []
  before_seven h =
      let n : length (send_times default_rto 6 0 first ticks) < 6 = omega (arith, rw sent_are at h) in
      over_is ∙ ap list_of (end_none Udp default_rto ticks 6 0 first n)

  at_seven : length sent ≡ 7 → over ≡ list_of (next ticks (ends_at first sent))
  at_seven h =
      let n : length (send_times default_rto 6 0 first ticks) ≡ 6 = omega (arith, rw sent_are at h) in
      over_is ∙ ap list_of (end_last Udp default_rto ticks 6 0 first n) ∙ rw (sent_are, default_final)

  -- either of the two
  by_number : (P : List ℕ → Type 0) → P [] → P (list_of (next ticks (ends_at first sent))) → P over
  by_number P early late = go (leb 7 (length sent)) refl
    where
      go : (b : Bool) → leb 7 (length sent) ≡ b → P over
      go true e = subst P (sym (at_seven (omega (arith, few, leb-true 7 (length sent) e)))) late
      go false e = subst P (sym (before_seven (leb-false 7 (length sent) e))) early

  not_sooner : (t : ℕ) → over ≡ t ∷ [] → ends_at first sent ≤ t
  not_sooner t =
      by_number (λ l. l ≡ t ∷ [] → ends_at first sent ≤ t) (λ e. absurd (let z : ◌≡◌ {A = ℕ} 0 1 = cc in omega arith))
      (go (next ticks (ends_at first sent)) (next_from ticks (ends_at first sent)))
    where
      go : (o : Option ℕ) → From (ends_at first sent) o → list_of o ≡ t ∷ [] → ends_at first sent ≤ t
      go None f e = absurd (let z : ◌≡◌ {A = ℕ} 0 1 = cc in omega arith)
      go (Some u) f e = let z : u ≡ t = cc in omega (arith, f)

  none_yet : AllBefore (ends_at first sent) ticks → over ≡ []
  none_yet h = by_number (λ l. l ≡ []) refl (ap list_of (next_none ticks (ends_at first sent) h))

-- ---- a session

module _ (x : ℕ) (b : StunAgentBuilder) (was : StunAgentStats) (o : Owned) (before : List Turn) (q : Submission) (later : List Turn)
    (s : Submitted x b was o before q later) (pre post : List Step) (p : Plays s pre post)
    (udp : b.transport ≡ Udp) (left-unset : b.rto ≡ (unset Udp).rto) where
  life : Life 32 x (start_of b was o) q pre post before later
  life = plays_life x b was o before q later s pre post p

  sent_are : sent_in x (saw s) ≡ q.now ∷ send_times default_rto 6 0 q.now (rounds post)
  sent_are =
      session_sends x b was o before q later s ∙ (closed_form 32 x (start_of b was o) q pre post before later life).sends_are
      ∙ rw (udp, left-unset, default_waits)

  over_is : timed_out_at x (saw s) ≡ list_of (end_time Udp default_rto 6 0 q.now (rounds post))
  over_is =
      session_timeouts x b was o before q later s ∙ (closed_form 32 x (start_of b was o) q pre post before later life).timeout_is
      ∙ rw (udp, left-unset, default_waits)

  pub unset_waits : UnsetWaits x q.now (saw s) (rounds post) s.last
  unset_waits = record {
    at_most_seven = few q.now (rounds post) (sent_in x (saw s)) (timed_out_at x (saw s)) sent_are over_is;
    none_before_the_seventh = before_seven q.now (rounds post) (sent_in x (saw s)) (timed_out_at x (saw s)) sent_are over_is;
    timeout_is = at_seven q.now (rounds post) (sent_in x (saw s)) (timed_out_at x (saw s)) sent_are over_is;
    never_sooner = not_sooner q.now (rounds post) (sent_in x (saw s)) (timed_out_at x (saw s)) sent_are over_is;
    accepted = λ early t a o' y c clocked placed.
        let e = none_yet q.now (rounds post) (sent_in x (saw s)) (timed_out_at x (saw s)) sent_are over_is early in
        let w = session_world x b was o before q later s in
        let there = in_table 32 x (start_of b was o) q pre post before later life (sym (session_timeouts x b was o before q later s) ∙ e) in
        let formed = stays_formed 32 x (start_of b was o) q pre post before later life in
        ap (λ (z : Said). z.answer) (call_as_model s.last t a o' c w.whole)
        ∙ response_accepted 32 x (world_in s.last) (subst (StateFormed 32) (sym w.world_is) formed) there.0
        (ap (λ (z : World). request_of (lookup x z.requests)) w.world_is ∙ there.1) t y clocked placed;
  }
