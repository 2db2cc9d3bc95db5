-- The tests and moments of one request by whether it was sent, and what a step makes of them: nothing above has to take them apart.
--     due_sent, over_sent, rtt_sent    of a request that was sent, over numbers
--     Steps, due_step                  a step that is due: the first send, or one of the steps left
--     step_not_due                     after a step it isn't due, unless a wait is zero
--     stepped_changes                  a step changes the record
--     moment_later                     its moment is no earlier at a later clock
--     ahead, Between, still_ahead      neither due nor over: its moment lies ahead, and until then it is neither
--     overdue                          a request past its moment that isn't over has steps left
--     goes_stepped, loud_stays         `poll_transmit` that reaches it
--     poll_loud                        `poll` that reaches one neither cancelled nor silenced
use Rattle.request.specs.Times.{sent_times}
use Rattle.std.specs.Prelude.{ℕ, ◌+◌, ◌-◌, ◌≤◌, ◌<◌, ◌≡◌, max, leb, eqb, true, false, cond, not, ◌&&◌, Option, None, Some}
use Rattle.std.proofs.Common.{arith}
use Rattle.std.proofs.lemmas.Grind.{common_steps}
use mathlib.Core.Bool.{and-false}
use mathlib.Core.Path.{refl}
use Rattle.waits.specs.Waits.{waits_of, wait_of, final_wait}
use Rattle.waits.specs.declared.Transport.{Transport}
use Rattle.request.specs.Times.{passed_all, due_of, end_of, is_due, is_over, moment_of, rtt_of}
use Rattle.request.specs.Request.{with_times, stepped, transmit_of, poll_of}
use Rattle.request.specs.Answers.{goes_out, record_after}
use Rattle.request.specs.declared.SendTimes.{SendTimes}
use Rattle.request.specs.declared.StunRequestState.{StunRequestState}
use Rattle.request.specs.declared.StunRequestTransmit.TheVariants.{Goes}
use Rattle.request.specs.declared.StunRequestPollRet.TheVariants.{WaitUntil, TimedOut}
use Rattle.request.proofs.Steps.{step_first, step_again}

-- ---- a request that was sent

module _ (t : Transport) (now : ℕ) (r : StunRequestState) (first last : ℕ) (sent : r.send_times ≡ sent_times first last) where
  pub due_sent : is_due t now r ≡ (not (leb (waits_of t r.rto) r.timeout_i) && leb (last + wait_of r.rto r.timeout_i) now)
  unfolding is_due passed_all due_of
  due_sent = rw sent

  pub over_sent : is_over t now r ≡ (leb (waits_of t r.rto) r.timeout_i && leb (last + final_wait t r.rto) now)
  unfolding is_over passed_all end_of
  over_sent = rw sent

pub rtt_sent : (now first last : ℕ) (r : StunRequestState) → r.send_times ≡ sent_times first last
    → rtt_of now r ≡ cond (eqb r.timeout_i 0) (Some (now - last)) None
unfolding rtt_of
rtt_sent now first last r sent = rw sent

-- ---- a step

-- The record after a step that was due.
pub data Steps (t : Transport) (now : ℕ) (r : StunRequestState) : StunRequestState → Type 0 where
  first_send : r.send_times ≡ None → Steps t now r (with_times r.timeout_i (sent_times now now) r)
  one_left : {first last : ℕ} → r.send_times ≡ sent_times first last → r.timeout_i < waits_of t r.rto
      → Steps t now r (with_times (r.timeout_i + 1) (sent_times first now) r)

module _ (t : Transport) (now : ℕ) (r : StunRequestState) where
  pub due_step : is_due t now r ≡ true → Steps t now r (stepped now r)
  due_step e = go r.send_times refl
    where
      left : (first last : ℕ) → r.send_times ≡ sent_times first last → r.timeout_i < waits_of t r.rto
      left first last f = let d = due_sent t now r first last f in grind (arith, common_steps)

      go : (ts : Option SendTimes) → r.send_times ≡ ts → Steps t now r (stepped now r)
      go None f = rw (← step_first now r f) (first_send f)
      go (Some s) f = rw (← step_again now r s.first s.last f) (one_left f (left s.first s.last f))

  pub step_not_due : ((i : ℕ) → 0 < wait_of r.rto i) → is_due t now (stepped now r) ≡ false
  unfolding is_due stepped due_of passed_all
  step_not_due h = grind (arith, common_steps)

pub stepped_changes : (now : ℕ) (r : StunRequestState) → stepped now r ≡ r → ⊥
unfolding stepped
stepped_changes now r e = grind (arith, common_steps)

-- ---- its moment

pub ahead : (t : Transport) (now : ℕ) (r : StunRequestState) → is_due t now r ≡ false → is_over t now r ≡ false → now < moment_of t now r
unfolding is_due is_over moment_of
ahead t now r d o = grind (arith, common_steps)

pub moment_later : (t : Transport) (now soon : ℕ) (r : StunRequestState) → now ≤ soon → moment_of t now r ≤ moment_of t soon r
unfolding moment_of
moment_later t now soon r l = grind (arith, common_steps)

pub record Between (t : Transport) (soon : ℕ) (r : StunRequestState) : Type 0 where
  pub not_due : is_due t soon r ≡ false
  pub not_over : is_over t soon r ≡ false

pub still_ahead : (t : Transport) (now soon : ℕ) (r : StunRequestState) → now ≤ soon → soon < max now (moment_of t now r) → Between t soon r
unfolding is_due is_over moment_of
still_ahead t now soon r l h = record { not_due = grind (arith, common_steps); not_over = grind (arith, common_steps) }

pub overdue : (t : Transport) (now : ℕ) (r : StunRequestState) → is_over t now r ≡ false → moment_of t now r < now → (r.send_cancelled && passed_all t r) ≡ false
unfolding is_over moment_of
overdue t now r o h = grind (arith, common_steps, and-false)

-- ---- the two polls

module _ (t : Transport) (now : ℕ) (r : StunRequestState) where
  pub goes_stepped : (p : StunRequestState) → transmit_of t now r ≡ Goes p → stepped now r ≡ p
  unfolding transmit_of
  goes_stepped p e = grind (arith, common_steps)

  module _ (loud : r.send_cancelled ≡ false) where
    pub loud_stays : goes_out (transmit_of t now r) ≡ false → record_after r (transmit_of t now r) ≡ r
    unfolding transmit_of
    loud_stays e = grind (arith, common_steps)

    pub poll_loud : r.recv_cancelled ≡ false → poll_of t now r ≡ cond (is_over t now r) TimedOut (WaitUntil (max now (moment_of t now r)))
    unfolding poll_of
    poll_loud kept = rw (kept, loud)
