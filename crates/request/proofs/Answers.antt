-- What the answers say, by tests of the record: nothing above has to take `transmit_of` or `poll_of` apart.
--     goes_exactly, after_exactly    when a request goes out, and the record after `poll_transmit`
--     ends_exactly, wait_clock_lem       when `poll` reports a request, and the clock to wait for otherwise
--     counted_exactly                what is counted then
--     timed_out_exactly              when a request with all steps passed has timed out
use Rattle.request.specs.Times.{sent_times}
use Rattle.std.specs.Prelude.{ℕ, ◌+◌, ◌≤◌, ◌≡◌, max, true, false, cond, not, ◌&&◌, ◌||◌}
use mathlib.Core.Logic.{◌↔◌}
use Rattle.std.proofs.Common.{arith}
use Rattle.std.proofs.lemmas.Grind.{common_steps}
use Rattle.waits.specs.Waits.{final_wait}
use Rattle.waits.specs.declared.Transport.{Transport}
use Rattle.stats.specs.declared.Event.TheVariants as event
use Rattle.request.specs.Times.{passed_all, is_due, end_of, is_over, moment_of}
use Rattle.request.specs.Request.{stepped, transmit_of, poll_of}
use Rattle.request.specs.Answers.{goes_out, record_after, ends, wait_clock, counted_as}
use Rattle.request.specs.declared.StunRequestState.{StunRequestState}
use Rattle.request.specs.declared.StunRequestPollRet.TheVariants.{TimedOut}

module _ (t : Transport) (now : ℕ) (r : StunRequestState) where
  pub goes_exactly : goes_out (transmit_of t now r) ≡ (not r.recv_cancelled && (is_due t now r && not r.send_cancelled))
  unfolding transmit_of
  goes_exactly = grind (arith, common_steps)

  pub after_exactly : record_after r (transmit_of t now r) ≡ cond (not r.recv_cancelled && is_due t now r) (stepped now r) r
  unfolding transmit_of
  after_exactly = grind (arith, common_steps)

  pub ends_exactly : ends (poll_of t now r) ≡ (r.recv_cancelled || (is_over t now r || (r.send_cancelled && passed_all t r)))
  unfolding poll_of
  ends_exactly = grind (arith, common_steps)

  pub wait_clock_lem : (other : ℕ) → ends (poll_of t now r) ≡ false → wait_clock other (poll_of t now r) ≡ max now (moment_of t now r)
  unfolding poll_of
  wait_clock_lem other e = grind (arith, common_steps)

  pub counted_exactly : counted_as (poll_of t now r)
      ≡ cond r.recv_cancelled event.Cancelled
      (cond (is_over t now r) event.TimedOut (cond (r.send_cancelled && passed_all t r) event.Cancelled event.Nothing))
  unfolding poll_of
  counted_exactly = grind (arith, common_steps)

  pub timed_out_exactly : (first last : ℕ) → r.send_times ≡ sent_times first last → passed_all t r ≡ true → r.recv_cancelled ≡ false
      → (poll_of t now r ≡ TimedOut) ↔ (last + final_wait t r.rto ≤ now)
  unfolding poll_of is_over end_of
  timed_out_exactly first last sent passed kept = (λ h. grind (arith, common_steps), λ h. grind (arith, common_steps))
