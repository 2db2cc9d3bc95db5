-- The test of a record decides its limits; what the limits say of its times; and what keeps a record within them.
--     within_limits_lem                        the test holds exactly where the limits do
--     last_most, first_most, steps_left    the times, and the count where steps are left
--     limits_later, .., transmit_limits    a later mark; a new request; each change of a request
--     due_most, end_most                   no sum is near 64 bits
use Rattle.std.specs.Prelude.{ℕ, ◌+◌, ◌^◌, ◌≤◌, ◌<◌, ◌≡◌, true, false, Option}
use Rattle.std.proofs.Common.{arith}
use Rattle.std.proofs.lemmas.Grind.{common_steps}
use mathlib.Core.Logic.{◌↔◌}
use Rattle.message.specs.declared.IntegrityAlgorithm.{IntegrityAlgorithm}
use Rattle.address.specs.declared.Address.{Address}
use Rattle.message.specs.declared.TransactionId.{TransactionId}
use Rattle.waits.specs.Waits as waits
use Rattle.waits.specs.declared.RequestRto.{RequestRto}
use Rattle.waits.specs.declared.Transport.{Transport}
use Rattle.waits.proofs.Limits as waits-limits
use Rattle.request.specs.Times.{sent_times, passed_all, due_of, end_of, is_due}
use Rattle.request.specs.Request.{new_request, submitted, stepped, silenced, cancelled, configured, transmit_of}
use Rattle.request.specs.Limits.{NewLimits, RequestLimits, within_limits}
use Rattle.request.specs.Answers.{record_after}
use Rattle.request.specs.declared.StunRequestState.{StunRequestState}

module _ (rows mark : ℕ) (r : StunRequestState) where
  pub within_limits_lem : (within_limits rows mark r ≡ true) ↔ RequestLimits rows mark r
  unfolding within_limits
  within_limits_lem =
      let w = waits-limits.within_limits_lem r.rto in
      (λ e. grind (arith, common_steps, w), λ l. grind (arith, common_steps, w))

module _ (rows mark : ℕ) (r : StunRequestState) (l : RequestLimits rows mark r) where
  pub last_most : (first last : ℕ) → r.send_times ≡ sent_times first last → last ≤ mark
  last_most first last e = grind arith

  pub first_most : (first last : ℕ) → r.send_times ≡ sent_times first last → first ≤ last
  first_most first last e = grind arith

  pub steps_left : (t : Transport) → passed_all t r ≡ false → r.timeout_i < 32
  unfolding passed_all
  steps_left t e =
      let most = waits-limits.waits_most l.settings t in
      grind (arith, common_steps)

pub limits_later : (rows mark later : ℕ) (r : StunRequestState) → mark ≤ later → RequestLimits rows mark r → RequestLimits rows later r
limits_later rows mark later r h l = grind arith

-- A new request, and one as submitted at a clock.
module _ (rows : ℕ) (id : TransactionId) (integrity : Option IntegrityAlgorithm) (row len : ℕ) (to : Address) (rto : RequestRto) (n : NewLimits rows row len rto) where
  pub new_limits : (mark : ℕ) → RequestLimits rows mark (new_request id integrity row len to rto)
  unfolding new_request
  new_limits mark = grind arith

  pub submitted_limits : (now : ℕ) → RequestLimits rows now (submitted now id integrity row len to rto)
  unfolding submitted
  submitted_limits now = grind arith

module _ (rows mark : ℕ) (r : StunRequestState) (l : RequestLimits rows mark r) where
  pub silenced_limits : RequestLimits rows mark (silenced r)
  unfolding silenced
  silenced_limits = grind arith

  pub cancelled_limits : RequestLimits rows mark (cancelled r)
  unfolding cancelled
  cancelled_limits = grind arith

  pub configured_limits : (rto : RequestRto) → waits.Limits rto → RequestLimits rows mark (configured rto r)
  unfolding configured
  configured_limits rto s = grind arith

  module _ (t : Transport) (now : ℕ) (h : mark ≤ now) where
    pub stepped_limits : is_due t now r ≡ true → RequestLimits rows now (stepped now r)
    unfolding is_due stepped
    stepped_limits d = let left = steps_left rows mark r l t in grind (arith, common_steps, left)

    -- `poll_transmit` keeps a request within its limits, at the new mark.
    pub transmit_limits : RequestLimits rows now (record_after r (transmit_of t now r))
    unfolding transmit_of
    transmit_limits =
        let later = limits_later rows mark now r h l in
        grind (arith, common_steps, stepped_limits, later)

-- No sum of a request within its limits passes 2^60 + 2^61.
module _ (rows : ℕ) (r : StunRequestState) (l : RequestLimits rows (2 ^ 60) r) where
  pub due_most : (first last : ℕ) → r.send_times ≡ sent_times first last → due_of r last ≤ 2 ^ 60 + 2 ^ 61
  unfolding due_of
  due_most first last e =
      omega (arith, last_most rows (2 ^ 60) r l first last e, waits-limits.wait_most l.settings r.timeout_i)

  pub end_most : (t : Transport) (first last : ℕ) → r.send_times ≡ sent_times first last → end_of t r last ≤ 2 ^ 60 + 2 ^ 61
  unfolding end_of
  end_most t first last e =
      omega (arith, last_most rows (2 ^ 60) r l first last e, waits-limits.final_most l.settings t)

-- How long each wait is, and how many there are.
pub ruleset wait_bounds = (waits-limits.waits_most, waits-limits.wait_most, waits-limits.final_most)
