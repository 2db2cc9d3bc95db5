-- What `stepped` makes of a request, by whether it was sent.
use Rattle.std.specs.Prelude.{ℕ, ◌+◌, ◌≡◌, None}
use Rattle.request.specs.Times.{sent_times}
use Rattle.request.specs.Request.{with_times, stepped}
use Rattle.request.specs.declared.StunRequestState.{StunRequestState}

module _ (now : ℕ) (r : StunRequestState) where
  pub step_first : r.send_times ≡ None → with_times r.timeout_i (sent_times now now) r ≡ stepped now r
  unfolding stepped
  step_first e = rw e

  pub step_again : (first last : ℕ) → r.send_times ≡ sent_times first last → with_times (r.timeout_i + 1) (sent_times first now) r ≡ stepped now r
  unfolding stepped
  step_again first last e = rw e
