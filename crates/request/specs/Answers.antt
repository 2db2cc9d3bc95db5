-- What each answer about one request says, in document 01's values.
use Rattle.std.specs.Prelude.{ℕ, Bool, true, false}
use Rattle.stats.specs.declared.Event.{Event}
use Rattle.stats.specs.declared.Event.TheVariants as event
use Rattle.request.specs.declared.StunRequestState.{StunRequestState}
use Rattle.request.specs.declared.StunRequestPollRet.{StunRequestPollRet}
use Rattle.request.specs.declared.StunRequestPollRet.TheVariants.{WaitUntil, Cancelled, TimedOut}
use Rattle.request.specs.declared.StunRequestTransmit.{StunRequestTransmit}
use Rattle.request.specs.declared.StunRequestTransmit.TheVariants.{Rests, Passes, Goes}

-- `poll_transmit`: whether the request goes out.
abbrev pub goes_out : StunRequestTransmit → Bool
goes_out Rests = false
goes_out (Passes r) = false
goes_out (Goes r) = true

-- The record afterwards.
abbrev pub record_after : StunRequestState → StunRequestTransmit → StunRequestState
record_after r Rests = r
record_after r (Passes q) = q
record_after r (Goes q) = q

-- `poll`: whether the request is reported and removed.
abbrev pub ends : StunRequestPollRet → Bool
ends (WaitUntil clock) = false
ends Cancelled = true
ends TimedOut = true

-- The clock to wait for, where it isn't.
abbrev pub wait_clock : ℕ → StunRequestPollRet → ℕ
wait_clock other (WaitUntil clock) = clock
wait_clock other Cancelled = other
wait_clock other TimedOut = other

-- What is counted: "Cancelled counts when poll reports it."
abbrev pub counted_as : StunRequestPollRet → Event
counted_as (WaitUntil clock) = event.Nothing
counted_as Cancelled = event.Cancelled
counted_as TimedOut = event.TimedOut
