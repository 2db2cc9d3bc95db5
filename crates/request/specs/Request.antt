-- What becomes of one request: document 01, "Waits and one request".
use Rattle.request.specs.Times.{sent_times}
use Rattle.message.specs.declared.IntegrityAlgorithm.{IntegrityAlgorithm}
use Rattle.std.specs.Prelude.{ℕ, ◌+◌, max, Bool, true, false, cond, ◌&&◌, Option, None, Some}
use Rattle.address.specs.declared.Address.{Address}
use Rattle.message.specs.declared.TransactionId.{TransactionId}
use Rattle.waits.specs.declared.RequestRto.{RequestRto}
use Rattle.waits.specs.declared.Transport.{Transport}
use Rattle.request.specs.Times.{passed_all, is_due, is_over, moment_of}
use Rattle.request.specs.declared.SendTimes.{SendTimes}
use Rattle.request.specs.declared.StunRequestState.{StunRequestState}
use Rattle.request.specs.declared.StunRequestPollRet.{StunRequestPollRet}
use Rattle.request.specs.declared.StunRequestPollRet.TheVariants.{WaitUntil, Cancelled, TimedOut}
use Rattle.request.specs.declared.StunRequestTransmit.{StunRequestTransmit}
use Rattle.request.specs.declared.StunRequestTransmit.TheVariants.{Rests, Passes, Goes}

-- A request with these times: neither cancel, and "a step count starts at 0".
abbrev begun : Option SendTimes → TransactionId → Option IntegrityAlgorithm → ℕ → ℕ → Address → RequestRto → StunRequestState
begun times id integrity row len to rto = record {
  transaction_id = id;
  request_integrity = integrity;
  row = row;
  len = len;
  to = to;
  rto = rto;
  recv_cancelled = false;
  send_cancelled = false;
  timeout_i = 0;
  send_times = times;
}

-- `StunRequestState::new`.
unfoldable pub new_request : TransactionId → Option IntegrityAlgorithm → ℕ → ℕ → Address → RequestRto → StunRequestState
new_request = begun None

-- As submitted at a clock: "`send_request` stores the bytes and hands out the first transmission itself", which "raises no count and
-- sets both times".
unfoldable pub submitted : ℕ → TransactionId → Option IntegrityAlgorithm → ℕ → ℕ → Address → RequestRto → StunRequestState
submitted now = begun (sent_times now now)

-- Another count and other times, and all else as it was.
abbrev pub with_times : ℕ → Option SendTimes → StunRequestState → StunRequestState
with_times count times r = record {
  transaction_id = r.transaction_id;
  request_integrity = r.request_integrity;
  row = r.row;
  len = r.len;
  to = r.to;
  rto = r.rto;
  recv_cancelled = r.recv_cancelled;
  send_cancelled = r.send_cancelled;
  timeout_i = count;
  send_times = times;
}

-- "A due send raises the count by one and sets last send to now"; the first one "raises no count and sets both times".
abbrev pub stepped_by : ℕ → StunRequestState → Option SendTimes → StunRequestState
stepped_by now r None = with_times r.timeout_i (sent_times now now) r
stepped_by now r (Some s) = with_times (r.timeout_i + 1) (sent_times s.first now) r

-- Of a record.
unfoldable pub stepped : ℕ → StunRequestState → StunRequestState
stepped now r = stepped_by now r r.send_times

-- With other marks: cancelled, and cancelled retransmissions.
abbrev marked : Bool → Bool → StunRequestState → StunRequestState
marked recv send r = record {
  transaction_id = r.transaction_id;
  request_integrity = r.request_integrity;
  row = r.row;
  len = r.len;
  to = r.to;
  rto = r.rto;
  recv_cancelled = recv;
  send_cancelled = send;
  timeout_i = r.timeout_i;
  send_times = r.send_times;
}

-- "Cancel retransmissions".
unfoldable pub silenced : StunRequestState → StunRequestState
silenced r = marked r.recv_cancelled true r

-- "Cancel", which sets the mark of the other too, as in the Rust.
unfoldable pub cancelled : StunRequestState → StunRequestState
cancelled r = marked true true r

-- "Configure replaces waits and final wait and keeps count and times."
unfoldable pub configured : RequestRto → StunRequestState → StunRequestState
configured rto r = record {
  transaction_id = r.transaction_id;
  request_integrity = r.request_integrity;
  row = r.row;
  len = r.len;
  to = r.to;
  rto = rto;
  recv_cancelled = r.recv_cancelled;
  send_cancelled = r.send_cancelled;
  timeout_i = r.timeout_i;
  send_times = r.send_times;
}

-- `poll_transmit` that reaches the request: a cancelled one is passed by untouched; a due step is taken, with or without sending.
unfoldable pub transmit_of : Transport → ℕ → StunRequestState → StunRequestTransmit
transmit_of t now r =
    cond r.recv_cancelled Rests
    (cond (is_due t now r) (cond r.send_cancelled (Passes (stepped now r)) (Goes (stepped now r))) Rests)

-- `poll` that reaches the request. A cancelled one says so "even past its end"; one without sends left to silence is "cancelled at
-- once" before its end; else "wait until the due moment or end, now for an overdue one".
unfoldable pub poll_of : Transport → ℕ → StunRequestState → StunRequestPollRet
poll_of t now r =
    cond r.recv_cancelled Cancelled
    (cond (is_over t now r) TimedOut (cond (r.send_cancelled && passed_all t r) Cancelled (WaitUntil (max now (moment_of t now r)))))
