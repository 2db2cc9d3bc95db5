-- When a request is sent next and when it ends: document 01, "Waits and one request"; for the waits RFC 8489, section 6.2.1.
use Rattle.std.specs.Prelude.{ℕ, ◌+◌, ◌-◌, Bool, true, false, cond, not, ◌&&◌, leb, eqb, Option, None, Some}
use Rattle.waits.specs.Waits.{waits_of, wait_of, final_wait}
use Rattle.waits.specs.declared.Transport.{Transport}
use Rattle.request.specs.declared.SendTimes.{SendTimes}
use Rattle.request.specs.declared.StunRequestState.{StunRequestState}

-- The times of a request that was sent.
abbrev pub sent_times : ℕ → ℕ → Option SendTimes
sent_times first last = Some (record { first = first; last = last })

-- "The count at or past the number of waits."
unfoldable pub passed_all : Transport → StunRequestState → Bool
passed_all t r = leb (waits_of t r.rto) r.timeout_i

-- "The next send is due at last send + that wait", the wait being number *count*.
unfoldable pub due_of : StunRequestState → ℕ → ℕ
due_of r last = last + wait_of r.rto r.timeout_i

-- "The end is last send + final wait."
unfoldable pub end_of : Transport → StunRequestState → ℕ → ℕ
end_of t r last = last + final_wait t r.rto

-- A step is due: "a request without a last send is due now"; else one with steps left whose due moment has come.
abbrev pub due_by : Transport → ℕ → StunRequestState → Option SendTimes → Bool
due_by t now r None = true
due_by t now r (Some s) = not (passed_all t r) && leb (due_of r s.last) now

-- Of a record.
unfoldable pub is_due : Transport → ℕ → StunRequestState → Bool
is_due t now r = due_by t now r r.send_times

-- "Timed out when end ≤ now", with all steps passed.
abbrev pub over_by : Transport → ℕ → StunRequestState → Option SendTimes → Bool
over_by t now r None = false
over_by t now r (Some s) = passed_all t r && leb (end_of t r s.last) now

-- Of a record.
unfoldable pub is_over : Transport → ℕ → StunRequestState → Bool
is_over t now r = over_by t now r r.send_times

-- The moment of the next send, or of the end where no send is left.
abbrev pub moment_by : Transport → ℕ → StunRequestState → Option SendTimes → ℕ
moment_by t now r None = now
moment_by t now r (Some s) = cond (passed_all t r) (end_of t r s.last) (due_of r s.last)

-- Of a record.
unfoldable pub moment_of : Transport → ℕ → StunRequestState → ℕ
moment_of t now r = moment_by t now r r.send_times

-- `next_send_time`: that moment, and none once the request is over.
unfoldable pub next_of : Transport → ℕ → StunRequestState → Option ℕ
next_of t now r = cond (is_over t now r) None (Some (moment_of t now r))

-- "RTT is now minus last send, counted only with a clock and step count 0."
abbrev pub rtt_by : ℕ → ℕ → Option SendTimes → Option ℕ
rtt_by now count None = None
rtt_by now count (Some s) = cond (eqb count 0) (Some (now - s.last)) None

-- Of a record.
unfoldable pub rtt_of : ℕ → StunRequestState → Option ℕ
rtt_of now r = rtt_by now r.timeout_i r.send_times
