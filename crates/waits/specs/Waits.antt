-- How long a request waits: RFC 8489, sections 6.2.1 (UDP) and 6.2.2 (TCP), with a maximum; document 01, "Waits and one request".
-- RTO is `initial`, Rc is `retransmits` (document 01's R), and Rm × RTO is `last_retransmit`. Times are nanoseconds.
use Rattle.std.specs.Prelude.{ℕ, zero, suc, ◌+◌, ◌-◌, ◌*◌, ◌^◌, ◌≤◌, min, max, Bool, ◌&&◌, leb}
use Rattle.waits.specs.declared.RequestRto.{RequestRto}
use Rattle.waits.specs.declared.Transport.{Transport}
use Rattle.waits.specs.declared.Transport.TheVariants.{Udp, Tcp}

abbrev pub milliseconds : ℕ → ℕ
milliseconds n = n * 1000000

-- Section 6.2.1: RTO 500 ms, Rc 7, Rm 16; it has no maximum.
unfoldable pub default_rto : RequestRto
default_rto = record { initial = milliseconds 500; max = 2 ^ 61; retransmits = 7; last_retransmit = 16 * milliseconds 500 }

-- Settings within document 01's "Numbers".
pub record Limits (s : RequestRto) : Type 0 where
  pub count : s.retransmits ≤ 33
  pub initial : s.initial ≤ 2 ^ 61
  pub most : s.max ≤ 2 ^ 61
  pub last : s.last_retransmit ≤ 2 ^ 61

-- The same as a test. Refusal 2, SETTINGS, is given exactly where it fails.
unfoldable pub within_limits : RequestRto → Bool
within_limits s =
    leb s.retransmits 33 && (leb s.initial (2 ^ 61) && (leb s.max (2 ^ 61) && leb s.last_retransmit (2 ^ 61)))

-- The initial wait doubled i times, and the maximum where that is less.
abbrev pub capped : ℕ → ℕ → ℕ → ℕ
capped initial most i = min (initial * 2 ^ i) most

-- The first n of those, added.
unfoldable pub sum_of : ℕ → ℕ → ℕ → ℕ
sum_of initial most zero = 0
sum_of initial most (suc n) = sum_of initial most n + capped initial most n

-- A request is sent max(R,1) times by UDP, so there is one wait fewer between its sends.
abbrev pub steps_of : RequestRto → ℕ
steps_of s = max s.retransmits 1 - 1

-- The number of waits before the final one. Section 6.2.2: by TCP a request is sent once.
abbrev pub waits_of : Transport → RequestRto → ℕ
waits_of Udp s = steps_of s
waits_of Tcp s = 0

-- Wait i, from 0, between send i and send i + 1.
abbrev pub wait_of : RequestRto → ℕ → ℕ
wait_of s i = capped s.initial s.max i

-- The wait after the last send. By TCP it is as long as all waits of UDP together, and 2^61 where that is more.
unfoldable pub final_wait : Transport → RequestRto → ℕ
final_wait Udp s = s.last_retransmit
final_wait Tcp s = min (s.last_retransmit + sum_of s.initial s.max (steps_of s)) (2 ^ 61)
