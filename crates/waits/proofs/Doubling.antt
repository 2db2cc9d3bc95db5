-- Each wait is twice the one before it, up to the maximum (document 01, "Waits and one request").
use mathlib.Core.Path.{◌≡◌, refl}
use Prim.Native.Nat.{ℕ, zero, suc, ◌+◌, ◌-◌, ◌*◌, min}
use native.Mathlib.Nat.{pow-suc, mul_assoc}
use native.Mathlib.Numerals.{add-one, sub-one}
use native.Mathlib.Omega.{arith}
use Rattle.waits.specs.Waits.{milliseconds, default_rto, capped, sum_of, wait_of, waits_of, final_wait}
use Rattle.waits.specs.declared.RequestRto.{RequestRto}
use Rattle.waits.specs.declared.Transport.TheVariants.{Udp, Tcp}

module _ (initial most : ℕ) where
  pub wait_first : (i : ℕ) → i ≡ 0 → min initial most ≡ capped initial most i
  wait_first i e = rw e (omega arith)

  pub wait_next : (i : ℕ) → (i ≡ 0 → ⊥) → min (capped initial most (i - 1) + capped initial most (i - 1)) most ≡ capped initial most i
  wait_next zero some = absurd (some refl)
  wait_next (suc k) some = rw (sub-one, pow-suc, ← mul_assoc) (omega arith)

  pub sum_none : sum_of initial most 0 ≡ 0
  unfolding sum_of
  sum_none = refl

  pub sum_more : (n : ℕ) → sum_of initial most (n + 1) ≡ sum_of initial most n + capped initial most n
  unfolding sum_of
  sum_more n = rw add-one

-- The law of the request, in a request's own words.
pub doubled : (s : RequestRto) (i : ℕ) → wait_of s (suc i) ≡ min (2 * wait_of s i) s.max
doubled s i = rw (pow-suc, ← mul_assoc) (omega arith)

-- By default a request ends 39,500 ms after its first send, by UDP as by TCP, and 8,000 ms after its last.
pub default_span : sum_of default_rto.initial default_rto.max (waits_of Udp default_rto) + final_wait Udp default_rto ≡ milliseconds 39500
unfolding default_rto sum_of final_wait
default_span = refl

pub default_span_stream : final_wait Tcp default_rto ≡ milliseconds 39500
unfolding default_rto sum_of final_wait
default_span_stream = refl

pub default_waits : waits_of Udp default_rto ≡ 6
unfolding default_rto
default_waits = refl

pub default_final : final_wait Udp default_rto ≡ milliseconds 8000
unfolding default_rto final_wait
default_final = refl
