-- The test of settings decides their limits, and what the limits say of the waits.
--     within_limits_lem              the test holds exactly where the limits do
--     default_limits                 the default settings are within them
--     waits_most, final_most         at most 32 waits, and none is longer than 2^61
use mathlib.Core.Path.{◌≡◌}
use mathlib.Core.Bool.{true, and-eq-true_iff}
use mathlib.Core.Logic.{◌↔◌}
use Prim.Native.Nat.{ℕ, ◌^◌, ◌≤◌}
use native.Mathlib.Omega.{arith}
use borrow.Author.Tests.{le-leb, leb-true}
use Rattle.waits.specs.Waits.{Limits, within_limits, default_rto, waits_of, wait_of, final_wait}
use Rattle.waits.specs.declared.RequestRto.{RequestRto}
use Rattle.waits.specs.declared.Transport.{Transport}
use Rattle.waits.specs.declared.Transport.TheVariants.{Udp, Tcp}

pub within_limits_lem : (s : RequestRto) → (within_limits s ≡ true) ↔ Limits s
unfolding within_limits
within_limits_lem s = (
  λ e.
      let a = (and-eq-true_iff _ _).0 e in
      let b = (and-eq-true_iff _ _).0 a.1 in
      let c = (and-eq-true_iff _ _).0 b.1 in
      record { count = leb-true _ _ a.0; initial = leb-true _ _ b.0; most = leb-true _ _ c.0; last = leb-true _ _ c.1 },
  λ l. simp (le-leb _ _ l.count, le-leb _ _ l.initial, le-leb _ _ l.most, le-leb _ _ l.last),
)

pub default_limits : Limits default_rto
unfolding default_rto
default_limits = record { count = omega arith; initial = omega arith; most = omega arith; last = omega arith }

module _ {s : RequestRto} (l : Limits s) where
  pub waits_most : (t : Transport) → waits_of t s ≤ 32
  waits_most Udp = omega arith
  waits_most Tcp = omega arith

  pub wait_most : (i : ℕ) → wait_of s i ≤ 2 ^ 61
  wait_most i = omega arith

  pub final_most : (t : Transport) → final_wait t s ≤ 2 ^ 61
  unfolding final_wait
  final_most Udp = l.last
  final_most Tcp = omega arith
