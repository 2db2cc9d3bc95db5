-- The average is the floor; refusal 12 is given exactly where the count is below zero.
use Rattle.std.specs.Prelude.{ℕ, zero, suc, ◌+◌, ◌*◌, ◌≤◌, ◌<◌, ◌≡◌, cond, leb, Some}
use Rattle.std.proofs.Common.{arith}
use Rattle.std.proofs.lemmas.Grind.{common_steps}
use native.Mathlib.Nat.{le-div_iff_mul-le, div-lt_iff_lt-mul}
use Rattle.stats.specs.Query.{average, average_of, settled, outstanding_of, outstanding_refusal, outstanding_count}
use Rattle.stats.specs.declared.StunAgentStats.{StunAgentStats}

-- The average is the floor: no more than the sum, counted as often as there are samples, and one more would pass it.
pub average_floor : (s : StunAgentStats) (q : ℕ) → average_of s ≡ Some q
    → (q * s.rtt_count ≤ s.rtt_sum) × (s.rtt_sum < (q + 1) * s.rtt_count)
unfolding average_of
average_floor s q e = go s.rtt_sum s.rtt_count e
  where
    go : (sum n : ℕ) → average sum n ≡ Some q → (q * n ≤ sum) × (sum < (q + 1) * n)
    go sum zero e = absurd cc
    go sum (suc n) e =
        let some : 0 < suc n = omega arith in (
          (le-div_iff_mul-le {k = suc n} {x = q} {y = sum} some).0 (grind arith),
          (div-lt_iff_lt-mul {k = suc n} {x = sum} {y = q + 1} some).0 (grind arith),
        )

-- Refusal 12, COUNTS, exactly where more requests are settled than were sent; else the answer is what is left, and nothing else is.
module _ (s : StunAgentStats) where
  pub refused_exactly : outstanding_refusal (outstanding_of s) ≡ cond (leb (settled s) s.requests_sent) 0 12
  unfolding outstanding_of
  refused_exactly = grind (arith, common_steps)

  pub not_below_zero : (left : ℕ) → settled s + left ≡ s.requests_sent → Some left ≡ outstanding_of s
  unfolding outstanding_of
  not_below_zero left e = grind (arith, common_steps)

  pub left_exactly : outstanding_refusal (outstanding_of s) ≡ 0 → settled s + outstanding_count (outstanding_of s) ≡ s.requests_sent
  unfolding outstanding_of
  left_exactly e = grind (arith, common_steps)
