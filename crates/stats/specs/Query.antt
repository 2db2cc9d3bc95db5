-- What the statistics are asked for (document 01, "The agent" and "Refusal numbers").
use Rattle.std.specs.Prelude.{ℕ, zero, suc, ◌+◌, ◌-◌, ◌/◌, cond, leb, Option, None, Some}
use Rattle.stats.specs.declared.StunAgentStats.{StunAgentStats}

-- "Average: floor of sum by count; none without samples", whatever the sum then is.
abbrev pub average : ℕ → ℕ → Option ℕ
average sum zero = None
average sum (suc n) = Some (sum / suc n)

-- Of a record.
unfoldable pub average_of : StunAgentStats → Option ℕ
average_of s = average s.rtt_sum s.rtt_count

-- The requests that are over, as an exact number, though it may pass 64 bits.
abbrev pub settled : StunAgentStats → ℕ
settled s = s.responses_received + s.transactions_timed_out + s.transactions_cancelled

-- Refusal 12: "the query for the outstanding count finds it below zero".
unfoldable pub outstanding_of : StunAgentStats → Option ℕ
outstanding_of s = cond (leb (settled s) s.requests_sent) (Some (s.requests_sent - settled s)) None

-- The refusal number of each answer, 0 for none.
abbrev pub outstanding_refusal : Option ℕ → ℕ
outstanding_refusal (Some n) = 0
outstanding_refusal None = 12

-- The count that it gives.
abbrev pub outstanding_count : Option ℕ → ℕ
outstanding_count (Some n) = n
outstanding_count None = 0
