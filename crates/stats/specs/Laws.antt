-- The words of the laws about the statistics: the stops, the requests opened and settled, and the spread of the round trips.
use Rattle.std.specs.Prelude.{ℕ, ◌-◌, ◌*◌, ◌^◌, ◌≤◌, ◌<◌, ◌≡◌, Option, None, Some}
use Rattle.stats.specs.declared.StunAgentStats.{StunAgentStats}
use Rattle.stats.specs.declared.Event.{Event}
use Rattle.stats.specs.declared.Event.TheVariants.{
  Nothing,
  RequestSent,
  RequestReceived,
  IndicationSent,
  IndicationReceived,
  ResponseSent,
  ResponseReceived,
  RetransmitBytes,
  TimedOut,
  Cancelled,
  Reset,
}

-- No number has come to its stop (document 01, "below the stops").
pub record BelowStops (s : StunAgentStats) : Type 0 where
  pub sent : s.requests_sent < 2 ^ 64 - 1
  pub answered : s.responses_received < 2 ^ 64 - 1
  pub timed_out_lem : s.transactions_timed_out < 2 ^ 64 - 1
  pub cancelled : s.transactions_cancelled < 2 ^ 64 - 1
  pub sum : s.rtt_sum < 2 ^ 64 - 1
  pub count : s.rtt_count < 2 ^ 64 - 1

-- The requests that an event opens. With those that it settles it gives the sum that document 01 states of a run.
abbrev pub opens : Event → ℕ
opens Nothing = 0
opens (RequestSent n) = 1
opens (RequestReceived n) = 0
opens (IndicationSent n) = 0
opens (IndicationReceived n) = 0
opens (ResponseSent n) = 0
opens (ResponseReceived n t) = 0
opens (RetransmitBytes n) = 0
opens TimedOut = 0
opens Cancelled = 0
opens Reset = 0

-- Those that it settles.
abbrev pub settles : Event → ℕ
settles Nothing = 0
settles (RequestSent n) = 0
settles (RequestReceived n) = 0
settles (IndicationSent n) = 0
settles (IndicationReceived n) = 0
settles (ResponseSent n) = 0
settles (ResponseReceived n t) = 1
settles (RetransmitBytes n) = 0
settles TimedOut = 1
settles Cancelled = 1
settles Reset = 0

-- The sum of the samples lies between count times the least and count times the greatest; without a sample all are absent or 0.
abbrev pub Between : Option ℕ → Option ℕ → ℕ → ℕ → Type 0
Between None None sum count = (sum ≡ 0) × (count ≡ 0)
Between None (Some b) sum count = ⊥
Between (Some a) None sum count = ⊥
Between (Some a) (Some b) sum count = (0 < count) × (a * count ≤ sum) × (sum ≤ b * count)

-- Of a record.
abbrev pub Spread : StunAgentStats → Type 0
Spread s = Between s.rtt_min s.rtt_max s.rtt_sum s.rtt_count

-- Minimum ≤ average ≤ maximum; or none of the three.
abbrev pub Ordered : Option ℕ → Option ℕ → Option ℕ → Type 0
Ordered None None None = Unit {0}
Ordered None None (Some b) = ⊥
Ordered None (Some m) b = ⊥
Ordered (Some a) None b = ⊥
Ordered (Some a) (Some m) None = ⊥
Ordered (Some a) (Some m) (Some b) = (a ≤ m) × (m ≤ b)
