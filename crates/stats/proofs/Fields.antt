-- Which fields an event leaves alone, and how far it moves the others.
--     counters_moved        the ten counters, by the table `moves_of`
--     times_after_lem           the four numbers on round trips
--     nothing, reset        the two events that no number depends on
--     opened, settled_by    below the stops, what an event other than a reset adds to the two sides of the count of outstanding requests
use mathlib.Core.Path.{◌≡◌, refl}
use Prim.Native.Nat.{◌+◌}
use native.Mathlib.Omega.{arith}
use Rattle.stats.specs.Count.{moved, moves_of, times_of, times_after, counted, zeroed}
use Rattle.stats.specs.Query.{settled}
use Rattle.stats.specs.Laws.{BelowStops, opens, settles}
use Rattle.stats.specs.declared.StunAgentStats.{StunAgentStats}
use Rattle.stats.specs.declared.Event.{Event}
use Rattle.stats.specs.declared.Event.TheVariants.{Nothing, Reset}

pub record CountersMoved (e : Event) (s : StunAgentStats) : Type 0 where
  pub requests_sent : (counted e s).requests_sent ≡ moved (moves_of e).requests_sent s.requests_sent
  pub requests_received : (counted e s).requests_received ≡ moved (moves_of e).requests_received s.requests_received
  pub responses_sent : (counted e s).responses_sent ≡ moved (moves_of e).responses_sent s.responses_sent
  pub responses_received : (counted e s).responses_received ≡ moved (moves_of e).responses_received s.responses_received
  pub indications_sent : (counted e s).indications_sent ≡ moved (moves_of e).indications_sent s.indications_sent
  pub indications_received : (counted e s).indications_received ≡ moved (moves_of e).indications_received s.indications_received
  pub timed_out : (counted e s).transactions_timed_out ≡ moved (moves_of e).timed_out s.transactions_timed_out
  pub cancelled : (counted e s).transactions_cancelled ≡ moved (moves_of e).cancelled s.transactions_cancelled
  pub bytes_sent : (counted e s).bytes_sent ≡ moved (moves_of e).bytes_sent s.bytes_sent
  pub bytes_received : (counted e s).bytes_received ≡ moved (moves_of e).bytes_received s.bytes_received

pub counters_moved : (e : Event) (s : StunAgentStats) → CountersMoved e s
unfolding counted
counters_moved e s = grind arith

pub times_after_lem : (e : Event) (s : StunAgentStats) → times_of (counted e s) ≡ times_after e (times_of s)
unfolding counted
times_after_lem e s = refl

module _ (s : StunAgentStats) where
  pub nothing : s ≡ counted Nothing s
  unfolding counted
  nothing = refl

  pub reset : zeroed ≡ counted Reset s
  unfolding counted
  reset = refl

  pub opened : (e : Event) → (e ≡ Reset → ⊥) → BelowStops (counted e s) → (counted e s).requests_sent ≡ s.requests_sent + opens e
  unfolding counted
  opened e other below = grind arith

  pub settled_by : (e : Event) → (e ≡ Reset → ⊥) → BelowStops (counted e s) → settled (counted e s) ≡ settled s + settles e
  unfolding counted
  settled_by e other below = grind arith
