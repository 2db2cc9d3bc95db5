-- From a zeroed record, below the stops, minimum ≤ average ≤ maximum is kept by every event.
use Rattle.std.specs.Prelude.{Option, None, Some}
use mathlib.Core.Path.{◌≡◌, refl}
use Prim.Native.Nat.{ℕ, zero, suc, ◌+◌, ◌-◌, ◌*◌, ◌^◌, ◌≤◌, ◌<◌, min, max}
use native.Mathlib.Nat.{mul-le-mul_right, le-div_iff_mul-le, div-le_of_le-mul, mul_comm, mul-add, mul-one}
use native.Mathlib.Omega.{arith}
use Rattle.stats.specs.Count.{plus, lesser, greater, counted, zeroed}
use Rattle.stats.specs.Query.{average, average_of}
use Rattle.stats.specs.Laws.{BelowStops, Between, Spread, Ordered}
use Rattle.stats.specs.declared.StunAgentStats.{StunAgentStats}
use Rattle.stats.specs.declared.Event.{Event}

pub zeroed_spread : Spread zeroed
zeroed_spread = (refl, refl)

more : (a count : ℕ) → a * (count + 1) ≡ a * count + a
more a count = rw (mul-add, mul-one)

more_below : (a t count sum : ℕ) → a * count ≤ sum → min a t * (count + 1) ≤ sum + t
more_below a t count sum h =
    omega (arith, more (min a t) count, mul-le-mul_right {m = min a t} {n = a} count (omega arith))

more_above : (b t count sum : ℕ) → sum ≤ b * count → sum + t ≤ max b t * (count + 1)
more_above b t count sum h =
    omega (arith, more (max b t) count, mul-le-mul_right {m = b} {n = max b t} count (omega arith))

-- One sample more, where neither the sum nor the count stops.
between_more : (a b : Option ℕ) (sum count t : ℕ) → Between a b sum count → plus sum t < 2 ^ 64 - 1 → plus count 1 < 2 ^ 64 - 1
    → Between (lesser a t) (greater b t) (plus sum t) (plus count 1)
between_more None None sum count t h below more-count =
    let one : plus count 1 ≡ 1 = omega arith in
    let all : plus sum t ≡ t = omega arith in
    rw (one, all) (omega arith, omega arith, omega arith)
between_more None (Some b) sum count t h below more-count = absurd h
between_more (Some a) None sum count t h below more-count = absurd h
between_more (Some a) (Some b) sum count t h below more-count =
    let one : plus count 1 ≡ count + 1 = omega arith in
    let all : plus sum t ≡ sum + t = omega arith in
    rw (one, all) (omega arith, more_below a t count sum h.1, more_above b t count sum h.2)

pub spread_kept : (e : Event) (s : StunAgentStats) → Spread s → BelowStops (counted e s) → Spread (counted e s)
unfolding counted
spread_kept e s h below = grind (arith, between_more)

-- So the average, where there is one, lies between the two.
ordered : (a b : Option ℕ) (sum count : ℕ) → Between a b sum count → Ordered a (average sum count) b
ordered None None sum count h = rw h.1 tt
ordered None (Some b) sum count h = absurd h
ordered (Some a) None sum count h = absurd h
ordered (Some a) (Some b) sum zero h = absurd (omega arith)
ordered (Some a) (Some b) sum (suc n) h =
    ((le-div_iff_mul-le {k = suc n} {x = a} {y = sum} h.0).1 h.1, div-le_of_le-mul (suc n) (rw mul_comm h.2))

pub spread_ordered : (s : StunAgentStats) → Spread s → Ordered s.rtt_min (average_of s) s.rtt_max
unfolding average_of
spread_ordered s h = ordered s.rtt_min s.rtt_max s.rtt_sum s.rtt_count h
