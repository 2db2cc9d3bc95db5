-- The test before the call decides what it asks for.
use Rattle.std.proofs.Common.{sym, ◌∙◌}
use Rattle.request.proofs.Limits.{within_limits_lem}
use Rattle.scenarios.proofs.requests.round_trip.Goals as goal

pub round_trip-requires : goal.round_trip-requires
round_trip-requires g c =
    (within_limits_lem _ _ _).0 (sym c.within_limits.ensures ∙ c.if-not-within_limits.false)
