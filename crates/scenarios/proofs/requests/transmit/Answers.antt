-- The test before the call decides what it asks for.
use Rattle.std.proofs.Common.{sym, ◌∙◌}
use Rattle.request.proofs.Limits.{within_limits_lem}
use Rattle.scenarios.proofs.requests.transmit.Goals as goal

pub poll_transmit-requires : goal.poll_transmit-requires
poll_transmit-requires g c =
    (within_limits_lem _ _ _).0 (sym c.within_limits.ensures ∙ c.if-not-within_limits.false)
