-- The test before the call decides what it asks for.
use Rattle.std.proofs.Common.{sym, ◌∙◌}
use Rattle.request.proofs.Limits.{within_limits_lem}
use Rattle.scenarios.proofs.requests.poll.Goals as goal

pub poll-requires : goal.poll-requires
poll-requires g c =
    (within_limits_lem _ _ _).0 (sym c.within_limits.ensures ∙ c.if-not-within_limits.false)
