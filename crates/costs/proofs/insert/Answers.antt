-- A request is put in with settings that passed the test.
use Rattle.std.proofs.Common.{sym, ◌∙◌}
use Rattle.waits.proofs.Limits.{within_limits_lem}
use Rattle.costs.proofs.insert.Goals as goal

pub request_of-r-requires : goal.request_of-r-requires
request_of-r-requires c =
    (c.if-n-ge32.false, (within_limits_lem _).0 (sym c.within_limits.ensures ∙ c.if-not-within_limits.false))
