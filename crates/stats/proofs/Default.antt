-- What the derived `default` answers is the zeroed record.
use Rattle.std.specs.Prelude.{◌≡◌}
use Rattle.std.proofs.Common.{arith}
use Rattle.stats.specs.Count.{zeroed}
use Rattle.stats.specs.contracts.StunAgentStatsDefault.TheImpl.{is_default-value}
use Rattle.stats.specs.declared.StunAgentStats.{StunAgentStats}

pub zeroed_is : {s : StunAgentStats} → is_default-value.it s → s ≡ zeroed
zeroed_is h = grind arith
