-- `configure_timeout_with_max` meets its contract. Assumes nothing.
use mathlib.Core.Path.{sym, ap, ◌∙◌}
use mathlib.Core.Bool.{not}
use Rattle.model.specs.Calls.{configure}
use Rattle.agent.proofs.Named.{changes_unfit}
use Rattle.agent.proofs.configure_timeout_with_max.Goals as goal

pub returns-then-not-within_limits : goal.returns-then-not-within_limits
returns-then-not-within_limits c = λ store m peers st. changes_unfit _ _ _ (configure c.args.rto) store m peers st (ap not (sym c.within_limits.ensures ∙ c.if-not-within_limits.true))
