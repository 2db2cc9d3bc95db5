-- A wait is twice the one before it, up to the maximum, and the first is the initial one, up to it too.
use Rattle.std.proofs.Common.{◌∙◌, ap, ◌+◌, min, ℕ}
use Rattle.waits.proofs.Doubling.{wait_next}
use Rattle.waits.proofs.+wait.Goals as goal

pub returns : goal.returns
returns t c =
    c.min-2.ensures
    ∙ ap (λ (b : ℕ). min (b + b) c.args.max) c.wait-before.ensures
    ∙ wait_next c.args.initial c.args.max c.args.i c.if-i-eq0.false
