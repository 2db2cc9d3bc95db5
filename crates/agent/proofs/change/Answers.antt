-- `change` meets its contract. Assumes nothing.
use mathlib.Core.Path.{sym, ◌∙◌}
use Rattle.agent.proofs.Model.{missed}
use Rattle.agent.proofs.Named.{changes_none, changes_found}
use Rattle.agent.proofs.change.Goals as goal

pub returns-in_err-at : goal.returns-in_err-at
returns-in_err-at g c = λ wish asks store m peers st. rw (missed _ _ _ _ _ c.from_residual.ensures.1 c.in_err-at.ensures.value) (changes_none _ _ _ wish store m peers st _ asks (sym c.find.ensures ∙ c.in_err-at.ensures.ok_part))

pub returns : goal.returns
returns g c = λ wish asks store m peers st. rw c.done.ensures (changes_found _ _ _ wish store m peers st _ asks _ _ _ _ (sym c.find.ensures ∙ c.in_ok-at.ensures.ok_part) c.alter.ensures c.replace.ensures)
