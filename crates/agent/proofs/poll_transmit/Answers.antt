-- `poll_transmit` meets its contract. Assumes nothing.
use mathlib.Core.Path.{sym}
use Rattle.model.specs.Calls.{transmits}
use Rattle.agent.proofs.Model.{passed_on}
use Rattle.agent.proofs.Scans.{scans_late, transmits_done}
use Rattle.agent.proofs.poll_transmit.Goals as goal

pub returns-in_err-next : goal.returns-in_err-next
returns-in_err-next c = λ store m peers st. rw (passed_on _ _ _ c.from_residual.ensures.1) (scans_late _ _ _ store m peers st transmits _ (sym c.in_err-next.ensures))

pub returns-in-Some : goal.returns-in-Some
returns-in-Some c = λ store m peers st. rw (c.done.ensures, c.handed_out.ensures) (transmits_done _ _ _ store m peers st _ (sym c.in_ok-next.ensures) _ _ c.in-Some.ensures)

pub returns-in-None : goal.returns-in-None
returns-in-None c = λ store m peers st. rw c.done-in-None.ensures (transmits_done _ _ _ store m peers st _ (sym c.in_ok-next.ensures) _ _ c.in-None.ensures)
