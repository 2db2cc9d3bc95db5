-- `poll` meets its contract. Assumes nothing.
use mathlib.Core.Path.{sym}
use Rattle.model.specs.Calls.{reports}
use Rattle.agent.proofs.Model.{passed_on}
use Rattle.agent.proofs.Table.{kept_same}
use Rattle.agent.proofs.Scans.{scans_late, reports_done}
use Rattle.agent.proofs.poll.Goals as goal

pub returns-in_err-next : goal.returns-in_err-next
returns-in_err-next c = λ store m peers st. rw (passed_on _ _ _ c.from_residual.ensures.1) (scans_late _ _ _ store m peers st reports _ (sym c.in_err-next.ensures))

pub returns-in-TimedOut : goal.returns-in-TimedOut
returns-in-TimedOut c = λ store m peers st. rw c.done.ensures (reports_done _ _ _ store m peers st _ (sym c.in_ok-next.ensures) _ _ (sym c.in-TimedOut.ensures) c.remove.ensures)

pub returns-in-Cancelled : goal.returns-in-Cancelled
returns-in-Cancelled c = λ store m peers st. rw c.done-in-Cancelled.ensures (reports_done _ _ _ store m peers st _ (sym c.in_ok-next.ensures) _ _ (sym c.in-Cancelled.ensures) c.remove-in-Cancelled.ensures)

pub returns-in-WaitUntil : goal.returns-in-WaitUntil
returns-in-WaitUntil c = λ store m peers st. rw c.done-in-WaitUntil.ensures (reports_done _ _ _ store m peers st _ (sym c.in_ok-next.ensures) _ _ (sym c.in-WaitUntil.ensures) (kept_same c.args.agent.transport c.args.agent.requests c.args.table.now))
