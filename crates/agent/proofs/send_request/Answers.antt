-- `send_request` meets its contract. Assumes nothing.
use native.Mathlib.Omega.{arith}
use Rattle.std.specs.Prelude.{is_some}
use mathlib.Core.Path.{sym, ap, ◌∙◌}
use Rattle.agent.proofs.Model.{passed_on, missed}
use Rattle.agent.proofs.Submits.{submits_late, submits_long, submits_bad, submits_class, submits_busy, submits_full, submits_sent, new_within, insertable}
use Rattle.agent.proofs.send_request.Goals as goal

pub returns-in_err-next : goal.returns-in_err-next
returns-in_err-next c = λ peers st. rw (passed_on _ _ _ c.from_residual.ensures.1) (submits_late c.args.agent _ _ c.args.clock _ _ peers st _ (sym c.in_err-next.ensures))

pub returns-then-len-gt-ROW : goal.returns-then-len-gt-ROW
returns-then-len-gt-ROW c = λ peers st. submits_long c.args.agent _ _ c.args.clock _ _ peers st _ (sym c.in_ok-next.ensures) (omega arith)

pub returns-in_err-x : goal.returns-in_err-x
returns-in_err-x c = λ peers st. rw (missed _ _ _ _ _ c.from_residual-in_err-x.ensures.1 c.in_err-x.ensures.value) (submits_bad c.args.agent _ _ c.args.clock _ _ peers st _ (sym c.in_ok-next.ensures) (omega (arith, c.if-len-gt-ROW.false)) (sym c.from_bytes.ensures ∙ c.in_err-x.ensures.ok_part))

pub returns-then-not-is_request : goal.returns-then-not-is_request
returns-then-not-is_request c = λ peers st. submits_class c.args.agent _ _ c.args.clock _ _ peers st _ (sym c.in_ok-next.ensures) (omega (arith, c.if-len-gt-ROW.false)) _ (sym c.from_bytes.ensures ∙ c.in_ok-x.ensures.ok_part) (sym c.is_request.ensures ∙ c.if-not-is_request.true)

pub returns-then-is_some : goal.returns-then-is_some
returns-then-is_some c = λ peers st. submits_busy c.args.agent _ _ c.args.clock _ _ peers st _ (sym c.in_ok-next.ensures) (omega (arith, c.if-len-gt-ROW.false)) _ (sym c.from_bytes.ensures ∙ c.in_ok-x.ensures.ok_part) (sym c.is_request.ensures ∙ c.if-not-is_request.false) (sym (ap is_some c.find.ensures) ∙ (sym c.is_some.ensures ∙ c.if-is_some.true))

pub returns-in_err-row : goal.returns-in_err-row
returns-in_err-row c = λ peers st. rw (missed _ _ _ _ _ c.from_residual-in_err-row.ensures.1 c.in_err-row.ensures.value) (submits_full c.args.agent _ _ c.args.clock _ _ peers st _ (sym c.in_ok-next.ensures) (omega (arith, c.if-len-gt-ROW.false)) _ (sym c.from_bytes.ensures ∙ c.in_ok-x.ensures.ok_part) (sym c.is_request.ensures ∙ c.if-not-is_request.false) c.requires (sym (ap is_some c.find.ensures) ∙ (sym c.is_some.ensures ∙ c.if-is_some.false)) (sym c.free_row.ensures ∙ c.in_err-row.ensures.ok_part))

pub submitted-q-requires : goal.submitted-q-requires
submitted-q-requires c = new_within _ _ c.requires _ (sym c.free_row.ensures ∙ c.in_ok-row.ensures.ok_part) _ _ (omega (arith, c.if-len-gt-ROW.false)) (sym c.from_bytes.ensures ∙ c.in_ok-x.ensures.ok_part)

pub insert-requires : goal.insert-requires
insert-requires c = insertable _ _ c.requires _ (sym c.free_row.ensures ∙ c.in_ok-row.ensures.ok_part) _ _ c.place-at.ensures

pub returns : goal.returns
returns c = λ peers st. rw (c.done.ensures, c.handed_out.ensures) (submits_sent c.args.agent _ _ c.args.clock _ _ peers st _ (sym c.in_ok-next.ensures) (omega (arith, c.if-len-gt-ROW.false)) _ (sym c.from_bytes.ensures ∙ c.in_ok-x.ensures.ok_part) (sym c.is_request.ensures ∙ c.if-not-is_request.false) c.requires (sym (ap is_some c.find.ensures) ∙ (sym c.is_some.ensures ∙ c.if-is_some.false)) _ (sym c.free_row.ensures ∙ c.in_ok-row.ensures.ok_part) _ _ _ _ c.submitted-q.ensures c.copy.ensures c.place-at.ensures c.insert.ensures)
