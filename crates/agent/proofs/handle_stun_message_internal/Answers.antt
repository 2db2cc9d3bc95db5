-- `handle_stun_message_internal` meets its contract. Assumes nothing.
use mathlib.Core.Path.{sym, ◌∙◌}
use Rattle.agent.proofs.Model.{passed_on, missed}
use Rattle.agent.proofs.Received.{receives_late, receives_bad, receives_none, plain_full, found_full, plain_yes, found_yes}
use Rattle.agent.proofs.handle_stun_message_internal.Goals as goal

pub returns-in_err-next : goal.returns-in_err-next
returns-in_err-next c = λ store peers st e k. rw (passed_on _ _ _ c.from_residual.ensures.1) (receives_late c.args.agent _ c.args.from c.args.contact c.args.clock _ store peers st e k _ (sym c.in_err-next.ensures))

pub returns-in_err-x : goal.returns-in_err-x
returns-in_err-x c = λ store peers st e k. rw (missed _ _ _ _ _ c.from_residual-in_err-x.ensures.1 c.in_err-x.ensures.value) (receives_bad c.args.agent _ c.args.from c.args.contact c.args.clock _ store peers st e k _ (sym c.in_ok-next.ensures) (sym c.from_bytes.ensures ∙ c.in_err-x.ensures.ok_part))

pub returns-in_err-next-2 : goal.returns-in_err-next-2
returns-in_err-next-2 c = λ store peers st e k. rw (passed_on _ _ _ c.from_residual-in_err-next-2.ensures.1) (plain_full c.args.agent _ c.args.from c.args.contact c.args.clock _ store peers st e k _ (sym c.in_ok-next.ensures) _ (sym c.from_bytes.ensures ∙ c.in_ok-x.ensures.ok_part) (sym c.is_response.ensures ∙ c.if-not-is_response.true) _ (sym c.in_err-next-2.ensures))

pub returns-then-not-is_response : goal.returns-then-not-is_response
returns-then-not-is_response c = λ store peers st e k. rw (c.done.ensures, c.received_as-event.ensures) (plain_yes c.args.agent _ c.args.from c.args.contact c.args.clock _ store peers st e k _ (sym c.in_ok-next.ensures) _ (sym c.from_bytes.ensures ∙ c.in_ok-x.ensures.ok_part) _ _ (sym c.in_ok-next-2.ensures) (sym c.is_response.ensures ∙ c.if-not-is_response.true))

pub returns-in_default : goal.returns-in_default
returns-in_default c = λ store peers st e k. rw c.done-in_default.ensures (receives_none c.args.agent _ c.args.from c.args.contact c.args.clock _ store peers st e k _ (sym c.in_ok-next.ensures) _ (sym c.from_bytes.ensures ∙ c.in_ok-x.ensures.ok_part) (sym c.is_response.ensures ∙ c.if-not-is_response.false) (sym c.find.ensures ∙ c.in_default.is))

pub returns-in_err-next-3 : goal.returns-in_err-next-3
returns-in_err-next-3 c = λ store peers st e k. rw (passed_on _ _ _ c.from_residual-in_err-next-3.ensures.1) (found_full c.args.agent _ c.args.from c.args.contact c.args.clock _ store peers st e k _ (sym c.in_ok-next.ensures) _ (sym c.from_bytes.ensures ∙ c.in_ok-x.ensures.ok_part) _ _ (sym c.is_response.ensures ∙ c.if-not-is_response.false) (sym c.find.ensures ∙ c.in-Some.is) _ (sym c.in_err-next-3.ensures))

pub returns : goal.returns
returns c = λ store peers st e k. rw (c.done-2.ensures, c.received_as-event-2.ensures, c.round_trip.ensures) (found_yes c.args.agent _ c.args.from c.args.contact c.args.clock _ store peers st e k _ (sym c.in_ok-next.ensures) _ (sym c.from_bytes.ensures ∙ c.in_ok-x.ensures.ok_part) _ _ (sym c.in_ok-next-3.ensures) _ _ _ (sym c.is_response.ensures ∙ c.if-not-is_response.false) (sym c.find.ensures ∙ c.in-Some.is) c.remove.ensures)
