-- `is_validated_peer` meets its contract. Assumes nothing.
use mathlib.Core.Path.{◌∙◌}
use Rattle.agent.proofs.Calls.{meets_yes, meets_no}
use Rattle.agent.proofs.is_validated_peer.Goals as goal

pub returns-then-contact : goal.returns-then-contact
returns-then-contact c = λ l store m peers st e k. c.done.ensures ∙ meets_yes _ _ c.args.contact l store m peers st e k c.if-contact.true

pub returns : goal.returns
returns c = λ l store m peers st e k. c.done-2.ensures ∙ meets_no _ _ c.args.contact l store m peers st e k c.if-contact.false
