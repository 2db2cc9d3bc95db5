-- `message::integrity_of` meets its contract. The loop's invariant: what has been found so far, with the walk from this place on, makes
use mathlib.Core.Path.{refl, sym, ◌∙◌}
use native.Mathlib.Omega.{arith}
use Rattle.message.specs.Attributes.{walk_of}
use Rattle.message.proofs.Walks.{Stepped, walk_end, walk_step, walk_cut}
use Rattle.message.proofs.integrity_of.Goals as goal

-- what the step says, where a turn ends
stepped : (c : goal.After-after-found)
    → Stepped c.args.s.now c.loop-at.at c.loop-at.found c.in-Attribute.kind c.in-Attribute.next
stepped c =
    walk_step _ _ _ c.loop-at-test.true _ c.in-Attribute.start c.in-Attribute.len _ (cc)

pub loop-at-init : goal.loop-at-init
unfolding walk_of
loop-at-init c = refl

-- the step was another variant than `Attribute`, so its tag is another one
pub returns-in_default : goal.returns-in_default
returns-in_default c =
    let l = c.loop-at in
    sym
    (walk_cut c.args.s.now l.at l.found c.loop-at-test.true
    (λ k st n next e. c.in_default.not-Attribute k st n next (c.attribute_at.ensures ∙ e)))
    ∙ l.invariant

pub loop-at-smaller : goal.loop-at-smaller
loop-at-smaller c = omega (arith, stepped c)

pub loop-at-preserved : goal.loop-at-preserved
loop-at-preserved c = rw c.after-found.ensures (sym (stepped c).same ∙ c.loop-at.invariant)

pub returns : goal.returns
returns c =
    let l = c.loop-at in
    sym (walk_end c.args.s.now l.at l.found c.loop-at-test.false) ∙ l.invariant
