-- `replay::lines` meets its contract. The loop's invariant: the lines put so far, with those of what is left, are all that fit.
use Prim.Native.Nat.{◌+◌, ◌≤◌, ◌<◌}
use lib.ListN.{length}
use native.Mathlib.Omega.{arith}
use borrow.Author.Tests.{not-true, not-false}
use Rattle.replay.proofs.Turns.{begun, as_model}
use Rattle.replay.proofs.Fits.{starts, ended, stopped, finished, goes_on, nearer}
use Rattle.replay.proofs.lines.Goals as goal
use Rattle.replay.proofs.lines.Goals.{Else-not-t}

-- at a turn's end
near : (c : Else-not-t)
    → (c.loop-at.at < c.loop-at.at + c.next_turn-t.result.next)
    × (c.loop-at.at + c.next_turn-t.result.next ≤ length c.args.trace.now)
near c = nearer c.loop-at.invariant c.loop-at-test.true (as_model c.next_turn-t.ensures (omega (arith, c.loop-at.auto.table, c.requires.rows))) c.put_line-end.ensures c.if-out-end.false (not-false _ c.if-not-t.false)

pub loop-at-init : goal.loop-at-init
loop-at-init c = starts _ _ (begun c.start-standing.ensures c.requires)

pub returns-then-out-end : goal.returns-then-out-end
returns-then-out-end c = stopped c.loop-at.invariant c.loop-at-test.true (as_model c.next_turn-t.ensures (omega (arith, c.loop-at.auto.table, c.requires.rows))) c.put_line-end.ensures c.if-out-end.true

pub returns-then-not-t : goal.returns-then-not-t
returns-then-not-t c = finished c.loop-at.invariant c.loop-at-test.true (as_model c.next_turn-t.ensures (omega (arith, c.loop-at.auto.table, c.requires.rows))) c.put_line-end.ensures c.if-out-end.false (not-true _ c.if-not-t.true)

pub overflow_add-at : goal.overflow_add-at
overflow_add-at c = omega (arith, near (goal.at.overflow_add-at c).Else-not-t, c.well_formed)

pub overflow_add-number : goal.overflow_add-number
overflow_add-number c = omega (arith, near (goal.at.overflow_add-number c).Else-not-t, c.loop-at.invariant.counts)

pub loop-at-smaller : goal.loop-at-smaller
loop-at-smaller c = omega (arith, near (goal.at.loop-at-smaller c).Else-not-t)

pub loop-at-preserved : goal.loop-at-preserved
loop-at-preserved c = goes_on c.loop-at.invariant c.loop-at-test.true (as_model c.next_turn-t.ensures (omega (arith, c.loop-at.auto.table, c.requires.rows))) c.put_line-end.ensures c.if-out-end.false (not-false _ c.if-not-t.false)

pub returns : goal.returns
returns c = ended c.loop-at.invariant c.loop-at-test.false
