-- `table::poll_transmit` meets its contract: `Stands` holds at the head of each turn, and each way through one is a law.
use Prim.Native.Nat.{ℕ, ◌+◌}
use mathlib.Core.Path.{sym, ap, subst, ◌∙◌}
use mathlib.Core.List.{List}
use Rattle.request.specs.Request.{transmit_of}
use Rattle.table.proofs.Scans.{Stands, begun, here, rested, passed, went, ended}
use Rattle.table.proofs.poll_transmit.Goals as goal
use Rattle.table.proofs.poll_transmit.Goals.{in-Passes, in-Rests}

pub loop-i-init : goal.loop-i-init
loop-i-init c = begun _ _ _ _ c.requires.2

pub poll_transmit-requires : goal.poll_transmit-requires
poll_transmit-requires c =
    let a = c.args in
    let l = c.loop-i in
    rw c.load-q.ensures (here a.transport a.n a.clock a.t.now l.t l.i l.invariant c.if-n-i.false)

pub loop-i-preserved : goal.loop-i-preserved
loop-i-preserved c =
    let l = c.loop-i in
    let a = c.args in
    let I : List ℕ → Type 0 = λ x. Stands a.transport a.n a.clock a.t.now x (l.i + 1) in
    let f = ap (transmit_of a.transport a.clock) (sym c.load-q.ensures) ∙ sym c.poll_transmit.ensures in
    elim c.match-poll_transmit.branch [
      | in-Passes w ↦ subst I (sym w.t-is) (passed a.transport a.n a.clock a.t.now l.t l.i l.invariant c.if-n-i.false c.requires.0 c.requires.1 _ _ w.put-in-Passes.ensures (f ∙ w.in-Passes.is))
      | in-Rests w ↦ subst I (sym w.t-is) (rested a.transport a.n a.clock a.t.now l.t l.i l.invariant c.if-n-i.false (f ∙ w.in-Rests.is))
    ]

pub returns-then-n-i : goal.returns-then-n-i
returns-then-n-i c =
    let l = c.loop-i in
    let a = c.args in
    ended a.transport a.n a.clock a.t.now l.t l.i l.invariant c.if-n-i.true

pub returns-in-Goes : goal.returns-in-Goes
returns-in-Goes c =
    let l = c.loop-i in
    let a = c.args in
    let f = ap (transmit_of a.transport a.clock) (sym c.load-q.ensures) ∙ sym c.poll_transmit.ensures ∙ c.in-Goes.is in
    went a.transport a.n a.clock a.t.now l.t l.i l.invariant c.if-n-i.false c.requires.0 c.requires.1 _ c.in-Goes.p c.put.ensures f
