-- `free_row` meets its contract. The invariant: the rows of the requests read so far are flagged. Assumes nothing.
use Prim.Native.Nat.{◌-◌}
use mathlib.Core.Path.{◌∙◌}
use native.Mathlib.Omega.{arith}
use lib.ListN.{drop}
use Rattle.records.specs.Live.{live}
use Rattle.records.proofs.Live.{live_end}
use Rattle.formed.proofs.Loaded.{loaded_down, flagged_none, mark_taken, mark_nothing, free_flag}
use Rattle.formed.proofs.free_row.Goals as goal

pub loop-i-init : goal.loop-i-init
loop-i-init c =
    let a = c.args in
    flagged_none 32 (drop a.n (live a.n a.t.now)) (live_end a.n a.n a.t.now (omega arith))

pub loop-i-preserved-then-row-lt32 : goal.loop-i-preserved-then-row-lt32
loop-i-preserved-then-row-lt32 c =
    let a = c.args in
    let u = c.loop-i in
    let q = c.load-row in
    let l = live a.n a.t.now in
    let e = loaded_down a.n u.i a.t.now q.result q.ensures c.loop-i-test.true u.auto.i in
    mark_taken 32 u.taken (drop u.i l) (drop (u.i - 1) l) q.result u.invariant e c.if-row-lt32.true

pub loop-i-preserved : goal.loop-i-preserved
loop-i-preserved c =
    let a = c.args in
    let u = c.loop-i in
    let q = c.load-row in
    let l = live a.n a.t.now in
    let e = loaded_down a.n u.i a.t.now q.result q.ensures c.loop-i-test.true u.auto.i in
    mark_nothing 32 u.taken (drop u.i l) (drop (u.i - 1) l) q.result u.invariant e c.if-row-lt32.false

pub returns : goal.returns
returns c =
    let a = c.args in
    let u = c.loop-i in
    c.lowest.ensures ∙ free_flag 32 u.taken (live a.n a.t.now) u.i u.invariant c.loop-i-test.false
