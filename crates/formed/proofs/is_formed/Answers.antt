-- `is_formed` meets its contract. The invariant: the requests read so far passed every test. Assumes nothing.
use Prim.Native.Nat.{◌-◌, ◌≤◌}
use mathlib.Core.Path.{◌≡◌, sym, ◌∙◌}
use mathlib.Core.Bool.{false}
use mathlib.Core.List.{◌∷◌}
use native.Mathlib.Omega.{arith}
use lib.ListN.{length, drop}
use Rattle.requests.proofs.Formed.{too_many}
use Rattle.records.specs.Live.{live}
use Rattle.records.proofs.Live.{live_end, length_live}
use Rattle.formed.proofs.Loaded.{loaded_down}
use Rattle.formed.proofs.Formed.{passed_none, passed_next, no_limits, row_again, not_before, row_below}
use Rattle.formed.proofs.is_formed.Goals as goal
use Rattle.formed.proofs.is_formed.Goals.{After-load-r, then-not-within_limits-via-then-not-within_limits, then-not-within_limits-via-else-not-within_limits+then-seen-r, then-not-within_limits-via-else-not-within_limits+else-seen-r+then-not-is_after}

-- the request that was read stands before those read so far
loaded : (c : After-load-r)
    → drop (c.loop-i.i - 1) (live c.args.n c.args.t.now)
    ≡ c.load-r.result ∷ drop c.loop-i.i (live c.args.n c.args.t.now)
loaded c =
    let u = c.loop-i in
    let a = c.args in
    loaded_down a.n u.i a.t.now c.load-r.result c.load-r.ensures c.loop-i-test.true u.auto.i

pub returns-then-n-gt32 : goal.returns-then-n-gt32
returns-then-n-gt32 c =
    let a = c.args in
    too_many 32 a.mark (live a.n a.t.now) (rw (length_live a.n a.t.now) c.if-n-gt32.true)

pub loop-i-init : goal.loop-i-init
loop-i-init c =
    let a = c.args in
    passed_none 32 a.mark (drop a.n (live a.n a.t.now)) (live_end a.n a.n a.t.now (omega arith))

-- each test that fails
pub returns-then-not-within_limits : goal.returns-then-not-within_limits
returns-then-not-within_limits c =
    let u = c.loop-i in
    let a = c.args in
    let l = live a.n a.t.now in
    let e = loaded (goal.at.returns-then-not-within_limits c).After-load-r in
    elim c.then-not-within_limits.branch [
      | then-not-within_limits-via-then-not-within_limits w ↦ no_limits 32 a.mark l u.i u.seen u.next u.invariant c.load-r.result e (sym c.within_limits.ensures ∙ w.if-not-within_limits.true)
      | then-not-within_limits-via-else-not-within_limits+then-seen-r w ↦ row_again 32 a.mark l u.i u.seen u.next u.invariant c.load-r.result e false (row_below 32 a.mark c.load-r.result (sym c.within_limits.ensures ∙ w.if-not-within_limits.false)) w.if-seen-r.true
      | then-not-within_limits-via-else-not-within_limits+else-seen-r+then-not-is_after w ↦ not_before 32 a.mark l u.i u.seen u.next u.invariant c.load-r.result e (sym w.is_after.ensures ∙ w.if-not-is_after.true)
    ]

pub loop-i-preserved : goal.loop-i-preserved
loop-i-preserved c =
    let u = c.loop-i in
    let a = c.args in
    let h : length (live a.n a.t.now) ≤ 32 = rw (length_live a.n a.t.now) (omega arith) in
    passed_next 32 a.mark (live a.n a.t.now) u.i u.seen u.next u.invariant c.load-r.result (loaded (goal.at.loop-i-preserved c).After-load-r) false h (sym c.within_limits.ensures ∙ c.if-not-within_limits.false) c.if-seen-r.false (sym c.is_after.ensures ∙ c.if-not-is_after.false)
