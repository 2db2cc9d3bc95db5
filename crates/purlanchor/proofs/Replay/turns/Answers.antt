-- A turn uses something of the part and no more than there is.
use Rattle.std.proofs.Common.{◌≡◌, ℕ, ◌+◌, ◌-◌, ◌<◌, ◌≤◌, true, List, length, take, drop, arith}
use Rattle.std.proofs.lemmas.Bool.{not-false}
use Rattle.records.specs.Coding.{size}
use Rattle.replay.specs.Lent.{Plays, stand_of}
use Rattle.replay.specs.declared.Standing.{Standing}
use Rattle.replay.specs.declared.Turn.{Turn}
use Rattle.replay.proofs.Turns.{as_model}
use Rattle.replay.proofs.Steps.{turn_within}
use Rattle.purlanchor.proofs.Replay.turns.Goals as goal

goes : (part : List ℕ) (at : ℕ) {x : Standing} {t store : List ℕ} {r : Turn} {t' store' : List ℕ} → at ≤ length part → size ≤ length t
    → Plays x (take (length part - at) (drop at part)) t store r t' store' → (at + r.next ≤ length part) × (r.more ≡ true → 0 < r.next)
goes part at {x} {t} {store} h k p = turn_within part at (stand_of x t store) h (as_model p k)

pub overflow_add-at : goal.overflow_add-at
overflow_add-at c =
    let w = goes c.args.part.now c.loop-at.at c.loop-at.invariant (omega arith) c.next_turn-t.ensures in
    omega (arith, w.0)

pub loop-at-smaller : goal.loop-at-smaller
loop-at-smaller c =
    let w = goes c.args.part.now c.loop-at.at c.loop-at.invariant (omega arith) c.next_turn-t.ensures in
    let some = w.1 (not-false _ c.if-not-t.false) in
    omega (arith, w.0, some)

pub loop-at-preserved : goal.loop-at-preserved
loop-at-preserved c =
    let w = goes c.args.part.now c.loop-at.at c.loop-at.invariant (omega arith) c.next_turn-t.ensures in
    w.0
