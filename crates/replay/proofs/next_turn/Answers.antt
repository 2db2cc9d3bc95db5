-- `replay::next_turn` meets its contract: the record says which way it is, and lies within the trace.
use mathlib.Core.Path.{sym, ap, ◌∙◌}
use native.Mathlib.Omega.{arith}
use Rattle.std.specs.Prelude.{Some}
use Rattle.record.proofs.Frames.{Lies, whole_lies}
use Rattle.replay.proofs.Turns.{broken, renews}
use Rattle.replay.proofs.next_turn.Goals.{In-Whole}
use Rattle.replay.proofs.next_turn.Goals as goal

pub returns-in_default : goal.returns-in_default
returns-in_default c = rw c.stop.ensures (broken _ _ _ _ c.record_of.ensures c.in_default.is)

-- A record that is a call lies within the trace.
lies : (c : In-Whole) → Lies c.args.rest.now c.in-Whole.start c.in-Whole.end
lies c = whole_lies _ (sym c.record_of.ensures ∙ c.in-Some.is ∙ ap Some c.in-Whole.is)

pub slice_bounds-step-count : goal.slice_bounds-step-count
slice_bounds-step-count c = let l = lies (goal.at.slice_bounds-step-count c).In-Whole in omega arith

pub slice_bounds-step-start : goal.slice_bounds-step-start
slice_bounds-step-start c = (lies (goal.at.slice_bounds-step-start c).In-Whole).starts

pub slice_bounds-step-end : goal.slice_bounds-step-end
slice_bounds-step-end c = (lies (goal.at.slice_bounds-step-end c).In-Whole).ends

pub returns-in-Ok : goal.returns-in-Ok
returns-in-Ok c = renews _ _ _ _ c.record_of.ensures (c.in-Some.is ∙ ap Some c.in-Settings.is) c.build.ensures c.in-Ok.is c.after-stats.ensures
