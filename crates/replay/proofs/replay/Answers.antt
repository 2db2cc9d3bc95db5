-- `replay::replay` meets its contract: the lines, and then zeros.
use Rattle.replay.proofs.Turns.{cleared}
use Rattle.replay.proofs.Fits.{replayed, filled}
use Rattle.replay.proofs.replay.Goals as goal

pub lines-end-requires : goal.lines-end-requires
lines-end-requires c = cleared

pub returns : goal.returns
returns c =
    replayed c.lines-end.ensures c.lines-end.auto.out (filled _ _ (rw c.lines-end.auto.out c.lines-end.ensures.within) (c.fill.ensures.after (λ y h. h)))
