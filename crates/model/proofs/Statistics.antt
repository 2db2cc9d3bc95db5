-- The statistics record after a call.
--     counts_event     a call that isn't refused counts its event, and nothing else
--     off_untouched    while statistics are off, no call touches the record
use Rattle.std.specs.Prelude.{None}
use Prim.Native.Nat.{ℕ}
use mathlib.Core.Path.{◌≡◌}
use mathlib.Core.Bool.{false}
use mathlib.Core.List.{List}
use native.Mathlib.Omega.{arith}
use Rattle.std.proofs.lemmas.Grind.{common_steps}
use Rattle.stats.specs.Count.{counted}
use Rattle.stats.proofs.Fields.{nothing}
use Rattle.model.specs.World.{World}
use Rattle.model.specs.Calls.{Kind}
use Rattle.model.specs.Refusals.{refusal_of}
use Rattle.model.specs.Effects.{event_of, after}
use Rattle.model.specs.Says.{says_of}

module _ (rows : ℕ) (w : World) (k : Kind) (m : List ℕ) where
  pub counts_event : refusal_of rows w k m ≡ None → (says_of rows w k m).world.stats ≡ counted (event_of w k m) w.stats
  unfolding says_of after
  counts_event e = grind (arith, common_steps)

  -- "None while off."
  pub off_untouched : w.agent.stats ≡ false → (says_of rows w k m).world.stats ≡ w.stats
  unfolding says_of after event_of
  off_untouched off = let n = nothing w.stats in grind (arith, common_steps, n)
