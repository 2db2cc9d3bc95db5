-- The test of a state decides whether it is well formed, and a fresh one is.
use Prim.Native.Nat.{ℕ, ◌*◌, ◌≤◌}
use mathlib.Core.Path.{◌≡◌, refl}
use mathlib.Core.Bool.{Bool, true}
use mathlib.Core.Logic.{◌↔◌}
use mathlib.Core.List.{List}
use native.Mathlib.Omega.{arith}
use Rattle.std.proofs.lemmas.Grind.{common_steps}
use lib.ListN.{length}
use Rattle.address.specs.declared.Address.{Address}
use Rattle.waits.specs.Waits as waits
use Rattle.waits.specs.declared.RequestRto.{RequestRto}
use Rattle.waits.specs.declared.Transport.{Transport}
use Rattle.waits.proofs.Limits.{within_limits_lem}
use Rattle.stats.specs.declared.StunAgentStats.{StunAgentStats}
use Rattle.requests.proofs.Formed.{formed_exactly}
use Rattle.requests.proofs.Kept.{formed_empty}
use Rattle.model.specs.World.{World, StateFormed, state_formed}
use Rattle.model.specs.Fresh.{fresh}

module _ (rows : ℕ) (w : World) where
  pub state_exactly : (state_formed rows w ≡ true) ↔ StateFormed rows w
  unfolding state_formed
  state_exactly =
      let settings = within_limits_lem w.agent.rto in
      let requests = formed_exactly rows w.agent.mark w.requests in
      (λ e. grind (arith, common_steps, settings, requests), λ s. grind (arith, common_steps, settings, requests))

-- What `build` makes of settings within limits, over a store that isn't too short.
pub fresh_formed : (rows : ℕ) (t : Transport) (stats : Bool) (rto : RequestRto) (store : List ℕ) (peers : List Address) (st : StunAgentStats)
    → waits.Limits rto → rows * 1024 ≤ length store → StateFormed rows (fresh t stats rto store peers st)
fresh_formed rows t stats rto store peers st l h = record {
  room = h;
  places = omega arith;
  count = refl;
  mark = omega arith;
  settings = l;
  requests = formed_empty rows 0;
}
