-- The peers after a call: they change at most at place *count*, where a new one goes.
--     count_fits, length_peers    the count stays within the list, whose length no call changes
--     peers_kept                  every other place is as it was
--     peer_joined, peers_same     a new peer stands behind the last one; without a new one nothing changes
--     place_is, peers_put         the same by the place that the call's address goes to
--     says_peers                  of any call, refused or not
use Rattle.model.specs.declared.Refusal.{Refusal}
use Rattle.std.specs.Prelude.{Option, None, Some}
use Prim.Native.Nat.{ℕ, ◌+◌, ◌≤◌}
use mathlib.Core.Path.{◌≡◌, refl}
use mathlib.Core.Bool.{false}
use mathlib.Core.List.{List}
use native.Mathlib.Omega.{arith}
use Rattle.std.proofs.lemmas.Grind.{common_steps}
use lib.ListN.{length, get_or, set}
use lib.Seq.{get_or-set_other}
use Rattle.address.specs.declared.Address.{Address}
use Rattle.model.specs.World.{World}
use Rattle.model.specs.Calls.{Kind, address_of, on_some}
use Rattle.model.specs.Accepts.{validated, new_peer}
use Rattle.model.specs.Refusals.{holds}
use Rattle.model.specs.Effects.{peer_place, peers_after, peer_count, after}
use Rattle.model.specs.Says.{says_of}
use Rattle.model.proofs.Changes.{peer_fits}

module _ (w : World) (k : Kind) (m : List ℕ) where
  pub length_peers : length (peers_after w k m) ≡ length w.peers
  unfolding peers_after
  length_peers = grind (arith, common_steps)

  pub peers_kept : (i : ℕ) (d : Address) → (i ≡ w.agent.peers → ⊥) → get_or (peers_after w k m) i d ≡ get_or w.peers i d
  unfolding peers_after
  peers_kept i d n = go (new_peer w k m)
    where
      go : (o : Option Address) → get_or (on_some o w.peers (λ a. set w.peers w.agent.peers a)) i d ≡ get_or w.peers i d
      go None = refl
      go (Some a) = get_or-set_other w.peers w.agent.peers i a d n

  pub peers_same : new_peer w k m ≡ None → (peers_after w k m ≡ w.peers) × (peer_count w k m ≡ w.agent.peers)
  unfolding peers_after peer_count
  peers_same e = (rw e, rw e)

  -- "A new peer goes behind the last one."
  pub peer_joined : (a : Address) → new_peer w k m ≡ Some a
      → (peers_after w k m ≡ set w.peers w.agent.peers a) × (peer_count w k m ≡ w.agent.peers + 1)
  unfolding peers_after peer_count
  peer_joined a e = (rw e, rw e)

  -- The address that a call validates is the one that it carries.
  carried : (k : Kind) (a : Address) → validated w k m ≡ Some a → address_of k ≡ Some a
  carried k a e = grind (arith, common_steps)

  new_carried : (a : Address) → new_peer w k m ≡ Some a → address_of k ≡ Some a
  unfolding new_peer
  new_carried a e = let c = carried k a in grind (arith, common_steps, c)

  pub place_is : peer_place w k m ≡ on_some (new_peer w k m) (length w.peers) (λ a. w.agent.peers)
  unfolding peer_place
  place_is = refl

  -- One store does it for every call: the call's address, or any other where it carries none, put at the place; the list's length is
  -- nowhere.
  pub peers_put : (d : Address) → peers_after w k m ≡ set w.peers (peer_place w k m) (on_some (address_of k) d (λ a. a))
  unfolding peers_after peer_place
  peers_put d = grind (arith, common_steps, new_carried)

-- The count stays within the list.
pub count_fits : (rows : ℕ) (w : World) (k : Kind) (m : List ℕ) → ((r : Refusal) → holds rows w k m r ≡ false)
    → w.agent.peers ≤ length w.peers → peer_count w k m ≤ length (peers_after w k m)
unfolding peer_count
count_fits rows w k m passes h = rw (length_peers w k m) (let fits = peer_fits rows w k m passes in grind (arith, common_steps, fits))

-- Of any call, refused or not: no place but the one behind the last peer changes, and the list has the length that it had.
module _ (rows : ℕ) (w : World) (k : Kind) (m : List ℕ) where
  pub says_peers : (length (says_of rows w k m).world.peers ≡ length w.peers)
      × ((i : ℕ) (d : Address) → (i ≡ w.agent.peers → ⊥) → get_or (says_of rows w k m).world.peers i d ≡ get_or w.peers i d)
  unfolding says_of after
  says_peers = (
    let l = length_peers w k m in grind (arith, common_steps, l),
    λ i d h. let p = peers_kept w k m i d h in grind (arith, common_steps, p),
  )
