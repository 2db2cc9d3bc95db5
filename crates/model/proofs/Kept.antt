-- What every call keeps: a well-formed world stays well formed, and an agent has the transport, the settings and the statistics, on or
-- off, that it was built with.
--     after_formed, says_formed, call_formed, run_formed    well formed
--     says_agent, run_agent                                 as it was built
use Rattle.model.specs.declared.Refusal.{Refusal}
use Rattle.std.specs.Prelude.{Option, None, Some}
use Prim.Native.Nat.{ℕ}
use mathlib.Core.Path.{◌≡◌, refl, ap, ◌∙◌}
use mathlib.Core.Bool.{false}
use mathlib.Core.List.{List, [], ◌∷◌}
use native.Mathlib.Omega.{arith}
use Rattle.std.proofs.lemmas.Grind.{common_steps}
use lib.ListN.{length}
use Rattle.store.proofs.Rows.{length_copied}
use Rattle.model.specs.World.{World, StateFormed}
use Rattle.model.specs.Calls.{Kind, kind_of}
use Rattle.model.specs.Refusals.{holds, refusal_of}
use Rattle.model.specs.Effects.{Change, count_after, change_of, stored_by, mark_after, after}
use Rattle.model.specs.Says.{says_of, says}
use Rattle.model.specs.declared.StunAgent.{StunAgent}
use Rattle.model.specs.Runs.{Turn, run}
use Rattle.model.specs.declared.Call.{Call}
use Rattle.model.proofs.Refused.{passed_exactly, refused_same, passed_does}
use Rattle.model.proofs.Changes.{change_fits, mark_later, mark_most, changed_formed, changed_count}
use Rattle.model.proofs.Peers.{count_fits}

-- No call changes the store's length.
length_stored : (rows : ℕ) (store m : List ℕ) (c : Change) → length (stored_by rows store m c) ≡ length store
length_stored rows store m c = grind (arith, length_copied)

module _ (rows : ℕ) (w : World) (k : Kind) (m : List ℕ) (formed : StateFormed rows w) where
  pub after_formed : ((r : Refusal) → holds rows w k m r ≡ false) → StateFormed rows (after rows w k m)
  unfolding after
  after_formed passes =
      let c = change_of rows w k m in
      let f = change_fits rows w m formed k passes in
      let later = mark_later rows w k m passes in
      record {
        room = omega (arith, formed.room, length_stored rows w.store m c);
        places = count_fits rows w k m passes formed.places;
        count = ap (count_after c) formed.count ∙ changed_count rows w.agent.mark (mark_after w k) later w.requests m w.agent.transport c f;
        mark = mark_most rows w k m passes formed.mark;
        settings = formed.settings;
        requests = changed_formed rows w.agent.mark (mark_after w k) later w.requests m w.agent.transport c formed.requests f;
      }

  pub says_formed : StateFormed rows (says_of rows w k m).world
  says_formed = go (refusal_of rows w k m) refl
    where
      go : (o : Option Refusal) → refusal_of rows w k m ≡ o → StateFormed rows (says_of rows w k m).world
      go None e = rw (passed_does rows w k m e) (after_formed ((passed_exactly rows w k m).0 e))
      go (Some q) e = rw (refused_same rows w k m q e) formed

-- Configure "doesn't touch the agent's own settings", and neither does any other call.
pub record SameBuild (a b : StunAgent) : Type 0 where
  pub transport : b.transport ≡ a.transport
  pub stats : b.stats ≡ a.stats
  pub rto : b.rto ≡ a.rto

module _ (rows : ℕ) (w : World) (k : Kind) (m : List ℕ) where
  pub says_agent : SameBuild w.agent (says_of rows w k m).world.agent
  unfolding says_of after
  says_agent = grind (arith, common_steps)

pub call_formed : (rows : ℕ) (w : World) (c : Call) (m : List ℕ) → StateFormed rows w → StateFormed rows (says rows w c m).world
call_formed rows w c m formed = says_formed rows w (kind_of c) m formed

pub run_formed : (rows : ℕ) (ts : List Turn) (w : World) → StateFormed rows w → StateFormed rows (run rows w ts)
run_formed rows [] w formed = formed
run_formed rows (t ∷ ts) w formed =
    run_formed rows ts (says rows w t.made t.bytes).world (call_formed rows w t.made t.bytes formed)

pub run_agent : (rows : ℕ) (ts : List Turn) (w : World) → SameBuild w.agent (run rows w ts).agent
run_agent rows [] w = grind arith
run_agent rows (t ∷ ts) w =
    let one = says_agent rows w (kind_of t.made) t.bytes in
    let rest = run_agent rows ts (says rows w t.made t.bytes).world in
    grind arith
