-- A call that carries no message doesn't look at the bytes that it is handed: a host may hand its receive buffer to every call.
--     unread                      one call
--     answers_bare, run_bare      calls one after the other, with those bytes left out
use Prim.Native.Nat.{ℕ}
use mathlib.Core.Path.{◌≡◌, refl, sym, ap, ◌∙◌}
use mathlib.Core.List.{List, [], ◌∷◌, map}
use Rattle.stats.specs.Count.{counted}
use Rattle.model.specs.World.{World}
use Rattle.model.specs.Calls.{Kind, carries, scans, names, meets, counts, kind_of}
use Rattle.model.specs.Accepts.{new_peer}
use Rattle.model.specs.Refusals.{refusal_of}
use Rattle.model.specs.Effects.{changed, change_of, answer_of, event_of, peers_after, peer_count, agent_after, after}
use Rattle.model.specs.Says.{Said, decided, says_of}
use Rattle.model.specs.Runs.{Turn, heeded, bare, answers, run}
use Rattle.model.specs.declared.Answer.{Answer}
use Rattle.model.proofs.Store.{stored_other}

module _ (rows : ℕ) (w : World) (m : List ℕ) where
  -- what a call leaves, but for the store, whose definition alone names the bytes
  abbrev with_store : Kind → List ℕ → Said
  with_store k store =
      decided (refusal_of rows w k m) w (record {
        answer = answer_of rows w k m;
        world = record {
          agent = agent_after w k m (change_of rows w k m);
          requests = changed w.agent.transport (change_of rows w k m) w.requests;
          store = store;
          peers = peers_after w k m;
          stats = counted (event_of w k m) w.stats;
        };
      })

  pub unread : (k : Kind) → says_of rows w k (heeded k m) ≡ says_of rows w k m
  unfolding says_of refusal_of new_peer change_of answer_of event_of peers_after peer_count after
  unread (carries p) = refl
  unread (scans s now) = ap (with_store (scans s now)) (stored_other rows w [] (scans s now) refl ∙ sym (stored_other rows w m (scans s now) refl))
  unread (names id wish) = ap (with_store (names id wish)) (stored_other rows w [] (names id wish) refl ∙ sym (stored_other rows w m (names id wish) refl))
  unread (meets a x) = refl
  unread (counts f) = refl

module _ (rows : ℕ) where
  pub said_bare : (w : World) (t : Turn) → says_of rows w (kind_of t.made) (bare t).bytes ≡ says_of rows w (kind_of t.made) t.bytes
  said_bare w t = unread rows w t.bytes (kind_of t.made)

  pub answers_bare : (w : World) (ts : List Turn) → answers rows w (map bare ts) ≡ answers rows w ts
  answers_bare w [] = refl
  answers_bare w (t ∷ ts) = rw (said_bare w t) (ap (λ (l : List Answer). (says_of rows w (kind_of t.made) t.bytes).answer ∷ l) (answers_bare (says_of rows w (kind_of t.made) t.bytes).world ts))

  pub run_bare : (w : World) (ts : List Turn) → run rows w (map bare ts) ≡ run rows w ts
  run_bare w [] = refl
  run_bare w (t ∷ ts) = ap (λ (s : Said). run rows s.world (map bare ts)) (said_bare w t) ∙ run_bare (says_of rows w (kind_of t.made) t.bytes).world ts
