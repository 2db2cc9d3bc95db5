-- The model at a call, in the words of what a call's function answers. Each law asks what the model's own laws give for the class of the
-- call: its refusal, and its change, answer, event and new peer.
--     refused_as, done_as    what `called` is, of a call that is refused, and of one that isn't
--     refused_keeps, done_changes    and `change_past`
--     refuses, performs      a call over the table, likewise
--     passed_on, missed      a refusal that `?` passes on, of a call and of `ok_or`
use Rattle.model.specs.declared.Refusal.{Refusal}
use Rattle.std.specs.Prelude.{None, Some, Option, Result, Ok, Err, IsErrAnd}
use Rattle.std.specs.Option.{ok_or}
use Prim.Native.Nat.{ℕ}
use mathlib.Core.Path.{◌≡◌, sym, ap, ◌∙◌}
use mathlib.Core.List.{List}
use Rattle.address.specs.declared.Address.{Address}
use Rattle.stats.specs.declared.StunAgentStats.{StunAgentStats}
use Rattle.stats.specs.declared.Event.{Event}
use Rattle.model.specs.World.{World}
use Rattle.model.specs.Calls.{Kind, on_some}
use Rattle.model.specs.Accepts.{new_peer}
use Rattle.model.specs.Refusals.{refusal_past}
use Rattle.model.specs.Effects.{Change, keeps, change_of, answer_of, event_by}
use Rattle.model.specs.declared.StunAgent.{StunAgent}
use Rattle.model.specs.declared.Answer.{Answer}
use Rattle.model.proofs.Classes.{agent_with, agent_after_lem, event_is}
use Rattle.agent.specs.Ready.{world_of}
use Rattle.agent.specs.Called.{called_of, refused_with, settled, noted, called, TableAfter, change_past, Acts}
use Rattle.agent.specs.declared.Called.{Called}
use Rattle.agent.proofs.Table.{kept_same, table_by}

-- A call that changes the requests by c, answers x, counts e and is followed by a new peer p.
abbrev pub done_of : World → Kind → Change → Answer → Event → Option Address → Called
done_of w k c x e p = called_of (agent_with w k c p) x (noted w.agent e) (on_some p None (λ a. Some w.agent.peers))

pub passed_on : (a : StunAgent) (r : Result Called Refusal) (q : Refusal) → IsErrAnd r (λ e. e ≡ q) → settled a r ≡ refused_with a q
passed_on a (Err e) q h = ap (refused_with a) h
passed_on a (Ok x) q h = absurd h

pub missed : {A : Type 0} (a : StunAgent) (r : Result Called Refusal) (o : Option A) (q e : Refusal) → IsErrAnd r (λ z. z ≡ e) → Err e ≡ ok_or o q
    → settled a r ≡ refused_with a q
missed a r None q e h f = passed_on a r e h ∙ ap (refused_with a) cc
missed a r (Some x) q e h f = cc

module _ (w : World) (k : Kind) (m : List ℕ) where
  pub refused_as : (q : Refusal) → refusal_past 32 w k m ≡ Some q → called 32 w k m ≡ refused_with w.agent q
  unfolding called
  refused_as n e = rw e

  pub refused_keeps : (q : Refusal) → refusal_past 32 w k m ≡ Some q → change_past 32 w k m ≡ keeps
  unfolding change_past
  refused_keeps n e = rw e

  pub done_as : (c : Change) (x : Answer) (e : Event) (p : Option Address) → refusal_past 32 w k m ≡ None → change_of 32 w k m ≡ c
      → answer_of 32 w k m ≡ x → event_by w k m ≡ e → new_peer w k m ≡ p → called 32 w k m ≡ done_of w k c x e p
  unfolding called
  done_as c x e p f g h i j = rw (f, agent_after_lem 32 w k m c p g j, h, event_is 32 w k m ∙ ap (noted w.agent) i, j)

  pub done_changes : (c : Change) → refusal_past 32 w k m ≡ None → change_of 32 w k m ≡ c → change_past 32 w k m ≡ c
  unfolding change_past
  done_changes c e f = rw (e, f)

module _ (a : StunAgent) (t store : List ℕ) (peers : List Address) (st : StunAgentStats) (k : Kind) (m : List ℕ) where
  abbrev w : World
  w = world_of a t store peers st

  pub refuses : (q : Refusal) → refusal_past 32 w k m ≡ Some q → Acts w k m t t (refused_with a q)
  refuses n e = record {
    says = sym (refused_as w k m n e);
    then = table_by a.transport a.requests t t _ keeps (refused_keeps w k m n e) (kept_same a.transport a.requests t);
  }

  pub performs : (t' : List ℕ) (c : Change) (x : Answer) (e : Event) (p : Option Address) → refusal_past 32 w k m ≡ None → change_of 32 w k m ≡ c
      → answer_of 32 w k m ≡ x → event_by w k m ≡ e → new_peer w k m ≡ p → TableAfter a.transport c a.requests t t'
      → Acts w k m t t' (done_of w k c x e p)
  performs t' c x e p f g h i j y = record {
    says = sym (done_as w k m c x e p f g h i j);
    then = table_by a.transport a.requests t t' _ c (done_changes w k m c f g) y;
  }
