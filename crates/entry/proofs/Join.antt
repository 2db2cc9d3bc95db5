-- The law that joins the parts of a call: the dispatch, the peer that is put down and the event that is counted make the model's promise.
use Rattle.model.specs.declared.Refusal.{Refusal}
use Rattle.std.specs.Prelude.{None, Some, Option}
use Prim.Native.Nat.{ℕ}
use mathlib.Core.Path.{◌≡◌, refl, sym, ap, ◌∙◌}
use mathlib.Core.List.{List}
use Rattle.std.proofs.Common.{arith}
use mathlib.Core.Bool.{Bool}
use native.Mathlib.Nat.{le_refl}
use lib.ListN.{length, set, take}
use lib.Seq.{set_out}
use Rattle.address.specs.declared.Address.{Address}
use Rattle.stats.specs.Count.{counted}
use Rattle.stats.specs.declared.StunAgentStats.{StunAgentStats}
use Rattle.stats.proofs.Fields.{nothing}
use Rattle.request.specs.declared.StunRequestState.{StunRequestState}
use Rattle.records.specs.Live.{live}
use Rattle.peers.specs.Peers.{listed}
use Rattle.model.specs.World.{World}
use Rattle.model.specs.Calls.{Kind, kind_of, address_of, on_some}
use Rattle.model.specs.Effects.{answer_of, peer_place, after}
use Rattle.model.specs.Says.{Said, decided}
use Rattle.model.specs.declared.StunAgent.{StunAgent}
use Rattle.model.specs.declared.Answer.{Answer}
use Rattle.model.specs.declared.Call.{Call}
use Rattle.model.proofs.Classes.{leaves}
use Rattle.model.proofs.Peers.{place_is, peers_put}
use Rattle.agent.specs.Ready.{world_with, world_of}
use Rattle.agent.specs.Called.{tried, effect, place_of}
use Rattle.agent.specs.Said.{refusal_in, said_in, Does, nowhere, address_in, Dispatched}
use Rattle.agent.specs.declared.Called.{Called}
use Rattle.agent.proofs.Said.{said_by}
use Rattle.entry.specs.Entry.{index_of, Settled, Performed}
use Rattle.entry.specs.declared.Answered.{Answered}

module _ (w : World) (k : Kind) (m : List ℕ) where
  -- The address of the call, where it has one.
  abbrev carried : Address
  carried = on_some (address_of k) nowhere (λ a. a)

  -- What an outcome gives once it is settled, in the model's words.
  abbrev Gives : Called → Said → Type 0
  Gives o u =
      (o.answer ≡ u.answer)
      × (o.agent ≡ u.world.agent)
      × (set w.peers (index_of o.place (length w.peers)) carried ≡ u.world.peers)
      × (counted o.event w.stats ≡ u.world.stats)

  index_is : index_of (place_of w k m) (length w.peers) ≡ peer_place w k m
  index_is = let p = place_is w k m in grind arith

  peers_are : set w.peers (index_of (place_of w k m) (length w.peers)) carried ≡ (after 32 w k m).peers
  peers_are = ap (λ (i : ℕ). set w.peers i carried) index_is ∙ sym ((leaves 32 w k m).peers ∙ peers_put w k m nowhere)

  -- Whether the call is refused, or not at all.
  gives : (n : Option Refusal) → Gives (tried n w.agent (effect 32 w k m)) (decided n w (record { answer = answer_of 32 w k m; world = after 32 w k m }))
  gives None = (refl, refl, peers_are, sym (leaves 32 w k m).stats)
  gives (Some q) = (refl, refl, set_out w.peers (length w.peers) carried (le_refl _), sym (nothing w.stats))

  given : (t t' store' : List ℕ) (o : Called) → Does w k m t t' store' o → Gives o (said_in t w k m)
  given t t' store' o d = rw (d.says, said_by t w k m) (gives (refusal_in t w k m))

-- What the host has, by its parts.
told : {x y : Answer} {a b : StunAgent} {l k : List StunRequestState} {store mem : List ℕ} {peers places : List Address} {st nd : StunAgentStats}
    → x ≡ y → a ≡ b → l ≡ k → store ≡ mem → peers ≡ places → st ≡ nd
    → ◌≡◌ {A = Said} (record { answer = x; world = world_with a l store peers st }) (record { answer = y; world = world_with b k mem places nd })
told e₁ e₂ e₃ e₄ e₅ e₆ = cc

pub joins : (a : StunAgent) (c : Call) (m t store : List ℕ) (peers : List Address) (st : StunAgentStats) (t' store' : List ℕ)
    (peers' : List Address) (st' : StunAgentStats) (from : Address) (known : Bool) (out : Called) (r : Answered)
    → from ≡ address_in c
    → known ≡ listed from (take a.peers peers)
    → Dispatched a c known (length peers) st m t store t' store' out
    → Settled out from peers peers' st st' r
    → Performed a c m t store peers st t' store' peers' st' r
joins a c m t store peers st t' store' peers' st' from known out r e f dispatched settled =
    let w = world_of a t store peers st in
    let d = dispatched peers refl (sym (f ∙ ap (λ (x : Address). listed x (take a.peers peers)) e)) in
    let g = given w (kind_of c) m t t' store' out d in
    record {
      says =
          told
          (ap (λ (x : Answered). x.answer) settled.says ∙ g.0)
          (ap (λ (x : Answered). x.agent) settled.says ∙ g.1)
          (ap (λ (x : Answered). live x.agent.requests t') settled.says ∙ d.holds)
          d.stores
          (settled.puts ∙ ap (set peers (index_of out.place (length peers))) e ∙ g.2)
          (settled.records ∙ g.3);
      words = d.words;
    }
