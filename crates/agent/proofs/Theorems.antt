-- Theorems about the promises of the agent's public functions.
--     one_outcome, one_dispatched    at most one outcome meets the promise of `dispatch`
--     answer_says, refused_same      the answer tells the refusal; a refused call changes nothing and leaves nothing to do
--     one_part                       at most one part meets the promise of `transmission`
-- At most one answer meets that of `build`, which is the model's equation, by the model's `one_built`.
use Rattle.std.specs.Prelude.{None, Some, Option}
use Rattle.model.specs.declared.Refusal.{Refusal}
use Prim.Native.Nat.{ℕ, zero, suc, ◌<◌}
use mathlib.Core.Path.{◌≡◌, refl, sym, ap, ◌∙◌}
use mathlib.Core.Bool.{Bool, true, false, ◌&&◌}
use mathlib.Core.List.{List}
use native.Mathlib.Nat.{not-suc-le-zero}
use lib.Dec.{eqb}
use lib.ListN.{length, take, replicate, length-replicate}
use Rattle.address.specs.Address.{same_host, same_address}
use Rattle.address.specs.declared.Address.{Address}
use Rattle.address.specs.declared.Host.{Host}
use Rattle.address.specs.declared.Host.TheVariants.{V4, V6}
use Rattle.address.proofs.Same.{same_refl}
use Rattle.stats.specs.Count.{zeroed}
use Rattle.stats.specs.declared.StunAgentStats.{StunAgentStats}
use Rattle.peers.specs.Peers.{listed}
use Rattle.model.specs.World.{World}
use Rattle.model.specs.Calls.{Kind}
use Rattle.model.specs.Effects.{answer_of, after}
use Rattle.model.specs.Says.{Said, refused_by, decided}
use Rattle.model.specs.declared.StunAgent.{StunAgent}
use Rattle.model.specs.declared.Call.{Call}
use Rattle.agent.specs.Ready.{HandsOut}
use Rattle.agent.specs.Called.{refused_with, tried, effect}
use Rattle.agent.specs.Said.{refusal_in, Does, nowhere, address_in, Dispatched}
use Rattle.agent.specs.declared.Called.{Called}
use Rattle.agent.proofs.Said.{said_by, said_number, said_refused, words_refused}

-- ---- a call

module _ (w : World) (k : Kind) (m t t' store' : List ℕ) (r : Called) (d : Does w k m t t' store' r) where
  pub one_outcome : (t'' store'' : List ℕ) (s : Called) → Does w k m t t'' store'' s → (r ≡ s) × (t' ≡ t'') × (store' ≡ store'')
  one_outcome t'' store'' s e = (d.says ∙ sym e.says, d.words ∙ sym e.words, d.stores ∙ sym e.stores)

  pub answer_says : refused_by r.answer ≡ refusal_in t w k m
  answer_says =
      ap (λ (x : Called). refused_by x.answer) d.says
      ∙ (go (refusal_in t w k m) ∙ ap (λ (s : Said). refused_by s.answer) (sym (said_by t w k m)))
      ∙ said_number t w k m
    where
      go : (n : Option Refusal) → refused_by (tried n w.agent (effect 32 w k m)).answer
          ≡ refused_by (decided n w (record { answer = answer_of 32 w k m; world = after 32 w k m })).answer
      go None = refl
      go (Some q) = refl

  -- "A refused call answers its number and leaves state, statistics, store and peers unchanged, the clock mark included": no event is to
  -- be counted, and no peer to be put down.
  pub refused_same : (q : Refusal) → refused_by r.answer ≡ Some q → (r ≡ refused_with w.agent q) × (t' ≡ t) × (store' ≡ w.store)
  refused_same q e =
      let is : refusal_in t w k m ≡ Some q = sym answer_says ∙ e in
      (d.says ∙ rw is, d.words ∙ words_refused t w k m q is, d.stores ∙ ap (λ (s : Said). s.world.store) (said_refused t w k m q is))

-- ---- peers, so many, among the first n of which an address is or isn't

other : Host → Host
other (V4 i) = V6 0 0 0 0
other (V6 hi lo flow scope) = V4 0

other_host : (h : Host) → same_host (other h) h ≡ false
unfolding other
other_host (V4 i) = refl
other_host (V6 hi lo flow scope) = refl

and_none : (b c : Bool) → c ≡ false → (b && c) ≡ false
and_none true c e = e
and_none false c e = refl

absent : (addr x : Address) → same_address x addr ≡ false → (n places : ℕ) → listed addr (take n (replicate places x)) ≡ false
absent addr x e zero places = refl
absent addr x e (suc n) zero = refl
absent addr x e (suc n) (suc places) = rw (e, absent addr x e n places)

present : (addr : Address) (n places : ℕ) → 0 < n → 0 < places → listed addr (take n (replicate places addr)) ≡ true
present addr zero places h k = absurd (not-suc-le-zero h)
present addr (suc n) zero h k = absurd (not-suc-le-zero k)
present addr (suc n) (suc places) h k = rw (same_refl addr)

some_peers : (isKnown : Bool) (addr : Address) (n places : ℕ) → (isKnown ≡ true → (0 < n) × (0 < places))
    → (peers : List Address) × (length peers ≡ places) × (listed addr (take n peers) ≡ isKnown)
some_peers true addr n places h = (replicate places addr, length-replicate places addr, present addr n places (h refl).0 (h refl).1)
some_peers false addr n places h =
    let x : Address = record { host = other addr.host; port = 0 } in
    (replicate places x, length-replicate places x, absent addr x (and_none (eqb 0 addr.port) (same_host (other addr.host) addr.host) (other_host addr.host)) n places)

-- Unless it is told that an address is known to an agent without peers, which no list of peers makes true.
pub one_dispatched : (a : StunAgent) (c : Call) (isKnown : Bool) (places : ℕ) (st : StunAgentStats) (m t store t' store' t'' store'' : List ℕ) (r s : Called)
    → (isKnown ≡ true → (0 < a.peers) × (0 < places))
    → Dispatched a c isKnown places st m t store t' store' r → Dispatched a c isKnown places st m t store t'' store'' s
    → (r ≡ s) × (t' ≡ t'') × (store' ≡ store'')
one_dispatched a c isKnown places st m t store t' store' t'' store'' r s h d e =
    let p = some_peers isKnown (address_in c) a.peers places h in
    one_outcome _ _ _ _ _ _ _ (d p.0 p.1 p.2) t'' store'' s (e p.0 p.1 p.2)

-- ---- the part

pub one_part : (a : StunAgent) (places : ℕ) (t store : List ℕ) (row len : ℕ) (p q : List ℕ) → HandsOut a places t store row len p → HandsOut a places t store row len q → p ≡ q
one_part a places t store row len p q d e =
    let peers : List Address = replicate places nowhere in
    d.says peers zeroed (length-replicate places nowhere) ∙ sym (e.says peers zeroed (length-replicate places nowhere))
