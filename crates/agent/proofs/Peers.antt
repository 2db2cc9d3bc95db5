-- Refusal 10, and the agent with the call's address among its peers.
use Rattle.model.specs.declared.Refusal.{Refusal}
use Rattle.model.specs.declared.Refusal.TheVariants.{PeersFull}
use Rattle.std.specs.Prelude.{None, Some, Option, Result, Ok, Err}
use Prim.Native.Nat.{ℕ, ◌+◌}
use mathlib.Core.Path.{◌≡◌, refl, sym, ap}
use mathlib.Core.Bool.{Bool, true, false, cond}
use lib.Dec.{leb}
use Rattle.address.specs.declared.Address.{Address}
use Rattle.model.specs.Calls.{on_some}
use Rattle.model.specs.declared.StunAgent.{StunAgent}
use Rattle.model.proofs.Default.{ok_same}
use Rattle.agent.specs.Called.{moved, admitted}
use Rattle.agent.specs.declared.Contact.{Contact}

-- A choice by the new peer, where it is known whether the address is one already.
pub by_new : {B : Type 0} (is : Bool) (from : Address) (b c : B) → on_some (cond is None (Some from)) b (λ x. c) ≡ cond is b c
by_new true from b c = refl
by_new false from b c = refl

-- Whether no place is left for it.
abbrev pub is_crowded : Contact → StunAgent → Bool
is_crowded x a = cond x.known false (leb x.places a.peers)

pub record Full (x : Contact) (a : StunAgent) (q : Refusal) : Type 0 where
  pub crowd : is_crowded x a ≡ true
  pub is : q ≡ PeersFull

pub record Joins (x : Contact) (a b : StunAgent) (p : Option ℕ) : Type 0 where
  pub room : is_crowded x a ≡ false
  pub agent_is : b ≡ moved a a.mark a.requests (cond x.known a.peers (a.peers + 1))
  pub place_is : p ≡ cond x.known None (Some a.peers)

module _ (x : Contact) (a : StunAgent) where
  abbrev chosen : Bool → Bool → Result (StunAgent × Option ℕ) Refusal
  chosen known full = cond known (Ok (a, None)) (cond full (Err PeersFull) (Ok (moved a a.mark a.requests (a.peers + 1), Some a.peers)))

  full_by : (known full : Bool) (q : Refusal) → chosen known full ≡ Err q → (cond known false full ≡ true) × (q ≡ PeersFull)
  full_by true full q e = cc
  full_by false true q e = (refl, cc)
  full_by false false q e = cc

  joins_by : (known full : Bool) (b : StunAgent) (p : Option ℕ) → chosen known full ≡ Ok (b, p)
      → (cond known false full ≡ false) × (b ≡ moved a a.mark a.requests (cond known a.peers (a.peers + 1))) × (p ≡ cond known None (Some a.peers))
  joins_by true full b p e = let z : (b, p) ≡ (a, None) = sym (ok_same e) in (refl, ap (λ (y : StunAgent × Option ℕ). y.0) z, ap (λ (y : StunAgent × Option ℕ). y.1) z)
  joins_by false true b p e = cc
  joins_by false false b p e =
      let z : (b, p) ≡ (moved a a.mark a.requests (a.peers + 1), Some a.peers) = sym (ok_same e) in
      (refl, ap (λ (y : StunAgent × Option ℕ). y.0) z, ap (λ (y : StunAgent × Option ℕ). y.1) z)

  pub full_is : (q : Refusal) → admitted x a ≡ Err q → Full x a q
  unfolding admitted
  full_is q e = let z = full_by x.known (leb x.places a.peers) q e in record { crowd = z.0; is = z.1 }

  pub joins_is : (b : StunAgent) (p : Option ℕ) → admitted x a ≡ Ok (b, p) → Joins x a b p
  unfolding admitted
  joins_is b p e = let z = joins_by x.known (leb x.places a.peers) b p e in record { room = z.0; agent_is = z.1; place_is = z.2 }
