-- At most one outcome meets each promise: of a call, of `build`, and of the part that is handed out. And the short form of configure is
-- the other with 2^61 as its maximum.
use Rattle.std.specs.Prelude.{Result}
use Rattle.model.specs.declared.Refusal.{Refusal}
use Rattle.model.specs.declared.StunAgent.{StunAgent}
use Rattle.stats.specs.declared.Event.{Event}
use Prim.Native.Nat.{ℕ, ◌^◌}
use mathlib.Core.Path.{◌≡◌, refl, sym, ◌∙◌}
use mathlib.Core.List.{List}
use native.Mathlib.Omega.{arith}
use Rattle.message.specs.declared.TransactionId.{TransactionId}
use Rattle.model.specs.World.{World}
use Rattle.model.specs.Says.{Said, says}
use Rattle.model.specs.Fresh.{build_of}
use Rattle.model.specs.Parts.{transmission_of}
use Rattle.model.specs.declared.StunAgentBuilder.{StunAgentBuilder}
use Rattle.model.specs.declared.Call.{Call}
use Rattle.model.specs.declared.Call.TheVariants as call

-- Two outcomes alike: the answer, the agent, the requests, every lent byte, peer and number.
pub record SameOutcome (s t : Said) : Type 0 where
  pub answer : s.answer ≡ t.answer
  pub agent : s.world.agent ≡ t.world.agent
  pub requests : s.world.requests ≡ t.world.requests
  pub store : s.world.store ≡ t.world.store
  pub peers : s.world.peers ≡ t.world.peers
  pub stats : s.world.stats ≡ t.world.stats

pub one_outcome : (rows : ℕ) (w : World) (c : Call) (m : List ℕ) (s t : Said) → s ≡ says rows w c m → t ≡ says rows w c m → SameOutcome s t
one_outcome rows w c m s t e f = grind arith

pub one_built : (b : StunAgentBuilder) (x y : Result (StunAgent × Event) Refusal) → x ≡ build_of b → y ≡ build_of b → x ≡ y
one_built b x y e f = e ∙ sym f

pub one_part : (rows : ℕ) (w : World) (row len : ℕ) (x y : List ℕ) → x ≡ transmission_of rows w row len → y ≡ transmission_of rows w row len → x ≡ y
one_part rows w row len x y e f = e ∙ sym f

-- "Its short form takes 2^61 as maximum."
pub short_form_lem : (rows : ℕ) (w : World) (id : TransactionId) (initial retransmits last : ℕ) (m : List ℕ)
    → says rows w (call.ConfigureTimeout id initial retransmits last) m
    ≡ says rows w (call.ConfigureTimeoutWithMax id (record { initial = initial; max = 2 ^ 61; retransmits = retransmits; last_retransmit = last })) m
short_form_lem rows w id initial retransmits last m = refl
