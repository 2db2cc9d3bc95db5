-- Answers read back.
--     answer_number    a call's number is the one that it is refused by, and 0 where it isn't refused
--     sends_out        a transmission that `poll_transmit` answers is that of the request that the scan found
use Rattle.std.specs.Prelude.{None, Some, Option}
use Prim.Native.Nat.{ℕ}
use mathlib.Core.Path.{◌≡◌, refl}
use mathlib.Core.List.{List}
use native.Mathlib.Omega.{arith}
use Rattle.std.proofs.lemmas.Grind.{common_steps}
use Rattle.address.specs.declared.Address.{Address}
use Rattle.message.specs.declared.TransactionId.{TransactionId}
use Rattle.request.specs.declared.StunRequestState.{StunRequestState}
use Rattle.model.specs.World.{World}
use Rattle.model.specs.Calls.{Kind}
use Rattle.model.specs.Refusals.{refusal_of}
use Rattle.model.specs.Effects.{transmit_answer, answer_of}
use Rattle.model.specs.Says.{refused_by, says_of}
use Rattle.model.specs.declared.Answer.TheVariants as answer

module _ (rows : ℕ) (w : World) (m : List ℕ) where
  effect_number : (k : Kind) → refused_by (answer_of rows w k m) ≡ None
  unfolding answer_of
  effect_number k = grind (arith, common_steps)

  pub answer_number : (k : Kind) → refused_by (says_of rows w k m).answer ≡ refusal_of rows w k m
  unfolding says_of
  answer_number k = let e = effect_number k in grind (arith, common_steps, e)

-- ---- `poll_transmit`

pub sends_out : (o : Option StunRequestState) (id : TransactionId) (to : Address) (row len : ℕ) → transmit_answer o ≡ answer.Send id to row len
    → (r : StunRequestState) × (o ≡ Some r) × (r.transaction_id ≡ id) × (r.to ≡ to) × (r.row ≡ row) × (r.len ≡ len)
sends_out (Some r) id to row len e = (r, refl, cc, cc, cc, cc)
sends_out None id to row len e = absurd cc
