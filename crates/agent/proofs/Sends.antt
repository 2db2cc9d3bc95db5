-- A law for each way through `send`.
use Rattle.model.specs.declared.Refusal.TheVariants.{BadMessage, WrongClass}
use Rattle.std.specs.Prelude.{None, Some}
use Prim.Native.Nat.{ℕ}
use mathlib.Core.Path.{◌≡◌, sym, ◌∙◌}
use mathlib.Core.Bool.{true, false}
use mathlib.Core.List.{List}
use lib.ListN.{length}
use Rattle.address.specs.declared.Address.{Address}
use Rattle.message.specs.Attributes.{message_of}
use Rattle.message.specs.declared.Message.{Message}
use Rattle.stats.specs.declared.StunAgentStats.{StunAgentStats}
use Rattle.request.specs.declared.StunRequestState.{StunRequestState}
use Rattle.model.specs.World.{World}
use Rattle.model.specs.Calls.{carries, sends}
use Rattle.model.specs.Refusals.{is_request}
use Rattle.model.specs.Effects.{keeps, sent_as}
use Rattle.model.specs.declared.StunAgent.{StunAgent}
use Rattle.model.specs.declared.Answer.TheVariants as answer
use Rattle.model.proofs.Classes.{past_sends, new_is, change_sends, answer_sends}
use Rattle.agent.specs.Ready.{world_with}
use Rattle.agent.specs.Called.{called_of, refused_with, called, noted}
use Rattle.agent.proofs.Model.{refused_as, done_as}

module _ (a : StunAgent) (to : Address) (m : List ℕ) (l : List StunRequestState) (store : List ℕ) (peers : List Address) (st : StunAgentStats) where
  abbrev w : World
  w = world_with a l store peers st

  pub sends_bad : message_of m ≡ None → refused_with a BadMessage ≡ called 32 w (carries (sends to)) m
  sends_bad e = sym (refused_as w (carries (sends to)) m BadMessage (past_sends 32 w m to ∙ rw e))

  pub sends_request : (x : Message) → message_of m ≡ Some x → is_request x.class ≡ true → refused_with a WrongClass ≡ called 32 w (carries (sends to)) m
  sends_request x e f = sym (refused_as w (carries (sends to)) m WrongClass (past_sends 32 w m to ∙ rw (e, f)))

  pub sends_other : (x : Message) → message_of m ≡ Some x → is_request x.class ≡ false
      → called_of a answer.Ok (noted a (sent_as (length m) x.class)) None ≡ called 32 w (carries (sends to)) m
  sends_other x e f =
      sym (done_as w (carries (sends to)) m keeps answer.Ok (sent_as (length m) x.class) None (past_sends 32 w m to ∙ rw (e, f)) (change_sends 32 w m to)
      (answer_sends 32 w m to) (rw e) (new_is 32 w (carries (sends to)) m))
