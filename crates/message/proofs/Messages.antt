-- A message that isn't bad has its head's twenty bytes.
use Rattle.std.specs.Prelude.{ℕ, ◌≤◌, ◌≡◌, List, length, Some}
use Rattle.std.proofs.Common.{arith}
use Rattle.std.proofs.lemmas.Grind.{common_steps}
use Rattle.message.specs.Head.{head_good, head_of}
use Rattle.message.specs.Attributes.{message_of}
use Rattle.message.specs.declared.Message.{Message}

pub good_length : (s : List ℕ) (x : Message) → message_of s ≡ Some x → 20 ≤ length s
unfolding message_of head_of head_good
good_length s x e = grind (arith, common_steps)
