-- A type has the bits of its class, and of no other.
use Rattle.std.specs.Prelude.{ℕ, ◌≡◌}
use Rattle.std.proofs.Common.{arith}
use Rattle.std.proofs.lemmas.Grind.{common_steps}
use Rattle.message.specs.Head.{class_bits, bits_of, class_of}

pub class_bits_lem : (t : ℕ) → class_bits (class_of t) ≡ bits_of t
unfolding class_of
class_bits_lem t = grind (arith, common_steps)
