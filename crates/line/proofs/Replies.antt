-- The line of any reply.
--     whole_line    the number, a space, the reply and the line feed
--     by_number     a refusal of the agent and its number have the same line
use Prim.Native.Nat.{ℕ}
use mathlib.Core.Path.{◌≡◌, refl}
use mathlib.Core.List.{[], ◌∷◌, ◌++◌}
use Rattle.std.specs.Prelude.{Some}
use Rattle.model.specs.declared.Refusal.{Refusal}
use Rattle.model.specs.declared.Answer.TheVariants as answer
use Rattle.model.specs.Refusals.{number_of}
use Rattle.line.specs.declared.Reply.{Reply}
use Rattle.line.specs.declared.Reply.TheVariants.{Told, Refused}
use Rattle.line.specs.Lines.{decimal_of, answer_text, reply_text, line_of, refused_text, refused_line, said_text, line_by}

pub whole_line : (n : ℕ) (r : Reply) → decimal_of n ++ (32 ∷ (said_text r ++ (10 ∷ []))) ≡ line_by n r
unfolding line_of refused_line
whole_line n (Told r) = refl
whole_line n (Refused q) = refl

pub by_number : (n : ℕ) (q : Refusal) → line_by n (Refused (number_of q)) ≡ line_by n (Told (Some (answer.Refused q)))
unfolding line_of refused_line refused_text reply_text answer_text
by_number n q = refl
