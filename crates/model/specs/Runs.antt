-- Calls one after the other, each with its message.
use Rattle.std.specs.Prelude.{ℕ, List, [], ◌∷◌}
use Rattle.model.specs.World.{World}
use Rattle.model.specs.Calls.{Kind, kind_of, passage_of, on_some}
use Rattle.model.specs.Says.{says}
use Rattle.model.specs.declared.Call.{Call}
use Rattle.model.specs.declared.Answer.{Answer}

pub record Turn : Type 0 where
  pub made : Call
  pub bytes : List ℕ

abbrev pub with : Call → List ℕ → Turn
with c m = record { made = c; bytes = m }

-- A call without a message.
abbrev pub plain : Call → Turn
plain c = with c []

-- A call that carries no message doesn't look at the bytes that it is handed: the same call without them.
abbrev pub heeded : Kind → List ℕ → List ℕ
heeded k m = on_some (passage_of k) [] (λ p. m)

abbrev pub bare : Turn → Turn
bare t = with t.made (heeded (kind_of t.made) t.bytes)

-- What each of them answers, and the world that they leave.
abbrev pub answers : ℕ → World → List Turn → List Answer
answers rows w [] = []
answers rows w (t ∷ ts) = (says rows w t.made t.bytes).answer ∷ answers rows (says rows w t.made t.bytes).world ts

abbrev pub run : ℕ → World → List Turn → World
run rows w [] = w
run rows w (t ∷ ts) = run rows (says rows w t.made t.bytes).world ts
