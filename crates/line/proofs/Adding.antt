-- Texts added one behind the other.
use mathlib.Core.Path.{◌≡◌, refl, ◌∙◌}
use Prim.Native.Nat.{ℕ, ◌+◌, min}
use mathlib.Core.List.{List, [], ◌++◌}
use Rattle.line.specs.declared.Text.{Text}
use lib.ListN.{length}
use Rattle.line.specs.Lines.{Puts}
use Rattle.line.specs.Texts.{Adds}
use Rattle.line.proofs.Putting.{put_none, put_then, put_same, put_from}

pub adds_none : (s : Text) → Adds s [] s
adds_none s = record { same = refl; puts = put_none _ _ s.within }

-- One text, and behind it another.
pub adds_then : {s t u : Text} {a b : List ℕ} → Adds s a t → Adds t b u → Adds s (a ++ b) u
adds_then p q = record { same = q.same ∙ p.same; puts = put_then p.puts q.puts }

-- The same text, otherwise written.
pub adds_same : {s t : Text} {a b : List ℕ} → Adds s a t → a ≡ b → Adds s b t
adds_same p e = record { same = p.same; puts = put_same p.puts e }

-- A text that began at a place of a buffer, which then holds what was added.
pub adds_put : {o o' : List ℕ} {at : ℕ} {s t : Text} {a : List ℕ} → s.out.now ≡ o → s.at ≡ min at (length o + 1) → Adds s a t → o' ≡ t.out.now → Puts o at a o' t.at
adds_put {o} {o'} {at} {s} {t} {a} e f p g =
    rw g (put_from at (let q : Puts s.out.now s.at a t.out.now t.at = p.puts in rw (← f, ← e) q))
