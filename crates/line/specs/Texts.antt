-- What it is to add to a text that stands in a lent buffer.
use Rattle.std.specs.Prelude.{ℕ, ◌≡◌, List}
use Rattle.line.specs.declared.Text.{Text}
use Rattle.line.specs.Lines.{Puts}

-- The text goes to the place, and the buffer stays the one that was lent.
pub record Adds (s : Text) (text : List ℕ) (t : Text) : Type 0 where
  pub same : t.out.ghost_name ≡ s.out.ghost_name
  pub puts : Puts s.out.now s.at text t.out.now t.at
