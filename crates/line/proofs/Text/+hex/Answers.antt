-- By the last digit, and those before it put first.
use mathlib.Core.List.{[], ◌∷◌}
use mathlib.Core.Path.{◌≡◌, ap}
use Prim.Native.Nat.{◌%◌}
use borrow.Author.Rules.{rules}
use Rattle.line.specs.Lines.{glyph}
use Rattle.line.proofs.Digits.{digits_none, digits_more}
use Rattle.line.proofs.Adding.{adds_none, adds_then, adds_same}
use Rattle.line.proofs.Text.+hex.Goals as goal

pub returns-then-k-eq0 : goal.returns-then-k-eq0
returns-then-k-eq0 t c = adds_same (adds_none _) (digits_none _ _ c.if-k-eq0.true)

pub returns : goal.returns
returns t c =
    adds_same (adds_then c.hex.ensures (adds_same c.byte.ensures (ap (λ d. d ∷ []) (let d : c.unwrap.result ≡ glyph (c.args.n % 16) = search rules in d))))
    (digits_more _ _ c.if-k-eq0.false)
