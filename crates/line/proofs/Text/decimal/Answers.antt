-- The library's digits are the shortest decimal.
use mathlib.Core.Path.{◌∙◌}
use native.Mathlib.Omega.{arith}
use Rattle.line.proofs.Digits.{decimal_text}
use Rattle.line.proofs.Adding.{adds_same}
use Rattle.line.proofs.Text.decimal.Goals as goal

pub returns : goal.returns
returns c = adds_same c.bytes.ensures (c.as_bytes.ensures.value ∙ c.format.ensures.text ∙ decimal_text c.args.n (omega arith))
