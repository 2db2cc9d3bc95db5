-- `in_use` meets its contract: `any` tests the requests one by one. Assumes nothing.
use mathlib.Core.Path.{◌∙◌}
use native.Mathlib.Omega.{arith}
use Rattle.std.proofs.Common.{rules, tests}
use Rattle.std.proofs.lemmas.Iterator.{YieldsList-from_range}
use Rattle.std.proofs.lemmas.Iterator.Search.{any_from_yields_List}
use Rattle.rows.specs.Rows.{row}
use Rattle.records.specs.Coding.{width, decode}
use Rattle.requests.specs.Use.{has}
use Rattle.formed.proofs.Loaded.{any_loaded}
use Rattle.formed.proofs.in_use.Goals as goal

pub returns : goal.returns
returns c =
    let a = c.args in
    any_from_yields_List (λ i. has a.row a.len (decode (row width a.t.now i))) _ _ _ c.any.ensures.ran (YieldsList-from_range 0 a.n a.n (cc) (omega arith)) (λ x b q k. search (rules, tests)) ∙ any_loaded a.row a.len a.n 0 a.n a.t.now (omega arith)
