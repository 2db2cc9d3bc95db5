-- `find` meets its contract: it finds the first request with the key. Assumes nothing.
use mathlib.Core.Path.{ap, ◌∙◌}
use mathlib.Core.Bool.{true, false}
use Rattle.std.proofs.Common.{rules, tests, arith, Some, None}
use Rattle.std.proofs.lemmas.Iterator.{first_from_Range}
use Rattle.message.specs.Head.{key}
use Rattle.request.specs.declared.StunRequestState.{StunRequestState}
use Rattle.table.proofs.Searches.{IsFirstBelow, HasKey, looked_up, eq_at}
use Rattle.table.proofs.find.Goals as goal
use Rattle.table.proofs.find.Goals.{After-find}

-- what the search answered
first : (c : After-find) → IsFirstBelow (HasKey c.args.t.now (key c.args.id) true) (HasKey c.args.t.now (key c.args.id) false) c.args.n c.find.result
first c =
    let a = c.args in
    let t = a.t.now in
    first_from_Range _ _ _ c.find.result (HasKey t (key a.id) true) (HasKey t (key a.id) false) c.find.ensures.ran
    (λ x q k. eq_at t (λ j. omega (arith, c.type_inv.t j)) a.id (omega arith) x true (search (rules, tests)))
    (λ x q k. (search (rules, tests), eq_at t (λ j. omega (arith, c.type_inv.t j)) a.id (omega arith) x false (search (rules, tests))))

pub returns-in_err-i : goal.returns-in_err-i
returns-in_err-i c =
    let a = c.args in
    c.from_residual.ensures ∙ looked_up a.t.now a.n (key a.id) None (rw c.in_err-i.was at (first (goal.at.returns-in_err-i c).After-find))

pub load-requires : goal.load-requires
load-requires c =
    let f = rw c.in_ok-i.was at (first (goal.at.load-requires c).After-find) in
    omega (arith, f.1)

pub returns : goal.returns
returns c =
    let a = c.args in
    let f = rw c.in_ok-i.was at (first (goal.at.returns c).After-find) in
    ap (λ (r : StunRequestState). Some (c.in_ok-i.i, r)) c.load.ensures ∙ looked_up a.t.now a.n (key a.id) (Some c.in_ok-i.i) f
