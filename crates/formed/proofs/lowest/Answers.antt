-- `lowest` meets its contract: the first flag that isn't set is the one that `position` finds. Assumes nothing.
use mathlib.Core.Bool.{not}
use mathlib.Core.Path.{◌∙◌}
use Rattle.std.proofs.Common.{rules, tests}
use Rattle.std.proofs.lemmas.Iterator.{YieldsList-from_slice}
use Rattle.std.proofs.lemmas.Iterator.Adapters.{position_from-zero}
use Rattle.std.proofs.lemmas.Iterator.Search.{position_from_yields_List}
use Rattle.formed.proofs.Flags.{lowest_is}
use Rattle.formed.proofs.lowest.Goals as goal

pub returns : goal.returns
returns c =
    let l = c.args.taken.now in
    position_from_yields_List not _ _ _ c.position.ensures.ran (YieldsList-from_slice l cc) (λ x b q k. search (rules, tests)) ∙ position_from-zero not l ∙ lowest_is 0 l
