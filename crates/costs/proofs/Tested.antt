-- A table that passed the test of well-formedness is one that the calls ask for.
use Rattle.std.proofs.Common.{◌≡◌, ℕ, ◌^◌, ◌≤◌, Bool, true, false, not, List, length, sym, ◌∙◌}
use borrow.Author.Tests.{not-false}
use Rattle.records.specs.Coding.{size}
use Rattle.records.specs.Live.{live}
use Rattle.requests.specs.Formed.{Formed, AllWithin, formed}
use Rattle.requests.proofs.Formed.{formed_exactly}
use Rattle.formed.proofs.Formed.{most_rows}
use Rattle.table.specs.Table.{Kept}

module _ (n : ℕ) (t : List ℕ) (b : Bool) (e : b ≡ formed 32 (2 ^ 60) (live n t)) (passed : not b ≡ false) where
  holds : formed 32 (2 ^ 60) (live n t) ≡ true
  holds = sym e ∙ not-false b passed

  is : Formed 32 (2 ^ 60) (live n t)
  is = (formed_exactly 32 (2 ^ 60) (live n t)).0 holds

  pub few : n ≤ 32
  few = most_rows 32 (2 ^ 60) n t holds

  pub within : AllWithin 32 (2 ^ 60) (live n t)
  within = is.within

  pub kept : size ≤ length t → Kept n t
  kept fits = record { count = few; fits = fits; order = is.order }
