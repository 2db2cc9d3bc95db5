-- The part of the lent store that is handed out for a transmission: document 01, "What must change shape".
use Rattle.std.specs.Prelude.{ℕ, cond, ◌&&◌, List, []}
use Rattle.store.specs.Rows.{part_of}
use Rattle.requests.specs.Use.{in_use}
use Rattle.model.specs.World.{World, state_formed}

-- "Where 1 would apply, for a row not in use, or another length than its request's, that part is empty."
unfoldable pub transmission_of : ℕ → World → ℕ → ℕ → List ℕ
transmission_of rows w row len = cond (state_formed rows w && in_use row len w.requests) (part_of rows w.store row len) []
