-- `free_row`: the rows of the requests read so far are flagged. Assumes nothing.
use mathlib.Core.Path.{◌≡◌}
use lib.ListN.{drop}
use Rattle.requests.specs.Search.{rows_of}
use Rattle.records.specs.Live.{live}
use Rattle.formed.specs.Flags.{flags}
use Rattle.formed.proofs.free_row.Given as goal

abbrev pub invariant-loop-i : goal.invariant-loop-i
invariant-loop-i l = l.taken ≡ flags 32 (rows_of (drop l.i (live l.n l.t)))
