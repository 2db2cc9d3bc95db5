-- `poll`: the scan over all requests is the scan over the rest, with the earliest moment so far. Assumes nothing.
use Prim.Native.Nat.{◌^◌}
use mathlib.Core.Path.{◌≡◌}
use lib.ListN.{drop}
use Rattle.records.specs.Live.{live}
use Rattle.requests.specs.Scan.{poll_from, poll_all}
use Rattle.requests.specs.Formed.{AllWithin}
use Rattle.table.proofs.poll.Given as goal

abbrev pub invariant-loop-i : goal.invariant-loop-i
invariant-loop-i l = AllWithin 32 (2 ^ 60) (drop l.i (live l.n l.t)) × (poll_all l.transport l.clock (live l.n l.t) ≡ poll_from l.transport l.clock l.i l.lowest (drop l.i (live l.n l.t)))
