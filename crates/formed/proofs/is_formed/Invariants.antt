-- `is_formed`: the requests read so far passed every test. Assumes nothing.
use lib.ListN.{drop}
use Rattle.records.specs.Live.{live}
use Rattle.formed.proofs.Formed.{Passed}
use Rattle.formed.proofs.is_formed.Given as goal

abbrev pub invariant-loop-i : goal.invariant-loop-i
invariant-loop-i l = Passed 32 l.mark (drop l.i (live l.n l.t)) l.seen l.next
