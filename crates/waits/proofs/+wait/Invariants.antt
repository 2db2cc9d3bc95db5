-- The measure of the recursion is the index.
use Rattle.waits.proofs.+wait.Given as goal

abbrev pub decreases-wait : goal.decreases-wait
decreases-wait l = l.i
