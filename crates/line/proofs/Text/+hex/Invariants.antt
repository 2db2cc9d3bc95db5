-- The measure of the recursion.
use Rattle.line.proofs.Text.+hex.Given as goal

abbrev pub decreases-hex : goal.decreases-hex
decreases-hex l = l.k
