-- `main` goes on behind the bar of each case. Assumes nothing.
use lib.ListN.{length}
use Rattle.optable_cases.proofs.main.Given as goal

abbrev pub decreases-loop-name : goal.decreases-loop-name
decreases-loop-name l = length l.rest
