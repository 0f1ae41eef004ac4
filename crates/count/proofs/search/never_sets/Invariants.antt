-- `never_sets` answers whether none of some ops sets either slot. The loop's invariant: the flag tells it of the ops so far.
-- Assumes nothing.
use mathlib.Core.Path.{◌≡◌}
use Rattle.count.proofs.NeverLaws.{neither}
use Rattle.count.proofs.search.never_sets.Given as goal

abbrev pub invariant-loop-w : goal.invariant-loop-w
invariant-loop-w l = l.none ≡ neither l.ops l.v l.e l.w-index l.i
