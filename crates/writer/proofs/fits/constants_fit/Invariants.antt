-- `constants_fit` looks at constant after constant. Invariant: what is left fits if and only if all does. Measure: the numbers left. Assumes nothing.
use mathlib.Core.Path.{◌≡◌}
use lib.ListN.{length}
use Rattle.rules.specs.Writing.{held_constants}
use Rattle.writer.specs.Size.{constants_fit}
use Rattle.writer.proofs.fits.constants_fit.Given as goal

abbrev pub invariant-loop-rest : goal.invariant-loop-rest
invariant-loop-rest l = constants_fit (held_constants l.constants) ≡ constants_fit (held_constants l.rest)

abbrev pub decreases-loop-rest : goal.decreases-loop-rest
decreases-loop-rest l = length l.rest
