-- `few_ops_fit` looks at op after op. Invariant: what is left fits if and only if all does. Measure: the numbers left. Assumes nothing.
use mathlib.Core.Path.{◌≡◌}
use lib.ListN.{length}
use Rattle.rules.specs.Writing.{every, op_fits, held_ops}
use Rattle.writer.proofs.fits.few_ops_fit.Given as goal

abbrev pub invariant-loop-rest : goal.invariant-loop-rest
invariant-loop-rest l = every op_fits (held_ops l.ops) ≡ every op_fits (held_ops l.rest)

abbrev pub decreases-loop-rest : goal.decreases-loop-rest
decreases-loop-rest l = length l.rest
