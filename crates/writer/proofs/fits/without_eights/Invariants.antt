-- `without_eights` goes back over the zeros at the end, eight at a time. Invariant: what is kept is no longer, and is trimmed to the same. Measure: the numbers kept. Assumes nothing.
use mathlib.Core.Path.{◌≡◌}
use Prim.Native.Nat.{◌≤◌}
use lib.ListN.{length}
use Rattle.rules.specs.Writing.{trimmed}
use Rattle.writer.proofs.fits.without_eights.Given as goal

abbrev pub invariant-loop-kept : goal.invariant-loop-kept
invariant-loop-kept l = (length l.kept ≤ length l.extras) × (trimmed l.extras ≡ trimmed l.kept)

abbrev pub decreases-loop-kept : goal.decreases-loop-kept
decreases-loop-kept l = length l.kept
