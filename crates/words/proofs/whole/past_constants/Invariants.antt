-- `past_constants` passes over whole constants. Invariant: the list ends with the rest, and read from there the form is broken where it was.
-- Measure: the words left. Assumes nothing.
use mathlib.Core.Path.{◌≡◌}
use Prim.Native.Nat.{ℕ, ◌-◌}
use lib.ListN.{length, drop}
use Rattle.rules.specs.Reading.{in_constants, broken_at}
use Rattle.words.proofs.RestLaws.{EndOf}
use Rattle.words.proofs.whole.past_constants.Given as goal

abbrev pub invariant-loop-rest : goal.invariant-loop-rest
invariant-loop-rest l =
    EndOf l.words l.from l.rest
    × ((n : ℕ) → broken_at (in_constants n) (drop l.from l.words) l.from ≡ broken_at (in_constants n) l.rest (length l.words - length l.rest))

abbrev pub decreases-loop-rest : goal.decreases-loop-rest
decreases-loop-rest l = length l.rest
