-- `broken_at` finds the place at which the form is broken. Invariant: the rest, read from the stage at hand, is broken where the whole is,
-- and the stage's counter is at most the position. Measure: the words left. Assumes nothing.
use mathlib.Core.Path.{◌≡◌}
use Prim.Native.Nat.{◌-◌, ◌≤◌}
use lib.ListN.{length, drop}
use Rattle.rules.specs.Reading.{before_chunk, broken_at}
use Rattle.words.specs.Reader.{stage_of, counter}
use Rattle.words.proofs.reader.broken_at.Given as goal

abbrev pub invariant-loop-i : goal.invariant-loop-i
invariant-loop-i l =
    (l.i ≤ length l.words) × (counter (stage_of l.s) ≤ l.i) × (broken_at (before_chunk l.chunks) (drop 1 l.words) 1 ≡ broken_at (stage_of l.s) (drop l.i l.words) l.i)

abbrev pub decreases-loop-i : goal.decreases-loop-i
decreases-loop-i l = length l.words - l.i
