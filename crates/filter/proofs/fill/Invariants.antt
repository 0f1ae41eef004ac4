-- `fill` reads on behind what it has: never past the buffer's end, and each read that goes on has brought some bytes.
-- Assumes nothing.
use Rattle.std.proofs.Common.{length, ◌-◌, ◌≤◌}
use Rattle.filter.proofs.fill.Given as goal

abbrev pub invariant-loop-done : goal.invariant-loop-done
invariant-loop-done g l = l.done ≤ length l.buf

abbrev pub decreases-loop-done : goal.decreases-loop-done
decreases-loop-done g l = length l.initial.buf - l.done
