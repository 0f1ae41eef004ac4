-- `array_is_beside` answers whether a row holds all that an array's search stops at. The loop's invariant: what is left to be followed decides.
-- Assumes nothing.
use Rattle.std.proofs.Common.{◌≡◌, ◌≤◌}
use Rattle.rules.specs.Ops.{op_at}
use Rattle.rules.specs.Sure.{array_stops}
use Rattle.rules.specs.Placed.{all_of, beside}
use Rattle.count.proofs.sure.array_is_beside.Given as goal

abbrev pub invariant-loop-at : goal.invariant-loop-at
invariant-loop-at l =
    (l.i ≤ l.before)
    × (all_of (beside (op_at l.ops) l.from l.before) (array_stops l.ops l.before l.fn.slot) ≡ all_of (beside (op_at l.ops) l.from l.i) (array_stops l.ops l.i l.slot))

abbrev pub decreases-loop-at : goal.decreases-loop-at
decreases-loop-at l = l.i
