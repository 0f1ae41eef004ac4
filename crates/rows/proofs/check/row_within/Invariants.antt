-- `row_within` says whether `parse` finds a tree. The loop's invariant: inside the innermost part and the parts around it whose ends the list has, the range
-- is a row exactly where what is open can still be one. Assumes nothing.
use mathlib.Core.List.{reverse}
use Rattle.rules.specs.Ops.{op_at}
use Rattle.rows.proofs.OpenBlocks.{Stage}
use Rattle.rows.proofs.check.row_within.Given as goal

abbrev pub invariant-loop-i : goal.invariant-loop-i
invariant-loop-i g l = Stage (op_at l.ops) l.fn.range.from l.fn.range.to l.bound (reverse l.around.items) l.loops l.i
