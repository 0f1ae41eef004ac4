-- `stray_within` is `stray_break` on the tree of the range. The loop's invariant: what is left to be searched, with the targets of the open Loops in
-- the list, finds what the whole search finds. Assumes nothing.
use Rattle.rules.specs.Ops.{op_at}
use Rattle.rules.specs.Rows.{stray_break}
use Rattle.rows.specs.Tree.{tree_of}
use Rattle.rows.proofs.LoopTurns.{Search}
use Rattle.rows.proofs.stray.stray_within.Given as goal

abbrev pub invariant-loop-i : goal.invariant-loop-i
invariant-loop-i g l =
    let op = op_at l.chunk.ops.now in
    Search op l.fn.row.from l.fn.row.to (stray_break op 0 (tree_of op l.fn.row.from l.fn.row.to)) l.targets.items l.i
