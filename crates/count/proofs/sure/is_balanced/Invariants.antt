-- `is_balanced` answers whether as many blocks close as open in a stretch. The loop's invariant: the two counts are those of the ops so far.
-- Assumes nothing.
use Rattle.std.proofs.Common.{◌≡◌}
use Rattle.rules.specs.Ops.{op_at}
use Rattle.rules.specs.Placed.{closing, opening, how_many}
use Rattle.count.proofs.sure.is_balanced.Given as goal

abbrev pub invariant-loop-w : goal.invariant-loop-w
invariant-loop-w l = (l.closed ≡ how_many closing (op_at l.ops) l.w-index l.i) × (l.opened ≡ how_many opening (op_at l.ops) l.w-index l.i)
