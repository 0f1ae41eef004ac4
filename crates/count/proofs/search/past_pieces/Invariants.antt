-- `past_pieces` passes over pieces that do not set the slot. The loop's invariant: what is left gives the whole.
-- Assumes nothing.
use Rattle.std.proofs.Common.{◌≡◌, ◌≤◌, ◌++◌, take}
use Rattle.rules.specs.Count.{last_set}
use Rattle.count.proofs.search.past_pieces.Given as goal

abbrev pub invariant-loop-piece : goal.invariant-loop-piece
invariant-loop-piece l =
    (l.i ≤ l.before)
    × (last_set l.ops l.before l.slot ≡ last_set l.ops l.i l.slot)
    × (l.piece-iterator.size ≡ 64)
    × (l.piece-iterator.rem.now ++ l.piece-iterator.rest.now ≡ take l.i l.ops)
