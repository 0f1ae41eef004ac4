-- `chunk_row` is `range_row`: refusals 3 and 4, 5, 6, 15, and the range. Assumes nothing.
use mathlib.Core.Bool.{false}
use Rattle.rules.specs.Ops.{op_at}
use Rattle.rows.specs.Tree.{HasRow}
use Rattle.rows.specs.Ranges.{range_is}
use Rattle.rows.proofs.RangeLaws.{Ahead, range_inside, range_has_row, range_decided}
use Rattle.rows.proofs.check.chunk_row.Goals as goal
use Rattle.rows.proofs.check.chunk_row.Goals.{Else-not-is_row, In_default}

-- 3, 4 and 5 are passed
so_far : (c : In_default) → Ahead c.args.chunk.now.mode c.args.chunk.now.ops.now (range_is c.in_ok-range.range)
so_far c = record { range = c.in_ok-range.ensures; forward = c.in_default.ensures }

-- so is 6
has_row : (c : Else-not-is_row) → Ahead c.args.chunk.now.mode c.args.chunk.now.ops.now (range_is c.in_ok-range.range)
    → HasRow (op_at c.args.chunk.now.ops.now) false c.in_ok-range.range.from c.in_ok-range.range.to
has_row c ahead = range_has_row ahead c.if-not-is_row.ensures

pub is_row-requires : goal.is_row-requires
is_row-requires c = range_inside (so_far (goal.at.is_row-requires c).In_default)

pub first_stray-requires : goal.first_stray-requires
first_stray-requires c =
    let at = goal.at.first_stray-requires c in
    let a = so_far at.In_default in
    let h = range_inside a in
    (h.0, h.1, has_row at.Else-not-is_row a)

pub returns-in-Some-first_stray : goal.returns-in-Some-first_stray
returns-in-Some-first_stray c =
    let at = goal.at.returns-in-Some-first_stray c in
    let a = so_far at.In_default in
    rw c.at-in-Some-first_stray.ensures (range_decided a (has_row at.Else-not-is_row a) _ c.in-Some-first_stray.ensures)

pub returns : goal.returns
returns c =
    let at = goal.at.returns c in
    let a = so_far at.In_default in
    range_decided a (has_row at.Else-not-is_row a) _ c.in_default-first_stray.ensures
