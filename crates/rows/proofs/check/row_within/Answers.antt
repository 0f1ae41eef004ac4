-- `row_within` says whether `parse` finds a tree. The loop's invariant: inside the innermost part and the parts around it whose ends the list has, the range
-- is a row exactly where what is open can still be one. Assumes nothing.
use mathlib.Core.Bool.{true, false}
use native.Mathlib.Omega.{arith}
use lib.ListN.{length-reverse}
use Rattle.rules.specs.Ops.{op_at}
use Rattle.words.proofs.OpLaws.{read_op}
use Rattle.rows.proofs.Backwards.{reverse_push}
use Rattle.rows.proofs.OpenBlocks.{start, sizes, finished, plain_turn, crossed_turn, open_room, open_turn}
use Rattle.rows.proofs.OpenBlocks.{part_around, some_loop, else_turn, close_turn, row_there, no_row}
use Rattle.rows.proofs.check.row_within.Goals as goal
use Rattle.rows.proofs.check.row_within.Goals.{then-i-bound+in-Plain, then-i-bound+in-Block, then-i-bound+in-Loop}
use Rattle.rows.proofs.check.row_within.Goals.{else-i-bound+then-is, else-i-bound+else-is, then-is-2, else-is-2}

pub loop-i-init : goal.loop-i-init
loop-i-init g c = rw c.new-around.ensures (start (op_at c.args.chunk.now.ops.now) c.args.range.from c.args.range.to c.requires.0)

pub opens_at-requires : goal.opens_at-requires
opens_at-requires g c = omega (arith, sizes _ _ _ c.loop-i.invariant)

pub overflow_cast-bound : goal.overflow_cast-bound
overflow_cast-bound g c = omega (arith, c.args.chunk.now.short, sizes _ _ _ c.loop-i.invariant)

pub push-requires : goal.push-requires
push-requires g c =
    omega (arith, length-reverse c.loop-i.around.items, open_room _ _ _ c.loop-i.invariant c.if-i-bound.true false _ c.in-Block.ensures)

pub overflow_cast-bound-in-Loop : goal.overflow_cast-bound-in-Loop
overflow_cast-bound-in-Loop g c = omega (arith, c.args.chunk.now.short, sizes _ _ _ c.loop-i.invariant)

pub push-requires-in-Loop : goal.push-requires-in-Loop
push-requires-in-Loop g c =
    omega (arith, length-reverse c.loop-i.around.items, open_room _ _ _ c.loop-i.invariant c.if-i-bound.true true _ c.in-Loop.ensures)

pub overflow_add-loops : goal.overflow_add-loops
overflow_add-loops g c = omega (arith, sizes _ _ _ c.loop-i.invariant)

pub returns-in-Crossed : goal.returns-in-Crossed
returns-in-Crossed g c = no_row _ _ _ c.requires.0 (crossed_turn _ _ _ c.loop-i.invariant c.if-i-bound.true c.in-Crossed.ensures)

pub overflow_sub-loops : goal.overflow_sub-loops
overflow_sub-loops g c =
    let here = read_op c.args.chunk.now.ops.now c.loop-i.i (omega arith) in
    some_loop _ _ _ c.loop-i.invariant c.if-i-bound.false c.loop-i-test.true here c.if-is-2.ensures

pub unwrap-bound-requires : goal.unwrap-bound-requires
unwrap-bound-requires g c =
    let some = part_around _ _ _ c.loop-i.invariant c.if-i-bound.false c.loop-i-test.true in
    c.pop.ensures.variant.1 (omega (arith, length-reverse c.loop-i.around.items, some))

pub loop-i-preserved : goal.loop-i-preserved
loop-i-preserved g c =
    let s = c.loop-i.invariant in
    let lt = c.loop-i-test.true in
    let here = read_op c.args.chunk.now.ops.now c.loop-i.i (omega arith) in
    let push = reverse_push c.loop-i.around.items c.loop-i.bound in
    elim c.if-i-bound.branch [
      | then-i-bound+in-Plain w ↦ rw (w.around-is, w.bound-is, w.loops-is) (plain_turn _ _ _ s w.if-i-bound.true w.in-Plain.ensures)
      | then-i-bound+in-Block w ↦
          rw (w.around-is, w.bound-is, w.loops-is, w.push.ensures.items, push) (open_turn _ _ _ s w.if-i-bound.true false _ w.in-Block.ensures)
      | then-i-bound+in-Loop w ↦
          rw (w.around-is, w.bound-is, w.loops-is, w.push-in-Loop.ensures.items, push) (open_turn _ _ _ s w.if-i-bound.true true _ w.in-Loop.ensures)
      | else-i-bound+then-is w ↦ rw (w.around-is, w.bound-is, w.loops-is) (else_turn _ _ _ s w.if-i-bound.false lt here w.if-is.ensures)
      | else-i-bound+else-is w ↦
          let pop = rw w.unwrap-bound.ensures at w.pop.ensures.items in
          let around = rw (← pop) at (reverse_push w.pop.new.self.items w.unwrap-bound.result) in
          let past = w.if-i-bound.false in
          rw (w.around-is, w.bound-is, w.loops-is) (elim w.if-is-2.branch [
            | then-is-2 v ↦ rw v.loops-is (close_turn _ _ _ s past lt here true v.if-is-2.ensures w.if-is.ensures around)
            | else-is-2 v ↦ rw v.loops-is (close_turn _ _ _ s past lt here false v.if-is-2.ensures w.if-is.ensures around)
          ])
    ]

pub returns : goal.returns
returns g c = row_there _ _ _ (finished _ _ _ c.loop-i.invariant c.loop-i-test.false)
