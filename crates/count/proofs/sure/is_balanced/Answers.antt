-- `is_balanced` answers whether as many blocks close as open in a stretch. The loop's invariant: the two counts are those of the ops so far.
-- Assumes nothing.
use Rattle.std.proofs.Common.{◌||◌, ◌-◌, ◌<◌, refl, arith, get_or-take, get_or-drop, length-take, length-drop}
use Rattle.rules.specs.Ops.{op_at}
use Rattle.rules.specs.Placed.{closing, opening, how_many}
use Rattle.count.proofs.BalanceLaws.{byte_most, counted_most, closed_on, opened_on}
use Rattle.count.proofs.sure.is_balanced.Goals as goal

pub loop-w-init : goal.loop-w-init
unfolding how_many
loop-w-init c = (refl, refl)

pub overflow_add-closed : goal.overflow_add-closed
overflow_add-closed c =
    let a = c.args in
    let t = simp (length-take, length-drop) at c.loop-w-test.true in
    let m = counted_most closing (op_at a.ops.now) c.loop-w.w-index a.i in
    let b = byte_most (c.is.result || c.is-in-loop-w.result) in
    record { fits = omega (arith, t, m, b) }

pub overflow_add-opened : goal.overflow_add-opened
overflow_add-opened c =
    let a = c.args in
    let t = simp (length-take, length-drop) at c.loop-w-test.true in
    let m = counted_most opening (op_at a.ops.now) c.loop-w.w-index a.i in
    let b = byte_most (c.is-in-loop-w-2.result || c.is-in-loop-w-3.result) in
    record { fits = omega (arith, t, m, b) }

pub loop-w-preserved : goal.loop-w-preserved
loop-w-preserved c =
    let a = c.args in
    let k = c.loop-w.w-index in
    let t = simp (length-take, length-drop) at c.loop-w-test.true in
    let h : k < a.to - a.i = omega (arith, t) in
    rw (c.is.ensures, c.is-in-loop-w.ensures, c.is-in-loop-w-2.ensures, c.is-in-loop-w-3.ensures)
    (simp (get_or-take, get_or-drop) (
      closed_on a.ops.now k c.loop-w.closed a.i (omega arith) c.loop-w.invariant.0,
      opened_on a.ops.now k c.loop-w.opened a.i (omega arith) c.loop-w.invariant.1,
    ))
