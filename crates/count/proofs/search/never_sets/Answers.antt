-- `never_sets` answers whether none of some ops sets either slot. The loop's invariant: the flag tells it of the ops so far.
-- Assumes nothing.
use Rattle.std.proofs.Common.{◌+◌, ◌-◌, ◌<◌, refl, sym, arith, get_or-take, get_or-drop, length-take, length-drop}
use Rattle.rules.specs.Count.{never_sets}
use Rattle.count.proofs.NeverLaws.{neither_more}
use Rattle.count.proofs.search.never_sets.Goals as goal

pub loop-w-init : goal.loop-w-init
unfolding never_sets
loop-w-init c = refl

pub loop-w-preserved : goal.loop-w-preserved
loop-w-preserved c =
    let a = c.args in
    let k = c.loop-w.w-index in
    let t = simp (length-take, length-drop) at c.loop-w-test.true in
    let h : k < a.i + a.n - a.i = omega arith in
    rw (c.has_slot.ensures, c.has_slot-in-loop-w.ensures, c.loop-w.invariant) (simp (get_or-take, get_or-drop) (sym (neither_more a.ops.now a.v a.e k a.i (omega arith))))
