-- `loop_body_advances_induction` answers whether the loop's tail advances v, and nothing else sets v or e.
-- Assumes nothing.
use mathlib.Core.Path.{sym, ◌∙◌}
use Rattle.rules.specs.Reading.{constants_of}
use Rattle.count.proofs.BoundLaws.{no_increment, one_slot, tail_decides}
use Rattle.count.proofs.bound.loop_body_advances_induction.Goals as goal
use Rattle.count.proofs.bound.loop_body_advances_induction.Goals.{then-v-e-via-then-v-e, then-v-e-via-else-v-e+then-not-has_increment}

pub returns-then-v-e : goal.returns-then-v-e
returns-then-v-e c =
    let a = c.args in
    let h = a.chunk.now in
    let cs = constants_of h.constants.now in
    let ends = rw c.op_at.ensures at (sym c.is.ensures ∙ c.if-not-is.false) in
    elim c.then-v-e.branch [
      | then-v-e-via-then-v-e w ↦ sym (one_slot cs h.ops.now a.p a.n a.v a.e c.if-n-p.false ends w.if-v-e.true)
      | then-v-e-via-else-v-e+then-not-has_increment w ↦
          sym (no_increment cs h.ops.now a.p a.n a.v a.e c.if-n-p.false ends (sym w.has_increment.ensures ∙ w.if-not-has_increment.true))
    ]

pub returns : goal.returns
returns c =
    let a = c.args in
    let h = a.chunk.now in
    c.never_sets.ensures
    ∙ sym (tail_decides (constants_of h.constants.now) h.ops.now a.p a.n a.v a.e c.if-n-p.false (rw c.op_at.ensures at (sym c.is.ensures ∙ c.if-not-is.false))
    (sym c.has_increment.ensures ∙ c.if-not-has_increment.false) c.if-v-e.false)
