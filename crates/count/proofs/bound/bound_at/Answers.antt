-- `bound_at` answers the count of the loop at p: header, tail, and the two values' passes by the tail's step; with what that is of.
-- Assumes nothing.
use Rattle.std.proofs.Common.{sym, ◌∙◌, arith, rules, w64, FitsSigned}
use Rattle.std.proofs.lemmas.Int.{to_z-of_z}
use Rattle.rules.specs.Ops.{field_a}
use Rattle.rules.specs.Reading.{constants_of}
use Rattle.count.proofs.CountLaws.{Counted, counted, step_told}
use Rattle.count.proofs.bound.bound_at.Goals as goal
use Rattle.count.proofs.bound.bound_at.Goals.{After-op_at-2}

-- behind the test for the tail: the two values and the step decide
told : (c : After-op_at-2) → let h = c.args.chunk.now in
    Counted (constants_of h.constants.now) h.ops.now c.args.p (field_a c.op_at-v.result) (field_a c.op_at-e.result) c.op_at-2.result
told c =
    let h = c.args.chunk.now in
    counted (constants_of h.constants.now) h.ops.now c.args.p c.op_at.ensures c.op_at-v.ensures c.op_at-e.ensures c.op_at-2.ensures
    (sym c.has_header.ensures ∙ c.if-not-has_header.false) (sym c.loop_body_advances_induction.ensures ∙ c.if-not-loop_body_advances_induction.false)

pub returns-in_err-step-clause-passes : goal.returns-in_err-step-clause-passes
returns-in_err-step-clause-passes c =
    cc ((told (goal.at.returns-in_err-step-clause-passes c).After-op_at-2).step, c.in_err-step.ensures)

pub overflow_cast-step : goal.overflow_cast-step
overflow_cast-step c =
    let fits : FitsSigned w64 c.in_ok-step.step = search rules in
    let b = step_told (told (goal.at.overflow_cast-step c).After-op_at-2) c.in_ok-step.ensures fits in
    rw b.0 (tt, record { fits = omega arith })

pub passes_of-requires : goal.passes_of-requires
passes_of-requires c =
    let fits : FitsSigned w64 c.in_ok-step.step = search rules in
    let t = told (goal.at.passes_of-requires c).After-op_at-2 in
    let b = step_told t c.in_ok-step.ensures fits in
    rw b.0 (t.positive, b.1)

pub returns-in_err-passes-clause-passes : goal.returns-in_err-passes-clause-passes
returns-in_err-passes-clause-passes c =
    let t = told (goal.at.returns-in_err-passes-clause-passes c).After-op_at-2 in
    let fits : FitsSigned w64 c.in_ok-step.step = search rules in
    let f : FitsSigned w64 c.in-Some.start.value = search rules in
    let g : FitsSigned w64 c.in-Some-last.stop.value = search rules in
    let b = step_told t c.in_ok-step.ensures fits in
    rw c.from_residual-in_err-passes.ensures
    (rw (to_z-of_z w64 c.in-Some.start.value f, to_z-of_z w64 c.in-Some-last.stop.value g, b.0) at c.in_err-passes.ensures
    ∙ sym (t.count ∙ rw (← c.in-Some.ensures.value, ← c.in-Some-last.ensures.value)))

pub returns-clause-passes : goal.returns-clause-passes
returns-clause-passes c =
    let t = told (goal.at.returns-clause-passes c).After-op_at-2 in
    let fits : FitsSigned w64 c.in_ok-step.step = search rules in
    let f : FitsSigned w64 c.in-Some.start.value = search rules in
    let g : FitsSigned w64 c.in-Some-last.stop.value = search rules in
    let b = step_told t c.in_ok-step.ensures fits in
    rw (to_z-of_z w64 c.in-Some.start.value f, to_z-of_z w64 c.in-Some-last.stop.value g, b.0) at c.in_ok-passes.ensures
    ∙ sym (t.count ∙ rw (← c.in-Some.ensures.value, ← c.in-Some-last.ensures.value))

pub returns-clause-bound : goal.returns-clause-bound
returns-clause-bound c =
    let t = told (goal.at.returns-clause-bound c).After-op_at-2 in
    let fits : FitsSigned w64 c.in_ok-step.step = search rules in
    let b = step_told t c.in_ok-step.ensures fits in
    record {
      start = rw (← c.op_at-v.ensures) c.in-Some.ensures.stop;
      stop = rw (← c.op_at-e.ensures) c.in-Some-last.ensures.stop;
      end = rw (← c.op_at-e.ensures) (sym c.in-Some-last.ensures.value);
      step = b.0;
      positive = t.positive;
    }
