-- The six functions of the coverage walk meet their contracts. The measure is the nesting left, and the order of the calls at one level.
-- Assumes nothing.
use Rattle.std.proofs.Common.{refl, ◌∙◌, arith}
use Rattle.yields.specs.Answers.{noted_of}
use Rattle.yields.proofs.StepLaws.{rest_start, rest_end, part_on, if_goes, else_joins, loop_left}
use Rattle.yields.proofs.StepLaws.{step_plain, step_call, step_ends, step_break, step_break_if, step_if, step_else, step_loop}
use Rattle.yields.proofs.region.CoverWalk.+cover.Goals as goal

pub analyze_yield_coverage_at-returns : goal.analyze_yield_coverage_at-returns
analyze_yield_coverage_at-returns t c = rest_end c.loop-i.invariant c.loop-i-test.false

pub cover_else-returns : goal.cover_else-returns
cover_else-returns t c to h =
    let a = c.args in
    else_joins a.self.now.lent.now h a.left a.yielded a.breaks c.cover_part-arm.result c.cover_part-other.result c.cover_part-arm.ensures
    c.cover_part-other.ensures c.join_arms.result c.join_arms.ensures

pub cover_if-returns : goal.cover_if-returns
cover_if-returns t c to h =
    let a = c.args in
    if_goes a.self.now.lent.now h a.left a.yielded a.breaks c.cover_part-arm.result c.cover_part-arm.ensures c.unwrap_or.result c.unwrap_or.ensures

pub cover_loop-returns : goal.cover_loop-returns
cover_loop-returns t c to h =
    let a = c.args in
    loop_left a.self.now.lent.now h a.left a.yielded a.breaks c.cover_part-body.result c.cover_part-body.ensures c.leave.result c.leave.ensures

pub cover_part-returns : goal.cover_part-returns
cover_part-returns t c =
    let a = c.args in
    c.analyze_yield_coverage_at.ensures ∙ part_on a.self.now.ops.now a.self.now.lent.now a.from a.to a.left a.yielded (noted_of a.breaks) c.if-left-eq0.false

pub cover_step-cover_if-requires : goal.cover_step-cover_if-requires
cover_step-cover_if-requires t c = let p = c.requires in (omega arith, (p.0, record { row = p.1.row; at = c.in-If.ensures.opens _ p.1 }))

pub cover_step-cover_else-requires : goal.cover_step-cover_else-requires
cover_step-cover_else-requires t c = let p = c.requires in (omega arith, (p.0, record { row = p.1.row; at = c.in-IfElse.ensures.opens _ p.1 }))

pub cover_step-cover_loop-requires : goal.cover_step-cover_loop-requires
cover_step-cover_loop-requires t c = let p = c.requires in (omega arith, (p.0, record { row = p.1.row; at = c.in-Loop.ensures.opens _ p.1 }))

pub cover_step-returns-in-Plain : goal.cover_step-returns-in-Plain
cover_step-returns-in-Plain t c to h =
    let a = c.args in let b = c.in-Plain.ensures in
    step_plain h a.self.now.lent.now a.left a.yielded a.breaks _ (b.opens to h) b.calls (rw c.is.ensures refl)

pub cover_step-returns-in-Call : goal.cover_step-returns-in-Call
cover_step-returns-in-Call t c to h =
    let a = c.args in let b = c.in-Call.ensures in
    step_call h a.self.now.lent.now a.left a.yielded a.breaks c.in-Call.k _ (b.opens to h) b.calls (rw c.number_at.ensures refl)

pub cover_step-returns-in-Ends : goal.cover_step-returns-in-Ends
cover_step-returns-in-Ends t c to h =
    let a = c.args in
    step_ends h a.self.now.lent.now a.left a.yielded a.breaks (c.in-Ends.ensures.opens to h)

pub cover_step-returns-in-Break : goal.cover_step-returns-in-Break
cover_step-returns-in-Break t c to h =
    let a = c.args in
    step_break h a.self.now.lent.now a.left a.yielded a.breaks c.note.result (c.in-Break.ensures.opens to h) c.note.ensures

pub cover_step-returns-in-BreakIf : goal.cover_step-returns-in-BreakIf
cover_step-returns-in-BreakIf t c to h =
    let a = c.args in
    step_break_if h a.self.now.lent.now a.left a.yielded a.breaks c.note-in-BreakIf.result (c.in-BreakIf.ensures.opens to h) c.note-in-BreakIf.ensures

pub cover_step-returns-in-If : goal.cover_step-returns-in-If
cover_step-returns-in-If t c to h =
    let a = c.args in
    step_if h a.self.now.lent.now a.left a.yielded a.breaks c.in-If.t (c.in-If.ensures.opens to h) c.cover_if.result c.cover_if.ensures

pub cover_step-returns-in-IfElse : goal.cover_step-returns-in-IfElse
cover_step-returns-in-IfElse t c to h =
    let a = c.args in
    step_else h a.self.now.lent.now a.left a.yielded a.breaks c.in-IfElse.e c.in-IfElse.f (c.in-IfElse.ensures.opens to h) c.cover_else.result
    c.cover_else.ensures

pub cover_step-returns-in-Loop : goal.cover_step-returns-in-Loop
cover_step-returns-in-Loop t c to h =
    let a = c.args in
    step_loop h a.self.now.lent.now a.left a.yielded a.breaks c.in-Loop.e (c.in-Loop.ensures.opens to h) c.cover_loop.result c.cover_loop.ensures

pub analyze_yield_coverage_at-loop-i-init : goal.analyze_yield_coverage_at-loop-i-init
analyze_yield_coverage_at-loop-i-init t c = rest_start c.args.self.now.lent.now c.args.left c.args.initial c.args.breaks c.requires
