-- The six functions of the cycle walk meet their contracts. The measure is the nesting left, and the order of the calls at one level.
-- Assumes nothing.
use Rattle.std.proofs.Common.{ℕ, refl, ◌∙◌, arith}
use native.Mathlib.Numerals.{add-one}
use Rattle.std.proofs.lemmas.Result.{err_from_is_err_and}
use Rattle.rules.specs.Placed.{range}
use Rattle.words.specs.Chunks.{chunk_of}
use Rattle.rows.specs.Opens.{StepFits}
use Rattle.cycles.specs.Answers.{breaks_of, region_cost}
use Rattle.cycles.proofs.CycleLaws.{uncalled, charge_refused}
use Rattle.cycles.proofs.RowLaws.{if_begins, arm_begins, other_begins, body_begins}
use Rattle.cycles.proofs.StepLaws.{inside_behind, inner_on, rest_start, rest_fits, rest_inside, rest_on, rest_end, loop_once, if_goes, else_joins, loop_passes}
use Rattle.cycles.proofs.StepLaws.{Charged, step_refused, step_charged, step_call}
use Rattle.cycles.proofs.StepLaws.{step_if, step_else, step_loop, step_ends, step_break, step_break_if, step_plain}
use Rattle.cycles.proofs.region.CycleWalk.+wcet.Goals as goal
use Rattle.cycles.proofs.region.CycleWalk.+wcet.Goals.{wcet_step-After-saturating_add-cost}

pub wcet_else-returns : goal.wcet_else-returns
wcet_else-returns t c start to le h =
    let a = c.args in
    else_joins a.self.now.chunk a.self.now.wholes.now start h a.left a.cost a.breaks c.in_ok-arm.arm c.in_ok-other.other
    (c.in_ok-arm.ensures start (arm_begins h start le)) (c.in_ok-other.ensures start (other_begins h start le)) c.join_arms.result c.join_arms.ensures

pub wcet_if-returns : goal.wcet_if-returns
wcet_if-returns t c start to le h =
    let a = c.args in
    if_goes a.self.now.chunk a.self.now.wholes.now start h a.left a.cost a.breaks c.in_ok-arm.arm (c.in_ok-arm.ensures start (if_begins h start le)) c.in_ok-close.close c.in_ok-close.ensures
    c.saturating_add.result c.saturating_add-total.result c.saturating_add.ensures c.saturating_add-total.ensures

pub wcet_loop-returns : goal.wcet_loop-returns
wcet_loop-returns t c start to s h =
    let a = c.args in
    loop_passes a.self.now.chunk a.self.now.wholes.now s h a.left a.cost a.breaks c.in_ok-body.body (c.in_ok-body.ensures start (body_begins h start (inside_behind s)))
    c.if-body.false
    c.all_passes.result c.all_passes.ensures

pub wcet_region_at-returns : goal.wcet_region_at-returns
wcet_region_at-returns t c = rest_end c.loop-i.invariant c.loop-i-test.false

pub wcet_step-returns-in_err-own : goal.wcet_step-returns-in_err-own
wcet_step-returns-in_err-own t c start to s h =
    let a = c.args in
    let p = err_from_is_err_and c.from_residual.result c.from_residual.ensures.1 in
    step_refused a.self.now.chunk a.self.now.wholes.now start h a.left a.cycles a.breaks _ _ c.in_err-own.ensures c.from_residual.result (rw (p.1, p.2))

pub wcet_step-wcet_if-requires : goal.wcet_step-wcet_if-requires
wcet_step-wcet_if-requires t c =
    let p = c.requires in
    (omega arith, (p.0, record { row = p.1.row; at = c.in-If.ensures.opens _ p.1 }))

pub wcet_step-wcet_else-requires : goal.wcet_step-wcet_else-requires
wcet_step-wcet_else-requires t c =
    let p = c.requires in
    (omega arith, (p.0, record { row = p.1.row; at = c.in-IfElse.ensures.opens _ p.1 }))

pub wcet_step-wcet_loop-requires : goal.wcet_step-wcet_loop-requires
wcet_step-wcet_loop-requires t c =
    let p = c.requires in
    (omega arith, (p.0, record { row = p.1.row; at = c.in-Loop.ensures.opens _ p.1 }))

-- the op at i, charged, in a row that ends at `to`
charged : (t : ℕ) (c : wcet_step-After-saturating_add-cost t) → let a = c.args in
    (to : ℕ) → StepFits a.self.now.chunk.ops.now a.i to → Charged a.self.now.chunk a.i to a.cycles c.saturating_add-cost.result
charged t c to h =
    let a = c.args in
    step_charged a.self.now.chunk h a.cycles c.in_ok-own.own c.saturating_add-cost.result c.in_ok-own.ensures c.saturating_add-cost.ensures

pub wcet_step-returns-in-Plain : goal.wcet_step-returns-in-Plain
wcet_step-returns-in-Plain t c start to s h =
    let a = c.args in let b = c.in-Plain.ensures in
    step_plain (charged t (goal.at.wcet_step-returns-in-Plain t c).After-saturating_add-cost to h) a.self.now.wholes.now a.left a.breaks start b.calls (b.opens to h)

pub wcet_step-returns-in-Ends : goal.wcet_step-returns-in-Ends
wcet_step-returns-in-Ends t c start to s h =
    let a = c.args in let b = c.in-Ends.ensures in
    step_ends (charged t (goal.at.wcet_step-returns-in-Ends t c).After-saturating_add-cost to h) a.self.now.wholes.now a.left a.breaks start b.calls (b.opens to h)

pub wcet_step-returns-in-Break : goal.wcet_step-returns-in-Break
wcet_step-returns-in-Break t c start to s h =
    let a = c.args in let b = c.in-Break.ensures in
    step_break (charged t (goal.at.wcet_step-returns-in-Break t c).After-saturating_add-cost to h) a.self.now.wholes.now a.left a.breaks start b.calls
    c.max.result (b.opens to h) c.max.ensures

pub wcet_step-returns-in-BreakIf : goal.wcet_step-returns-in-BreakIf
wcet_step-returns-in-BreakIf t c start to s h =
    let a = c.args in let b = c.in-BreakIf.ensures in
    step_break_if (charged t (goal.at.wcet_step-returns-in-BreakIf t c).After-saturating_add-cost to h) a.self.now.wholes.now a.left a.breaks start b.calls
    c.max-in-BreakIf.result (b.opens to h) c.max-in-BreakIf.ensures

pub wcet_step-returns-in-If : goal.wcet_step-returns-in-If
wcet_step-returns-in-If t c start to s h =
    let a = c.args in let b = c.in-If.ensures in
    step_if (charged t (goal.at.wcet_step-returns-in-If t c).After-saturating_add-cost to h) a.self.now.wholes.now a.left a.breaks start b.calls
    c.in-If.t (b.opens to h) c.wcet_if.result (λ n. c.wcet_if.ensures start n (inside_behind s))

pub wcet_step-returns-in-IfElse : goal.wcet_step-returns-in-IfElse
wcet_step-returns-in-IfElse t c start to s h =
    let a = c.args in let b = c.in-IfElse.ensures in
    step_else (charged t (goal.at.wcet_step-returns-in-IfElse t c).After-saturating_add-cost to h) a.self.now.wholes.now a.left a.breaks start b.calls
    c.in-IfElse.e c.in-IfElse.f (b.opens to h) c.wcet_else.result (λ n. c.wcet_else.ensures start n (inside_behind s))

pub wcet_step-returns-in-Loop : goal.wcet_step-returns-in-Loop
wcet_step-returns-in-Loop t c start to s h =
    let a = c.args in let b = c.in-Loop.ensures in
    step_loop (charged t (goal.at.wcet_step-returns-in-Loop t c).After-saturating_add-cost to h) a.self.now.wholes.now a.left a.breaks start b.calls
    c.in-Loop.e (b.opens to h) c.wcet_loop.result (λ n. c.wcet_loop.ensures start n s)

pub wcet_step-returns-in-Call : goal.wcet_step-returns-in-Call
wcet_step-returns-in-Call t c start to s h =
    let a = c.args in let b = c.in-Call.ensures in
    step_call (charged t (goal.at.wcet_step-returns-in-Call t c).After-saturating_add-cost to h) a.self.now.wholes.now a.left a.breaks start
    c.in-Call.k c.number_at-whole.result c.saturating_add.result (b.opens to h) b.calls c.number_at-whole.ensures c.saturating_add.ensures

pub wcet_else-returns-in_err-arm : goal.wcet_else-returns-in_err-arm
wcet_else-returns-in_err-arm t c start to le h =
    let p = err_from_is_err_and c.from_residual.result c.from_residual.ensures.1 in
    let first = rw add-one at (c.in_err-arm.ensures start (arm_begins h start le)) in
    rw (p.1, p.2, ← first) (refl, tt)

pub wcet_else-returns-in_err-other : goal.wcet_else-returns-in_err-other
wcet_else-returns-in_err-other t c start to le h =
    let p = err_from_is_err_and c.from_residual-in_err-other.result c.from_residual-in_err-other.ensures.1 in
    let first = rw add-one at (c.in_ok-arm.ensures start (arm_begins h start le)) in
    let second = rw add-one at (c.in_err-other.ensures start (other_begins h start le)) in
    rw (p.1, p.2, ← first, ← second) (refl, tt)

pub wcet_if-returns-in_err-arm : goal.wcet_if-returns-in_err-arm
wcet_if-returns-in_err-arm t c start to le h =
    let p = err_from_is_err_and c.from_residual.result c.from_residual.ensures.1 in
    let first = rw add-one at (c.in_err-arm.ensures start (if_begins h start le)) in
    rw (p.1, p.2, ← first) (refl, tt)

pub wcet_if-returns-in_err-close : goal.wcet_if-returns-in_err-close
wcet_if-returns-in_err-close t c start to le h =
    let a = c.args in
    let p = err_from_is_err_and c.from_residual-in_err-close.result c.from_residual-in_err-close.ensures.1 in
    let first = rw add-one at (c.in_ok-arm.ensures start (if_begins h start le)) in
    let close = uncalled a.self.now.chunk a.self.now.wholes.now a.t (λ o. omega (arith, h.at.closed)) ∙ charge_refused a.self.now.chunk a.self.now.wholes.now a.t _ _ c.in_err-close.ensures in
    rw (p.1, p.2, ← first, close) (refl, tt)

pub wcet_loop-returns-in_err-body : goal.wcet_loop-returns-in_err-body
wcet_loop-returns-in_err-body t c start to s h =
    let p = err_from_is_err_and c.from_residual.result c.from_residual.ensures.1 in
    let first = rw add-one at (c.in_err-body.ensures start (body_begins h start (inside_behind s))) in
    rw (p.1, p.2, ← first) (refl, tt)

pub wcet_loop-returns-then-body : goal.wcet_loop-returns-then-body
wcet_loop-returns-then-body t c start to s h =
    let a = c.args in
    rw c.one_pass.ensures
    (loop_once a.self.now.chunk a.self.now.wholes.now start h a.left a.cost a.breaks c.in_ok-body.body
    (c.in_ok-body.ensures start (body_begins h start (inside_behind s))) c.if-body.true)

pub wcet_part-returns : goal.wcet_part-returns
wcet_part-returns t c start begins =
    let a = c.args in
    c.wcet_region_at.ensures start begins
    ∙ inner_on a.left (λ n. region_cost (chunk_of a.self.now.chunk) a.self.now.wholes.now start a.from a.to n 0 (breaks_of a.breaks)) c.if-left-eq0.false

pub wcet_region_at-loop-i-init : goal.wcet_region_at-loop-i-init
wcet_region_at-loop-i-init t c = rest_start c.args.self.now.wholes.now c.args.left c.args.breaks c.requires.has_row

pub wcet_region_at-returns-in_err-step : goal.wcet_region_at-returns-in_err-step
wcet_region_at-returns-in_err-step t c start begins =
    let r = c.loop-i.invariant in
    let p = err_from_is_err_and c.from_residual.result c.from_residual.ensures.1 in
    let m = c.in_err-step.ensures start c.args.to (rest_inside r start begins) (rest_fits r c.requires c.loop-i-test.true) in
    rw (p.1, p.2) (m.0 ∙ r.same start begins)

pub wcet_region_at-loop-i-smaller : goal.wcet_region_at-loop-i-smaller
wcet_region_at-loop-i-smaller t c =
    let r = c.loop-i.invariant in
    let a = c.args in
    let m = rw c.in-Goes.is at (c.in_ok-step.ensures a.from a.to (rest_inside r a.from (range refl)) (rest_fits r c.requires c.loop-i-test.true)) in
    let lt = c.loop-i-test.true in
    omega (arith, m.1.0, lt)

pub wcet_region_at-loop-i-preserved : goal.wcet_region_at-loop-i-preserved
wcet_region_at-loop-i-preserved t c =
    let r = c.loop-i.invariant in
    rest_on r c.in-Goes.next c.in-Goes.cost c.in-Goes.noted
    (λ start s. rw c.in-Goes.is at (c.in_ok-step.ensures start c.args.to s (rest_fits r c.requires c.loop-i-test.true)))

pub wcet_region_at-returns-in-Ends : goal.wcet_region_at-returns-in-Ends
wcet_region_at-returns-in-Ends t c start begins =
    let r = c.loop-i.invariant in
    let m = rw c.in-Ends.is at (c.in_ok-step.ensures start c.args.to (rest_inside r start begins) (rest_fits r c.requires c.loop-i-test.true)) in
    m.0 ∙ r.same start begins
