-- The six functions of the stack walk meet their contracts. The measure is the nesting left, and the order of the calls at one level.
-- Assumes nothing.
use native.Mathlib.Omega.{arith}
use Rattle.words.specs.Chunks.{chunk_of}
use Rattle.stack.proofs.RowLaws.{rest_fits, rest_end, rest_goes, rest_ends}
use Rattle.stack.proofs.BlockLaws.{if_joins, else_joins, loop_goes, loop_once}
use Rattle.stack.proofs.StepLaws.{over, behind_small, step_if, step_else, step_loop, step_ends, step_break, step_break_if, step_plain}
use Rattle.stack.proofs.region.StackWalk.+wcmu.Goals as goal

pub wcmu_else-returns : goal.wcmu_else-returns
wcmu_else-returns t c =
    let a = c.args in
    λ to h.
    else_joins (chunk_of a.self.now.chunk) _ _ a.behind h c.in_ok-arm.arm c.in_ok-arm.ensures c.marked-again.ensures
    c.in_ok-other.other c.in_ok-other.ensures _ c.join_arms.ensures

pub wcmu_if-returns : goal.wcmu_if-returns
wcmu_if-returns t c =
    let a = c.args in
    λ to h.
    if_joins (chunk_of a.self.now.chunk) _ _ a.behind h c.in_ok-arm.arm c.in_ok-arm.ensures c.from.ensures _
    c.join_arms.ensures

pub wcmu_loop-returns-then-is_none : goal.wcmu_loop-returns-then-is_none
wcmu_loop-returns-then-is_none t c =
    let a = c.args in
    λ to h.
    loop_once (chunk_of a.self.now.chunk) _ _ a.behind h c.marked-unbroken.ensures c.in_ok-body.body c.in_ok-body.ensures c.raised-after.ensures
    c.if-is_none.ensures _ c.passed_once.ensures

pub wcmu_loop-returns : goal.wcmu_loop-returns
wcmu_loop-returns t c =
    let a = c.args in
    λ to h.
    loop_goes (chunk_of a.self.now.chunk) _ _ a.behind h c.marked-unbroken.ensures c.in_ok-body.body c.in_ok-body.ensures
    c.raised-after.ensures c.if-is_none.ensures _ c.extract_loop_iteration_bound-bound.ensures c.if-is_none-2.ensures

pub wcmu_region_at-loop-i-preserved : goal.wcmu_region_at-loop-i-preserved
wcmu_region_at-loop-i-preserved t c =
    let m = c.in_ok-step.ensures c.args.to (rest_fits c.loop-i.invariant c.requires c.loop-i-test.true) in
    rest_goes c.loop-i.invariant (rw c.in-Goes.is at m)

pub wcmu_region_at-returns-in-Ends : goal.wcmu_region_at-returns-in-Ends
wcmu_region_at-returns-in-Ends t c =
    let m = c.in_ok-step.ensures c.args.to (rest_fits c.loop-i.invariant c.requires c.loop-i-test.true) in
    rest_ends c.loop-i.invariant c.in-Ends.height c.loop-i-test.true (rw c.in-Ends.is at m)

pub wcmu_region_at-returns : goal.wcmu_region_at-returns
wcmu_region_at-returns t c = rest_end c.loop-i.invariant c.loop-i-test.false c.from.result c.from.ensures

pub wcmu_step-wcmu_if-requires : goal.wcmu_step-wcmu_if-requires
wcmu_step-wcmu_if-requires t c =
    let s = c.requires.1.1 in (
      omega arith,
      (
        behind_small (over s c.op_effect.ensures c.level_over-behind.ensures) c.requires.0,
        (_, record { row = s.row; at = rw c.in-If.is at (c.block_at-block.ensures.opens _ s) }),
      ),
    )

pub wcmu_step-wcmu_else-requires : goal.wcmu_step-wcmu_else-requires
wcmu_step-wcmu_else-requires t c =
    let s = c.requires.1.1 in (
      omega arith,
      (
        behind_small (over s c.op_effect.ensures c.level_over-behind.ensures) c.requires.0,
        (_, record { row = s.row; at = rw c.in-IfElse.is at (c.block_at-block.ensures.opens _ s) }),
      ),
    )

pub wcmu_step-wcmu_loop-requires : goal.wcmu_step-wcmu_loop-requires
wcmu_step-wcmu_loop-requires t c =
    let s = c.requires.1.1 in (
      omega arith,
      (
        behind_small (over s c.op_effect.ensures c.level_over-behind.ensures) c.requires.0,
        (_, record { row = s.row; at = rw c.in-Loop.is at (c.block_at-block.ensures.opens _ s) }),
      ),
    )

pub wcmu_step-returns-in-Plain : goal.wcmu_step-returns-in-Plain
wcmu_step-returns-in-Plain t c =
    λ to h.
    step_plain (chunk_of c.args.self.now.chunk) (over h c.op_effect.ensures c.level_over-behind.ensures) _
    (rw c.in-Plain.is at (c.block_at-block.ensures.opens to h))

pub wcmu_step-returns-in-Ends : goal.wcmu_step-returns-in-Ends
wcmu_step-returns-in-Ends t c =
    λ to h.
    step_ends (chunk_of c.args.self.now.chunk) (over h c.op_effect.ensures c.level_over-behind.ensures) _
    (rw c.in-Ends.is at (c.block_at-block.ensures.opens to h)) _ c.ended.ensures

pub wcmu_step-returns-in-Break : goal.wcmu_step-returns-in-Break
wcmu_step-returns-in-Break t c =
    λ to h.
    step_break (chunk_of c.args.self.now.chunk) (over h c.op_effect.ensures c.level_over-behind.ensures) _
    (rw c.in-Break.is at (c.block_at-block.ensures.opens to h)) _ c.ended-in-Break.ensures

pub wcmu_step-returns-in-BreakIf : goal.wcmu_step-returns-in-BreakIf
wcmu_step-returns-in-BreakIf t c =
    λ to h.
    step_break_if (chunk_of c.args.self.now.chunk) (over h c.op_effect.ensures c.level_over-behind.ensures) _
    (rw c.in-BreakIf.is at (c.block_at-block.ensures.opens to h)) _ c.marked.ensures

pub wcmu_step-returns-in-If : goal.wcmu_step-returns-in-If
wcmu_step-returns-in-If t c =
    λ to h.
    step_if (chunk_of c.args.self.now.chunk) (over h c.op_effect.ensures c.level_over-behind.ensures) _
    (rw c.in-If.is at (c.block_at-block.ensures.opens to h)) c.wcmu_if.result c.wcmu_if.ensures

pub wcmu_step-returns-in-IfElse : goal.wcmu_step-returns-in-IfElse
wcmu_step-returns-in-IfElse t c =
    λ to h.
    step_else (chunk_of c.args.self.now.chunk) (over h c.op_effect.ensures c.level_over-behind.ensures) _
    (rw c.in-IfElse.is at (c.block_at-block.ensures.opens to h)) c.wcmu_else.result c.wcmu_else.ensures

pub wcmu_step-returns-in-Loop : goal.wcmu_step-returns-in-Loop
wcmu_step-returns-in-Loop t c =
    λ to h.
    step_loop (chunk_of c.args.self.now.chunk) (over h c.op_effect.ensures c.level_over-behind.ensures) _
    (rw c.in-Loop.is at (c.block_at-block.ensures.opens to h)) c.wcmu_loop.result c.wcmu_loop.ensures

pub wcmu_step-returns-in-Call : goal.wcmu_step-returns-in-Call
wcmu_step-returns-in-Call t c =
    λ to h.
    step_plain (chunk_of c.args.self.now.chunk) (over h c.op_effect.ensures c.level_over-behind.ensures) _
    (rw c.in-Call.is at (c.block_at-block.ensures.opens to h))
