-- `op_effect` gives the effect of the op at a position, and that it is small.
-- Assumes nothing.
use Rattle.stack.proofs.LevelLaws.{effect_call, effect_plain}
use Rattle.stack.proofs.level.op_effect.Goals as goal

pub returns-then-is : goal.returns-then-is
returns-then-is c =
    effect_call c.args.ops.now c.args.callees.now c.args.i _ _ c.requires c.stack_growth-growth.ensures c.stack_shrink.ensures c.if-is.ensures _
    c.call_rise-rise.ensures.rise c.call_rise-rise.ensures.small

pub returns-else-is : goal.returns-else-is
returns-else-is c =
    effect_plain c.args.ops.now c.args.callees.now c.args.i _ _ c.requires c.stack_growth-growth.ensures c.stack_shrink.ensures c.if-is.ensures
