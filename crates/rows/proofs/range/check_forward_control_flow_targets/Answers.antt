-- `check_forward_control_flow_targets` is `first_backward`: what is left of the list gives the whole. Assumes nothing.
use mathlib.Core.Path.{sym, ◌∙◌}
use Rattle.rows.proofs.SearchLaws.{backward_turn, backward_none}
use Rattle.rows.proofs.range.check_forward_control_flow_targets.Goals as goal

pub returns-then-is_backward : goal.returns-then-is_backward
returns-then-is_backward c =
    sym (c.loop-i.invariant ∙ backward_turn _ _ _ c.loop-i-test.true (sym c.is_backward.ensures ∙ c.if-is_backward.true))

pub loop-i-preserved : goal.loop-i-preserved
loop-i-preserved c = c.loop-i.invariant ∙ backward_turn _ _ _ c.loop-i-test.true (sym c.is_backward.ensures ∙ c.if-is_backward.false)

pub returns : goal.returns
returns c = sym (c.loop-i.invariant ∙ backward_none _ _ _ c.loop-i-test.false)
