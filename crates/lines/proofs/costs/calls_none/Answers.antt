-- `calls_none` answers whether no op is a Call. The loop's invariant: what was met and what is left give the whole.
-- Assumes nothing.
use mathlib.Core.Path.{sym, ◌∙◌}
use Rattle.lines.proofs.CostLaws.{none_left, none_next}
use Rattle.lines.proofs.costs.calls_none.Goals as goal

pub loop-w-preserved : goal.loop-w-preserved
loop-w-preserved c = let l = c.loop-w in rw c.is-is_call.ensures (l.invariant ∙ none_next _ l.w-index l.none c.loop-w-test.true)

pub returns : goal.returns
returns c = let l = c.loop-w in sym (l.invariant ∙ none_left _ l.w-index l.none c.loop-w-test.false)
