-- The six functions of the coverage walk meet their contracts. The measure is the nesting left, and the order of the calls at one level.
-- Assumes nothing.
use Rattle.std.proofs.Common.{◌+◌, ◌-◌, ◌*◌}
use Rattle.yields.proofs.StepLaws.{Rest}
use Rattle.yields.proofs.region.CoverWalk.+cover.Given as goal

abbrev pub decreases-analyze_yield_coverage_at : goal.decreases-analyze_yield_coverage_at
decreases-analyze_yield_coverage_at l = 4 * l.left + 3

abbrev pub decreases-cover_else : goal.decreases-cover_else
decreases-cover_else l = 4 * l.left + 1

abbrev pub decreases-cover_if : goal.decreases-cover_if
decreases-cover_if l = 4 * l.left + 1

abbrev pub decreases-cover_loop : goal.decreases-cover_loop
decreases-cover_loop l = 4 * l.left + 1

abbrev pub decreases-cover_part : goal.decreases-cover_part
decreases-cover_part l = 4 * l.left

abbrev pub decreases-cover_step : goal.decreases-cover_step
decreases-cover_step l = 4 * l.left + 2

abbrev pub invariant-analyze_yield_coverage_at-loop-i : goal.invariant-analyze_yield_coverage_at-loop-i
invariant-analyze_yield_coverage_at-loop-i l = Rest l.self.ops.now l.self.lent.now l.from l.to l.left l.fn.initial l.fn.breaks l.i l.yielded' l.breaks

abbrev pub decreases-analyze_yield_coverage_at-loop-i : goal.decreases-analyze_yield_coverage_at-loop-i
decreases-analyze_yield_coverage_at-loop-i l = l.to - l.i
