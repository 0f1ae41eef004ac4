-- The six functions of the cycle walk meet their contracts. The measure is the nesting left, and the order of the calls at one level.
-- Assumes nothing.
use Rattle.std.proofs.Common.{◌+◌, ◌-◌, ◌*◌}
use Rattle.cycles.proofs.StepLaws.{Rest}
use Rattle.cycles.proofs.region.CycleWalk.+wcet.Given as goal

abbrev pub decreases-wcet_else : goal.decreases-wcet_else
decreases-wcet_else l = 4 * l.left + 1

abbrev pub decreases-wcet_if : goal.decreases-wcet_if
decreases-wcet_if l = 4 * l.left + 1

abbrev pub decreases-wcet_loop : goal.decreases-wcet_loop
decreases-wcet_loop l = 4 * l.left + 1

abbrev pub decreases-wcet_part : goal.decreases-wcet_part
decreases-wcet_part l = 4 * l.left

abbrev pub decreases-wcet_region_at : goal.decreases-wcet_region_at
decreases-wcet_region_at l = 4 * l.left + 3

abbrev pub decreases-wcet_step : goal.decreases-wcet_step
decreases-wcet_step l = 4 * l.left + 2

abbrev pub invariant-wcet_region_at-loop-i : goal.invariant-wcet_region_at-loop-i
invariant-wcet_region_at-loop-i l = Rest l.self.chunk l.self.wholes.now l.from l.to l.left l.fn.breaks l.i l.cycles l.breaks

abbrev pub decreases-wcet_region_at-loop-i : goal.decreases-wcet_region_at-loop-i
decreases-wcet_region_at-loop-i l = l.to - l.i
