-- The six functions of the stack walk meet their contracts. The measure is the nesting left, and the order of the calls at one level.
-- Assumes nothing.
use Prim.Native.Nat.{◌+◌, ◌-◌, ◌*◌}
use Rattle.words.specs.Chunks.{chunk_of}
use Rattle.stack.proofs.RowLaws.{Rest}
use Rattle.stack.proofs.region.StackWalk.+wcmu.Given as goal

abbrev pub decreases-wcmu_else : goal.decreases-wcmu_else
decreases-wcmu_else l = 4 * l.left + 1

abbrev pub decreases-wcmu_if : goal.decreases-wcmu_if
decreases-wcmu_if l = 4 * l.left + 1

abbrev pub decreases-wcmu_loop : goal.decreases-wcmu_loop
decreases-wcmu_loop l = 4 * l.left + 1

abbrev pub decreases-wcmu_region_at : goal.decreases-wcmu_region_at
decreases-wcmu_region_at l = 4 * l.left + 3

abbrev pub decreases-wcmu_step : goal.decreases-wcmu_step
decreases-wcmu_step l = 4 * l.left + 2

abbrev pub decreases-wcmu_subregion : goal.decreases-wcmu_subregion
decreases-wcmu_subregion l = 4 * l.left

abbrev pub invariant-wcmu_region_at-loop-i : goal.invariant-wcmu_region_at-loop-i
invariant-wcmu_region_at-loop-i l = Rest (chunk_of l.self.chunk) l.self.callees.now l.from l.to l.left l.broken l.i l.level

abbrev pub decreases-wcmu_region_at-loop-i : goal.decreases-wcmu_region_at-loop-i
decreases-wcmu_region_at-loop-i l = l.to - l.i
