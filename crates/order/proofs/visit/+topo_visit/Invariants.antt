-- `topo_visit` shows what the definition's visit comes to: the loop's invariant is that the rest of the scan, from the list that the state
-- shows, gives the whole. Assumes nothing.
use Rattle.std.proofs.Common.{◌-◌}
use Rattle.order.proofs.ScanLaws.{Rest}
use Rattle.order.proofs.visit.+topo_visit.Given as goal

abbrev pub decreases-topo_visit : goal.decreases-topo_visit
decreases-topo_visit l = l.left

abbrev pub invariant-loop-w : goal.invariant-loop-w
invariant-loop-w l = Rest l.calls (l.left - 1) l.c l.initial.s l.w-items l.w-index l.s
