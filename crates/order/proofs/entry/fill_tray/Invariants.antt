-- `fill_tray` puts the list's numbers in front: after i turns the first i of them.
-- Assumes nothing.
use Rattle.std.proofs.Common.{◌≡◌, ◌++◌, drop, take}
use Rattle.order.proofs.entry.fill_tray.Given as goal

abbrev pub invariant-loop-i : goal.invariant-loop-i
invariant-loop-i l = l.tray ≡ take l.i l.order ++ drop l.i l.initial.tray
