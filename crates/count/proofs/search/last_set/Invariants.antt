-- `last_set` answers the last position below `before` whose op sets the slot. The loop's invariant: what is left gives the whole.
-- Assumes nothing.
use mathlib.Core.Path.{◌≡◌}
use Prim.Native.Nat.{◌≤◌}
use Rattle.rules.specs.Count.{last_set}
use Rattle.count.proofs.search.last_set.Given as goal

abbrev pub invariant-loop-i : goal.invariant-loop-i
invariant-loop-i l = (l.i ≤ l.before) × (last_set l.ops l.before l.slot ≡ last_set l.ops l.i l.slot)

abbrev pub decreases-loop-i : goal.decreases-loop-i
decreases-loop-i l = l.i
