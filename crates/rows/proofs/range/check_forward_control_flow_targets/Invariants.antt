-- `check_forward_control_flow_targets` is `first_backward`: what is left of the list gives the whole. Assumes nothing.
use mathlib.Core.Path.{◌≡◌}
use lib.ListN.{length, drop}
use Rattle.rules.specs.Rows.{first_backward}
use Rattle.rows.proofs.range.check_forward_control_flow_targets.Given as goal

abbrev pub invariant-loop-i : goal.invariant-loop-i
invariant-loop-i l = first_backward (length l.ops) 0 l.ops ≡ first_backward (length l.ops) l.i (drop l.i l.ops)
