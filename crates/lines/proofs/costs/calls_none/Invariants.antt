-- `calls_none` answers whether no op is a Call. The loop's invariant: what was met and what is left give the whole.
-- Assumes nothing.
use mathlib.Core.Path.{◌≡◌}
use mathlib.Core.Bool.{◌&&◌}
use lib.ListN.{drop}
use Rattle.lines.specs.Costs.{calls_none}
use Rattle.lines.proofs.costs.calls_none.Given as goal

abbrev pub invariant-loop-w : goal.invariant-loop-w
invariant-loop-w l = calls_none l.ops ≡ (l.none && calls_none (drop l.w-index l.ops))
