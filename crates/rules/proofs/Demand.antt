-- Demand 3: of an accepted module's sheet, every path's cycles and, callees run, stack bytes are bounded by its line. And what a line's mark says.
-- Assumes nothing.
use mathlib.Core.Path.{ap}
use native.Mathlib.Omega.{arith}
use Rattle.rules.specs.Sheet.{Line}
use Rattle.rules.specs.Claims.{CyclesBounded, StackBounded, WholeBounded, MarkExact}
use Rattle.rules.proofs.SheetLines.{sheet_lines, accepted_sheet}
use Rattle.rules.proofs.CyclesBound.{chunk-cycles}
use Rattle.rules.proofs.StackBound.{stack_bounded}
use Rattle.rules.proofs.WholeBound.{whole_bounded}

pub cycles_bounded : CyclesBounded
cycles_bounded words room cs s accepted c lt ways keeps =
    let l = sheet_lines cs s (accepted_sheet accepted) c lt in
    let bound = chunk-cycles cs c l.row l.cost l.is_row l.walked ways keeps in
    let figure = ap (λ (x : Line). x.cycles) l.line in
    omega (arith, figure, bound)

-- the claims together, for the lines of one sheet
pub demand_3 : CyclesBounded × StackBounded × WholeBounded
demand_3 = (cycles_bounded, stack_bounded, whole_bounded)

-- the mark of a line, and its cycles, are those of the walk with nothing cut
pub mark_exact : MarkExact
mark_exact words room cs s accepted c lt =
    let l = sheet_lines cs s (accepted_sheet accepted) c lt in
    (l.row, l.cost, l.is_row, l.walked, ap (λ (x : Line). x.cycles) l.line, ap (λ (x : Line). x.cut) l.line)
