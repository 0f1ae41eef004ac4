-- The rows by kind.
use Rattle.std.specs.Prelude.{List, ℕ, Option, Some, None, get_or}
use Rattle.rules.specs.Ops as Ops
use Rattle.groups.specs.declared.line.Figures.{Figures}

-- the most bytes of a row
abbrev pub row_most : ℕ
row_most = 36

-- the figures of a group, as document 01's table has them
abbrev pub figures_of : Figures → Ops.Figures
figures_of f = Ops.figures f.cycles f.growth f.shrink

-- the row of a kind, 0 throughout where it has none
abbrev pub row_figures : Option Figures → Ops.Figures
row_figures (Some f) = figures_of f
row_figures None = Ops.figures 0 0 0

-- the row of kind k in the table by kind
abbrev pub figures_at : List (Option Figures) → ℕ → Ops.Figures
figures_at table k = row_figures (get_or table k None)
