-- What the figures of the cycle walk of one chunk stand for in document 01.
use Rattle.std.specs.Prelude.{List, ℕ}
use Rattle.rules.specs.Outcome.{Result}
use Rattle.rules.specs.Ops.{op_at}
use Rattle.rules.specs.Form.{Chunk}
use Rattle.rules.specs.Cycles as R
use Rattle.rows.specs.Tree.{tree_of}
use Rattle.cycles.specs.declared.entry.Figure.{Figure}

abbrev pub figure_of : Figure → R.Cycles
figure_of f = record { cycles = f.cycles; ends = f.ends; cut = f.cut }

-- the cycle walk of a whole range
abbrev pub range_cycles : Chunk → List ℕ → ℕ → ℕ → Result R.Cycles
range_cycles c wholes from to = R.row_cycles c wholes (tree_of (op_at c.ops) from to)
