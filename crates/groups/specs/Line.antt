-- The parts of a line as the code finds them, and what its answers stand for.
use Rattle.std.specs.Prelude.{not, List, ℕ, Option, Some, None, eqb}
use Rattle.rules.specs.Ops as Ops
use Rattle.rules.specs.Reading.{take_while}
use Rattle.rules.specs.Table as Table
use Rattle.groups.specs.declared.line.Group.{Group}

-- what stands before the first byte s, or all of it
abbrev pub before : ℕ → List ℕ → List ℕ
before s xs = take_while (λ x. not (eqb x s)) xs

abbrev pub group_is : Group → Ops.Group
group_is g = Ops.group g.first g.last g.figures.cycles g.figures.growth g.figures.shrink

abbrev pub line_is : Option Group → Table.LineGroup
line_is (Some g) = Table.is_group (group_is g)
line_is None = Table.no_group
