-- What the stack walk of a chunk stands for in document 01.
use Rattle.std.specs.Prelude.{List, ℕ}
use Rattle.rules.specs.Outcome.{Result}
use Rattle.rules.specs.Ops.{op_at}
use Rattle.rules.specs.Form.{Chunk}
use Rattle.rules.specs.Stack as R
use Rattle.rows.specs.Tree.{tree_of}
use Rattle.stack.specs.declared.chunk.Stack.{Stack}
use Rattle.stack.specs.Levels.{delta_of}

-- the walk of the row from `from` up to `to` of a chunk
abbrev pub parts_stack : Chunk → List ℕ → ℕ → ℕ → Result R.Stack
parts_stack c callees from to = R.row_stack c callees (tree_of (op_at c.ops) from to)

-- what the answer of the walk stands for in document 01
abbrev pub stack_is : Stack → R.Stack
stack_is s = record { peak = s.peak.0; delta = delta_of s.delta; bytes = s.bytes.0 }
