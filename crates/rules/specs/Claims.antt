-- Demand 3 as types: what a sheet's lines say of every path; what request 2.5's mark says of a line's cycles; and what request 2.4's place is, by positions.
-- proofs/Demand, proofs/WholeBound, proofs/StackBound and proofs/Strays have the proofs.
use Rattle.std.specs.Prelude.{◌≡◌, true, false, List, [], ◌⊎◌, ℕ, ◌<◌, ◌≤◌, min, ltb, length, get_or}
use Rattle.rules.specs.Outcome.{ok, answer, found, nothing}
use Rattle.rules.specs.Ops.{field_a, op_at}
use Rattle.rules.specs.Form.{Chunk}
use Rattle.rules.specs.Limits.{cycle_cap}
use Rattle.rules.specs.Rows.{loop_to, breaks, breaks_if, shape_of, Row, Range, row_of, chunk_row, stray_break}
use Rattle.rules.specs.Cycles.{Cost, exact_cost}
use Rattle.rules.specs.Order.{chunk_at}
use Rattle.rules.specs.Sheet.{Line, no_line, Sheet, read_module, sheet_outcome}
use Rattle.rules.specs.Paths.{Way, begin, path, path_cycles, path_bytes, KeepsCounts, KeepsDepths}

-- "A module is accepted if the module sheet answers and doesn't refuse": the words, the tray's length, the chunks and the sheet
pub record Accepted (words : List ℕ) (room : ℕ) (cs : List Chunk) (s : Sheet) : Type 0 where
  pub reads : read_module words ≡ answer cs
  pub answers : sheet_outcome words room ≡ answer s

abbrev pub line_at : Sheet → ℕ → Line
line_at s c = get_or s.lines c no_line

-- The cycles of a path that runs no callee, counted up to the cap, are at most its sheet's: for every path that keeps to its loops' counts,
-- whichever way each If and BreakIf goes and wherever it stops.
abbrev pub CyclesBounded : Type 0
CyclesBounded =
    (words : List ℕ) (room : ℕ) (cs : List Chunk) (s : Sheet) → Accepted words room cs s → (c : ℕ) → c < length cs
    → (ways : List Way) → KeepsCounts cs false (begin cs c) ways
    → min cycle_cap (path_cycles cs (path cs false (begin cs c) ways)) ≤ (line_at s c).cycles

-- 2.1: "The bound on paths is to hold for this field with callees run, under the same loop conditions." The cycles of a path that runs its callees,
-- their ops counted too, up to the cap: for every path that keeps to the counts of the loops in the chunk and in every callee run.
abbrev pub WholeBounded : Type 0
WholeBounded =
    (words : List ℕ) (room : ℕ) (cs : List Chunk) (s : Sheet) → Accepted words room cs s → (c : ℕ) → c < length cs
    → (ways : List Way) → KeepsCounts cs true (begin cs c) ways
    → min cycle_cap (path_cycles cs (path cs true (begin cs c) ways)) ≤ (line_at s c).whole

-- The stack bytes of a path that runs its callees are at most its sheet's: for every path whose whole passes and breaks leave no more than the
-- depth at their entry.
abbrev pub StackBounded : Type 0
StackBounded =
    (words : List ℕ) (room : ℕ) (cs : List Chunk) (s : Sheet) → Accepted words room cs s → (c : ℕ) → c < length cs
    → (ways : List Way) → KeepsDepths cs true (begin cs c) ways
    → path_bytes cs c (path cs true (begin cs c) ways) ≤ (line_at s c).bytes

-- 2.5: "Each cycle walk outcome and each sheet row is to carry a yes or no that is yes exactly if the uncapped figure is greater than 4,294,967,295." Of an
-- accepted module's line: the walk with nothing cut answers, the cycles are its figure up to the cap, and the mark says whether it is greater.
abbrev pub MarkExact : Type 0
MarkExact =
    (words : List ℕ) (room : ℕ) (cs : List Chunk) (s : Sheet) → Accepted words room cs s → (c : ℕ) → c < length cs
    → (r : Row) × (e : Cost) × (chunk_row (chunk_at cs c) ≡ ok r) × (exact_cost (chunk_at cs c) [] r ≡ ok e)
    × ((line_at s c).cycles ≡ min cycle_cap e.cycles) × ((line_at s c).cut ≡ ltb cycle_cap e.cycles)

-- 2.4: "the operand of Break and BreakIf must be the target of the innermost Loop around it", said of positions and not of a tree: the op at i of the
-- range g breaks this. A Loop is around the positions behind it and before its target.
pub record IsStray (ops : List ℕ) (g : Range) (i : ℕ) : Type 0 where
  pub within : (g.from ≤ i) × (i < g.to)
  pub is_break : (shape_of (op_at ops i) ≡ breaks) ⊎ (shape_of (op_at ops i) ≡ breaks_if)
  pub at : ℕ
  pub target : ℕ
  pub is_loop : shape_of (op_at ops at) ≡ loop_to target
  pub around : (g.from ≤ at) × (at < i) × (i < target)
  pub innermost : (q t : ℕ) → at < q → q < i → shape_of (op_at ops q) ≡ loop_to t → i < t → ⊥
  pub other : field_a (op_at ops i) ≡ target → ⊥

-- "place the first such op of the range"
abbrev pub StrayFirst : Type 0
StrayFirst =
    (ops : List ℕ) (g : Range) (r : Row) (i : ℕ) → g.from ≤ g.to → row_of ops g ≡ ok r → stray_break (op_at ops) 0 r ≡ found i
    → IsStray ops g i × ((j : ℕ) → j < i → IsStray ops g j → ⊥)

-- and where a tree has none, the range has none
abbrev pub StrayNone : Type 0
StrayNone =
    (ops : List ℕ) (g : Range) (r : Row) → g.from ≤ g.to → row_of ops g ≡ ok r → stray_break (op_at ops) 0 r ≡ nothing
    → (j : ℕ) → IsStray ops g j → ⊥
