-- A stretch of positions that is a row, and its tree.
use Rattle.std.specs.Prelude.{Bool, true, false, ℕ, ◌-◌}
use Rattle.rules.specs.Rows.{Row, end, IsRow, Parsed, row, crossed, parse}

-- the positions from i up to `to` are a row; `in_loop` says whether a Loop is around
abbrev pub HasRow : (ℕ → ℕ) → Bool → ℕ → ℕ → Type 0
HasRow op in_loop i to = (r : Row) × IsRow op in_loop i to r

-- the tree of a stretch that is a row
abbrev pub tree_found : Parsed → Row
tree_found (row r) = r
tree_found crossed = end

unfoldable pub tree_of : (ℕ → ℕ) → ℕ → ℕ → Row
tree_of op i to = tree_found (parse (to - i) op true i to)

-- whether a range is a row
abbrev pub is_row : Parsed → Bool
is_row (row r) = true
is_row crossed = false
