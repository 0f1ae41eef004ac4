-- What the lines of a sheet ask of the lists that they are printed from, and the part of a line that its mark is told in.
use Rattle.std.specs.Prelude.{Bool, List, [], ◌∷◌, ◌++◌, ℕ, ◌*◌, ◌<◌, ◌≤◌, length, get_or}
use Rattle.rules.specs.Sheet.{line_width}
use Rattle.rules.specs.Text.{decimal, space, plus_if}

-- the cycles of a line up to the space behind them
unfoldable pub cycles_text : ℕ → Bool → List ℕ
cycles_text n cut = decimal n ++ (plus_if cut ++ (space ∷ []))

-- the most bytes of that: ten digits, a plus sign and a space
abbrev pub cycles_most : ℕ
cycles_most = 12

-- chunks of an order, each with a row
pub record LinesFit (order numbers : List ℕ) : Type 0 where
  pub chunks : (j : ℕ) → j < length order → get_or order j 0 < length order
  pub numbers_room : line_width * length order ≤ length numbers
