-- What is shown of 2.6's definitions: which inputs print a table, that document 01's groups print the table that is built in, and how much of an
-- input can matter.
use Rattle.std.specs.Prelude.{◌≡◌, ◌⊎◌, ℕ, ◌≤◌, take}
use mathlib.Core.List.{List, [], ◌∷◌, ◌++◌, flat_map, reverse}
use Rattle.rules.specs.Kinds as K
use Rattle.rules.specs.Outcome.{ok}
use Rattle.rules.specs.Ops.{Figures, Group, word, table, in_groups, figures_of}
use Rattle.rules.specs.Form.{Each}
use Rattle.rules.specs.Text.{decimal, space, newline}
use Rattle.rules.specs.Table.{most_number, lines_of, groups_from, table_rows, table_text}

-- "lines of first kind, last kind, cycles, growth, shrink", "with one space between"
abbrev pub group_fields : Group → List ℕ
group_fields g =
    decimal g.first ++ (space ∷ decimal g.last ++ (space ∷ decimal g.cost.cycles ++ (space ∷ decimal g.cost.growth
    ++ (space ∷ decimal g.cost.shrink))))

-- "a newline behind each"
abbrev pub group_line : Group → List ℕ
group_line g = group_fields g ++ (newline ∷ [])

abbrev pub group_lines : List Group → List ℕ
group_lines gs = flat_map group_line gs

-- "(the last may lack it)"
unfoldable pub unended : List Group → List ℕ
unended [] = []
unended (g ∷ []) = group_fields g
unended (g ∷ h ∷ gs) = group_line g ++ unended (h ∷ gs)

-- bytes are the lines of these groups, the last ended or not
abbrev pub Lines : List ℕ → List Group → Type 0
Lines bytes gs = (bytes ≡ group_lines gs) ⊎ (bytes ≡ unended gs)

-- a kind is in a group, and in one of some
abbrev pub Holds : Group → ℕ → Type 0
Holds g k = (g.first ≤ k) × (k ≤ g.last)

abbrev pub SomeHolds : List Group → ℕ → Type 0
SomeHolds [] k = ⊥
SomeHolds (g ∷ gs) k = Holds g k ⊎ SomeHolds gs k

-- what a group has to be alone: it doesn't "end below" its "first kind or pass kind 65", and its numbers are "up to 4,294,967,295"
pub record Fits (g : Group) : Type 0 where
  pub upward : g.first ≤ g.last
  pub kinds : g.last ≤ K.call_external_native
  pub cycles : g.cost.cycles ≤ most_number
  pub growth : g.cost.growth ≤ most_number
  pub shrink : g.cost.shrink ≤ most_number

-- no kind is in two groups
abbrev pub Apart : List Group → Type 0
Apart [] = Unit {0}
Apart (g ∷ gs) = ((k : ℕ) → Holds g k → SomeHolds gs k → ⊥) × Apart gs

-- groups that none of the faults is in: no group is bad alone, none overlap, and no kind is left out
pub record Proper (gs : List Group) : Type 0 where
  pub alone : Each Fits gs
  pub together : Apart gs
  pub whole : (k : ℕ) → k ≤ K.call_external_native → SomeHolds gs k

-- "Groups come in any order": proper groups print their table, ended or not
abbrev pub GroupsRead : Type 0
GroupsRead =
    (gs : List Group) → Proper gs → (table_text (group_lines gs) ≡ table_rows (in_groups gs)) × (table_text (unended gs) ≡ table_rows (in_groups gs))

-- and nothing else is read as groups: no other byte, no other way to write a number
abbrev pub OnlyGroups : Type 0
OnlyGroups = (bytes : List ℕ) (gs : List Group) → groups_from (lines_of bytes) 0 [] ≡ ok gs → Proper gs × Lines bytes (reverse gs)

-- "Kinds whose figures depend on a or b hold the row for a = 0 and b = 0"
abbrev pub built_in : ℕ → Figures
built_in k = figures_of (word k 0 0)

-- "Given document 01's groups it prints the very table that is built in."
abbrev pub TablePrinted : Type 0
TablePrinted = table_text (group_lines table) ≡ table_rows built_in

-- No bytes behind these can change what is printed: a line that is a group has at most 38 bytes and a newline, there are at most 66 such lines, and
-- one byte more is a line too many.
abbrev pub front_bytes : ℕ
front_bytes = 2575

abbrev pub FrontEnough : Type 0
FrontEnough = (bytes : List ℕ) → table_text (take front_bytes bytes) ≡ table_text bytes
