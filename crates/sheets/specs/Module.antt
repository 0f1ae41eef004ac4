-- What the rows and the answers of the module sheet stand for in document 01.
use Rattle.std.specs.Prelude.{◌≡◌, List, ℕ, ◌*◌, ◌<◌, length, get_or, take, replicate}
use Rattle.arrayvec.specs.ArrayVec.{ArrayVec}
use Rattle.rules.specs.Outcome.{Outcome, answer, refused, followed_by}
use Rattle.rules.specs.Sheet as R
use Rattle.words.specs.Places.{PlacedAt}
use Rattle.order.specs.declared.visit.Calls.{Calls}
use Rattle.order.specs.Search.{Located}

-- a sheet's order, and the numbers of its lines row after row
pub record Rows : Type 0 where
  pub order : List ℕ
  pub numbers : List ℕ

-- a sheet as rows; a refusal stays
abbrev pub rows_of : Outcome R.Sheet → Outcome Rows
rows_of o = followed_by o (λ s. answer (record { order = s.order; numbers = R.tray_numbers s.lines }))

-- the order, and the rows of n chunks that stand in the numbers
abbrev pub rows_in : ℕ → List ℕ → List ℕ → Rows
rows_in n numbers order = record { order = order; numbers = take (R.line_width * n) numbers }

-- the same of an order as the code keeps it
abbrev pub rows_kept : ℕ → List ℕ → ArrayVec ℕ → Rows
rows_kept n numbers order = rows_in n numbers order.items

-- the numbers of lines
abbrev pub numbers_of : Outcome (List R.Line) → Outcome (List ℕ)
numbers_of o = followed_by o (λ lines. answer (R.tray_numbers lines))

-- the lines of n chunks before any is worked out
abbrev pub empty_lines : ℕ → List R.Line
empty_lines n = replicate n R.no_line

-- numbers that begin with the rows of n empty lines
abbrev pub Blank : ℕ → List ℕ → Type 0
Blank n numbers = take (R.line_width * n) numbers ≡ R.tray_numbers (empty_lines n)

-- how many chunks have their lines in the tray
abbrev pub count_of : Outcome R.Sheet → Outcome ℕ
count_of (answer s) = answer (length s.lines)
count_of (refused n c p) = refused n c p

-- the places of the chunks of a module, heads and ends too, and a list of chunks
pub record Ordering (calls : Calls) (order : List ℕ) : Type 0 where
  pub located : Located calls
  pub placed : (k : ℕ) → k < length calls.places.now → PlacedAt calls.words.now calls.places.now k
  pub chunks : (j : ℕ) → j < length order → get_or order j 0 < length calls.places.now
