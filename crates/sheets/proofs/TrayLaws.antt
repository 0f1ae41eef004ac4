-- The sheet's rows: those of the lines in the tray, as rows of `line_width` numbers. Assumes nothing.
use mathlib.Core.Path.{◌≡◌, refl, sym, ap, ◌∙◌}
use mathlib.Core.List.{List, [], ◌∷◌, ◌++◌, flat_map}
use Prim.Native.Nat.{ℕ, ◌+◌, ◌*◌, ◌<◌, ◌≤◌, min}
use lib.ListN.{length, get_or, take, set, replicate, length-take}
use Rattle.rules.specs.Sheet.{Line, no_line, line_numbers, line_width, tray_numbers}
use Rattle.text.specs.Paste.{pasted}
use Rattle.sheets.proofs.RowLaws as rows

-- a line has a row of numbers
line_size : (l : Line) → length (line_numbers l) ≡ line_width
line_size l = refl

-- the numbers of lines are their rows
tray_rows : (ls : List Line) → tray_numbers ls ≡ flat_map line_numbers ls
unfolding tray_numbers flat_map
tray_rows [] = refl
tray_rows (l ∷ ls) = ap (λ (ns : List ℕ). line_numbers l ++ ns) (tray_rows ls)

-- so they are a row's width each
pub tray-length : (ls : List Line) → length (tray_numbers ls) ≡ line_width * length ls
tray-length ls = rw (tray_rows ls) (rows.rows_length line_numbers line_width line_size ls)

-- zeros begin with the rows of empty lines
pub tray_blank : (n m : ℕ) → line_width * n ≤ m → take (line_width * n) (replicate m 0) ≡ tray_numbers (replicate n no_line)
tray_blank n m h =
    rows.taken_alike 0 (line_width * n) m h
    ∙ sym (tray_rows (replicate n no_line) ∙ rows.rows_alike line_numbers line_width line_size no_line 0 refl n)

-- lines and numbers that begin with theirs: as many lines as rows, where there is room
pub tray_size : (ls : List Line) (n : ℕ) (numbers : List ℕ) → take (line_width * n) numbers ≡ tray_numbers ls
    → min (line_width * n) (length numbers) ≡ line_width * length ls
tray_size ls n numbers is = sym (length-take (line_width * n) numbers) ∙ ap length is ∙ tray-length ls

-- a list that begins with the rows of the lines
module _ (ls : List Line) (numbers : List ℕ) (begins : take (line_width * length ls) numbers ≡ tray_numbers ls) (c : ℕ) (lt : c < length ls) where
  -- the k-th number of row c is that of its line
  pub tray_number : (k : ℕ) → k < line_width → get_or numbers (line_width * c + k) 0 ≡ get_or (line_numbers (get_or ls c no_line)) k 0
  tray_number = rows.number_at line_numbers line_width line_size ls numbers (begins ∙ tray_rows ls) c lt no_line

  -- another line's row in its place
  pub tray_stored : (l : Line) → take (line_width * length ls) (pasted (line_width * c) (line_numbers l) numbers) ≡ tray_numbers (set ls c l)
  tray_stored l = rw tray_rows (rows.row_stored line_numbers line_width line_size ls numbers (begins ∙ tray_rows ls) c lt l)
