-- The lines of a sheet, put in order: a line by its fields and its mark, the numbers of its row, one line more, and how far the lines are put.
-- Assumes nothing.
use mathlib.Core.Path.{◌≡◌, refl, sym, ap, ◌∙◌}
use mathlib.Core.Bool.{Bool, true, false}
use mathlib.Core.List.{List, [], ◌∷◌, ◌++◌, append_assoc, append-nil}
use Prim.Native.Nat.{ℕ, zero, suc, ◌+◌, ◌*◌, ◌<◌, ◌≤◌}
use native.Mathlib.Nat.{mul-suc}
use native.Mathlib.Numerals.{add-one, towards_suc}
use native.Mathlib.Omega.{arith}
use lib.ListN.{length, get_or, take, drop, take-append-drop}
use lib.Seq.{length-take-le}
use Rattle.rules.specs.Sheet.{Line, no_line, mark_number, line_numbers, line_width, tray_numbers}
use Rattle.rules.specs.Text.{decimal, space, newline, plus_sign, line_most, line_text, lines_text}
use Rattle.text.specs.Field.{field_text}
use Rattle.report.specs.Report.{cycles_text, LinesFit}

-- the cycles of a line are a field where the mark of the row is 0
pub cycles_exact : (n mark : ℕ) → mark ≡ 0 → (cut : Bool) → mark ≡ mark_number cut → field_text n space ≡ cycles_text n cut
unfolding field_text cycles_text
cycles_exact n mark none true is = absurd (omega arith)
cycles_exact n mark none false is = refl

-- else they are a field that a plus sign ends, and a space
pub cycles-cut : (n mark : ℕ) → (mark ≡ 0 → ⊥) → (cut : Bool) → mark ≡ mark_number cut → field_text n plus_sign ++ (space ∷ []) ≡ cycles_text n cut
unfolding field_text cycles_text
cycles-cut n mark some true is = append_assoc (decimal n) (plus_sign ∷ []) (space ∷ [])
cycles-cut n mark some false is = absurd (some is)

-- the mark of a row is its line's
pub row_mark : (l : Line) {row : List ℕ} → row ≡ line_numbers l → get_or row 1 0 ≡ mark_number l.cut
row_mark l is = rw is

-- the fields of a line, one put behind the other: the chunk, and the numbers of its row
pub row_line : (before : List ℕ) (c : ℕ) (l : Line) {row : List ℕ} → row ≡ line_numbers l
    → ((((before ++ field_text c space) ++ cycles_text (get_or row 0 0) l.cut) ++ field_text (get_or row 2 0) space) ++ field_text (get_or row 3 0) space)
    ++ field_text (get_or row 4 0) newline
    ≡ before ++ line_text c l
unfolding field_text cycles_text
row_line before c l is = rw is (simp append_assoc)

-- how many numbers the lines have
numbers_length : (ls : List Line) → length (tray_numbers ls) ≡ line_width * length ls
unfolding tray_numbers
numbers_length [] = refl
numbers_length (l ∷ ls) = omega (arith, numbers_length ls)

-- the numbers of one line among those of all
row_among : (ls : List Line) (rest : List ℕ) (c : ℕ) → c < length ls
    → take line_width (drop (line_width * c) (tray_numbers ls ++ rest)) ≡ line_numbers (get_or ls c no_line)
unfolding tray_numbers
row_among [] rest c h = absurd (omega arith)
row_among (l ∷ ls) rest zero h = refl
row_among (l ∷ ls) rest (suc c) h = simp (mul-suc, towards_suc) (row_among ls rest c (omega arith))

-- the row of a chunk, where the rows of n chunks stand in front
row_of : (ls : List Line) (numbers : List ℕ) (n c : ℕ) → line_width * n ≤ length numbers → take (line_width * n) numbers ≡ tray_numbers ls → c < n
    → take line_width (drop (line_width * c) numbers) ≡ line_numbers (get_or ls c no_line)
row_of ls numbers n c room is lt =
    let many : line_width * n ≡ line_width * length ls = sym (length-take-le (line_width * n) numbers room) ∙ ap length is ∙ numbers_length ls in
    let apart : numbers ≡ tray_numbers ls ++ drop (line_width * n) numbers = rw is at (sym (take-append-drop (line_width * n) numbers)) in
    ap (λ (l : List ℕ). take line_width (drop (line_width * c) l)) apart ∙ row_among ls (drop (line_width * n) numbers) c (omega arith)

-- one line more
text_more : (order : List ℕ) (lines : List Line) (j : ℕ) → j < length order
    → lines_text (take (suc j) order) lines ≡ lines_text (take j order) lines ++ line_text (get_or order j 0) (get_or lines (get_or order j 0) no_line)
unfolding lines_text
text_more [] lines j h = absurd (omega arith)
text_more (x ∷ order) lines zero h = append-nil (line_text x (get_or lines x no_line))
text_more (x ∷ order) lines (suc j) h = rw (text_more order lines j (omega arith)) (sym (append_assoc (line_text x (get_or lines x no_line)) _ _))

module _ (order numbers out : List ℕ) where
  -- after j turns: the first j lines stand behind the text, whatever lines the rows are those of, and they are short
  pub record Written (j : ℕ) (now : List ℕ) : Type 0 where
    pub short : length now ≤ length out + line_most * j
    pub text : (ls : List Line) → take (line_width * length order) numbers ≡ tray_numbers ls → now ≡ out ++ lines_text (take j order) ls

  -- before the first turn
  pub written_none : Written 0 out
  unfolding lines_text
  written_none = record { short = omega arith; text = λ ls is. sym (append-nil out) }

  -- the line of the chunk at j, which is put by its row
  pub written_more : LinesFit order numbers → {j : ℕ} {now after : List ℕ} → Written j now → j < length order
      → ((l : Line) → take line_width (drop (line_width * get_or order j 0) numbers) ≡ line_numbers l → after ≡ now ++ line_text (get_or order j 0) l)
      → length after ≤ length now + line_most → Written (j + 1) after
  written_more fits {j} {now} {after} w turn line short =
      let c = get_or order j 0 in
      record {
        short = omega (arith, w.short);
        text = λ ls is.
            let row = row_of ls numbers (length order) c fits.numbers_room is (fits.chunks j turn) in
            rw (add-one j, text_more order ls j turn, ← append_assoc out, ← w.text ls is) (line (get_or ls c no_line) row);
      }
