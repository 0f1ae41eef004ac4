-- The turns over the call order: the lines of the chunks from one turn on give those of the whole order. Assumes nothing.
use mathlib.Core.Path.{◌≡◌, refl, sym, ap, ◌∙◌}
use mathlib.Core.List.{List, map}
use Prim.Native.Nat.{ℕ, suc, ◌+◌, ◌*◌, ◌<◌, ◌≤◌}
use native.Mathlib.Numerals.{add-one}
use native.Mathlib.Omega.{arith}
use lib.ListN.{length, get_or, take, drop, set, replicate, length-set, length-replicate, drop_of_length-le}
use lib.Seq.{drop-cons, take-set-lt}
use Rattle.rules.specs.Limits.{most_chunks}
use Rattle.rules.specs.Outcome.{Outcome, answer, refused, followed_by, in_chunk}
use Rattle.rules.specs.Form.{Chunk}
use Rattle.rules.specs.Order.{chunk_at}
use Rattle.rules.specs.Sheet as R
use Rattle.rules.specs.Sheet.{no_line, chunk_line, lines_in, line_numbers, line_width, tray_numbers}
use Rattle.rules.proofs.Mapped.{map_alike, map-set}
use Rattle.text.specs.Paste.{pasted}
use Rattle.sheets.specs.Module.{numbers_of, empty_lines, Blank}
use Rattle.sheets.proofs.RowLaws.{taken_alike}
use Rattle.sheets.proofs.TrayLaws.{tray_stored}

-- one number of each line, in a list that has room for the most chunks
pub record Column (f : R.Line → ℕ) (n : ℕ) (lines : List R.Line) (numbers : List ℕ) : Type 0 where
  pub size : length numbers ≡ most_chunks
  pub is : take n numbers ≡ map f lines

module _ (f : R.Line → ℕ) where
  -- zeros are a column of empty lines
  column_begins : f no_line ≡ 0 → (n : ℕ) → n ≤ most_chunks → Column f n (empty_lines n) (replicate most_chunks 0)
  column_begins zeros n few =
      record { size = length-replicate {A = ℕ} most_chunks 0; is = taken_alike 0 n most_chunks few ∙ sym (map_alike f n no_line ∙ rw zeros) }

  -- a line's number stored in its place
  column_stored : {n : ℕ} {lines : List R.Line} {numbers : List ℕ} → Column f n lines numbers → (c : ℕ) → c < n → (l : R.Line)
      → Column f n (set lines c l) (set numbers c (f l))
  column_stored {n} {lines} {numbers} k c below l =
      record {
        size = length-set numbers c (f l) ∙ k.size;
        is = take-set-lt n numbers c (f l) below ∙ ap (λ (xs : List ℕ). set xs c (f l)) k.is ∙ sym (map-set f lines c l);
      }

-- the stack bytes, and the whole figure: what the callers' walks read of a line
abbrev pub bytes_of : R.Line → ℕ
bytes_of l = l.bytes

abbrev pub whole_of : R.Line → ℕ
whole_of l = l.whole

-- before turn j: the lines so far, their rows, their stack bytes and their whole figures
pub record Lined (cs : List Chunk) (order : List ℕ) (n j : ℕ) (numbers bytes wholes : List ℕ) : Type 0 where
  pub lines : List R.Line
  pub count : length lines ≡ n
  pub rows : take (line_width * n) numbers ≡ tray_numbers lines
  pub in_bytes : Column bytes_of n lines bytes
  pub in_wholes : Column whole_of n lines wholes
  pub gives : lines_in order cs (empty_lines n) ≡ lines_in (drop j order) cs lines

-- before the first turn no line is worked out
pub lined_begins : (cs : List Chunk) (order : List ℕ) (n : ℕ) → n ≤ most_chunks → {numbers : List ℕ} → Blank n numbers
    → Lined cs order n 0 numbers (replicate most_chunks 0) (replicate most_chunks 0)
lined_begins cs order n few blank =
    record {
      lines = empty_lines n;
      count = length-replicate n no_line;
      rows = blank;
      in_bytes = column_begins bytes_of refl n few;
      in_wholes = column_begins whole_of refl n few;
      gives = refl;
    }

module _ {cs : List Chunk} {order : List ℕ} {n j : ℕ} {numbers bytes wholes : List ℕ} (l : Lined cs order n j numbers bytes wholes) where
  -- all turns are done
  pub lined_ends : length order ≤ j → answer (take (line_width * n) numbers) ≡ numbers_of (lines_in order cs (empty_lines n))
  unfolding lines_in
  lined_ends h =
      let all : lines_in order cs (empty_lines n) ≡ answer l.lines =
      l.gives ∙ ap (λ (os : List ℕ). lines_in os cs l.lines) (drop_of_length-le order h) in
      rw (all, l.rows)

  module _ (more : j < length order) where
    -- the line of the chunk whose turn it is
    abbrev pub line : Outcome R.Line
    line = in_chunk (get_or order j 0) (chunk_line (chunk_at cs (get_or order j 0)) (take n bytes) (take n wholes))

    -- the turns behind it
    abbrev rest : Outcome R.Line → Outcome (List R.Line)
    rest o = followed_by o (λ x. lines_in (drop (suc j) order) cs (set l.lines (get_or order j 0) x))

    -- the lines are those of this turn and the turns behind it
    turn : lines_in order cs (empty_lines n) ≡ rest line
    unfolding lines_in
    turn =
        l.gives
        ∙ ap (λ (os : List ℕ). lines_in os cs l.lines) (drop-cons order j 0 more)
        ∙ rw (l.in_bytes.is, l.in_wholes.is)

    -- the line of this turn's chunk is stored
    pub lined_more : get_or order j 0 < n → (x : R.Line) → answer x ≡ line
        → {after : List ℕ} → after ≡ pasted (line_width * get_or order j 0) (line_numbers x) numbers
        → Lined cs order n (j + 1) after (set bytes (get_or order j 0) x.bytes) (set wholes (get_or order j 0) x.whole)
    lined_more below x e stored =
        let c = get_or order j 0 in
        record {
          lines = set l.lines c x;
          count = length-set l.lines c x ∙ l.count;
          rows = rw (stored, ← l.count) (tray_stored l.lines numbers (rw (← l.count) at l.rows) c (omega (arith, l.count)) x);
          in_bytes = column_stored bytes_of l.in_bytes c below x;
          in_wholes = column_stored whole_of l.in_wholes c below x;
          gives = turn ∙ ap rest (sym e) ∙ rw (add-one j);
        }

    -- a refusal of this turn's chunk refuses the lines
    pub lined_refuses : {m c p : ℕ} → refused m c p ≡ line → refused m c p ≡ numbers_of (lines_in order cs (empty_lines n))
    lined_refuses e = rw (turn ∙ ap rest (sym e))
