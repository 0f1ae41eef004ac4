-- What the module sheet's entry point answers and leaves in the tray: a refused sheet, and the lines.
-- Assumes nothing.
use mathlib.Core.Path.{◌≡◌, refl, sym, ap, ◌∙◌}
use mathlib.Core.List.{List, ◌++◌}
use Prim.Native.Nat.{ℕ, ◌*◌, ◌≤◌}
use native.Mathlib.Omega.{arith}
use borrow.Author.Tests.{le-leb}
use lib.ListN.{length, take, drop, replicate}
use Rattle.rules.specs.Outcome.{Outcome, answer, refused}
use Rattle.rules.specs.Form.{Chunk}
use Rattle.rules.specs.Sheet as R
use Rattle.rules.specs.Sheet.{read_outcome, sheet_of, sheet_outcome, line_width, sheet_room, tray_numbers, sheet_tray}
use Rattle.words.specs.Parts.{chunks_in}
use Rattle.words.proofs.LookupLaws.{accepted}
use Rattle.order.specs.Search.{Readable}
use Rattle.order.proofs.VisitLaws.{few-chunks}
use Rattle.sheets.specs.Module.{Rows, rows_of, rows_in, Blank, count_of}
use Rattle.sheets.proofs.TrayLaws.{tray_blank, tray_size}
use Rattle.sheets.proofs.SheetLaws.{all_lines}

-- the answer and the tray that it leaves
abbrev pub Leaves : List ℕ → List ℕ → Outcome ℕ → List ℕ → Type 0
Leaves ws tray out after =
    (out ≡ count_of (sheet_outcome ws (length tray))) × (after ≡ sheet_tray (sheet_outcome ws (length tray)) tray)

-- what an outcome leaves, once it is known
leaves : (ws tray : List ℕ) (o : Outcome R.Sheet) → sheet_outcome ws (length tray) ≡ o → Leaves ws tray (count_of o) (sheet_tray o tray)
leaves ws tray o e = rw e (refl, refl)

-- words that the reader accepts are a module
pub accepted_words : (ws : List ℕ) {n : ℕ} → answer n ≡ read_outcome ws → Readable ws n
accepted_words ws {n} e = let a = accepted ws n e in record { reads = a.0; chunks = sym a.1 }

-- the sheet of some chunks, kept as its order and its rows
pub record Kept (cs : List Chunk) (order numbers : List ℕ) : Type 0 where
  pub sheet : R.Sheet
  pub answers : sheet_of cs ≡ answer sheet
  pub in_order : order ≡ sheet.order
  pub in_rows : numbers ≡ tray_numbers sheet.lines

-- rows that refuse come from an outcome that refuses alike
from_refused : (o : Outcome R.Sheet) {m c p : ℕ} → refused m c p ≡ rows_of o → o ≡ refused m c p
from_refused (answer t) e = absurd (let z : ◌≡◌ {A = ℕ} 0 1 = cc in omega arith)
from_refused (refused m c p) e = cc

-- rows that answer come from a sheet
from_rows : (cs : List Chunk) (o : Outcome R.Sheet) → sheet_of cs ≡ o → {order numbers : List ℕ}
    → answer (record { order = order; numbers = numbers }) ≡ rows_of o → Kept cs order numbers
from_rows cs (answer t) is {order} {numbers} e =
    let same : ◌≡◌ {A = Rows} (record { order = order; numbers = numbers }) (record { order = t.order; numbers = tray_numbers t.lines }) = cc in
    record { sheet = t; answers = is; in_order = ap (λ (r : Rows). r.order) same; in_rows = ap (λ (r : Rows). r.numbers) same }
from_rows cs (refused m c p) is e = absurd (let z : ◌≡◌ {A = ℕ} 0 1 = cc in omega arith)

module _ {ws : List ℕ} {n : ℕ} (words : Readable ws n) where
  -- where there is room, the outcome is the module's sheet
  sheet_outcome_lem : (room : ℕ) → line_width * n ≤ room → sheet_outcome ws room ≡ sheet_of (chunks_in ws)
  sheet_outcome_lem room fits = rw (words.reads, le-leb (line_width * length (chunks_in ws)) room (omega (arith, words.chunks)))

  -- the most numbers, all zeros, begin with its empty lines
  pub zeros_blank : Blank n (replicate sheet_room 0)
  zeros_blank = tray_blank n sheet_room (omega (arith, few-chunks words))

  -- a sheet that refuses leaves the tray
  pub refused_sheet : (tray : List ℕ) → line_width * n ≤ length tray → {m c p : ℕ} → refused m c p ≡ rows_of (sheet_of (chunks_in ws))
      → Leaves ws tray (refused m c p) tray
  refused_sheet tray fits e = leaves ws tray _ (sheet_outcome_lem (length tray) fits ∙ from_refused (sheet_of (chunks_in ws)) e)

  module _ {order : List ℕ} (numbers : List ℕ) (made : answer (rows_in n numbers order) ≡ rows_of (sheet_of (chunks_in ws))) where
    -- the sheet whose order and rows they are
    pub kept : Kept (chunks_in ws) order (take (line_width * n) numbers)
    kept = from_rows (chunks_in ws) (sheet_of (chunks_in ws)) refl made

    -- it has a line for each chunk
    kept_count : length kept.sheet.lines ≡ n
    kept_count = all_lines (chunks_in ws) kept.sheet kept.answers ∙ sym words.chunks

    -- so there are as many numbers as its rows have
    pub kept_room : line_width * n ≤ length numbers
    kept_room = omega (arith, kept_count, tray_size kept.sheet.lines n numbers kept.in_rows)

    -- the rows at the front of the tray are the sheet's
    pub whole_sheet : (tray : List ℕ) → line_width * n ≤ length tray → {after : List ℕ}
        → after ≡ take (line_width * n) numbers ++ drop (line_width * n) tray → Leaves ws tray (answer n) after
    whole_sheet tray fits {after} e =
        let lines = kept.sheet.lines in
        let left : after ≡ tray_numbers lines ++ drop (line_width * length lines) tray = e ∙ rw (kept.in_rows, kept_count) in
        rw (sheet_outcome_lem (length tray) fits ∙ kept.answers) (ap answer (sym kept_count), left)
