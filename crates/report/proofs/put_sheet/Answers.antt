-- `put_sheet` refuses bytes that are no words or too many, and what the reader and the sheet refuse; else it puts the heading and the lines.
-- Assumes nothing.
use mathlib.Core.Path.{◌≡◌, refl, sym, ap, ◌∙◌}
use mathlib.Core.List.{List, ◌++◌}
use mathlib.Core.Logic.{⊎_elim}
use Prim.Native.Nat.{ℕ}
use native.Mathlib.Omega.{arith}
use lib.ListN.{length, length-append}
use Rattle.std.proofs.lemmas.Result.{err_from_is_err_and}
use Rattle.rules.specs.Outcome.{answer}
use Rattle.rules.specs.Sheet.{sheet_of, sheet_outcome, sheet_room}
use Rattle.rules.specs.Text.{outcome_text, words_of, sheet_text}
use Rattle.words.specs.Parts.{chunks_in}
use Rattle.order.specs.Search.{Readable}
use Rattle.sheets.specs.Module.{rows_of, rows_in}
use Rattle.report.proofs.TextLaws.{whole_words, odd_bytes, many_bytes, unread, readable, zeros_blank, few_chunks, refused_sheet, all_chunks, lines_fit, answered_text}
use Rattle.report.proofs.put_sheet.Goals as goal
use Rattle.report.proofs.put_sheet.Goals.{After-deref-2, After-deref-3}

pub returns-then-input-ne0-clause-refusal : goal.returns-then-input-ne0-clause-refusal
returns-then-input-ne0-clause-refusal c =
    let bytes = c.args.input.now in
    rw (c.in_chunk.ensures, c.at.ensures) (refl, ⊎_elim (odd_bytes bytes) (λ w. many_bytes bytes w.0 w.1) c.then-input-ne0.either)

pub returns-in_err-n-clause-refusal : goal.returns-in_err-n-clause-refusal
returns-in_err-n-clause-refusal c =
    let p = err_from_is_err_and c.from_residual.result c.from_residual.ensures.1 in
    let words : c.deref.result.now ≡ words_of c.args.input.now = c.deref.ensures.0 ∙ (rw c.new-words.ensures at c.to_words.ensures) in
    rw (p.1, p.2) (refl, whole_words c.args.input.now (omega arith) ∙ ap outcome_text (unread (words_of c.args.input.now) (rw words at c.in_err-n.ensures)))

-- the words are a module
words : (c : After-deref-2) → Readable c.deref-2.result.now c.in_ok-n.field-0
words c =
    let same : c.deref-2.result.now ≡ c.deref.result.now = rw c.deref.ensures.0 c.deref-2.ensures.0 in
    rw same (readable c.in_ok-n.ensures)

-- the bytes are printed as the outcome of these words
text : (c : After-deref-2) → sheet_text c.args.input.now ≡ outcome_text (sheet_outcome c.deref-2.result.now sheet_room)
text c = rw (c.deref-2.ensures.0, c.to_words.ensures, c.new-words.ensures) (whole_words c.args.input.now (omega arith))

pub sheet_of-requires : goal.sheet_of-requires
sheet_of-requires c =
    let m = words (goal.at.sheet_of-requires c).After-deref-2 in
    (m, zeros_blank c.in_ok-n.field-0 1280 (omega (arith, few_chunks m)))

pub returns-in_err-order-clause-refusal : goal.returns-in_err-order-clause-refusal
returns-in_err-order-clause-refusal c =
    let p = err_from_is_err_and c.from_residual-in_err-order.result c.from_residual-in_err-order.ensures.1 in
    let place = (goal.at.returns-in_err-order-clause-refusal c).After-deref-2 in
    rw (p.1, p.2) (refl, text place ∙ ap outcome_text (refused_sheet (words place) c.in_err-order.ensures))

-- the order and the numbers are those of the sheet
made : (c : After-deref-3) → answer (rows_in c.in_ok-n.field-0 c.sheet_of.new.numbers c.deref-3.result.now) ≡ rows_of (sheet_of (chunks_in c.deref-2.result.now))
made c = rw c.deref-3.ensures.0 c.in_ok-order.ensures

pub put_lines-requires : goal.put_lines-requires
put_lines-requires c =
    let place = goal.at.put_lines-requires c in
    let m = words place.After-deref-2 in
    let is = made place.After-deref-3 in
    let order = c.deref-3.result.now in
    let numbers = c.sheet_of.new.numbers in
    let head = simp length-append at (ap length c.put_heading.ensures) in
    (omega arith, (lines_fit m order numbers is (omega arith), omega (arith, all_chunks m order numbers is, few_chunks m)))

pub returns-clause-sheet : goal.returns-clause-sheet
returns-clause-sheet c =
    let place = goal.at.returns-clause-sheet c in
    let old = c.args.out.now.items in
    answered_text (words place.After-deref-2) c.deref-3.result.now c.sheet_of.new.numbers (made place.After-deref-3) old c.put_heading.ensures c.put_lines.ensures
    ∙ ap (λ (t : List ℕ). old ++ t) (sym (text place.After-deref-2))
