-- `module_sheet` answers document 01's outcome, and writes the tray where every chunk has its line.
-- Assumes nothing.
use mathlib.Core.Path.{sym, ap, ◌∙◌}
use mathlib.Core.List.{List, ◌++◌}
use Prim.Native.Nat.{ℕ, ◌*◌, ◌≤◌}
use lib.ListN.{length, drop}
use lib.Seq.{length-take-le}
use Rattle.std.proofs.lemmas.Result.{err_from_is_err_and}
use Rattle.rules.specs.Outcome.{answer, refused}
use Rattle.rules.specs.Sheet.{line_width}
use Rattle.words.specs.Refusals.{refusal_number}
use Rattle.sheets.proofs.AnswerLaws.{Leaves, accepted_words, zeros_blank, refused_sheet, kept_room, whole_sheet}
use Rattle.sheets.proofs.module.module_sheet.Goals as goal
use Rattle.sheets.proofs.module.module_sheet.Goals.{In_err-sheet_of, In_ok-sheet_of, After-copy_from_slice}

pub sheet_of-requires : goal.sheet_of-requires
sheet_of-requires c =
    let words = accepted_words c.args.words.now c.in_ok-chunks.ensures in
    (words, zeros_blank words)

-- a sheet that refuses leaves the tray
refuses : (c : In_err-sheet_of)
    → Leaves c.args.words.now c.args.tray.now (refused (refusal_number c.in_err-sheet_of.field-0.0.refusal) c.in_err-sheet_of.field-0.0.chunk c.in_err-sheet_of.field-0.0.place) c.args.tray.now
refuses c = refused_sheet (accepted_words c.args.words.now c.in_ok-chunks.ensures) c.args.tray.now c.if-tray-count.false c.in_err-sheet_of.ensures

pub returns-in_err-sheet_of-clause-answer : goal.returns-in_err-sheet_of-clause-answer
returns-in_err-sheet_of-clause-answer c =
    let p = err_from_is_err_and c.from_residual-in_err-sheet_of.result c.from_residual-in_err-sheet_of.ensures.1 in
    rw (p.1, p.2) (refuses (goal.at.returns-in_err-sheet_of-clause-answer c).In_err-sheet_of).0

pub returns-in_err-sheet_of-clause-written : goal.returns-in_err-sheet_of-clause-written
returns-in_err-sheet_of-clause-written c = (refuses (goal.at.returns-in_err-sheet_of-clause-written c).In_err-sheet_of).1

-- the numbers that were lent have room for all rows
room : (c : In_ok-sheet_of) → line_width * c.in_ok-chunks.chunks ≤ length c.sheet_of.new.numbers
room c = kept_room (accepted_words c.args.words.now c.in_ok-chunks.ensures) c.sheet_of.new.numbers c.in_ok-sheet_of.ensures

pub slice_bounds-numbers-end : goal.slice_bounds-numbers-end
slice_bounds-numbers-end c = room (goal.at.slice_bounds-numbers-end c).In_ok-sheet_of

pub slice_bounds-copy_from_slice-end-3 : goal.slice_bounds-copy_from_slice-end-3
slice_bounds-copy_from_slice-end-3 c = sym (length-take-le _ _ (room (goal.at.slice_bounds-copy_from_slice-end-3 c).In_ok-sheet_of))

pub copy_from_slice-requires : goal.copy_from_slice-requires
copy_from_slice-requires c =
    length-take-le _ _ c.if-tray-count.false ∙ sym (length-take-le _ _ (room (goal.at.copy_from_slice-requires c).In_ok-sheet_of))

-- the rows are copied to the front of the tray
copied : (c : After-copy_from_slice)
    → Leaves c.args.words.now c.args.tray.now (answer c.in_ok-chunks.chunks) (c.copy_from_slice.new.self ++ drop (line_width * c.in_ok-chunks.chunks) c.args.tray.now)
copied c =
    whole_sheet (accepted_words c.args.words.now c.in_ok-chunks.ensures) c.sheet_of.new.numbers c.in_ok-sheet_of.ensures c.args.tray.now c.if-tray-count.false
    (ap (λ (rows : List ℕ). rows ++ drop (line_width * c.in_ok-chunks.chunks) c.args.tray.now) c.copy_from_slice.ensures.after)

pub returns-clause-answer : goal.returns-clause-answer
returns-clause-answer c = (copied (goal.at.returns-clause-answer c).After-copy_from_slice).0

pub returns-clause-written : goal.returns-clause-written
returns-clause-written c = (copied (goal.at.returns-clause-written c).After-copy_from_slice).1
