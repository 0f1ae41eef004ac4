-- What is printed for some bytes: the refusals of the bytes, of the reader and of the sheet, and the lines of a sheet that answers, with room for them.
-- Assumes nothing.
use mathlib.Core.Path.{◌≡◌, refl, sym, ap, ◌∙◌}
use mathlib.Core.List.{List, ◌++◌, append_assoc}
use Prim.Native.Nat.{ℕ, zero, suc, ◌*◌, ◌%◌, ◌<◌, ◌≤◌}
use native.Mathlib.Nat.{mul-suc}
use native.Mathlib.Numerals.{towards_suc}
use native.Mathlib.Omega.{arith}
use borrow.Author.Tests.{eq-eqb, ne_eqb, le-leb}
use lib.ListN.{length, get_or, take, replicate}
use Rattle.std.proofs.lemmas.List.{take-replicate}
use Rattle.rules.specs.Limits.{most_chunks}
use Rattle.rules.specs.Outcome.{Result, ok, no, Outcome, answer, refused, followed_by, in_chunk}
use Rattle.rules.specs.Form.{Chunk}
use Rattle.rules.specs.Reading.{read}
use Rattle.rules.specs.Sheet as R
use Rattle.rules.specs.Sheet.{no_line, read_module, read_outcome, ring_outcome, sheet_of, line_width, sheet_outcome, sheet_room, tray_numbers}
use Rattle.rules.specs.Order.{call_order}
use Rattle.rules.specs.Text.{heading, lines_text, outcome_text, words_of, sheet_text}
use Rattle.rules.proofs.Answers.{from_answer, from_chunk}
use Rattle.rules.proofs.Members.{pigeonhole}
use Rattle.rules.proofs.CallOrder.{order_sound}
use Rattle.rules.proofs.ReadingAgrees.{read_words, read_over}
use Rattle.rules.proofs.SheetLines.{from_listing}
use Rattle.words.specs.Parts.{chunks_in}
use Rattle.order.specs.Search.{Readable}
use Rattle.order.proofs.CoverLaws.{covers}
use Rattle.sheets.specs.Module.{Rows, rows_of, rows_in, Blank}
use Rattle.sheets.proofs.SheetLaws.{order_chunks}
use Rattle.text.proofs.WordsLaws.{words_length}
use Rattle.report.specs.Report.{LinesFit}

-- bytes of whole words are printed as their words' outcome
pub whole_words : (bytes : List ℕ) → length bytes % 4 ≡ 0 → sheet_text bytes ≡ outcome_text (sheet_outcome (words_of bytes) sheet_room)
whole_words bytes h = rw (eq-eqb (length bytes % 4) 0 h)

-- bytes of no whole words are refused by 1
pub odd_bytes : (bytes : List ℕ) → (length bytes % 4 ≡ 0 → ⊥) → sheet_text bytes ≡ outcome_text (refused 1 0 0)
odd_bytes bytes h = rw (ne_eqb (length bytes % 4) 0 h)

-- and so are bytes of too many words
pub many_bytes : (bytes : List ℕ) → length bytes % 4 ≡ 0 → 65536 < length bytes → sheet_text bytes ≡ outcome_text (refused 1 0 0)
many_bytes bytes even h =
    let over = read_over (words_of bytes) (omega (arith, words_length bytes)) in
    whole_words bytes even ∙ rw over

-- a refusal of the reader refuses whatever comes behind it
refused_alike : {A : Type 0} (r : Result (List Chunk)) (next : List Chunk → Outcome A) {n c p : ℕ}
    → refused n c p ≡ followed_by (in_chunk 0 r) (λ cs. answer (length cs)) → followed_by (in_chunk 0 r) next ≡ refused n c p
refused_alike (ok cs) next e = absurd (let z : ◌≡◌ {A = ℕ} 0 1 = cc in omega arith)
refused_alike (no m q) next e = cc

-- words that the reader refuses
pub unread : (ws : List ℕ) {n c p : ℕ} → refused n c p ≡ read_outcome ws → sheet_outcome ws sheet_room ≡ refused n c p
unread ws e = refused_alike (read ws) _ e

-- words that the reader accepts are a module of as many chunks as it says
pub readable : {ws : List ℕ} {n : ℕ} → answer n ≡ read_outcome ws → Readable ws n
readable {ws} {n} e =
    let a = from_answer (read_module ws) _ (sym e) in
    let r = from_chunk 0 (read ws) a.1 in
    let count : length a.0 ≡ n = cc a.2 in
    record { reads = rw r refl; chunks = rw r (sym count) }

-- the numbers of empty lines are zeros
blank_numbers : (n : ℕ) → tray_numbers (replicate n no_line) ≡ replicate (line_width * n) 0
unfolding tray_numbers
blank_numbers zero = refl
blank_numbers (suc n) = simp (mul-suc, towards_suc) (simp (blank_numbers n))

-- zeros begin with the rows of empty lines
pub zeros_blank : (n m : ℕ) → line_width * n ≤ m → Blank n (replicate m 0)
zeros_blank n m h = take-replicate (line_width * n) m 0 h ∙ sym (blank_numbers n)

-- an outcome whose rows refuse refuses
from_refused : (o : Outcome R.Sheet) {m c p : ℕ} → refused m c p ≡ rows_of o → o ≡ refused m c p
from_refused (answer t) e = absurd (let z : ◌≡◌ {A = ℕ} 0 1 = cc in omega arith)
from_refused (refused m c p) e = cc

-- a sheet that answers, whose order and rows these are
record Told (cs : List Chunk) (order numbers : List ℕ) : Type 0 where
  sheet : R.Sheet
  answers : sheet_of cs ≡ answer sheet
  in_order : order ≡ sheet.order
  in_rows : numbers ≡ tray_numbers sheet.lines

-- rows that answer come from a sheet
from_rows : (cs : List Chunk) (o : Outcome R.Sheet) → sheet_of cs ≡ o → {order numbers : List ℕ}
    → answer (record { order = order; numbers = numbers }) ≡ rows_of o → Told cs order numbers
from_rows cs (answer t) is {order} {numbers} e =
    let same : ◌≡◌ {A = Rows} (record { order = order; numbers = numbers }) (record { order = t.order; numbers = tray_numbers t.lines }) = cc in
    record { sheet = t; answers = is; in_order = ap (λ (r : Rows). r.order) same; in_rows = ap (λ (r : Rows). r.numbers) same }
from_rows cs (refused m c p) is e = absurd (let z : ◌≡◌ {A = ℕ} 0 1 = cc in omega arith)

-- a sheet's order lists every chunk once
order_count : (cs : List Chunk) (s : R.Sheet) → sheet_of cs ≡ answer s → length s.order ≡ length cs
order_count cs s e =
    let a = from_answer (ring_outcome (call_order cs)) _ e in
    let b = from_answer (R.lines_in a.0 cs (replicate (length cs) no_line)) _ a.2 in
    let same : s.order ≡ a.0 = cc b.2 in
    let sound = order_sound cs s.order (from_listing (call_order cs) (rw same a.1)) in
    omega (arith, pigeonhole (length cs) s.order sound.once sound.only, covers (length cs) s.order sound.every)

module _ {ws : List ℕ} {n : ℕ} (words : Readable ws n) where
  -- there are at most 256 chunks
  pub few_chunks : n ≤ most_chunks
  few_chunks = omega (arith, (read_words ws (chunks_in ws) words.reads).1.most, words.chunks)

  -- the outcome is the module's sheet
  outcome : sheet_outcome ws sheet_room ≡ sheet_of (chunks_in ws)
  outcome = rw (words.reads, le-leb (line_width * length (chunks_in ws)) sheet_room (omega (arith, few_chunks, words.chunks)))

  -- a sheet that refuses
  pub refused_sheet : {m c p : ℕ} → refused m c p ≡ rows_of (sheet_of (chunks_in ws)) → sheet_outcome ws sheet_room ≡ refused m c p
  refused_sheet e = outcome ∙ from_refused (sheet_of (chunks_in ws)) e

  module _ (order numbers : List ℕ) (made : answer (rows_in n numbers order) ≡ rows_of (sheet_of (chunks_in ws))) where
    -- they come from the module's sheet
    told : Told (chunks_in ws) order (take (line_width * n) numbers)
    told = from_rows (chunks_in ws) (sheet_of (chunks_in ws)) refl made

    -- the order has as many chunks as the module
    pub all_chunks : length order ≡ n
    all_chunks = ap length told.in_order ∙ order_count (chunks_in ws) told.sheet told.answers ∙ sym words.chunks

    -- each chunk of the order has a row
    pub lines_fit : line_width * most_chunks ≤ length numbers → LinesFit order numbers
    lines_fit room =
        record {
          chunks = λ j lt.
              let below = order_chunks (chunks_in ws) told.sheet told.answers j (omega (arith, ap length told.in_order)) in
              omega (arith, all_chunks, words.chunks, ap (λ (o : List ℕ). get_or o j 0) told.in_order);
          numbers_room = omega (arith, all_chunks, few_chunks);
        }

    -- the heading and the lines, put behind a text
    pub answered_text : (old : List ℕ) {headed new : List ℕ} → headed ≡ old ++ heading
        → ((ls : List R.Line) → take (line_width * length order) numbers ≡ tray_numbers ls → new ≡ headed ++ lines_text order ls)
        → new ≡ old ++ outcome_text (sheet_outcome ws sheet_room)
    answered_text old head put =
        let lines = told.sheet.lines in
        let whole : heading ++ lines_text order lines ≡ outcome_text (sheet_outcome ws sheet_room) =
        ap (λ (o : List ℕ). heading ++ lines_text o lines) told.in_order ∙ sym (ap outcome_text (outcome ∙ told.answers)) in
        let rows : take (line_width * length order) numbers ≡ tray_numbers lines = rw all_chunks told.in_rows in
        put lines rows ∙ rw head (append_assoc old heading (lines_text order lines)) ∙ ap (λ (t : List ℕ). old ++ t) whole
