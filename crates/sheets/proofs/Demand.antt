-- Demand 3 for the entry point's own answer: where the module sheet answers, the numbers in the tray bound every path, and the mark is exact.
-- Assumes nothing.
use mathlib.Core.Path.{◌≡◌, refl, ap, ◌∙◌}
use mathlib.Core.Bool.{Bool, true, false}
use mathlib.Core.List.{List, []}
use Prim.Native.Nat.{ℕ, ◌+◌, ◌*◌, ◌<◌, ◌≤◌, min}
use native.Mathlib.Omega.{arith}
use lib.Dec.{ltb}
use lib.ListN.{length, get_or, drop}
use lib.Seq.{take_at}
use Rattle.std.specs.Prelude.{Ok}
use Rattle.rules.specs.Outcome.{ok, Outcome, answer, refused}
use Rattle.rules.specs.Reading.{read}
use Rattle.rules.specs.Rows.{Row, chunk_row}
use Rattle.rules.specs.Cycles.{Cost, exact_cost}
use Rattle.rules.specs.Order.{chunk_at}
use Rattle.rules.specs.Limits.{cycle_cap}
use Rattle.rules.specs.Sheet.{no_line, Sheet, read_module, sheet_outcome, sheet_tray, mark_number, line_numbers, line_width, cycles_place, mark_place, bytes_place, whole_place, tray_numbers}
use Rattle.rules.specs.Paths.{Way, begin, path, path_cycles, path_bytes, KeepsCounts, KeepsDepths}
use Rattle.rules.specs.Values.{Memory, Valued}
use Rattle.rules.specs.Claims.{Accepted}
use Rattle.rules.proofs.Answers.{from_answer, from_chunk}
use Rattle.rules.proofs.SheetLines.{accepted_sheet}
use Rattle.rules.proofs.StackBound.{stack_bounded}
use Rattle.rules.proofs.WholeBound.{whole_bounded}
use Rattle.rules.proofs.CountsKept.{counts_kept}
use Rattle.rules.proofs.Demand.{cycles_bounded, mark_exact}
use Rattle.words.specs.Parts.{chunks_in}
use Rattle.words.specs.Refusals.{outcome_of}
use Rattle.sheets.specs.Module.{count_of}
use Rattle.sheets.proofs.TrayLaws.{tray-length, tray_number}
use Rattle.sheets.proofs.SheetLaws.{all_lines}

-- an accepted module's chunks are those of the words
accepts : (ws : List ℕ) (room : ℕ) (s : Sheet) → sheet_outcome ws room ≡ answer s → Accepted ws room (chunks_in ws) s
accepts ws room s e =
    let a = from_answer (read_module ws) _ e in
    let r = from_chunk 0 (read ws) a.1 in
    record { reads = rw r; answers = e }

-- in a list of numbers, the walk of chunk c with nothing cut, its figure up to the cap at 5 * c, and at 5 * c + 1 whether it is greater: 1, or else 0
abbrev pub MarkAt : List ℕ → ℕ → List ℕ → Type 0
MarkAt ws c numbers =
    (r : Row) × (e : Cost) × (chunk_row (chunk_at (chunks_in ws) c) ≡ ok r) × (exact_cost (chunk_at (chunks_in ws) c) [] r ≡ ok e)
    × (get_or numbers (line_width * c + cycles_place) 0 ≡ min cycle_cap e.cycles)
    × (get_or numbers (line_width * c + mark_place) 0 ≡ mark_number (ltb cycle_cap e.cycles))

module _ (ws tray : List ℕ) (s : Sheet) (answers : sheet_outcome ws (length tray) ≡ answer s) (c : ℕ) (lt : c < length (chunks_in ws)) where
  -- its words are accepted with this sheet
  accepted : Accepted ws (length tray) (chunks_in ws) s
  accepted = accepts ws (length tray) s answers

  -- the k-th number of its line
  number : (k : ℕ) → k < line_width → get_or (sheet_tray (answer s) tray) (line_width * c + k) 0 ≡ get_or (line_numbers (get_or s.lines c no_line)) k 0
  number k below =
      let lined : c < length s.lines = omega (arith, all_lines (chunks_in ws) s (accepted_sheet accepted)) in
      let begins = take_at (tray_numbers s.lines) (drop (line_width * length s.lines) tray) _ (tray-length s.lines) in
      tray_number s.lines (sheet_tray (answer s) tray) begins c lined k below

  -- the cycles of its line in the tray that is left, and their mark, are those of the walk with nothing cut
  pub tray_mark : MarkAt ws c (sheet_tray (answer s) tray)
  tray_mark =
      let (r, e, row, exact, cycles, cut) = mark_exact ws (length tray) (chunks_in ws) s accepted c lt in
      (r, e, row, exact, number cycles_place (omega arith) ∙ cycles, number mark_place (omega arith) ∙ ap mark_number cut)

  -- the cycles of every path that keeps its loops' counts, up to the cap, are at most the cycles of its line
  pub tray-cycles : (ways : List Way) → KeepsCounts (chunks_in ws) false (begin (chunks_in ws) c) ways
      → min cycle_cap (path_cycles (chunks_in ws) (path (chunks_in ws) false (begin (chunks_in ws) c) ways))
      ≤ get_or (sheet_tray (answer s) tray) (line_width * c + cycles_place) 0
  tray-cycles ways keeps =
      rw (number cycles_place (omega arith)) (cycles_bounded ws (length tray) (chunks_in ws) s accepted c lt ways keeps)

  -- and, callees run, where it keeps the counts of their loops too, at most the whole figure of its line
  pub tray_whole : (ways : List Way) → KeepsCounts (chunks_in ws) true (begin (chunks_in ws) c) ways
      → min cycle_cap (path_cycles (chunks_in ws) (path (chunks_in ws) true (begin (chunks_in ws) c) ways))
      ≤ get_or (sheet_tray (answer s) tray) (line_width * c + whole_place) 0
  tray_whole ways keeps =
      rw (number whole_place (omega arith)) (whole_bounded ws (length tray) (chunks_in ws) s accepted c lt ways keeps)

  -- and its stack bytes, callees run, where it keeps its depths, at most the bytes of its line
  pub tray_bytes : (ways : List Way) → KeepsDepths (chunks_in ws) true (begin (chunks_in ws) c) ways
      → path_bytes (chunks_in ws) c (path (chunks_in ws) true (begin (chunks_in ws) c) ways) ≤ get_or (sheet_tray (answer s) tray) (line_width * c + bytes_place) 0
  tray_bytes ways keeps =
      rw (number bytes_place (omega arith)) (stack_bounded ws (length tray) (chunks_in ws) s accepted c lt ways keeps)

-- an answer that counts lines comes from a sheet with so many
from_count : (o : Outcome Sheet) (n : ℕ) → answer n ≡ count_of o → (s : Sheet) × (o ≡ answer s) × (length s.lines ≡ n)
from_count (answer s) n e = (s, refl, cc)
from_count (refused m c p) n e = absurd (let z : ◌≡◌ {A = ℕ} 0 1 = cc in omega arith)

-- A call of `module_sheet` that came back with Ok n, by the two clauses of its contract alone: the tray was lent as `tray` and is left as `after`.
module _ (ws tray after : List ℕ) (n : ℕ) (answered : outcome_of {A = ℕ} {B = ℕ} (λ m. m) (Ok n) ≡ count_of (sheet_outcome ws (length tray)))
    (written : after ≡ sheet_tray (sheet_outcome ws (length tray)) tray) (c : ℕ) (lt : c < n) where
  -- there is a sheet with so many lines
  counted : (s : Sheet) × (sheet_outcome ws (length tray) ≡ answer s) × (length s.lines ≡ n)
  counted = from_count (sheet_outcome ws (length tray)) n answered

  -- so its chunks are those of the module
  in-module : c < length (chunks_in ws)
  in-module = omega (arith, counted.2, all_lines (chunks_in ws) counted.0 (accepted_sheet (accepts ws (length tray) counted.0 counted.1)))

  -- and its tray was left
  left : after ≡ sheet_tray (answer counted.0) tray
  left = written ∙ ap (λ (o : Outcome Sheet). sheet_tray o tray) counted.1

  -- the cycles of its line that the caller finds, and their mark, are those of the walk with nothing cut
  pub call_mark : MarkAt ws c after
  call_mark = rw left (tray_mark ws tray counted.0 counted.1 c in-module)

  -- the cycles of every path through chunk c that keeps its loops' counts, up to the cap, are at most the cycles of its line that the caller finds
  pub call_cycles : (ways : List Way) → KeepsCounts (chunks_in ws) false (begin (chunks_in ws) c) ways
      → min cycle_cap (path_cycles (chunks_in ws) (path (chunks_in ws) false (begin (chunks_in ws) c) ways)) ≤ get_or after (line_width * c + cycles_place) 0
  call_cycles ways keeps = rw left (tray-cycles ws tray counted.0 counted.1 c in-module ways keeps)

  -- and, callees run, where it keeps the counts of their loops too, at most the whole figure of its line
  pub call_whole : (ways : List Way) → KeepsCounts (chunks_in ws) true (begin (chunks_in ws) c) ways
      → min cycle_cap (path_cycles (chunks_in ws) (path (chunks_in ws) true (begin (chunks_in ws) c) ways)) ≤ get_or after (line_width * c + whole_place) 0
  call_whole ways keeps = rw left (tray_whole ws tray counted.0 counted.1 c in-module ways keeps)

  -- and its stack bytes, callees run, where it keeps its depths, at most the bytes of its line
  pub call_bytes : (ways : List Way) → KeepsDepths (chunks_in ws) true (begin (chunks_in ws) c) ways
      → path_bytes (chunks_in ws) c (path (chunks_in ws) true (begin (chunks_in ws) c) ways) ≤ get_or after (line_width * c + bytes_place) 0
  call_bytes ways keeps = rw left (tray_bytes ws tray counted.0 counted.1 c in-module ways keeps)

  -- A path that does as its ops say, from any memory, keeps the counts of its loops, callees run or not.
  kept : (run : Bool) (mem : ℕ → Memory) (ways : List Way) → Valued (chunks_in ws) run (begin (chunks_in ws) c) mem ways
      → KeepsCounts (chunks_in ws) run (begin (chunks_in ws) c) ways
  kept run mem ways valued = counts_kept ws (length tray) (chunks_in ws) counted.0 (accepts ws (length tray) counted.0 counted.1) c in-module run mem ways valued

  -- So its cycles are at most those of its line with no condition on loops left
  pub call_sure_cycles : (mem : ℕ → Memory) (ways : List Way) → Valued (chunks_in ws) false (begin (chunks_in ws) c) mem ways
      → min cycle_cap (path_cycles (chunks_in ws) (path (chunks_in ws) false (begin (chunks_in ws) c) ways)) ≤ get_or after (line_width * c + cycles_place) 0
  call_sure_cycles mem ways valued = call_cycles ways (kept false mem ways valued)

  -- and, callees run, at most the whole figure of its line.
  pub call_sure_whole : (mem : ℕ → Memory) (ways : List Way) → Valued (chunks_in ws) true (begin (chunks_in ws) c) mem ways
      → min cycle_cap (path_cycles (chunks_in ws) (path (chunks_in ws) true (begin (chunks_in ws) c) ways)) ≤ get_or after (line_width * c + whole_place) 0
  call_sure_whole mem ways valued = call_whole ways (kept true mem ways valued)
