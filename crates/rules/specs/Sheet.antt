-- "Refusing": what each entry point answers, its tests in document 01's order, and what it leaves in a lent tray.
use Rattle.std.specs.Prelude.{Bool, true, false, List, [], ◌∷◌, ◌++◌, map, ℕ, ◌*◌, leb, ltb, length, set, drop, replicate}
use Rattle.rules.specs.Limits.{most_chunks}
use Rattle.rules.specs.Numbers as N
use Rattle.rules.specs.Outcome.{Result, ok, Outcome, answer, refused, and_then, followed_by, in_chunk, demand}
use Rattle.rules.specs.Form.{Chunk}
use Rattle.rules.specs.Reading.{read}
use Rattle.rules.specs.Rows.{chunk_row}
use Rattle.rules.specs.Count.{count_of}
use Rattle.rules.specs.Cycles.{Cycles, row_cycles, chunk_cycles}
use Rattle.rules.specs.Stack.{Stack, chunk_stack, row_stack}
use Rattle.rules.specs.Order.{Listing, listed, ring, call_order, chunk_at}

-- 1 and 2: chunk 0
abbrev pub read_module : List ℕ → Outcome (List Chunk)
read_module ws = in_chunk 0 (read ws)

-- the reader: the chunk count, or 1 or 2
abbrev pub read_outcome : List ℕ → Outcome ℕ
read_outcome ws = followed_by (read_module ws) (λ cs. answer (length cs))

-- "12 no such chunk: index too great, place 0": the chunk is the index handed in; else what is asked of the chunks
abbrev pub looked_up : {A : Type 0} → List ℕ → ℕ → (List Chunk → A) → Outcome A
looked_up ws c ask = followed_by (read_module ws) (λ cs. in_chunk c (demand (ltb c (length cs)) N.no_such_chunk 0 (ask cs)))

abbrev pub chunk_outcome : List ℕ → ℕ → Outcome Chunk
chunk_outcome ws c = looked_up ws c (λ cs. chunk_at cs c)

-- "The count alone, for any position handed in, tests 1, 2, 12, 9, the place being that position."
abbrev pub count_outcome : List ℕ → ℕ → ℕ → Outcome ℕ
count_outcome ws c p = followed_by (chunk_outcome ws c) (λ k. in_chunk c (count_of k p))

-- the cycle walk of one chunk: 1, 2, 12, 3, 4, 5, 6, 15, and 7, 8, 9, 16 as the walk meets them
abbrev pub cycles_outcome : List ℕ → ℕ → Outcome Cycles
cycles_outcome ws c = followed_by (chunk_outcome ws c) (λ k. in_chunk c (chunk_cycles k))

-- the stack walk of one chunk over a lent callee list: 1, 2, 12, 3, 4, 5, 6, 15, then 7 and 9, then 11
abbrev pub stack_outcome : List ℕ → ℕ → List ℕ → Outcome Stack
stack_outcome ws c callees = followed_by (chunk_outcome ws c) (λ k. in_chunk c (chunk_stack k callees))

-- "13 short tray: lent result buffer too small"
abbrev pub with_room : ℕ → ℕ → List Chunk → Outcome (List Chunk)
with_room room wanted cs = in_chunk 0 (demand (leb wanted room) N.short_tray 0 cs)

-- "10 ring: calls in a circle, place 0; chunk met again"
abbrev pub ring_outcome : Listing → Outcome (List ℕ)
ring_outcome (listed order) = answer order
ring_outcome (ring c) = refused N.ring c 0

-- "The order alone tests 1, 2, 13, 10"; `room` is the length of the tray, which holds "one number a chunk for the order"
abbrev pub order_outcome : List ℕ → ℕ → Outcome (List ℕ)
order_outcome ws room =
    followed_by (read_module ws)
    (λ cs. followed_by (with_room room (length cs) cs) (λ ds. ring_outcome (call_order ds)))

-- "what lies beyond is left"; a refusal leaves the tray as it was
abbrev pub order_tray : Outcome (List ℕ) → List ℕ → List ℕ
order_tray (answer order) tray = order ++ drop (length order) tray
order_tray (refused n c p) tray = tray

-- a chunk's row of the sheet: cycles, 2.5's mark of the cycles, peak in slots, stack bytes, and 2.1's "fifth printed field, `whole`": the cycles with
-- callees. 2.5: "`whole` has no mark"
pub record Line : Type 0 where
  pub cycles : ℕ
  pub cut : Bool
  pub peak : ℕ
  pub bytes : ℕ
  pub whole : ℕ

abbrev pub line_of : Cycles → Cycles → Stack → Line
line_of c w s = record { cycles = c.cycles; cut = c.cut; peak = s.peak; bytes = s.bytes; whole = w.cycles }

-- one chunk of a module, over the stack bytes and the whole figures of its callees: 3, 4, 5, 6, 15, the cycle walk's 7, 8, 9, 16, the stack walk's, 11. The
-- walk with callees charged refuses where the cycle walk does and nowhere else, and nothing else of the sheet changes (proofs/RestStays).
abbrev pub chunk_line : Chunk → List ℕ → List ℕ → Result Line
chunk_line c callees wholes =
    and_then (chunk_row c)
    (λ r. and_then (row_cycles c [] r) (λ k. and_then (row_cycles c wholes r) (λ w. and_then (row_stack c callees r) (λ s. ok (line_of k w s)))))

abbrev pub no_line : Line
no_line = record { cycles = 0; cut = false; peak = 0; bytes = 0; whole = 0 }

-- the stack bytes by chunk index, 0 for a chunk that has no line yet; and the whole figures
abbrev pub bytes_list : List Line → List ℕ
bytes_list lines = map (λ l. l.bytes) lines

abbrev pub whole_list : List Line → List ℕ
whole_list lines = map (λ l. l.whole) lines

-- "in a whole module chunk after chunk in call order": the lines by chunk index. 2.1: "worked out in call order"
unfoldable pub lines_in : List ℕ → List Chunk → List Line → Outcome (List Line)
lines_in [] cs lines = answer lines
lines_in (c ∷ order) cs lines =
    followed_by (in_chunk c (chunk_line (chunk_at cs c) (bytes_list lines) (whole_list lines))) (λ l. lines_in order cs (set lines c l))

-- an accepted module's sheet: the call order, and the lines by chunk index
pub record Sheet : Type 0 where
  pub order : List ℕ
  pub lines : List Line

abbrev pub sheet_of : List Chunk → Outcome Sheet
sheet_of cs =
    followed_by (ring_outcome (call_order cs))
    (λ order. followed_by (lines_in order cs (replicate (length cs) no_line))
    (λ lines. answer (record { order = order; lines = lines })))

-- 2.5: "with the mark as 0 or 1"
abbrev pub mark_number : Bool → ℕ
mark_number true = 1
mark_number false = 0

-- 2.5: "The tray grows to five numbers a chunk: cycles, its mark, peak, bytes, whole": the numbers of a line in the tray, how many they are, and room for
-- 256 lines
abbrev pub line_numbers : Line → List ℕ
line_numbers l = l.cycles ∷ mark_number l.cut ∷ l.peak ∷ l.bytes ∷ l.whole ∷ []

abbrev pub line_width : ℕ
line_width = 5

-- the places of the cycles, of their mark, of the bytes and of the whole figure among them
abbrev pub cycles_place : ℕ
cycles_place = 0

abbrev pub mark_place : ℕ
mark_place = 1

abbrev pub bytes_place : ℕ
bytes_place = 3

abbrev pub whole_place : ℕ
whole_place = 4

abbrev pub sheet_room : ℕ
sheet_room = most_chunks * line_width

-- the module sheet: 1, 2, 13, 10, then chunk after chunk
abbrev pub sheet_outcome : List ℕ → ℕ → Outcome Sheet
sheet_outcome ws room =
    followed_by (read_module ws) (λ cs. followed_by (with_room room (line_width * length cs) cs) (λ ds. sheet_of ds))

-- "by chunk index": the numbers of line after line
unfoldable pub tray_numbers : List Line → List ℕ
tray_numbers [] = []
tray_numbers (l ∷ ls) = line_numbers l ++ tray_numbers ls

-- "what lies beyond is left"; a refusal leaves the tray as it was
abbrev pub sheet_tray : Outcome Sheet → List ℕ → List ℕ
sheet_tray (answer s) tray = tray_numbers s.lines ++ drop (line_width * length s.lines) tray
sheet_tray (refused n c p) tray = tray
