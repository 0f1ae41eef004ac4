-- The call order of a module lists its chunks, and a sheet has a line for each of them.
-- Assumes nothing.
use mathlib.Core.Path.{◌≡◌, refl, ap, ◌∙◌}
use mathlib.Core.List.{List, [], ◌∷◌}
use Prim.Native.Nat.{ℕ, zero, suc, ◌<◌}
use native.Mathlib.Omega.{arith}
use lib.ListN.{length, get_or, set, replicate, length-set, length-replicate}
use Rattle.std.specs.Prelude.{Ok}
use Rattle.rules.specs.Outcome.{answer, in_chunk}
use Rattle.rules.specs.Form.{Chunk}
use Rattle.rules.specs.Order.{call_order, chunk_at}
use Rattle.rules.specs.Sheet as R
use Rattle.rules.specs.Sheet.{no_line, chunk_line, bytes_list, whole_list, lines_in, sheet_of, ring_outcome}
use Rattle.rules.proofs.Answers.{from_answer}
use Rattle.rules.proofs.Members.{In, in_head, in_tail}
use Rattle.rules.proofs.CallOrder.{order_sound}
use Rattle.rules.proofs.SheetLines.{from_listing}
use Rattle.words.specs.declared.heads.ChunkPlace.{ChunkPlace}
use Rattle.words.specs.Parts.{chunks_in}
use Rattle.words.specs.Places.{PlacedAt}
use Rattle.order.specs.declared.visit.Calls.{Calls}
use Rattle.order.specs.declared.visit.Search.{Search}
use Rattle.order.specs.Search.{Readable, Located, Shown}
use Rattle.order.proofs.AnswerLaws.{all_chunks}
use Rattle.sheets.specs.Module.{Ordering}

-- a number of a list is a member of it
member_at : (xs : List ℕ) (j : ℕ) → j < length xs → In (get_or xs j 0) xs
member_at [] j h = absurd (omega arith)
member_at (x ∷ xs) zero h = in_head x x xs refl
member_at (x ∷ xs) (suc j) h = in_tail (get_or xs j 0) x xs (member_at xs j (omega arith))

-- where words are a module, and the places are those of its chunks, the search's list is an order of them
pub ordering : (calls : Calls) → Readable calls.words.now (length calls.places.now)
    → ((k : ℕ) → k < length calls.places.now → PlacedAt calls.words.now calls.places.now k) → (s : Search)
    → Shown (Ok s) (length calls.places.now) [] (call_order (chunks_in calls.words.now)) → Ordering calls s.order.items
ordering calls words placed s shown =
    let located : Located calls =
    record { words = words; ops_at = λ k lt. ap (λ (p : ChunkPlace). p.ops) (placed k lt); extras_at = λ k lt. ap (λ (p : ChunkPlace). p.extras) (placed k lt) } in
    record { located = located; placed = placed; chunks = λ j lt. (all_chunks located shown).0.chunks _ (member_at s.order.items j lt) }

-- a sheet's order lists chunks of the module
pub order_chunks : (cs : List Chunk) (s : R.Sheet) → sheet_of cs ≡ answer s → (j : ℕ) → j < length s.order → get_or s.order j 0 < length cs
order_chunks cs s e j lt =
    let a = from_answer (ring_outcome (call_order cs)) _ e in
    let b = from_answer (lines_in a.0 cs (replicate (length cs) no_line)) _ a.2 in
    let same : s.order ≡ a.0 = cc b.2 in
    (order_sound cs s.order (from_listing (call_order cs) (rw same a.1))).only (get_or s.order j 0) (member_at s.order j lt)

-- the turns keep how many lines there are
same_length : (cs : List Chunk) (order : List ℕ) (lines final : List R.Line) → lines_in order cs lines ≡ answer final → length final ≡ length lines
unfolding lines_in
same_length cs [] lines final e = let same : final ≡ lines = cc in rw same
same_length cs (c ∷ order) lines final e =
    let a = from_answer (in_chunk c (chunk_line (chunk_at cs c) (bytes_list lines) (whole_list lines))) _ e in
    same_length cs order (set lines c a.0) final a.2 ∙ length-set lines c a.0

-- so a sheet has a line for each chunk
pub all_lines : (cs : List Chunk) (s : R.Sheet) → sheet_of cs ≡ answer s → length s.lines ≡ length cs
all_lines cs s e =
    let a = from_answer (ring_outcome (call_order cs)) _ e in
    let b = from_answer (lines_in a.0 cs (replicate (length cs) no_line)) _ a.2 in
    let final : b.0 ≡ s.lines = cc b.2 in
    same_length cs a.0 (replicate (length cs) no_line) s.lines (b.1 ∙ ap answer final) ∙ length-replicate (length cs) no_line
