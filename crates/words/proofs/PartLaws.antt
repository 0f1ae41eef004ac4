-- The parts that stand behind a chunk's head are those of the definition's chunk, and the next head stands behind them.
-- Assumes nothing.
use mathlib.Core.Path.{◌≡◌, refl, sym, ap, ◌∙◌, fun_ext}
use mathlib.Core.Bool.{Bool}
use mathlib.Core.List.{List, [], ◌∷◌, ◌++◌, flat_map}
use Prim.Native.Nat.{ℕ, zero, suc, ◌+◌, ◌-◌, ◌<◌}
use native.Mathlib.Nat.{add-zero}
use native.Mathlib.Numerals.{add-one}
use native.Mathlib.Omega.{arith}
use borrow.Author.Tests.{le-leb, ne_eqb}
use lib.ListN.{length, get_or, take, drop, length-append, length-drop}
use lib.Seq.{drop-drop, get_or-drop, take-append_seam, drop-append_seam, drop-append-add}
use Rattle.rules.specs.Ops.{kind, field_a, field_b, word}
use Rattle.rules.specs.Outcome.{ok}
use Rattle.rules.specs.Form.{Chunk, chunk_words, constant_words, extra_words, Each, ChunkFits}
use Rattle.rules.specs.Reading.{take_while, read, constants_of, extras_of, of_constants, of_ops, of_extras}
use Rattle.rules.specs.Order.{no_chunk}
use Rattle.rules.proofs.WordFields.{field_a-word, field_b-word}
use Rattle.rules.proofs.ReadingParts.{from_chunk, from_ops, from_extras}
use Rattle.rules.proofs.ReadingDecodes.{at_constants, at_ops, at_extras, body, decode_constants, decode_extras}
use Rattle.rules.proofs.ReadingAgrees.{read_words}
use Rattle.words.specs.declared.parts.Parts.{Parts}
use Rattle.words.specs.Parts.{of_kinds, run_of, behind_run, parts_at, part_of, head_at, PartsOf}
use Rattle.words.proofs.Cases.{split}
use Rattle.rules.proofs.Between.{outside}

-- the tests of the parts are tests of stretches
of_constants_lem : of_kinds 202 203 ≡ of_constants
of_constants_lem = fun_ext (λ w. let k = kind w in split k 202 (λ e. rw e)
    (λ a. split k 203 (λ e. rw e) (λ b. simp (outside 202 203 k (λ f g. omega arith), ne_eqb k 202 a, ne_eqb k 203 b))))

-- the ops are the kinds from 0 to 65
of_ops_lem : of_kinds 0 65 ≡ of_ops
of_ops_lem = fun_ext (λ w. simp (le-leb 0 (kind w) (omega arith)))

-- the extras are the kind 204
of_extras_lem : of_kinds 204 204 ≡ of_extras
of_extras_lem = fun_ext (λ w. let k = kind w in split k 204 (λ e. rw e) (λ a. simp (outside 204 204 k (λ f g. omega arith), ne_eqb k 204 a)))

-- a part at a position where a list begins that is a first part and what is behind it, the first part being a run
record Run (low high : ℕ) (ws : List ℕ) (at : ℕ) (xs ys : List ℕ) : Type 0 where
  ends : behind_run low high ws at ≡ at + length xs
  part : part_of at (behind_run low high ws at) ws ≡ xs
  rest : drop (behind_run low high ws at) ws ≡ ys

-- a list that begins with a whole run has it as its run
run_at : {low high : ℕ} {f : ℕ → Bool} (ws : List ℕ) (at : ℕ) (xs ys : List ℕ) → of_kinds low high ≡ f → take_while f (xs ++ ys) ≡ xs
    → drop at ws ≡ xs ++ ys → Run low high ws at xs ys
run_at {low} {high} ws at xs ys same stops here =
    let run : run_of low high (xs ++ ys) ≡ xs = ap (λ (g : ℕ → Bool). take_while g (xs ++ ys)) same ∙ stops in
    let size : at + length xs - at ≡ length xs = omega arith in
    record {
      ends = rw (here, run);
      part = rw (here, run, size) (take-append_seam xs ys);
      rest = rw (here, run) (sym (drop-drop (length xs) at ws) ∙ rw here (drop-append_seam xs ys));
    }

module _ (ws : List ℕ) (at : ℕ) (c : Chunk) (cs : List Chunk) (fit : ChunkFits c) (fits : Each ChunkFits cs)
    (here : drop at ws ≡ flat_map chunk_words (c ∷ cs)) where
  -- at the head stand its word and the chunk's body
  opened : drop at ws ≡ word 200 c.type c.locals ∷ body c cs fit fits
  opened = here ∙ from_chunk c cs

  -- the word at the head is that of the chunk's type and locals
  head-word : get_or ws at 0 ≡ word 200 c.type c.locals
  head-word = sym (rw (add-zero at) at (get_or-drop at ws 0 0)) ∙ ap (λ (l : List ℕ). get_or l 0 0) opened

  -- behind the head stands the run of the constants
  constants_run : Run 202 203 ws (at + 1) (flat_map constant_words c.constants) (from_ops c.ops c.extras cs)
  constants_run = run_at ws (at + 1) _ _ of_constants_lem (at_constants c cs fit fits).0 (sym (drop-drop 1 at ws) ∙ ap (drop 1) opened)

  -- behind the constants stands the run of the ops
  ops_run : Run 0 65 ws (parts_at ws at).ops c.ops (from_extras c.extras cs)
  ops_run = run_at ws _ _ _ of_ops_lem (at_ops c cs fit fits).0 constants_run.rest

  -- behind the ops stands the run of the extras
  extras_run : Run 204 204 ws (parts_at ws at).extras (flat_map extra_words c.extras) (flat_map chunk_words cs)
  extras_run = run_at ws _ _ _ of_extras_lem (at_extras c cs fit fits).0 ops_run.rest

  -- the chunk ends where its words do
  pub ends_behind : (parts_at ws at).end ≡ at + length (chunk_words c)
  ends_behind =
      let k = length-append (flat_map constant_words c.constants) (c.ops ++ flat_map extra_words c.extras) in
      let o = length-append c.ops (flat_map extra_words c.extras) in
      omega (arith, constants_run.ends, ops_run.ends, extras_run.ends)

  -- the head lies in the list, and so does the chunk's end
  lengths : length ws - at ≡ length (chunk_words c) + length (flat_map chunk_words cs)
  unfolding flat_map
  lengths = sym (length-drop at ws) ∙ ap length here ∙ length-append (chunk_words c) (flat_map chunk_words cs)

  -- the head lies in the list
  pub head-within : at < length ws
  head-within = omega (arith, lengths)

  -- the parts at the head are the chunk's
  pub parts_of : PartsOf ws (parts_at ws at) c
  parts_of =
      let t : c.type < 256 = omega arith in
      record {
        locals = ap field_a head-word ∙ field_a-word 200 c.type c.locals t fit.locals;
        mode = ap field_b head-word ∙ field_b-word 200 c.type c.locals t fit.locals;
        constants = ap constants_of constants_run.part ∙ decode_constants c.constants fit.constants;
        ops = ops_run.part;
        extras = ap extras_of extras_run.part ∙ decode_extras c.extras fit.extras;
        constants_first = omega (arith, constants_run.ends);
        ops_next = omega (arith, ops_run.ends);
        extras-last = omega (arith, extras_run.ends);
        within = omega (arith, lengths, ends_behind);
      }

-- a chunk by its index: its words begin behind those of the chunks before it, it fits where all do, and the next head stands behind it
chunk_at_lem : (cs : List Chunk) (i : ℕ) → i < length cs
    → (drop (length (flat_map chunk_words (take i cs))) (flat_map chunk_words cs) ≡ flat_map chunk_words (get_or cs i no_chunk ∷ drop (suc i) cs))
    × (Each ChunkFits cs → Each ChunkFits (get_or cs i no_chunk ∷ drop (suc i) cs))
    × (head_at cs (suc i) ≡ head_at cs i + length (chunk_words (get_or cs i no_chunk)))
unfolding flat_map
chunk_at_lem [] i h = absurd (omega arith)
chunk_at_lem (c ∷ cs) zero h = (refl, λ f. f, omega (arith, length-append (chunk_words c) []))
chunk_at_lem (c ∷ cs) (suc i) h =
    let r = chunk_at_lem cs i (omega arith) in
    let before = length-append (chunk_words c) (flat_map chunk_words (take i cs)) in (
      rw (before, drop-append-add (chunk_words c) (flat_map chunk_words cs) (length (flat_map chunk_words (take i cs)))) r.0,
      λ f. r.1 f.1,
      omega (arith, r.2, length-append (chunk_words c) (flat_map chunk_words (take (suc i) cs))),
    )

-- the first head stands behind the module's
pub first_head : (cs : List Chunk) → 1 ≡ head_at cs 0
unfolding flat_map
first_head cs = refl

-- Of a chunk of words that are read, by its index: its head lies in the words, its parts are the chunk's, and the next head stands behind them.
module _ (ws : List ℕ) (cs : List Chunk) (reads : read ws ≡ ok cs) (i : ℕ) (lt : i < length cs) where
  -- at the head of chunk i stand its words and those of the chunks behind it
  stands : drop (head_at cs i) ws ≡ flat_map chunk_words (get_or cs i no_chunk ∷ drop (suc i) cs)
  stands = ap (drop (head_at cs i)) (sym (read_words ws cs reads).2) ∙ (chunk_at_lem cs i lt).0

  -- that chunk and those behind it fit the form
  fit : Each ChunkFits (get_or cs i no_chunk ∷ drop (suc i) cs)
  fit = (chunk_at_lem cs i lt).1 (read_words ws cs reads).1.each

  -- the chunk fits the form
  pub chunk_fits : ChunkFits (get_or cs i no_chunk)
  chunk_fits = fit.0

  -- its head lies in the words
  pub chunk-head : head_at cs i < length ws
  chunk-head = head-within ws (head_at cs i) (get_or cs i no_chunk) (drop (suc i) cs) fit.0 fit.1 stands

  -- the parts at its head are the chunk's
  pub chunk_parts : PartsOf ws (parts_at ws (head_at cs i)) (get_or cs i no_chunk)
  chunk_parts = parts_of ws (head_at cs i) (get_or cs i no_chunk) (drop (suc i) cs) fit.0 fit.1 stands

  -- the next head stands where it ends
  pub next_head : (parts_at ws (head_at cs i)).end ≡ head_at cs (suc i)
  next_head = ends_behind ws (head_at cs i) (get_or cs i no_chunk) (drop (suc i) cs) fit.0 fit.1 stands ∙ sym (chunk_at_lem cs i lt).2

  -- the same of a head and its parts in hand
  pub at_within : (at : ℕ) → at ≡ head_at cs i → at < length ws
  at_within at is-head = omega (arith, chunk-head)

  -- where the parts in hand end stands the next head
  pub next_at : (at : ℕ) (p : Parts) → at ≡ head_at cs i → p ≡ parts_at ws at → p.end ≡ head_at cs (i + 1)
  next_at at p is-head is-parts = rw (is-parts, is-head, next_head, add-one i)
