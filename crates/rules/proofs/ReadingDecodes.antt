-- The words of chunks that fit are decoded to these chunks.
-- Assumes nothing.
use mathlib.Core.Path.{◌≡◌, refl, ap, ◌∙◌}
use mathlib.Core.Bool.{Bool, true}
use mathlib.Core.List.{List, [], ◌∷◌, ◌++◌, flat_map}
use Prim.Native.Nat.{ℕ, ◌^◌, ◌<◌}
use native.Mathlib.Omega.{arith}
use lib.ListN.{length}
use Rattle.rules.specs.Ops.{word}
use Rattle.rules.specs.Form.{Constant, Chunk, constant_words, extra_words, chunk_words, Each, ConstantFits, ChunkFits}
use Rattle.rules.specs.Reading.{take_while, drop_while, of_constants, of_ops, of_extras, constants_of, extras_of, chunk_of, behind_chunk, chunks_of}
use Rattle.rules.proofs.WordFields.{field_a-word, field_b-word}
use Rattle.rules.proofs.ConstantWords.{decode_constant, decode_extra}
use Rattle.rules.proofs.ReadingParts.{Stops, constant_words_lem, op_words, extra_words_lem, from_ops, from_extras, from_constants, from_chunk}
use Rattle.rules.proofs.ReadingParts.{constants_stop, ops_stop, extras_stop}

-- xs is the longest part whose words pass, ys what is behind it
abbrev pub Splits : (ℕ → Bool) → List ℕ → List ℕ → Type 0
Splits f xs ys = (take_while f (xs ++ ys) ≡ xs) × (drop_while f (xs ++ ys) ≡ ys)

split_part : (f : ℕ → Bool) (xs ys : List ℕ) → Each (λ w. f w ≡ true) xs → Stops f ys → Splits f xs ys
unfolding take_while drop_while
split_part f [] [] h s = (refl, refl)
split_part f [] (y ∷ ys) h s = rw s (refl, refl)
split_part f (x ∷ xs) ys h s =
    let ih = split_part f xs ys h.1 s in
    rw h.0 (ap {B = List ℕ} (λ l. x ∷ l) ih.0, ih.1)

pub decode_constants : (ks : List Constant) → Each ConstantFits ks → constants_of (flat_map constant_words ks) ≡ ks
unfolding flat_map constants_of
decode_constants [] h = refl
decode_constants (k ∷ ks) h = decode_constant k h.0 (flat_map constant_words ks) ∙ ap {B = List Constant} (λ l. k ∷ l) (decode_constants ks h.1)

pub decode_extras : (xs : List ℕ) → Each (λ x. x < 2 ^ 32) xs → extras_of (flat_map extra_words xs) ≡ xs
unfolding flat_map extras_of
decode_extras [] h = refl
decode_extras (x ∷ xs) h = decode_extra x h.0 (flat_map extra_words xs) ∙ ap {B = List ℕ} (λ l. x ∷ l) (decode_extras xs h.1)

-- one chunk, with others behind it
module _ (c : Chunk) (cs : List Chunk) (fit : ChunkFits c) (fits : Each ChunkFits cs) where
  pub at_constants : Splits of_constants (flat_map constant_words c.constants) (from_ops c.ops c.extras cs)
  at_constants = split_part of_constants _ _ (constant_words_lem c.constants) (constants_stop cs fits c.ops c.extras fit.ops)

  pub at_ops : Splits of_ops c.ops (from_extras c.extras cs)
  at_ops = split_part of_ops _ _ (op_words c.ops fit.ops) (ops_stop cs fits c.extras)

  pub at_extras : Splits of_extras (flat_map extra_words c.extras) (flat_map chunk_words cs)
  at_extras = split_part of_extras _ _ (extra_words_lem c.extras) (extras_stop cs fits)

  abbrev pub body : List ℕ
  body = from_constants c.constants c.ops c.extras cs

  pub decode_chunk : chunk_of (word 200 c.type c.locals) body ≡ c
  decode_chunk =
      let t : c.type < 256 = omega arith in
      simp (
        at_constants.0,
        at_constants.1,
        at_ops.0,
        at_ops.1,
        at_extras.0,
        decode_constants c.constants fit.constants,
        decode_extras c.extras fit.extras,
        field_a-word 200 c.type c.locals t fit.locals,
        field_b-word 200 c.type c.locals t fit.locals,
      )

  pub past_chunk : behind_chunk body ≡ flat_map chunk_words cs
  past_chunk = simp (at_constants.1, at_ops.1, at_extras.1)

pub decode_chunks : (cs : List Chunk) → Each ChunkFits cs → chunks_of (length cs) (flat_map chunk_words cs) ≡ cs
unfolding chunks_of
decode_chunks [] fits = refl
decode_chunks (c ∷ cs) fits =
    rw (from_chunk c cs, decode_chunk c cs fits.0 fits.1, past_chunk c cs fits.0 fits.1, decode_chunks cs fits.1)
