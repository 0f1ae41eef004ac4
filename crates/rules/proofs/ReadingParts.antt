-- Which words the parts of a chunk have, and that each part stops where the next begins.
-- Assumes nothing.
use mathlib.Core.Path.{◌≡◌, refl}
use mathlib.Core.Bool.{Bool, true, false}
use mathlib.Core.List.{List, [], ◌∷◌, ◌++◌, append_assoc, flat_map}
use Prim.Native.Nat.{ℕ, ◌/◌, ◌^◌}
use native.Mathlib.Omega.{arith}
use borrow.Author.Tests.{le-leb, ne_eqb}
use Rattle.rules.specs.Ops.{kind, word, is_op}
use Rattle.rules.specs.Form.{Constant, integer, other, Chunk, bits, constant_words, extra_words, chunk_words, Each, ChunkFits}
use Rattle.rules.specs.Reading.{of_constants, of_ops, of_extras}
use Rattle.rules.proofs.WordFields.{kind-word, kind_part, op_kind}

-- the list is empty or begins with a word that fails the test
abbrev pub Stops : (ℕ → Bool) → List ℕ → Type 0
Stops f [] = Unit {0}
Stops f (w ∷ ws) = f w ≡ false

each_imp : {P Q : ℕ → Type 0} → ((w : ℕ) → P w → Q w) → (ws : List ℕ) → Each P ws → Each Q ws
each_imp imp [] h = tt
each_imp imp (w ∷ ws) h = (imp w h.0, each_imp imp ws h.1)

-- the words of each part pass its test
pub constant_words_lem : (cs : List Constant) → Each (λ w. of_constants w ≡ true) (flat_map constant_words cs)
unfolding flat_map
constant_words_lem [] = tt
constant_words_lem (integer z ∷ cs) = (
  rw (kind_part 202 0 (bits z) (omega arith)),
  (
    rw (kind_part 202 1 (bits z / 65536) (omega arith)),
    (rw (kind_part 202 2 (bits z / 2 ^ 32) (omega arith)), (rw (kind_part 202 3 (bits z / 2 ^ 48) (omega arith)), constant_words_lem cs)),
  ),
)
constant_words_lem (other ∷ cs) = (refl, (refl, (refl, (refl, constant_words_lem cs))))

pub op_words : (os : List ℕ) → Each (λ w. is_op w ≡ true) os → Each (λ w. of_ops w ≡ true) os
op_words os h = each_imp (λ w e. le-leb (kind w) 65 (op_kind w e)) os h

extra_each : {P : ℕ → Type 0} → ((w : ℕ) → kind w ≡ 204 → P w) → (xs : List ℕ) → Each P (flat_map extra_words xs)
unfolding flat_map
extra_each h [] = tt
extra_each h (x ∷ xs) = (h _ (kind_part 204 0 x (omega arith)), (h _ (kind_part 204 1 (x / 65536) (omega arith)), extra_each h xs))

pub extra_words_lem : (xs : List ℕ) → Each (λ w. of_extras w ≡ true) (flat_map extra_words xs)
extra_words_lem xs = extra_each (λ w e. rw e) xs

-- the words from a part of a chunk on, with the chunks behind it
abbrev pub from_extras : List ℕ → List Chunk → List ℕ
from_extras xs cs = flat_map extra_words xs ++ flat_map chunk_words cs

abbrev pub from_ops : List ℕ → List ℕ → List Chunk → List ℕ
from_ops os xs cs = os ++ from_extras xs cs

abbrev pub from_constants : List Constant → List ℕ → List ℕ → List Chunk → List ℕ
from_constants ks os xs cs = flat_map constant_words ks ++ from_ops os xs cs

pub from_chunk : (c : Chunk) (cs : List Chunk)
    → flat_map chunk_words (c ∷ cs) ≡ word 200 c.type c.locals ∷ from_constants c.constants c.ops c.extras cs
unfolding flat_map
from_chunk c cs = simp append_assoc

-- each part stops where the next begins
stops_append : (f : ℕ → Bool) (xs ys : List ℕ) → Each (λ w. f w ≡ false) xs → Stops f ys → Stops f (xs ++ ys)
stops_append f [] ys h s = s
stops_append f (x ∷ xs) ys h s = h.0

chunks_stop : (f : ℕ → Bool) → ((w : ℕ) → kind w ≡ 200 → f w ≡ false) → (cs : List Chunk) → Each ChunkFits cs → Stops f (flat_map chunk_words cs)
unfolding flat_map
chunks_stop f h [] fits = tt
chunks_stop f h (c ∷ cs) fits = h _ (kind-word 200 c.type c.locals (omega arith) (omega arith))

module _ (cs : List Chunk) (fits : Each ChunkFits cs) where
  pub extras_stop : Stops of_extras (flat_map chunk_words cs)
  extras_stop = chunks_stop of_extras (λ w e. rw e) cs fits

  extras_fail : (f : ℕ → Bool) → ((w : ℕ) → kind w ≡ 204 → f w ≡ false) → ((w : ℕ) → kind w ≡ 200 → f w ≡ false) → (xs : List ℕ) → Stops f (from_extras xs cs)
  extras_fail f g h xs = stops_append f (flat_map extra_words xs) (flat_map chunk_words cs) (extra_each g xs) (chunks_stop f h cs fits)

  pub ops_stop : (xs : List ℕ) → Stops of_ops (from_extras xs cs)
  ops_stop xs = extras_fail of_ops (λ w e. rw e) (λ w e. rw e) xs

  pub constants_stop : (os xs : List ℕ) → Each (λ w. is_op w ≡ true) os → Stops of_constants (from_ops os xs cs)
  constants_stop os xs h = stops_append of_constants os (from_extras xs cs) (each_imp fails os h) (extras_fail of_constants (λ w e. rw e) (λ w e. rw e) xs)
    where
      fails : (w : ℕ) → is_op w ≡ true → of_constants w ≡ false
      fails w e = let k = op_kind w e in simp (ne_eqb (kind w) 202 (omega arith), ne_eqb (kind w) 203 (omega arith))
