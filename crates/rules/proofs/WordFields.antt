-- The fields of a word are those it was made of, and a word is made of its fields; what the tests on single words say.
-- Assumes nothing.
use mathlib.Core.Path.{◌≡◌, refl}
use mathlib.Core.Bool.{true, ◌||◌, and-eq-true_iff}
use Prim.Native.Nat.{ℕ, ◌%◌, ◌<◌, ◌≤◌}
use native.Mathlib.Omega.{arith}
use borrow.Author.Tests.{leb-true, eqb-true, le-leb, eq-eqb}
use lib.Dec.{eqb}
use Rattle.rules.specs.Ops.{kind, field_a, field_b, word, is_op}
use Rattle.rules.specs.Reading.{is_head, is_chunk, is_constant, is_extra}

module _ (k b a : ℕ) (hb : b < 256) (ha : a < 65536) where
  pub kind-word : kind (word k b a) ≡ k
  kind-word = omega arith

  pub field_b-word : field_b (word k b a) ≡ b
  field_b-word = omega arith

  pub field_a-word : field_a (word k b a) ≡ a
  field_a-word = omega arith

-- the same of 16 bits of a number
module _ (k b n : ℕ) (hb : b < 256) where
  pub kind_part : kind (word k b (n % 65536)) ≡ k
  kind_part = kind-word k b (n % 65536) hb (omega arith)

  pub field_a_part : field_a (word k b (n % 65536)) ≡ n % 65536
  field_a_part = field_a-word k b (n % 65536) hb (omega arith)

-- what a test that passes says of the word
pub head_parts : (w : ℕ) → is_head w ≡ true → (w ≡ word 199 0 (field_a w)) × (1 ≤ field_a w) × (field_a w ≤ 256)
head_parts w e = let h = simp and-eq-true_iff at e in omega (arith, leb-true, eqb-true)

pub chunk_parts : (w : ℕ) → is_chunk w ≡ true → (w ≡ word 200 (field_b w) (field_a w)) × (field_b w ≤ 2)
chunk_parts w e = let h = simp and-eq-true_iff at e in omega (arith, leb-true, eqb-true)

pub constant_parts : (k b w : ℕ) → is_constant k b w ≡ true → (w ≡ word k b (field_a w)) × ((eqb k 202 || eqb (field_a w) 0) ≡ true)
constant_parts k b w e = let h = simp and-eq-true_iff at e in (omega (arith, eqb-true), h.1)

pub extra_parts : (b w : ℕ) → is_extra b w ≡ true → w ≡ word 204 b (field_a w)
extra_parts b w e = let h = simp and-eq-true_iff at e in omega (arith, eqb-true)

pub op_kind : (w : ℕ) → is_op w ≡ true → kind w ≤ 65
op_kind w e = let h = simp and-eq-true_iff at e in omega (arith, leb-true)

-- the words of the form pass the tests
pub head-word : (n : ℕ) → 1 ≤ n → n ≤ 256 → is_head (word 199 0 n) ≡ true
head-word n h g =
    let b : 0 < 256 = omega arith in
    let a : n < 65536 = omega arith in
    simp (kind-word 199 0 n, field_b-word 199 0 n, field_a-word 199 0 n, le-leb 1 n h, le-leb n 256 g)

pub chunk_word : (t l : ℕ) → t ≤ 2 → l < 65536 → is_chunk (word 200 t l) ≡ true
chunk_word t l h g = let b : t < 256 = omega arith in simp (kind-word 200 t l, field_b-word 200 t l, le-leb t 2 h)

pub constant_word : (k b a : ℕ) → b < 256 → a < 65536 → (eqb k 202 || eqb a 0) ≡ true → is_constant k b (word k b a) ≡ true
constant_word k b a h g e = simp (kind-word k b a, field_b-word k b a, field_a-word k b a, eq-eqb k k refl, eq-eqb b b refl, e)

pub extra_word : (b a : ℕ) → b < 256 → a < 65536 → is_extra b (word 204 b a) ≡ true
extra_word b a h g = simp (kind-word 204 b a, field_b-word 204 b a, eq-eqb b b refl)
