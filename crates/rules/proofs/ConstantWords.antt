-- A constant and an extra are what their words say, and words in form are those of a constant or an extra.
-- Assumes nothing.
use mathlib.Core.Path.{◌≡◌, refl, ap}
use mathlib.Core.Bool.{Bool, true, false}
use mathlib.Core.List.{List, [], ◌∷◌, ◌++◌}
use Prim.Native.Nat.{ℕ, suc, ◌+◌, ◌*◌, ◌-◌, ◌/◌, ◌%◌, ◌^◌, ◌<◌}
use native.Mathlib.Omega.{arith}
use borrow.Author.Tests.{eqb-true, ltb-true, ltb-false, lt-ltb, le-ltb}
use lib.Dec.{ltb}
use lib.IntN.{ℤ, pos, negsuc}
use lib.Signed.{mag}
use Rattle.rules.specs.Ops.{field_a, word}
use Rattle.rules.specs.Form.{Constant, integer, other, bits, constant_words, extra_words, ConstantFits}
use Rattle.rules.specs.Reading.{signed_of, is_constant, is_extra, constants_of, extras_of}
use Rattle.rules.proofs.WordFields.{kind_part, field_a_part, constant_parts, extra_parts}

-- the numbers that two and four parts of 16 bits make, lowest first
abbrev pair : ℕ → ℕ → ℕ
pair a b = a + 65536 * b

abbrev joined : ℕ → ℕ → ℕ → ℕ → ℕ
joined a b c d = pair a (pair b (pair c d))

join_parts : (n : ℕ) → n < 2 ^ 64 → joined (n % 65536) (n / 65536 % 65536) (n / 2 ^ 32 % 65536) (n / 2 ^ 48 % 65536) ≡ n
join_parts n h =
    let e : n / 65536 ≡ pair (n / 65536 % 65536) (n / 2 ^ 32) = omega arith in
    let f : n / 2 ^ 32 ≡ pair (n / 2 ^ 32 % 65536) (n / 2 ^ 48) = omega arith in
    let g : n / 2 ^ 48 % 65536 ≡ n / 2 ^ 48 = omega arith in
    rw (g, ← f, ← e) (omega arith)

pair_parts : (a b : ℕ) → a < 65536 → b < 65536 → (pair a b % 65536 ≡ a) × (pair a b / 65536 % 65536 ≡ b)
pair_parts a b ha hb = omega arith

joined_parts : (a b c d : ℕ) → a < 65536 → b < 65536 → c < 65536 → d < 65536
    → (joined a b c d % 65536 ≡ a) × (joined a b c d / 65536 % 65536 ≡ b) × (joined a b c d / 2 ^ 32 % 65536 ≡ c) × (joined a b c d / 2 ^ 48 % 65536 ≡ d)
joined_parts a b c d ha hb hc hd = omega arith

-- two's complement, there and back
bits_small : (z : ℤ) → mag z < 2 ^ 63 → bits z < 2 ^ 64
bits_small (pos n) h = omega arith
bits_small (negsuc n) h = omega arith

pub signed_bits : (z : ℤ) → mag z < 2 ^ 63 → signed_of (bits z) ≡ z
signed_bits (pos n) h = simp (lt-ltb n (2 ^ 63) h)
signed_bits (negsuc n) h = simp (le-ltb (2 ^ 64 - suc n) (2 ^ 63) (omega arith)) (ap negsuc (omega arith))

pub bits_signed : (n : ℕ) → n < 2 ^ 64 → (mag (signed_of n) < 2 ^ 63) × (bits (signed_of n) ≡ n)
bits_signed n h = go (ltb n (2 ^ 63)) refl
  where
    go : (t : Bool) → ltb n (2 ^ 63) ≡ t → (mag (signed_of n) < 2 ^ 63) × (bits (signed_of n) ≡ n)
    go true e = let l = ltb-true n (2 ^ 63) e in simp e (l, refl)
    go false e = let l = ltb-false n (2 ^ 63) e in simp e (omega arith)

-- from the words of the form
pub decode_constant : (a : Constant) → ConstantFits a → (ws : List ℕ) → constants_of (constant_words a ++ ws) ≡ a ∷ constants_of ws
unfolding constants_of
decode_constant (integer z) h ws =
    simp (
      kind_part 202 0 (bits z) (omega arith),
      field_a_part 202 0 (bits z) (omega arith),
      field_a_part 202 1 (bits z / 65536) (omega arith),
      field_a_part 202 2 (bits z / 2 ^ 32) (omega arith),
      field_a_part 202 3 (bits z / 2 ^ 48) (omega arith),
      join_parts (bits z) (bits_small z h),
      signed_bits z h,
    )
decode_constant other h ws = refl

pub decode_extra : (x : ℕ) → x < 2 ^ 32 → (ws : List ℕ) → extras_of (extra_words x ++ ws) ≡ x ∷ extras_of ws
unfolding extras_of
decode_extra x h ws = ap (λ (y : ℕ). y ∷ extras_of ws) (omega arith)

-- to the words of the form
module _ (s t u v : ℕ) where
  pub integer_of : is_constant 202 0 s ≡ true → is_constant 202 1 t ≡ true → is_constant 202 2 u ≡ true → is_constant 202 3 v ≡ true
      → (a : Constant) × ConstantFits a × (constant_words a ≡ s ∷ t ∷ u ∷ v ∷ [])
  integer_of hs ht hu hv =
      let n : ℕ = joined (field_a s) (field_a t) (field_a u) (field_a v) in
      let b = bits_signed n (omega arith) in
      let p = joined_parts (field_a s) (field_a t) (field_a u) (field_a v) (omega arith) (omega arith) (omega arith) (omega arith) in
      let e = (constant_parts 202 0 s hs).0 in
      let f = (constant_parts 202 1 t ht).0 in
      let g = (constant_parts 202 2 u hu).0 in
      let h = (constant_parts 202 3 v hv).0 in
      (integer (signed_of n), b.0, rw (b.1, p.0, p.1, p.2, p.3) (cc))

  pub other_of : is_constant 203 0 s ≡ true → is_constant 203 1 t ≡ true → is_constant 203 2 u ≡ true → is_constant 203 3 v ≡ true
      → (a : Constant) × ConstantFits a × (constant_words a ≡ s ∷ t ∷ u ∷ v ∷ [])
  other_of hs ht hu hv =
      let only : (b w : ℕ) → is_constant 203 b w ≡ true → word 203 b 0 ≡ w = λ b w e. let p = constant_parts 203 b w e in omega (arith, eqb-true) in
      (other, tt, cc (only 0 s hs, only 1 t ht, only 2 u hu, only 3 v hv))

pub extra_of : (s t : ℕ) → is_extra 0 s ≡ true → is_extra 1 t ≡ true → (x : ℕ) × (x < 2 ^ 32) × (extra_words x ≡ s ∷ t ∷ [])
extra_of s t hs ht =
    let p = pair_parts (field_a s) (field_a t) (omega arith) (omega arith) in
    let e = extra_parts 0 s hs in
    let f = extra_parts 1 t ht in
    (pair (field_a s) (field_a t), omega arith, rw (p.0, p.1) (cc))
