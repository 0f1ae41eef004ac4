-- The digits of a number as std has them, how long a field can be, and the line of a refusal by its fields.
-- Assumes nothing.
use mathlib.Core.Path.{◌≡◌, sym}
use mathlib.Core.List.{List, [], ◌∷◌, ◌++◌, append_assoc}
use Prim.Native.Nat.{ℕ, ◌+◌, ◌≤◌, ◌<◌, ◌^◌}
use native.Mathlib.Omega.{arith}
use lib.ListN.{length, length-append}
use Rattle.std.specs.Prelude.{decimal as std_decimal}
use Rattle.std.proofs.lemmas.Fmt.{decimal_by_steps}
use Rattle.rules.specs.Outcome.{refused}
use Rattle.rules.specs.Text.{decimal, refused_word, space, newline, outcome_text}
use Rattle.text.specs.Field.{field_text}
use Rattle.rules.proofs.DecimalLaws.{decimal_small, decimal_more, decimal-length}

-- std's digits of a number of 64 bits are document 01's
pub same_decimal : (n : ℕ) → n < 2 ^ 64 → std_decimal n ≡ decimal n
same_decimal n h = decimal_by_steps (λ m ds. ds ≡ decimal m) (λ m l. sym (decimal_small m l)) (λ m ds l e. rw (decimal_more m l, e)) n h

-- a field is its number's digits and one byte
pub field_length : (n end : ℕ) → length (field_text n end) ≡ length (decimal n) + 1
unfolding field_text
field_length n end = rw length-append

-- the field of a number of 32 bits
pub short_field : (n end : ℕ) → n < 2 ^ 32 → length (field_text n end) ≤ 11
short_field n end h = omega (arith, field_length n end, decimal-length 9 n (omega arith))

-- the field of a number of 64 bits
pub long_field : (n end : ℕ) → n < 2 ^ 64 → length (field_text n end) ≤ 21
long_field n end h = omega (arith, field_length n end, decimal-length 19 n (omega arith))

-- the word and the fields of a refusal, one put behind the other
pub refused_line : (before : List ℕ) (n c p : ℕ)
    → (((before ++ (refused_word ++ (space ∷ []))) ++ field_text n space) ++ field_text c space) ++ field_text p newline ≡ before ++ outcome_text (refused n c p)
unfolding field_text
refused_line before n c p = simp append_assoc
