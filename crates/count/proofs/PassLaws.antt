-- How many steps bring a counter from one signed number to another, told by what the code's calls answer.
-- Assumes nothing.
use Rattle.std.proofs.Common.{◌≡◌, ℕ, zero, suc, ◌+◌, ◌-◌, ◌*◌, ◌/◌, ◌%◌, ◌<◌, ◌^◌, min, false, ℤ, pos, negsuc, ◌-ℤ◌, ap, ◌∙◌, arith, Result, Ok, Err, FitsSigned, w64}
use Rattle.std.specs.Int.{div_ceil}
use Rattle.std.specs.Int.Signed.{lt_z}
use Rattle.std.specs.Result.{OkIff, result_ok}
use Rattle.std.proofs.Math.IntN.{nat_abs}
use Rattle.std.proofs.lemmas.Bool.{lt-ltb, le-leb, lt-leb}
use Rattle.std.proofs.lemmas.Int.{ints}
use Rattle.std.proofs.lemmas.Nat.{div-mul-add, div-add-mod', mod_below}
use Rattle.rules.specs.Count.{rounded_up, passes}
use Rattle.words.specs.Found.{found_of}

-- rounding up, by the quotient and the remainder
rounded_at : (q r s : ℕ) → r < s → q + min 1 r ≡ (q * s + r + (s - 1)) / s
rounded_at q zero s h =
    let z : q * s + 0 + (s - 1) ≡ q * s + (s - 1) = omega arith in
    rw (z, div-mul-add q s (s - 1) (omega arith)) (omega arith)
rounded_at q (suc r) s h =
    let z : q * s + suc r + (s - 1) ≡ (q + 1) * s + r = omega arith in
    rw (z, div-mul-add (q + 1) s r (omega arith)) (omega arith)

-- the library's rounding up is document 01's
rounded : (d s : ℕ) → 0 < s → div_ceil d s ≡ rounded_up d s
rounded d s h = rounded_at (d / s) (d % s) s (mod_below d s h) ∙ ap (λ n. (n + (s - 1)) / s) (div-add-mod' d s)

-- the passes are the distance's quotient, where it fits 32 bits
pub passes_told : {E : Type 0} (a b z : ℤ) (s n : ℕ) (r : Result ℕ E) → lt_z b a ≡ false → z ≡ b -ℤ a → FitsSigned w64 z → 0 < s → n ≡ div_ceil (nat_abs z) s
    → OkIff r (n < 4294967296) n → found_of (result_ok r) ≡ passes a b s
passes_told a b (pos d) s n (Ok x) l e f h g (k, i) =
    let fits : d < 2 ^ 63 = omega arith in
    rw (l, ← e, lt-ltb d (2 ^ 63) fits, ← rounded d s h, ← g, le-leb n 4294967295 (omega arith), i)
passes_told a b (pos d) s n (Err x) l e f h g k =
    let fits : d < 2 ^ 63 = omega arith in
    rw (l, ← e, lt-ltb d (2 ^ 63) fits, ← rounded d s h, ← g, lt-leb n 4294967295 (omega arith))
passes_told a b (negsuc d) s n r l e f h g k = absurd (grind (arith, ints))
