-- The digits of a number: any room that is large enough gives the same, and how many there are.
-- Assumes nothing.
use mathlib.Core.Path.{◌≡◌}
use mathlib.Core.List.{[], ◌∷◌, ◌++◌}
use Prim.Native.Nat.{ℕ, zero, suc, ◌+◌, ◌/◌, ◌%◌, ◌^◌, ◌≤◌, ◌<◌}
use native.Mathlib.Nat.{pow-suc}
use native.Mathlib.Decide.{dec_lt}
use native.Mathlib.Omega.{arith}
use lib.ListN.{length, length-append}
use borrow.Author.Tests.{lt-ltb, le-ltb}
use Rattle.rules.specs.Text.{digits, decimal}

-- a number of more than one digit: those of its tenth, and its remainder
more : (f n : ℕ) → 10 ≤ n → digits (suc f) n ≡ digits f (n / 10) ++ ((48 + n % 10) ∷ [])
unfolding digits
more f n h = rw (le-ltb n 10 h)

pub decimal_small : (n : ℕ) → n < 10 → decimal n ≡ (48 + n) ∷ []
unfolding digits
decimal_small n h = rw (lt-ltb n 10 h)

enough : (f g n : ℕ) → n < f → n < g → digits f n ≡ digits g n
unfolding digits
enough zero g n h k = absurd (omega arith)
enough (suc f) zero n h k = absurd (omega arith)
enough (suc f) (suc g) n h k =
    elim (dec_lt n 10) [ yes l ↦ rw (lt-ltb n 10 l) | no l ↦ rw (le-ltb n 10 (omega arith), enough f g (n / 10) (omega arith) (omega arith)) ]

pub decimal_more : (n : ℕ) → 10 ≤ n → decimal n ≡ decimal (n / 10) ++ ((48 + n % 10) ∷ [])
decimal_more n h = rw (more n n h, enough n (suc (n / 10)) (n / 10) (omega arith) (omega arith))

pub decimal_tenth : (n : ℕ) → 10 ≤ n → length (decimal n) ≡ length (decimal (n / 10)) + 1
decimal_tenth n h = rw (decimal_more n h, length-append)

-- one digit at least, and k + 1 at most for a number below ten to the power of k + 1
pub decimal-length : (k n : ℕ) → n < 10 ^ suc k → (1 ≤ length (decimal n)) × (length (decimal n) ≤ suc k)
decimal-length zero n h = rw (decimal_small n h) (omega arith)
decimal-length (suc k) n h =
    let tenth = decimal-length k (n / 10) (omega (arith, rw (pow-suc 10 (suc k)) at h)) in
    elim (dec_lt n 10) [ yes l ↦ rw (decimal_small n l) (omega arith) | no l ↦ rw (decimal_more n (omega arith), length-append) (omega arith) ]
