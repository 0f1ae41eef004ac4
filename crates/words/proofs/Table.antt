-- What a test tells of every number below a bound: it is computed once, over all of them, and then holds of each. Assumes nothing.
use mathlib.Core.Path.{◌≡◌}
use mathlib.Core.Bool.{Bool, true, false, ◌&&◌, ◌||◌, and-eq-true_iff}
use Prim.Native.Nat.{ℕ, zero, suc, ◌<◌}
use native.Mathlib.Omega.{arith}
use borrow.Author.Tests.{eqb-true}
use lib.Dec.{eqb}
pub use Rattle.words.proofs.Cases.{split}

-- the test holds of each number below n
abbrev every : (ℕ → Bool) → ℕ → Bool
every f zero = true
every f (suc n) = f n && every f n

-- so it holds of any of them
at : (f : ℕ → Bool) (n : ℕ) → every f n ≡ true → (k : ℕ) → k < n → f k ≡ true
at f zero t k h = absurd (omega arith)
at f (suc n) t k h =
    let both = (and-eq-true_iff (f n) _).0 t in
    split k n (λ e. rw e both.0) (λ e. at f n both.1 k (omega arith))

-- Two functions that are the same below n, but for the places left out.
pub same : (out : ℕ → Bool) (f g : ℕ → ℕ) (n : ℕ) → every (λ k. out k || eqb (f k) (g k)) n ≡ true → (k : ℕ) → k < n → out k ≡ false → f k ≡ g k
same out f g n t k h o = eqb-true _ _ (simp o at (at (λ k. out k || eqb (f k) (g k)) n t k h))
