-- Signed numbers as `omega` reads them: each has a part above 0 and a part below, and their order, sums and greatest are told of these.
-- Assumes nothing.
use mathlib.Core.Path.{◌≡◌, refl}
use mathlib.Core.Bool.{Bool, true, false, cond}
use Prim.Native.Nat.{ℕ, zero, suc, ◌+◌, ◌-◌, ◌≤◌, max}
use native.Mathlib.Omega.{arith}
use borrow.Author.Tests.{leb-true, leb-false, ltb-true, ltb-false, le-leb, lt-leb}
use lib.Dec.{ltb}
use lib.IntN.{ℤ, pos, negsuc, neg_ℤ, ◌+ℤ◌, sub_ℕ}
use lib.Signed.{lt_z, le_z}
use Rattle.rules.specs.Stack.{at_least_zero, max_z}

-- how far a number is below 0
abbrev pub under : ℤ → ℕ
under (pos n) = 0
under (negsuc n) = suc n

abbrev pub AtMost : ℤ → ℤ → Type 0
AtMost a b = at_least_zero a + under b ≤ at_least_zero b + under a

sub_parts : (m n : ℕ) → at_least_zero (sub_ℕ m n) + n ≡ m + under (sub_ℕ m n)
sub_parts m n = go (ltb m n) refl
  where
    go : (b : Bool) → ltb m n ≡ b → at_least_zero (cond b (negsuc (n - suc m)) (pos (m - n))) + n ≡ m + under (cond b (negsuc (n - suc m)) (pos (m - n)))
    go true e = let lt = ltb-true m n e in omega arith
    go false e = let le = ltb-false m n e in omega arith

pub sum_parts : (a b : ℤ) → at_least_zero (a +ℤ b) + (under a + under b) ≡ at_least_zero a + at_least_zero b + under (a +ℤ b)
sum_parts (pos a) (pos b) = omega arith
sum_parts (pos a) (negsuc b) = omega (arith, sub_parts a (suc b))
sum_parts (negsuc a) (pos b) = omega (arith, sub_parts b (suc a))
sum_parts (negsuc a) (negsuc b) = omega arith

-- what a negated number adds
pub minus_parts : (a : ℤ) → (at_least_zero (neg_ℤ a) ≡ under a) × (under (neg_ℤ a) ≡ at_least_zero a)
minus_parts (pos zero) = (refl, refl)
minus_parts (pos (suc n)) = (refl, refl)
minus_parts (negsuc n) = (refl, refl)

pub at_most_above : (a b : ℤ) → AtMost a b → at_least_zero a ≤ at_least_zero b
at_most_above (pos a) (pos b) h = omega arith
at_most_above (pos a) (negsuc b) h = omega arith
at_most_above (negsuc a) b h = omega arith

-- a sum is above 0 by no more than its parts
pub sum_above : (a b : ℤ) → at_least_zero (a +ℤ b) ≤ at_least_zero a + at_least_zero b
sum_above a b = go (a +ℤ b) (sum_parts a b)
  where
    go : (s : ℤ) → at_least_zero s + (under a + under b) ≡ at_least_zero a + at_least_zero b + under s → at_least_zero s ≤ at_least_zero a + at_least_zero b
    go (pos n) e = omega arith
    go (negsuc n) e = omega arith

pub le_at_most : (a b : ℤ) → le_z a b ≡ true → AtMost a b
le_at_most (pos a) (pos b) e = omega (arith, leb-true a b e)
le_at_most (pos a) (negsuc b) e = absurd (let z : ◌≡◌ {A = ℕ} 0 1 = cc in omega arith)
le_at_most (negsuc a) (pos b) e = omega arith
le_at_most (negsuc a) (negsuc b) e = omega (arith, leb-true b a e)

pub at_most_le : (a b : ℤ) → AtMost a b → le_z a b ≡ true
at_most_le (pos a) (pos b) h = le-leb a b (omega arith)
at_most_le (pos a) (negsuc b) h = absurd (omega arith)
at_most_le (negsuc a) (pos b) h = refl
at_most_le (negsuc a) (negsuc b) h = le-leb b a (omega arith)

pub not_at_most : (a b : ℤ) → (AtMost a b → ⊥) → le_z a b ≡ false
not_at_most (pos a) (pos b) h = lt-leb a b (omega (arith, h))
not_at_most (pos a) (negsuc b) h = refl
not_at_most (negsuc a) (pos b) h = absurd (h (omega arith))
not_at_most (negsuc a) (negsuc b) h = lt-leb b a (omega (arith, h))

pub less_parts : (a b : ℤ) → lt_z a b ≡ true → AtMost a b
less_parts (pos a) (pos b) e = omega (arith, ltb-true a b e)
less_parts (pos a) (negsuc b) e = absurd (let z : ◌≡◌ {A = ℕ} 0 1 = cc in omega arith)
less_parts (negsuc a) (pos b) e = omega arith
less_parts (negsuc a) (negsuc b) e = omega (arith, ltb-true b a e)

pub not_less_parts : (a b : ℤ) → lt_z a b ≡ false → AtMost b a
not_less_parts (pos a) (pos b) e = omega (arith, ltb-false a b e)
not_less_parts (pos a) (negsuc b) e = omega arith
not_less_parts (negsuc a) (pos b) e = absurd (let z : ◌≡◌ {A = ℕ} 0 1 = cc in omega arith)
not_less_parts (negsuc a) (negsuc b) e = omega (arith, ltb-false b a e)

pub not_le_parts : (a b : ℤ) → le_z a b ≡ false → suc (at_least_zero b + under a) ≤ at_least_zero a + under b
not_le_parts (pos a) (pos b) e = omega (arith, leb-false a b e)
not_le_parts (pos a) (negsuc b) e = omega arith
not_le_parts (negsuc a) (pos b) e = absurd (let z : ◌≡◌ {A = ℕ} 0 1 = cc in omega arith)
not_le_parts (negsuc a) (negsuc b) e = omega (arith, leb-false b a e)

-- the greater of two numbers is at least both, and above 0 by no more than one of them
pub record Greatest (a b m : ℤ) : Type 0 where
  pub left : AtMost a m
  pub right : AtMost b m
  pub above : at_least_zero m ≤ max (at_least_zero a) (at_least_zero b)

pub greatest : (a b : ℤ) → Greatest a b (max_z a b)
greatest a b = go (lt_z a b) refl
  where
    go : (t : Bool) → lt_z a b ≡ t → Greatest a b (cond t b a)
    go true e = let h = less_parts a b e in record { left = h; right = omega arith; above = omega arith }
    go false e = let h = not_less_parts a b e in record { left = omega arith; right = h; above = omega arith }
