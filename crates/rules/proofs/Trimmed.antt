-- Zeros at the end of a list: dropped or not, each extra is what it was, and lists that agree everywhere are trimmed alike. Assumes nothing.
use mathlib.Core.Path.{◌≡◌, refl, sym, ap₂, ◌∙◌}
use mathlib.Core.Bool.{Bool, true, false, cond}
use mathlib.Core.List.{List, [], ◌∷◌}
use Prim.Native.Nat.{ℕ, zero, suc, ◌≤◌}
use native.Mathlib.Omega.{arith}
use borrow.Author.Tests.{eqb-true}
use lib.Dec.{eqb}
use lib.ListN.{length}
use Rattle.rules.specs.Form.{Each}
use Rattle.rules.specs.Reading.{extra_at}
use Rattle.rules.specs.Writing.{keep, trimmed}

keep_at : (x : ℕ) (ys : List ℕ) (i : ℕ) → extra_at (keep x ys) i ≡ extra_at (x ∷ ys) i
keep_at x (y ∷ ys) i = refl
keep_at x [] i = go (eqb x 0) refl i
  where
    go : (b : Bool) → eqb x 0 ≡ b → (i : ℕ) → extra_at (cond b [] (x ∷ [])) i ≡ extra_at (x ∷ []) i
    go true e zero = sym (eqb-true x 0 e)
    go true e (suc i) = refl
    go false e i = refl

-- "a dropped extra being 0"
pub trimmed_at : (xs : List ℕ) (i : ℕ) → extra_at (trimmed xs) i ≡ extra_at xs i
unfolding trimmed
trimmed_at [] i = refl
trimmed_at (x ∷ xs) zero = keep_at x (trimmed xs) 0
trimmed_at (x ∷ xs) (suc i) = keep_at x (trimmed xs) (suc i) ∙ trimmed_at xs i

trimmed-nil : (xs : List ℕ) → ((i : ℕ) → extra_at xs i ≡ 0) → trimmed xs ≡ []
unfolding trimmed
trimmed-nil [] h = refl
trimmed-nil (x ∷ xs) h = let z : x ≡ 0 = h 0 in rw (trimmed-nil xs (λ i. h (suc i)), z)

pub trimmed_same : (xs ys : List ℕ) → ((i : ℕ) → extra_at xs i ≡ extra_at ys i) → trimmed xs ≡ trimmed ys
unfolding trimmed
trimmed_same [] ys h = sym (trimmed-nil ys (λ i. sym (h i)))
trimmed_same (x ∷ xs) [] h = trimmed-nil (x ∷ xs) h
trimmed_same (x ∷ xs) (y ∷ ys) h = ap₂ keep (h 0) (trimmed_same xs ys (λ i. h (suc i)))

pub trimmed_short : (xs : List ℕ) → length (trimmed xs) ≤ length xs
unfolding trimmed
trimmed_short [] = omega arith
trimmed_short (x ∷ xs) = go (trimmed xs) (trimmed_short xs)
  where
    one : (b : Bool) → length (cond b [] (x ∷ [])) ≤ 1
    one true = omega arith
    one false = omega arith

    go : (ys : List ℕ) → length ys ≤ length xs → length (keep x ys) ≤ suc (length xs)
    go [] h = omega (arith, one (eqb x 0))
    go (y ∷ ys) h = omega arith

pub each_trimmed : (P : ℕ → Type 0) (xs : List ℕ) → Each P xs → Each P (trimmed xs)
unfolding trimmed
each_trimmed P [] h = tt
each_trimmed P (x ∷ xs) h = go (trimmed xs) (each_trimmed P xs h.1)
  where
    one : (b : Bool) → Each P (cond b [] (x ∷ []))
    one true = tt
    one false = (h.0, tt)

    go : (ys : List ℕ) → Each P ys → Each P (keep x ys)
    go [] g = one (eqb x 0)
    go (y ∷ ys) g = (h.0, g)
