-- Each way that a value can be, with the equation that says so: a number that is another or not, a test, a result; and a list of which one element is set.
-- Assumes nothing.
use mathlib.Core.Path.{◌≡◌, refl, ◌∙◌}
use mathlib.Core.Bool.{Bool, true, false}
use mathlib.Core.List.{List}
use Prim.Native.Nat.{ℕ, ◌<◌}
use native.Mathlib.Decide.{ℕ_discrete}
use lib.ListN.{length, get_or, set}
use lib.Seq.{get_or-set_same, get_or-set_other}
use Rattle.rules.specs.Outcome.{Result, ok, no}

module _ {P : Type 0} where
  -- a number is another, or it is not
  pub split : (k n : ℕ) → (k ≡ n → P) → ((k ≡ n → ⊥) → P) → P
  split k n f g = elim (ℕ_discrete k n) [ Dec.yes e ↦ f e | Dec.no o ↦ g o ]

  -- a test is true, or it is false
  pub decide : (b : Bool) → (b ≡ true → P) → (b ≡ false → P) → P
  decide true f g = f refl
  decide false f g = g refl

  -- a result is a value, or a refusal
  pub result : {A : Type 0} (r : Result A) → ((a : A) → r ≡ ok a → P) → ((n p : ℕ) → r ≡ no n p → P) → P
  result (ok a) f g = f a refl
  result (no n p) f g = g n p refl

-- a list has a function's value at k, once it is set at i to the value there
pub set_shows : {A : Type 0} (f : ℕ → A) (l : List A) (i : ℕ) (a d : A) → i < length l → a ≡ f i → (k : ℕ) → ((k ≡ i → ⊥) → get_or l k d ≡ f k)
    → get_or (set l i a) k d ≡ f k
set_shows f l i a d lt is k old = split k i (λ e. rw e (get_or-set_same l i a d lt ∙ is)) (λ o. get_or-set_other l i k a d o ∙ old o)
