-- A test of each element of a list, what it says, and what holds of an element that is looked up. Assumes nothing.
use mathlib.Core.Path.{◌≡◌, refl}
use mathlib.Core.Bool.{Bool, true}
use mathlib.Core.List.{List, [], ◌∷◌, ◌++◌, map}
use Prim.Native.Nat.{ℕ, zero, suc}
use lib.ListN.{get_or}
use Rattle.rules.specs.Form.{Each}
use Rattle.rules.specs.Writing.{every}
use Rattle.rules.proofs.Flags.{both}

module _ {A : Type 0} {f : A → Bool} {P : A → Type 0} where
  pub every_each : ((x : A) → f x ≡ true → P x) → (xs : List A) → every f xs ≡ true → Each P xs
  unfolding every
  every_each h [] e = tt
  every_each h (x ∷ xs) e = let g = both (f x) (every f xs) e in (h x g.0, every_each h xs g.1)

  pub each_every : ((x : A) → P x → f x ≡ true) → (xs : List A) → Each P xs → every f xs ≡ true
  unfolding every
  each_every h [] e = refl
  each_every h (x ∷ xs) e = rw (h x e.0) (each_every h xs e.1)

pub each_map : {A B : Type 0} (P : B → Type 0) (f : A → B) (xs : List A) → Each (λ x. P (f x)) xs → Each P (map f xs)
each_map P f [] h = tt
each_map P f (x ∷ xs) h = (h.0, each_map P f xs h.1)

pub each_append : {A : Type 0} (P : A → Type 0) (xs ys : List A) → Each P xs → Each P ys → Each P (xs ++ ys)
each_append P [] ys h k = k
each_append P (x ∷ xs) ys h k = (h.0, each_append P xs ys h.1 k)

-- of one that is looked up, and of what is got where there is none
pub each_at : {A : Type 0} (P : A → Type 0) (d : A) → P d → (xs : List A) (k : ℕ) → Each P xs → P (get_or xs k d)
each_at P d p [] k h = p
each_at P d p (x ∷ xs) zero h = h.0
each_at P d p (x ∷ xs) (suc k) h = each_at P d p xs k h.1
