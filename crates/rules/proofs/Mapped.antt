-- A function over a list: the length, a list whose members are alike, and one of which a member is set. Assumes nothing.
use mathlib.Core.Path.{◌≡◌, refl, ap}
use mathlib.Core.List.{List, [], ◌∷◌, map}
use Prim.Native.Nat.{ℕ, zero, suc}
use lib.ListN.{length, set, replicate}

module _ {A B : Type 0} (f : A → B) where
  pub map-length : (xs : List A) → length (map f xs) ≡ length xs
  map-length [] = refl
  map-length (x ∷ xs) = ap suc (map-length xs)

  pub map_alike : (n : ℕ) (a : A) → map f (replicate n a) ≡ replicate n (f a)
  map_alike zero a = refl
  map_alike (suc n) a = ap (λ (ys : List B). f a ∷ ys) (map_alike n a)

  pub map-set : (xs : List A) (i : ℕ) (a : A) → map f (set xs i a) ≡ set (map f xs) i (f a)
  map-set [] i a = refl
  map-set (x ∷ xs) zero a = refl
  map-set (x ∷ xs) (suc i) a = ap (λ (ys : List B). f x ∷ ys) (map-set xs i a)
