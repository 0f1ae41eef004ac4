-- What a value or an answer tells of the tests before it: each of them passed. Assumes nothing.
use mathlib.Core.Path.{◌≡◌, refl}
use Prim.Native.Nat.{ℕ}
use native.Mathlib.Omega.{arith}
use Rattle.rules.specs.Outcome.{Result, ok, no, Outcome, answer, refused, and_then, followed_by, in_chunk}

module _ {A B : Type 0} where
  pub from_ok : (p : Result A) (next : A → Result B) {b : B} → and_then p next ≡ ok b → (a : A) × (p ≡ ok a) × (next a ≡ ok b)
  from_ok (ok a) next e = (a, refl, e)
  from_ok (no n p) next e = absurd (let z : ◌≡◌ {A = ℕ} 0 1 = cc in omega arith)

  pub from_answer : (p : Outcome A) (next : A → Outcome B) {b : B} → followed_by p next ≡ answer b → (a : A) × (p ≡ answer a) × (next a ≡ answer b)
  from_answer (answer a) next e = (a, refl, e)
  from_answer (refused n c p) next e = absurd (let z : ◌≡◌ {A = ℕ} 0 1 = cc in omega arith)

module _ {A : Type 0} where
  pub from_chunk : (c : ℕ) (p : Result A) {a : A} → in_chunk c p ≡ answer a → p ≡ ok a
  from_chunk c (ok a) e = cc
  from_chunk c (no n p) e = absurd (let z : ◌≡◌ {A = ℕ} 0 1 = cc in omega arith)
