-- The claim `UnsureAdded`: 2.8's conditions on a count add refusals by 16 to the cycle walk and change nothing else. Assumes nothing.
use mathlib.Core.Path.{◌≡◌, refl}
use mathlib.Core.Bool.{Bool, true, false}
use mathlib.Core.Logic.{inl, inr, ⊎_elim}
use Prim.Native.Nat.{ℕ}
use Rattle.rules.specs.Limits.{deepest}
use Rattle.rules.specs.Numbers as N
use Rattle.rules.specs.Outcome.{Result, ok, no, and_then, demand}
use Rattle.rules.specs.Form.{Chunk}
use Rattle.rules.specs.Rows.{Row}
use Rattle.rules.specs.Count.{count_of}
use Rattle.rules.specs.Sure.{is_sure, sure_count_of}
use Rattle.rules.specs.Cycles.{unbroken, charge_of}
use Rattle.rules.specs.SureClaims.{UnsureAdded}
use Rattle.rules.proofs.CountUsed.{SameOrRefused, walk_alike}

module _ (c : Chunk) (r : Row) where
  -- the loop at p has a count that is not sure
  abbrev Unsure : ℕ → Type 0
  Unsure p = (n : ℕ) × (count_of c p ≡ ok n) × (is_sure c r p n ≡ false)

  counts_alike : (p : ℕ) → SameOrRefused Unsure (sure_count_of c r p) (count_of c p)
  counts_alike p = go (count_of c p) refl
    where
      tested : (n : ℕ) → count_of c p ≡ ok n → (b : Bool) → is_sure c r p n ≡ b → SameOrRefused Unsure (demand b N.unsure_count p n) (ok n)
      tested n e true s = inl refl
      tested n e false s = inr (p, (n, e, s), refl)

      go : (x : Result ℕ) → count_of c p ≡ x → SameOrRefused Unsure (and_then x (λ n. demand (is_sure c r p n) N.unsure_count p n)) x
      go (ok n) e = tested n e (is_sure c r p n) refl
      go (no n q) e = inl refl

pub unsure_added : UnsureAdded
unsure_added c wholes r =
    ⊎_elim (λ e. inl e) (λ u. inr (u.0, u.1.0, u.1.1, u.1.2, u.2))
    (walk_alike (Unsure c r) (λ n. n) (charge_of c wholes) (sure_count_of c r) (count_of c) r (λ p l. counts_alike c r p) deepest 0 unbroken)
