-- A row that stays below a top, whichever way each op goes: what holds from one depth holds from any lesser one. Assumes nothing.
use Prim.Native.Nat.{ℕ, ◌≤◌}
use native.Mathlib.Omega.{arith}
use lib.IntN.{ℤ, ◌+ℤ◌}
use Rattle.rules.specs.Rows.{Row, end, step, stop, leave, leave_if, if_then, if_else, loop}
use Rattle.rules.specs.Stack.{at_least_zero}
use Rattle.rules.proofs.SignedOrder.{AtMost, sum_parts, at_most_above}

-- what holds of a depth holds of any lesser one
abbrev pub Downward : (ℤ → Type 0) → Type 0
Downward K = (x y : ℤ) → AtMost y x → K x → K y

-- a lesser number and what is added to it
less_behind : (x y z : ℤ) → AtMost y x → AtMost (y +ℤ z) (x +ℤ z)
less_behind x y z h = omega (arith, sum_parts x z, sum_parts y z)

-- `rise` is what an op adds to the depth while it runs, `move` what it leaves behind.
module _ (top : ℕ) (rise move : ℕ → ℤ) where
  -- From depth x no op of the row goes over the top. `K` holds of the depth at the row's end, and `B` holds wherever the row breaks out of the
  -- loop around it. A loop's own rest is asked for at its breaks alone, from the depth at its entry.
  abbrev pub Covered : (ℤ → Type 0) → Type 0 → Row → ℤ → Type 0
  Covered K B end x = (at_least_zero x ≤ top) × K x
  Covered K B (step i r) x = (at_least_zero (x +ℤ rise i) ≤ top) × Covered K B r (x +ℤ move i)
  Covered K B (stop i r) x = at_least_zero (x +ℤ rise i) ≤ top
  Covered K B (leave i r) x = (at_least_zero (x +ℤ rise i) ≤ top) × B
  Covered K B (leave_if i r) x = (at_least_zero (x +ℤ rise i) ≤ top) × B × Covered K B r (x +ℤ move i)
  Covered K B (if_then i t p r) x =
      (at_least_zero (x +ℤ rise i) ≤ top) × Covered (λ y. Covered K B r y) B p (x +ℤ move i)
      × (at_least_zero (x +ℤ move i) ≤ top) × Covered K B r (x +ℤ move i)
  Covered K B (if_else i e t p q r) x =
      (at_least_zero (x +ℤ rise i) ≤ top) × Covered (λ y. Covered K B r y) B p (x +ℤ move i)
      × Covered (λ y. Covered K B r y) B q (x +ℤ move i)
  Covered K B (loop i e b r) x =
      (at_least_zero (x +ℤ rise i) ≤ top) × Covered (λ y. Unit {0}) (Covered K B r (x +ℤ move i)) b (x +ℤ move i)

  less_during : (x y z : ℤ) → AtMost y x → at_least_zero (x +ℤ z) ≤ top → at_least_zero (y +ℤ z) ≤ top
  less_during x y z h c = omega (arith, at_most_above (y +ℤ z) (x +ℤ z) (less_behind x y z h))

  covered_less : (K L : ℤ → Type 0) (B C : Type 0) → ((x y : ℤ) → AtMost y x → K x → L y) → (B → C) → (r : Row) (x y : ℤ) → AtMost y x
      → Covered K B r x → Covered L C r y
  covered_less K L B C f g end x y h c = (omega (arith, at_most_above y x h), f x y h c.1)
  covered_less K L B C f g (step i r) x y h c =
      (less_during x y (rise i) h c.0, covered_less K L B C f g r (x +ℤ move i) (y +ℤ move i) (less_behind x y (move i) h) c.1)
  covered_less K L B C f g (stop i r) x y h c = less_during x y (rise i) h c
  covered_less K L B C f g (leave i r) x y h c = (less_during x y (rise i) h c.0, g c.1)
  covered_less K L B C f g (leave_if i r) x y h c =
      (less_during x y (rise i) h c.0, g c.1, covered_less K L B C f g r (x +ℤ move i) (y +ℤ move i) (less_behind x y (move i) h) c.2)
  covered_less K L B C f g (if_then i t p r) x y h c =
      let n = less_behind x y (move i) h in
      let rest : (u v : ℤ) → AtMost v u → Covered K B r u → Covered L C r v = λ u v. covered_less K L B C f g r u v in (
        less_during x y (rise i) h c.0,
        covered_less (λ z. Covered K B r z) (λ z. Covered L C r z) B C rest g p (x +ℤ move i) (y +ℤ move i) n c.1,
        omega (arith, at_most_above (y +ℤ move i) (x +ℤ move i) n, c.2),
        rest (x +ℤ move i) (y +ℤ move i) n c.3,
      )
  covered_less K L B C f g (if_else i e t p q r) x y h c =
      let n = less_behind x y (move i) h in
      let rest : (u v : ℤ) → AtMost v u → Covered K B r u → Covered L C r v = λ u v. covered_less K L B C f g r u v in (
        less_during x y (rise i) h c.0,
        covered_less (λ z. Covered K B r z) (λ z. Covered L C r z) B C rest g p (x +ℤ move i) (y +ℤ move i) n c.1,
        covered_less (λ z. Covered K B r z) (λ z. Covered L C r z) B C rest g q (x +ℤ move i) (y +ℤ move i) n c.2,
      )
  covered_less K L B C f g (loop i e b r) x y h c =
      let n = less_behind x y (move i) h in
      let rest : Covered K B r (x +ℤ move i) → Covered L C r (y +ℤ move i) = covered_less K L B C f g r (x +ℤ move i) (y +ℤ move i) n in (
        less_during x y (rise i) h c.0,
        covered_less (λ z. Unit {0}) (λ z. Unit {0}) (Covered K B r (x +ℤ move i)) (Covered L C r (y +ℤ move i)) (λ u v a t. tt) rest b
            (x +ℤ move i) (y +ℤ move i) n c.1,
      )

  pub covered_down : (K : ℤ → Type 0) (B : Type 0) → Downward K → (r : Row) → Downward (λ x. Covered K B r x)
  covered_down K B down r = covered_less K K B B down (λ b. b) r
