-- Which positions a row holds directly, and which its blocks do: none outside its range. Assumes nothing.
use mathlib.Core.Path.{◌≡◌}
use mathlib.Core.Bool.{Bool, true, false, ◌&&◌, ◌||◌}
use mathlib.Core.Logic.{◌⊎◌, inl, inr, ⊎_elim}
use Prim.Native.Nat.{ℕ, suc, ◌≤◌, ◌<◌}
use native.Mathlib.Omega.{arith}
use borrow.Author.Tests.{eqb-true}
use lib.Dec.{eqb}
use Rattle.rules.specs.Rows.{Row, end, step, stop, leave, leave_if, if_then, if_else, loop, IsRow}
use Rattle.rules.specs.Sure.{holds, in_part, same_row}
use Rattle.std.proofs.lemmas.Bool.{false_from_ne_true}
use Rattle.rules.proofs.Flags.{both, either}

-- one of the positions from i up to `to`
abbrev pub Between : ℕ → ℕ → ℕ → Type 0
Between i to s = (i ≤ s) × (s < to)

-- the row holds none from a to n
abbrev pub Hides : Row → ℕ → ℕ → Type 0
Hides r a n = (s : ℕ) → a ≤ s → s ≤ n → holds r s ≡ false

at_or_behind : (j i n s to : ℕ) (b : Bool) → j ≡ i → i < n → n ≤ to → (b ≡ true → Between n to s) → (eqb j s || b) ≡ true → Between i to s
at_or_behind j i n s to b e lt le rest h = by (either (eqb j s) b h)
  where
    by : (eqb j s ≡ true) ⊎ (b ≡ true) → Between i to s
    by (inl k) = let same = eqb-true j s k in omega arith
    by (inr k) = let r = rest k in omega arith

module _ (op : ℕ → ℕ) where
  pub held_range : (r : Row) (l : Bool) (i to s : ℕ) → IsRow op l i to r → holds r s ≡ true → Between i to s
  unfolding holds
  held_range end l i to s w h = absurd (let z : ◌≡◌ {A = ℕ} 0 1 = cc in omega arith)
  held_range (step j r) l i to s w h = at_or_behind j i (suc i) s to (holds r s) w.0 (omega arith) w.1 (λ k. held_range r l (suc i) to s w.3 k) h
  held_range (stop j r) l i to s w h = at_or_behind j i (suc i) s to (holds r s) w.0 (omega arith) w.1 (λ k. held_range r l (suc i) to s w.3 k) h
  held_range (leave j r) l i to s w h = at_or_behind j i (suc i) s to (holds r s) w.0 (omega arith) w.1 (λ k. held_range r l (suc i) to s w.4 k) h
  held_range (leave_if j r) l i to s w h = at_or_behind j i (suc i) s to (holds r s) w.0 (omega arith) w.1 (λ k. held_range r l (suc i) to s w.4 k) h
  held_range (if_then j t p r) l i to s w h =
      at_or_behind j i (suc t) s to (holds r s) w.0 (omega arith) w.3 (λ k. held_range r l (suc t) to s w.6 k) h
  held_range (if_else j e t p q r) l i to s w h =
      at_or_behind j i (suc t) s to (holds r s) w.0 (omega arith) w.4 (λ k. held_range r l (suc t) to s w.9 k) h
  held_range (loop j e b r) l i to s w h =
      at_or_behind j i (suc e) s to (holds r s) w.0 (omega arith) w.3 (λ k. held_range r l (suc e) to s w.6 k) h

  -- both positions
  abbrev BothBetween : ℕ → ℕ → ℕ → ℕ → Type 0
  BothBetween i to s p = Between i to s × Between i to p

  wider : (i n k to s p : ℕ) → i ≤ n → k ≤ to → BothBetween n k s p → BothBetween i to s p
  wider i n k to s p h g b = (omega (arith, b.0), omega (arith, b.1))

  in_row : (r : Row) (l : Bool) (i to s p : ℕ) → IsRow op l i to r → (in_part r s p ≡ true → BothBetween i to s p) → same_row r s p ≡ true → BothBetween i to s p
  in_row r l i to s p w inside h =
      ⊎_elim (λ k. let a = both (holds r s) (holds r p) k in (held_range r l i to s w a.0, held_range r l i to p w a.1)) inside
      (either (holds r s && holds r p) (in_part r s p) h)

  -- of a row inside one of the blocks
  part_range : (r : Row) (l : Bool) (i to s p : ℕ) → IsRow op l i to r → in_part r s p ≡ true → BothBetween i to s p
  unfolding in_part
  part_range end l i to s p w h = absurd (let z : ◌≡◌ {A = ℕ} 0 1 = cc in omega arith)
  part_range (step j r) l i to s p w h = wider i (suc i) to to s p (omega arith) (omega arith) (part_range r l (suc i) to s p w.3 h)
  part_range (stop j r) l i to s p w h = wider i (suc i) to to s p (omega arith) (omega arith) (part_range r l (suc i) to s p w.3 h)
  part_range (leave j r) l i to s p w h = wider i (suc i) to to s p (omega arith) (omega arith) (part_range r l (suc i) to s p w.4 h)
  part_range (leave_if j r) l i to s p w h = wider i (suc i) to to s p (omega arith) (omega arith) (part_range r l (suc i) to s p w.4 h)
  part_range (if_then j t a r) l i to s p w h =
      ⊎_elim
      (λ k. wider i (suc i) t to s p (omega arith) (omega arith) (in_row a l (suc i) t s p w.5 (λ m. part_range a l (suc i) t s p w.5 m) k))
      (λ k. wider i (suc t) to to s p (omega arith) (omega arith) (part_range r l (suc t) to s p w.6 k))
      (either (same_row a s p) (in_part r s p) h)
  part_range (if_else j e t a b r) l i to s p w h =
      ⊎_elim
      (λ m. ⊎_elim
      (λ k. wider i (suc i) e to s p (omega arith) (omega arith) (in_row a l (suc i) e s p w.7 (λ n. part_range a l (suc i) e s p w.7 n) k))
      (λ k. wider i (suc e) t to s p (omega arith) (omega arith) (in_row b l (suc e) t s p w.8 (λ n. part_range b l (suc e) t s p w.8 n) k))
      (either (same_row a s p) (same_row b s p) m))
      (λ k. wider i (suc t) to to s p (omega arith) (omega arith) (part_range r l (suc t) to s p w.9 k))
      (either (same_row a s p || same_row b s p) (in_part r s p) h)
  part_range (loop j e b r) l i to s p w h =
      ⊎_elim
      (λ k. wider i (suc i) e to s p (omega arith) (omega arith) (in_row b true (suc i) e s p w.5 (λ m. part_range b true (suc i) e s p w.5 m) k))
      (λ k. wider i (suc e) to to s p (omega arith) (omega arith) (part_range r l (suc e) to s p w.6 k))
      (either (same_row b s p) (in_part r s p) h)

  -- outside its range a row holds nothing
  pub held_out : (r : Row) (l : Bool) (i to s : ℕ) → IsRow op l i to r → (Between i to s → ⊥) → holds r s ≡ false
  held_out r l i to s w out = false_from_ne_true (holds r s) (λ h. out (held_range r l i to s w h))

  pub part_out : (r : Row) (l : Bool) (i to s p : ℕ) → IsRow op l i to r → (BothBetween i to s p → ⊥) → in_part r s p ≡ false
  part_out r l i to s p w out = false_from_ne_true (in_part r s p) (λ h. out (part_range r l i to s p w h))

  pub same_out : (r : Row) (l : Bool) (i to s p : ℕ) → IsRow op l i to r → (BothBetween i to s p → ⊥) → same_row r s p ≡ false
  same_out r l i to s p w out = false_from_ne_true (same_row r s p) (λ h. out (in_row r l i to s p w (λ k. part_range r l i to s p w k) h))
