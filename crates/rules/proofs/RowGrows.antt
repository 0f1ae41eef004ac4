-- Rows grow at their end, by a row that goes on where they stop: of one op, or of one block, as a walk goes past it. Assumes nothing.
use mathlib.Core.Path.{◌≡◌, refl}
use mathlib.Core.Bool.{Bool, true}
use Prim.Native.Nat.{ℕ, suc, ◌≤◌, ◌<◌}
use native.Mathlib.Omega.{arith}
use Rattle.rules.specs.Rows.{if_to, else_to, end_if, loop_to, end_loop, breaks_if, shape_of}
use Rattle.rules.specs.Rows.{Row, end, step, stop, leave, leave_if, if_then, if_else, loop, Plain, IsRow}
use Rattle.rules.proofs.RowTree.{row_forward}

-- the first with the second in the place of its end
unfoldable pub grown : Row → Row → Row
grown end q = q
grown (step i r) q = step i (grown r q)
grown (stop i r) q = stop i (grown r q)
grown (leave i r) q = leave i (grown r q)
grown (leave_if i r) q = leave_if i (grown r q)
grown (if_then i t a r) q = if_then i t a (grown r q)
grown (if_else i e t a b r) q = if_else i e t a b (grown r q)
grown (loop i e b r) q = loop i e b (grown r q)

module _ (op : ℕ → ℕ) where
  pub row_grown : (r q : Row) (l : Bool) (from i j : ℕ) → IsRow op l from i r → IsRow op l i j q → IsRow op l from j (grown r q)
  unfolding grown
  row_grown r q l from i j w v = go r from w
    where
      le : i ≤ j
      le = row_forward op q l i j v

      go : (r : Row) (from : ℕ) → IsRow op l from i r → IsRow op l from j (grown r q)
      go end from w = rw w v
      go (step k r) from w = (w.0, omega (arith, le), w.2, go r (suc from) w.3)
      go (stop k r) from w = (w.0, omega (arith, le), w.2, go r (suc from) w.3)
      go (leave k r) from w = (w.0, omega (arith, le), w.2, w.3, go r (suc from) w.4)
      go (leave_if k r) from w = (w.0, omega (arith, le), w.2, w.3, go r (suc from) w.4)
      go (if_then k t a r) from w = (w.0, w.1, w.2, omega (arith, le), w.4, w.5, go r (suc t) w.6)
      go (if_else k e t a b r) from w = (w.0, w.1, w.2, w.3, omega (arith, le), w.5, w.6, w.7, w.8, go r (suc t) w.9)
      go (loop k e b r) from w = (w.0, w.1, w.2, omega (arith, le), w.4, w.5, go r (suc e) w.6)

  -- the row of one op that a path may go past
  pub step_row : (l : Bool) (i : ℕ) → Plain (shape_of (op i)) → IsRow op l i (suc i) (step i end)
  step_row l i h = (refl, omega arith, h, refl)

  pub leave_if_row : (l : Bool) (i : ℕ) → shape_of (op i) ≡ breaks_if → l ≡ true → IsRow op l i (suc i) (leave_if i end)
  leave_if_row l i h in_loop = (refl, omega arith, h, in_loop, refl)

  -- and of one block
  pub if_row : (l : Bool) (i t : ℕ) (a : Row) → shape_of (op i) ≡ if_to t → i < t → shape_of (op t) ≡ end_if → IsRow op l (suc i) t a
      → IsRow op l i (suc t) (if_then i t a end)
  if_row l i t a o lt c w = (refl, o, lt, omega arith, c, w, refl)

  pub else_row : (l : Bool) (i e t : ℕ) (a b : Row) → shape_of (op i) ≡ if_to (suc e) → i < e → e < t → shape_of (op e) ≡ else_to t → shape_of (op t) ≡ end_if
      → IsRow op l (suc i) e a → IsRow op l (suc e) t b → IsRow op l i (suc t) (if_else i e t a b end)
  else_row l i e t a b o lt lt' m c w v = (refl, o, lt, lt', omega arith, m, c, w, v, refl)

  pub loop_row : (l : Bool) (i e : ℕ) (b : Row) → shape_of (op i) ≡ loop_to (suc e) → i < e → shape_of (op e) ≡ end_loop → IsRow op true (suc i) e b
      → IsRow op l i (suc e) (loop i e b end)
  loop_row l i e b o lt c w = (refl, o, lt, omega arith, c, w, refl)

  -- a stretch that is a row, whatever its tree
  abbrev pub HasRow : Bool → ℕ → ℕ → Type 0
  HasRow l i to = (r : Row) × IsRow op l i to r

  pub has_grown : (l : Bool) (from i j : ℕ) → HasRow l from i → HasRow l i j → HasRow l from j
  has_grown l from i j (r, w) (q, v) = (grown r q, row_grown r q l from i j w v)
