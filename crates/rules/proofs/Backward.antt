-- The backward pass over a row's positions: it keeps the depth of blocks. How it goes over ops, blocks and whole rows, and on from a position that it got to.
-- Assumes nothing.
use mathlib.Core.Path.{◌≡◌, refl, ◌∙◌}
use mathlib.Core.Bool.{Bool, true, false}
use Prim.Native.Nat.{ℕ, suc, ◌<◌}
use native.Mathlib.Omega.{arith}
use borrow.Author.Tests.{eq-eqb, ne_eqb}
use lib.Dec.{eqb}
use Rattle.rules.specs.Rows.{plain, if_to, else_to, end_if, loop_to, end_loop, breaks, breaks_if, shape_of}
use Rattle.rules.specs.Rows.{Row, end, step, stop, leave, leave_if, if_then, if_else, loop, Plain, Ending, IsRow}
use Rattle.rules.specs.Placed.{back_by, back}
use Rattle.rules.proofs.Shapes.{by_plain, by_ending}

module _ (op : ℕ → ℕ) where
  pub one_back : (i d s : ℕ) → (i ≡ s → ⊥) → back op (suc i) d s ≡ back_by (shape_of (op i)) d (λ e. back op i e s)
  unfolding back
  one_back i d s ne = rw (ne_eqb i s ne)

  pub stopped : (d s : ℕ) → back op (suc s) d s ≡ eqb d 0
  unfolding back
  stopped d s = rw (eq-eqb s s refl)

  -- an op that opens and closes no block
  abbrev pub LevelOp : ℕ → Type 0
  LevelOp i = (d : ℕ) (n : ℕ → Bool) → back_by (shape_of (op i)) d n ≡ n d

  pub plain_level : (i : ℕ) → Plain (shape_of (op i)) → LevelOp i
  plain_level i h d n = by_plain (λ x. back_by x d n ≡ n d) refl (λ k. refl) (shape_of (op i)) h

  pub ending_level : (i : ℕ) → Ending (shape_of (op i)) → LevelOp i
  ending_level i h d n = by_ending (λ x. back_by x d n ≡ n d) refl refl (shape_of (op i)) h

  pub leave_level : (i : ℕ) → shape_of (op i) ≡ breaks → LevelOp i
  leave_level i h d n = rw h

  pub test_level : (i : ℕ) → shape_of (op i) ≡ breaks_if → LevelOp i
  test_level i h d n = rw h

  pub set_level : (i : ℕ) → shape_of (op i) ≡ plain → LevelOp i
  set_level i h d n = rw h

  pub level_back : (i d s : ℕ) → LevelOp i → (i ≡ s → ⊥) → back op (suc i) d s ≡ back op i d s
  level_back i d s h ne = one_back i d s ne ∙ h d (λ e. back op i e s)

  -- a block that is opened at i and closed at e
  pub record Block (i e : ℕ) : Type 0 where
    pub leaves : (n : ℕ → Bool) → back_by (shape_of (op i)) 0 n ≡ false
    pub opens : (d : ℕ) (n : ℕ → Bool) → back_by (shape_of (op i)) (suc d) n ≡ n d
    pub closes : (d : ℕ) (n : ℕ → Bool) → back_by (shape_of (op e)) d n ≡ n (suc d)

  pub if_block : (i e t : ℕ) → shape_of (op i) ≡ if_to t → shape_of (op e) ≡ end_if → Block i e
  if_block i e t o c = record { leaves = λ n. rw o; opens = λ d n. rw o; closes = λ d n. rw c }

  pub loop_block : (i e t : ℕ) → shape_of (op i) ≡ loop_to t → shape_of (op e) ≡ end_loop → Block i e
  loop_block i e t o c = record { leaves = λ n. rw o; opens = λ d n. rw o; closes = λ d n. rw c }

  -- into a block from behind it, out of it at its start, and out of its row where the pass began inside
  pub closed : {i e : ℕ} → Block i e → (d s : ℕ) → (e ≡ s → ⊥) → back op (suc e) d s ≡ back op e (suc d) s
  closed {i} {e} b d s ne = one_back e d s ne ∙ b.closes d (λ x. back op e x s)

  opened : {i e : ℕ} → Block i e → (d s : ℕ) → (i ≡ s → ⊥) → back op (suc i) (suc d) s ≡ back op i d s
  opened {i} b d s ne = one_back i (suc d) s ne ∙ b.opens d (λ x. back op i x s)

  pub left : {i e : ℕ} → Block i e → (s : ℕ) → (i ≡ s → ⊥) → back op (suc i) 0 s ≡ false
  left {i} b s ne = one_back i 0 s ne ∙ b.leaves (λ x. back op i x s)

  -- the same of Else, which stands between two rows of its block
  pub else_passed : (e t d s : ℕ) → shape_of (op e) ≡ else_to t → (e ≡ s → ⊥) → back op (suc e) (suc d) s ≡ back op e (suc d) s
  else_passed e t d s h ne = one_back e (suc d) s ne ∙ rw h

  pub else_left : (e t s : ℕ) → shape_of (op e) ≡ else_to t → (e ≡ s → ⊥) → back op (suc e) 0 s ≡ false
  else_left e t s h ne = one_back e 0 s ne ∙ rw h

  -- over a whole row
  pub over_row : (r : Row) (l : Bool) (i to d s : ℕ) → IsRow op l i to r → s < i → back op to d s ≡ back op i d s
  over_row end l i to d s w lt = rw w
  over_row (step j r) l i to d s w lt =
      over_row r l (suc i) to d s w.3 (omega arith) ∙ level_back i d s (plain_level i w.2) (λ k. omega arith)
  over_row (stop j r) l i to d s w lt =
      over_row r l (suc i) to d s w.3 (omega arith) ∙ level_back i d s (ending_level i w.2) (λ k. omega arith)
  over_row (leave j r) l i to d s w lt =
      over_row r l (suc i) to d s w.4 (omega arith) ∙ level_back i d s (leave_level i w.2) (λ k. omega arith)
  over_row (leave_if j r) l i to d s w lt =
      over_row r l (suc i) to d s w.4 (omega arith) ∙ level_back i d s (test_level i w.2) (λ k. omega arith)
  over_row (if_then j t a r) l i to d s w lt =
      let b = if_block i t t w.1 w.4 in
      over_row r l (suc t) to d s w.6 (omega arith) ∙ closed b d s (λ k. omega arith)
      ∙ over_row a l (suc i) t (suc d) s w.5 (omega arith) ∙ opened b d s (λ k. omega arith)
  over_row (if_else j e t p q r) l i to d s w lt =
      let b = if_block i t (suc e) w.1 w.6 in
      over_row r l (suc t) to d s w.9 (omega arith) ∙ closed b d s (λ k. omega arith)
      ∙ over_row q l (suc e) t (suc d) s w.8 (omega arith) ∙ else_passed e t d s w.5 (λ k. omega arith)
      ∙ over_row p l (suc i) e (suc d) s w.7 (omega arith) ∙ opened b d s (λ k. omega arith)
  over_row (loop j e p r) l i to d s w lt =
      let b = loop_block i e (suc e) w.1 w.4 in
      over_row r l (suc e) to d s w.6 (omega arith) ∙ closed b d s (λ k. omega arith)
      ∙ over_row p true (suc i) e (suc d) s w.5 (omega arith) ∙ opened b d s (λ k. omega arith)

  -- over a block
  pub over_if : (j t : ℕ) (a r : Row) (l : Bool) (i to d s : ℕ) → IsRow op l i to (if_then j t a r) → s < i → back op (suc t) d s ≡ back op i d s
  over_if j t a r l i to d s w lt = over_row (if_then j t a end) l i (suc t) d s (w.0, w.1, w.2, omega arith, w.4, w.5, refl) lt

  pub over_else : (j e t : ℕ) (a b r : Row) (l : Bool) (i to d s : ℕ) → IsRow op l i to (if_else j e t a b r) → s < i → back op (suc t) d s ≡ back op i d s
  over_else j e t a b r l i to d s w lt =
      over_row (if_else j e t a b end) l i (suc t) d s (w.0, w.1, w.2, w.3, omega arith, w.5, w.6, w.7, w.8, refl) lt

  pub over_loop : (j e : ℕ) (b r : Row) (l : Bool) (i to d s : ℕ) → IsRow op l i to (loop j e b r) → s < i → back op (suc e) d s ≡ back op i d s
  over_loop j e b r l i to d s w lt = over_row (loop j e b end) l i (suc e) d s (w.0, w.1, w.2, omega arith, w.4, w.5, refl) lt
