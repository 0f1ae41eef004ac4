-- What the parts of a row, as the walk meets them, say of what stands before and behind them. Assumes nothing.
use mathlib.Core.Path.{◌≡◌, refl, sym, ◌∙◌}
use mathlib.Core.Bool.{true}
use mathlib.Core.List.{List}
use Prim.Native.Nat.{ℕ, suc, ◌+◌, ◌≤◌}
use native.Mathlib.Numerals.{add-one}
use native.Mathlib.Omega.{arith}
use Rattle.rules.specs.Ops.{op_at}
use Rattle.rules.specs.Rows.{Row, end, step, leave_if, if_then, if_else, loop, IsRow}
use Rattle.rules.specs.Placed.{Begins, arm, second, body}
use Rattle.rules.proofs.RowGrows.{step_row, leave_if_row, if_row, else_row, loop_row}
use Rattle.rows.specs.Tree.{HasRow, tree_of}
use Rattle.rows.specs.Opens.{Behind, IfFits, ElseFits, LoopFits}
use Rattle.rows.proofs.TreeLaws.{tree_is}

-- a stretch with this tree is this row
row_as : (op : ℕ → ℕ) (i to : ℕ) (r : Row) → HasRow op true i to → tree_of op i to ≡ r → IsRow op true i to r
row_as op i to r (q, w) e = let same : q ≡ r = sym (tree_is op true i to q w) ∙ e in rw same at w

module _ {op : ℕ → ℕ} {i to : ℕ} (h : HasRow op true i to) where
  -- a plain op is a row
  pub plain_row : Behind op true i to step → HasRow op true i (suc i)
  plain_row o = (step i end, step_row op true i (row_as op i to _ h o.tree).2)

  -- and a BreakIf
  pub break_row : Behind op true i to leave_if → HasRow op true i (suc i)
  break_row o = (leave_if i end, leave_if_row op true i (row_as op i to _ h o.tree).2 refl)

module _ {ops : List ℕ} {i t to : ℕ} (h : IfFits ops i t to) where
  if_is : IsRow (op_at ops) true i to (if_then i t (tree_of (op_at ops) (suc i) t) (tree_of (op_at ops) (suc t) to))
  if_is = row_as (op_at ops) i to _ h.row.has_row h.at.tree

  -- so is an If with its arm, which begins a row
  pub if_block_row : HasRow (op_at ops) true i (suc t)
  if_block_row = let w = if_is in (if_then i t _ end, if_row (op_at ops) true i t _ w.1 w.2 w.4 w.5)

  pub if_begins : (start : ℕ) → start ≤ i → Begins (op_at ops) start (i + 1)
  if_begins start le = arm i t le (add-one i) if_is.1

module _ {ops : List ℕ} {i e f to : ℕ} (h : ElseFits ops i e f to) where
  else_is : IsRow (op_at ops) true i to
      (if_else i e f (tree_of (op_at ops) (suc i) e) (tree_of (op_at ops) (suc e) f) (tree_of (op_at ops) (suc f) to))
  else_is = row_as (op_at ops) i to _ h.row.has_row h.at.tree

  -- and one with two arms, each of which begins a row
  pub else_block_row : HasRow (op_at ops) true i (suc f)
  else_block_row = let w = else_is in (if_else i e f _ _ end, else_row (op_at ops) true i e f _ _ w.1 w.2 w.3 w.5 w.6 w.7 w.8)

  pub arm_begins : (start : ℕ) → start ≤ i → Begins (op_at ops) start (i + 1)
  arm_begins start le = arm i (suc e) le (add-one i) else_is.1

  pub other_begins : (start : ℕ) → start ≤ i → Begins (op_at ops) start (e + 1)
  other_begins start le = let w = else_is in second e f (omega (arith, le, w.2)) (add-one e) w.5

module _ {ops : List ℕ} {i e to : ℕ} (h : LoopFits ops i e to) where
  loop_is : IsRow (op_at ops) true i to (loop i e (tree_of (op_at ops) (suc i) e) (tree_of (op_at ops) (suc e) to))
  loop_is = row_as (op_at ops) i to _ h.row.has_row h.at.tree

  -- and a Loop with its body, which begins a row
  pub loop_block_row : HasRow (op_at ops) true i (suc e)
  loop_block_row = let w = loop_is in (loop i e _ end, loop_row (op_at ops) true i e _ w.1 w.2 w.4 w.5)

  pub body_begins : (start : ℕ) → start ≤ i → Begins (op_at ops) start (i + 1)
  body_begins start le = body i (suc e) le (add-one i) loop_is.1
