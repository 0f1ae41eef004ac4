-- How the tree of a row opens at its first op, and how a row is put together again: what the walks and the row check cite.
-- Assumes nothing.
use mathlib.Core.Path.{◌≡◌, refl, ap, ◌∙◌}
use mathlib.Core.Bool.{Bool, true}
use Prim.Native.Nat.{ℕ, suc, ◌-◌, ◌<◌, ◌≤◌}
use mathlib.Core.Logic.{◌⊎◌, inl, inr}
use native.Mathlib.Numerals.{sub-one}
use native.Mathlib.Omega.{arith}
use borrow.Author.Tests.{eq-eqb, le-ltb}
use Rattle.rules.specs.Ops.{kind, field_a}
use Rattle.rules.specs.Rows.{Shape, plain, trap, returns, if_to, else_to, end_if, loop_to, end_loop, breaks, breaks_if, calls, shape_of}
use Rattle.rules.specs.Rows.{Row, end, step, stop, leave, leave_if, if_then, if_else, loop, IsRow, parse}
use Rattle.rules.proofs.Shapes.{shape_tells, by_plain, by_ending}
use Rattle.rules.proofs.RowTree.{parse_complete, no_else_arm}
use Rattle.rows.specs.Tree.{tree_found, tree_of}
use Rattle.rows.specs.Opens.{Behind, BreakAt, IfAt, ElseAt, LoopAt}

-- a row that is one with no Loop around is one with a Loop around
pub with_loop : (op : ℕ → ℕ) (l : Bool) (i to : ℕ) (r : Row) → IsRow op l i to r → IsRow op true i to r
with_loop op l i to end w = w
with_loop op l i to (step j r) w = (w.0, w.1, w.2, with_loop op l (suc i) to r w.3)
with_loop op l i to (stop j r) w = (w.0, w.1, w.2, with_loop op l (suc i) to r w.3)
with_loop op l i to (leave j r) w = (w.0, w.1, w.2, refl, with_loop op l (suc i) to r w.4)
with_loop op l i to (leave_if j r) w = (w.0, w.1, w.2, refl, with_loop op l (suc i) to r w.4)
with_loop op l i to (if_then j t p r) w = (w.0, w.1, w.2, w.3, w.4, with_loop op l _ _ p w.5, with_loop op l _ _ r w.6)
with_loop op l i to (if_else j e t p q r) w =
    (w.0, w.1, w.2, w.3, w.4, w.5, w.6, with_loop op l _ _ p w.7, with_loop op l _ _ q w.8, with_loop op l _ _ r w.9)
with_loop op l i to (loop j e b r) w = (w.0, w.1, w.2, w.3, w.4, w.5, with_loop op l _ _ r w.6)

-- the tree of a row is the one that it has
pub tree_is : (op : ℕ → ℕ) (l : Bool) (i to : ℕ) (r : Row) → IsRow op l i to r → tree_of op i to ≡ r
unfolding tree_of
tree_is op l i to r w = ap tree_found (parse_complete (to - i) op true i to r (omega arith) (with_loop op l i to r w))

-- an empty stretch has the empty tree
pub tree_empty : (op : ℕ → ℕ) (i : ℕ) → tree_of op i i ≡ end
tree_empty op i = tree_is op true i i end refl

-- a row that starts no earlier than it ends is empty
pub row-end : (op : ℕ → ℕ) (l : Bool) (i to : ℕ) (r : Row) → IsRow op l i to r → to ≤ i → i ≡ to
unfolding parse
row-end op l i to r w h =
    let p = simp (le-ltb i to h) at (parse_complete 0 op l i to r (omega arith) w) in
    let none : r ≡ end = cc in
    rw none at w

-- What a row is, by the shape of its first op: its parts, and its tree made of theirs.
module _ (op : ℕ → ℕ) (l : Bool) (i to : ℕ) where
  -- by the shape of its first op, what the row is
  abbrev pub OpensAs : Shape → Type 0
  OpensAs plain = Behind op l i to step
  OpensAs trap = Behind op l i to stop
  OpensAs returns = Behind op l i to stop
  OpensAs (if_to t) = IfAt op l i to t ⊎ ElseAt op l i to (t - 1) (field_a (op (t - 1)))
  OpensAs (else_to e) = ⊥
  OpensAs end_if = ⊥
  OpensAs (loop_to t) = LoopAt op l i to (t - 1)
  OpensAs end_loop = ⊥
  OpensAs breaks = BreakAt op l i to leave
  OpensAs breaks_if = BreakAt op l i to leave_if
  OpensAs (calls k) = Behind op l i to step

  -- a row behind one op, with its tree
  behind : (first : ℕ → Row → Row) (j : ℕ) (r : Row) → IsRow op l i to (first j r) → j ≡ i → IsRow op l (suc i) to r → Behind op l i to first
  behind first j r w e v =
      let b = tree_is op l (suc i) to r v in
      record { rest = (r, v); tree = tree_is op l i to (first j r) w ∙ rw (e, b) }

  -- a row that is not empty opens at its first op
  pub opens : (r : Row) → IsRow op l i to r → i < to → OpensAs (shape_of (op i))
  opens end w lt = absurd (omega arith)
  opens (step j r) w lt = let b = behind step j r w w.0 w.3 in by_plain OpensAs b (λ k. b) (shape_of (op i)) w.2
  opens (stop j r) w lt = let b = behind stop j r w w.0 w.3 in by_ending OpensAs b b (shape_of (op i)) w.2
  opens (leave j r) w lt = rw w.2 (record { in_loop = w.3; behind = behind leave j r w w.0 w.4 })
  opens (leave_if j r) w lt = rw w.2 (record { in_loop = w.3; behind = behind leave_if j r w w.0 w.4 })
  opens (if_then j t p r) w lt = rw w.1 (inl (record {
    target = w.2;
    within = w.3;
    closed = shape_tells (op t) end_if w.4;
    no_else = no_else_arm op l i t p w.2 w.1 w.5;
    arm = (p, w.5);
    rest = (r, w.6);
    tree = tree_is op l i to (if_then j t p r) w ∙ rw (w.0, tree_is op l (suc i) t p w.5, tree_is op l (suc t) to r w.6);
  }))
  opens (if_else j e t p q r) w lt =
      let tells = shape_tells (op e) (else_to t) w.5 in
      rw w.1 (inr (rw (sub-one, tells.1) (record {
        target = w.2;
        else_behind = w.3;
        within = w.4;
        is_else = eq-eqb (kind (op e)) 22 tells.0;
        closed = shape_tells (op t) end_if w.6;
        arm = (p, w.7);
        other = (q, w.8);
        rest = (r, w.9);
        tree = tree_is op l i to (if_else j e t p q r) w
            ∙ rw (w.0, tree_is op l (suc i) e p w.7, tree_is op l (suc e) t q w.8, tree_is op l (suc t) to r w.9);
      })))
  opens (loop j e b r) w lt = rw w.1 (rw sub-one (record {
    target = w.2;
    within = w.3;
    closed = shape_tells (op e) end_loop w.4;
    body = (b, w.5);
    rest = (r, w.6);
    tree = tree_is op l i to (loop j e b r) w ∙ rw (w.0, tree_is op true (suc i) e b w.5, tree_is op l (suc e) to r w.6);
  }))
