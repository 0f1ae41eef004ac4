-- What a chunk's line says of the chunk alone: its bytes are its locals and a top, and its whole row stays below the top, callees' slots
-- included. Assumes nothing.
use mathlib.Core.Path.{◌≡◌, refl, ap, ◌∙◌}
use mathlib.Core.Bool.{Bool, true, false, cond}
use mathlib.Core.List.{List, [], ◌∷◌}
use Prim.Native.Nat.{ℕ, zero, suc, ◌+◌}
use native.Mathlib.Omega.{arith}
use lib.Dec.{eqb, leb}
use lib.IntN.{ℤ, pos, neg_ℤ, ◌-ℤ◌}
use lib.ListN.{get_or}
use Rattle.rules.specs.Outcome.{ok}
use Rattle.rules.specs.Ops.{kind, field_a, field_b, figures_of, in_groups, op_at}
use Rattle.rules.specs.Form.{Chunk}
use Rattle.rules.specs.Rows.{Shape, plain, trap, returns, if_to, else_to, end_if, loop_to, end_loop, breaks, breaks_if, calls, shape_of}
use Rattle.rules.specs.Count.{count_of}
use Rattle.rules.specs.Limits.{deepest}
use Rattle.rules.specs.Stack.{Height, Stack, row_height, bytes_of, callee_slots, call_rise, rise_of, move_of, unless_tall}
use Rattle.rules.specs.Order.{cons_if, callees_in, chunk_at, Calls}
use Rattle.rules.specs.Sheet.{Line, no_line}
use Rattle.rules.specs.Paths.{Entry, range_at}
use Rattle.rules.proofs.Answers.{from_ok}
use Rattle.rules.proofs.Shapes.{shape_tells}
use Rattle.rules.proofs.RowTree.{chunk_row_lem}
use Rattle.rules.proofs.Members.{In, in_head, in_tail}
use Rattle.rules.proofs.SheetLines.{LineOf}
use Rattle.rules.proofs.SignedOrder.{AtMost, sum_parts, minus_parts, greatest}
use Rattle.rules.proofs.HeightCovers.{height_covers}
use Rattle.rules.proofs.Standing.{Quiet, whole, Standing}

-- a Call in a list of ops is one of its callees
pub called : (ops : List ℕ) (i : ℕ) → kind (op_at ops i) ≡ 30 → In (field_a (op_at ops i)) (callees_in ops)
unfolding callees_in
called [] i e = absurd (omega arith)
called (w ∷ ws) zero e = rw e (in_head (field_a w) (field_a w) (callees_in ws) refl)
called (w ∷ ws) (suc i) e = go (eqb (kind w) 30) (called ws i e)
  where
    go : (b : Bool) → In (field_a (op_at ws i)) (callees_in ws) → In (field_a (op_at ws i)) (cons_if b (field_a w) (callees_in ws))
    go true h = in_tail (field_a (op_at ws i)) (field_a w) (callees_in ws) h
    go false h = h

-- Else, EndIf and EndLoop have no growth and no shrink, and are no Call
quiet_op : (w : ℕ) (s : Shape) → Quiet s → shape_of w ≡ s → ((figures_of w).growth ≡ 0) × ((figures_of w).shrink ≡ 0) × (eqb (kind w) 30 ≡ false)
unfolding in_groups
quiet_op w plain h e = absurd h
quiet_op w trap h e = absurd h
quiet_op w returns h e = absurd h
quiet_op w (if_to t) h e = absurd h
quiet_op w (else_to t) h e = let k = (shape_tells w (else_to t) e).0 in (simp k, simp k, simp k)
quiet_op w end_if h e = let k = shape_tells w end_if e in (simp k, simp k, simp k)
quiet_op w (loop_to t) h e = absurd h
quiet_op w end_loop h e = let k = shape_tells w end_loop e in (simp k, simp k, simp k)
quiet_op w breaks h e = absurd h
quiet_op w breaks_if h e = absurd h
quiet_op w (calls k) h e = absurd h

module _ (c : Chunk) (callees : List ℕ) where
  pub quiet_chunk : (i : ℕ) → Quiet (shape_of (op_at c.ops i)) → (rise_of c callees i ≡ pos 0) × (move_of c i ≡ pos 0)
  quiet_chunk i h =
      let q = quiet_op (op_at c.ops i) (shape_of (op_at c.ops i)) h refl in
      (rw (q.0, q.2), rw (q.0, q.1))

  -- an op's growth is at most its rise, and so is what a Call's callee adds
  pub growth_rise : (i : ℕ) → AtMost (pos (figures_of (op_at c.ops i)).growth) (rise_of c callees i)
  growth_rise i = go (eqb (kind (op_at c.ops i)) 30) refl
    where
      w : ℕ
      w = op_at c.ops i

      go : (b : Bool) → eqb (kind w) 30 ≡ b → AtMost (pos (figures_of w).growth) (cond b (call_rise callees w) (pos (figures_of w).growth))
      go true e =
          let g : (figures_of w).growth ≡ 1 = simp e in
          rw g (greatest (pos (callee_slots callees (field_a w)) -ℤ pos (field_b w)) (pos 1)).right
      go false e = omega arith

  pub call_rise_lem : (i : ℕ) → kind (op_at c.ops i) ≡ 30
      → AtMost (pos (callee_slots callees (field_a (op_at c.ops i))) -ℤ pos (field_b (op_at c.ops i))) (rise_of c callees i)
  call_rise_lem i e = simp e (greatest (pos (callee_slots callees (field_a (op_at c.ops i))) -ℤ pos (field_b (op_at c.ops i))) (pos 1)).left

  move_rise : (i : ℕ) → AtMost (move_of c i) (rise_of c callees i)
  move_rise i =
      let g = (figures_of (op_at c.ops i)).growth in
      let s = (figures_of (op_at c.ops i)).shrink in
      omega (arith, growth_rise i, sum_parts (pos g) (neg_ℤ (pos s)), (minus_parts (pos s)).0)

-- a place in a chunk's row, below a top over a callee list
abbrev pub StandsIn : List Chunk → ℕ → ℕ → List ℕ → ℕ → ℤ → List Entry → Type 0
StandsIn cs c top callees i x es =
    Standing (op_at (chunk_at cs c).ops) (range_at cs c).to top (rise_of (chunk_at cs c) callees) (move_of (chunk_at cs c)) i x es

-- a chunk's top in slots, and the callee list that it was worked out over
pub record Tall (cs : List Chunk) (lines : List Line) (c : ℕ) : Type 0 where
  pub top : ℕ
  pub callees : List ℕ
  pub bytes : (get_or lines c no_line).bytes ≡ bytes_of ((chunk_at cs c).locals + top)
  pub knows : (k : ℕ) → Calls cs c k → get_or callees k 0 ≡ (get_or lines k no_line).bytes
  pub starts : StandsIn cs c top callees (range_at cs c).from (pos 0) []

from_tall : (b : Bool) (locals : ℕ) (h : Height) (s : Stack) → unless_tall b locals h ≡ ok s → s.bytes ≡ bytes_of (locals + h.peak)
from_tall true locals h s e = cc
from_tall false locals h s e = absurd (let z : ◌≡◌ {A = ℕ} 0 1 = cc in omega arith)

pub line_tall : (cs : List Chunk) (lines : List Line) (c : ℕ) → LineOf cs lines c → Tall cs lines c
line_tall cs lines c l =
    let ck = chunk_at cs c in
    let a = from_ok (row_height (rise_of ck l.callees) (move_of ck) (count_of ck) l.row deepest (pos 0) 0 false) _ l.climbed in
    record {
      top = a.0.peak;
      callees = l.callees;
      bytes = ap (λ (n : Line). n.bytes) l.line ∙ from_tall (leb (ck.locals + a.0.peak) 134217727) ck.locals a.0 l.stack a.2;
      knows = l.known;
      starts =
          record {
            part = whole;
            row = l.row;
            is = (false, (chunk_row_lem ck l.row l.is_row).is_row);
            covered = height_covers (rise_of ck l.callees) (move_of ck) (count_of ck) (move_rise ck l.callees) l.row deepest a.0 a.1;
            placed = refl;
          };
    }
