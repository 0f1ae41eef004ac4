-- A loop with a header test: its body is three plain ops, a BreakIf and a row, and the walk notes that break. Assumes nothing.
use mathlib.Core.Path.{◌≡◌}
use mathlib.Core.Bool.{Bool, true, ◌&&◌}
use mathlib.Core.List.{List}
use Prim.Native.Nat.{ℕ, suc, ◌+◌}
use native.Mathlib.Omega.{arith}
use native.Mathlib.Numerals.{add-one, add-two, add-three, add-four}
use borrow.Author.Tests.{eqb-true}
use lib.Dec.{eqb}
use Rattle.rules.specs.Kinds as K
use Rattle.rules.specs.Ops.{kind, op_at}
use Rattle.rules.specs.Rows.{plain, end_loop, breaks_if, shape_of, Row, end, step, stop, leave, leave_if, if_then, if_else, loop, IsRow}
use Rattle.rules.specs.Count.{has_header}
use Rattle.rules.specs.Cycles.{Breaks, unbroken, costliest, note_break, Cost}
use Rattle.rules.proofs.Flags.{both}
use Rattle.rules.proofs.Walked.{Walked}

-- the positions two, three, four and five behind i
abbrev pub next2 : ℕ → ℕ
next2 i = suc (suc i)

abbrev pub next3 : ℕ → ℕ
next3 i = suc (next2 i)

abbrev pub next4 : ℕ → ℕ
next4 i = suc (next3 i)

abbrev pub next5 : ℕ → ℕ
next5 i = suc (next4 i)

-- the shapes of the four ops behind Loop at i
pub record Tested (op : ℕ → ℕ) (i : ℕ) : Type 0 where
  pub first : shape_of (op (suc i)) ≡ plain
  pub second : shape_of (op (next2 i)) ≡ plain
  pub third : shape_of (op (next3 i)) ≡ plain
  pub fourth : shape_of (op (next4 i)) ≡ breaks_if

pub load_shape : (w : ℕ) → kind w ≡ K.get_local → shape_of w ≡ plain
load_shape w h = simp h

pub compare_shape : (w : ℕ) → kind w ≡ K.cmp_ge → shape_of w ≡ plain
compare_shape w h = simp h

pub test_shape : (w : ℕ) → kind w ≡ K.break_if → shape_of w ≡ breaks_if
test_shape w h = simp h

-- and their kinds
pub record HeaderKinds (op : ℕ → ℕ) (p : ℕ) : Type 0 where
  pub first : kind (op (p + 1)) ≡ K.get_local
  pub second : kind (op (p + 2)) ≡ K.get_local
  pub third : kind (op (p + 3)) ≡ K.cmp_ge
  pub fourth : kind (op (p + 4)) ≡ K.break_if

pub header_kinds : (ops : List ℕ) (p : ℕ) → has_header ops p ≡ true → HeaderKinds (op_at ops) p
header_kinds ops p h =
    let k : ℕ → ℕ = λ i. kind (op_at ops i) in
    let opens = eqb (k p) K.loop in
    let loads = eqb (k (p + 1)) K.get_local in
    let again = eqb (k (p + 2)) K.get_local in
    let compares = eqb (k (p + 3)) K.cmp_ge in
    let a = both (opens && loads && again && compares) (eqb (k (p + 4)) K.break_if) h in
    let b = both (opens && loads && again) compares a.0 in
    let c = both (opens && loads) again b.0 in
    let d = both opens loads c.0 in
    record { first = eqb-true _ _ d.1; second = eqb-true _ _ c.1; third = eqb-true _ _ b.1; fourth = eqb-true _ _ a.1 }

pub header_tested : (ops : List ℕ) (p : ℕ) → has_header ops p ≡ true → Tested (op_at ops) p
header_tested ops p h =
    let k = header_kinds ops p h in
    record {
      first = rw (← add-one p) (load_shape (op_at ops (p + 1)) k.first);
      second = rw (← add-two p) (load_shape (op_at ops (p + 2)) k.second);
      third = rw (← add-three p) (compare_shape (op_at ops (p + 3)) k.third);
      fourth = rw (← add-four p) (test_shape (op_at ops (p + 4)) k.fourth);
    }

-- what the header of the loop at i costs
abbrev pub header_fee : (ℕ → ℕ) → ℕ → ℕ
header_fee fee i = 0 + fee (suc i) + fee (next2 i) + fee (next3 i) + fee (next4 i)

module _ (fee : ℕ → ℕ) (Counted : ℕ → ℕ → Type 0) (op : ℕ → ℕ) (l : Bool) (to : ℕ) (last : shape_of (op to) ≡ end_loop) (k : Cost) where
  -- a row that begins with a plain op
  after_plain : (i : ℕ) (r : Row) (cost : ℕ) (br : Breaks) → IsRow op l i to r → Walked fee Counted r cost br k → shape_of (op i) ≡ plain
      → (s : Row) × IsRow op l (suc i) to s × Walked fee Counted s (cost + fee i) br k
  after_plain i end cost br w v s = absurd (let z : ◌≡◌ {A = ℕ} 0 1 = cc in omega arith)
  after_plain i (step j r) cost br w v s = (r, w.3, rw (← w.0) v)
  after_plain i (stop j r) cost br w v s = absurd (rw s at w.2)
  after_plain i (leave j r) cost br w v s = absurd (let z : ◌≡◌ {A = ℕ} 0 1 = cc in omega arith)
  after_plain i (leave_if j r) cost br w v s = absurd (let z : ◌≡◌ {A = ℕ} 0 1 = cc in omega arith)
  after_plain i (if_then j t p r) cost br w v s = absurd (let z : ◌≡◌ {A = ℕ} 0 1 = cc in omega arith)
  after_plain i (if_else j e t p q r) cost br w v s = absurd (let z : ◌≡◌ {A = ℕ} 0 1 = cc in omega arith)
  after_plain i (loop j e b r) cost br w v s = absurd (let z : ◌≡◌ {A = ℕ} 0 1 = cc in omega arith)

  -- a row that begins with a BreakIf
  after_test : (i : ℕ) (r : Row) (cost : ℕ) (br : Breaks) → IsRow op l i to r → Walked fee Counted r cost br k → shape_of (op i) ≡ breaks_if
      → (s : Row) × IsRow op l (suc i) to s × Walked fee Counted s (cost + fee i) (note_break br (cost + fee i)) k
  after_test i end cost br w v s = absurd (let z : ◌≡◌ {A = ℕ} 0 1 = cc in omega arith)
  after_test i (step j r) cost br w v s = absurd (rw s at w.2)
  after_test i (stop j r) cost br w v s = absurd (rw s at w.2)
  after_test i (leave j r) cost br w v s = absurd (let z : ◌≡◌ {A = ℕ} 0 1 = cc in omega arith)
  after_test i (leave_if j r) cost br w v s = (r, w.4, rw (← w.0) v)
  after_test i (if_then j t p r) cost br w v s = absurd (let z : ◌≡◌ {A = ℕ} 0 1 = cc in omega arith)
  after_test i (if_else j e t p q r) cost br w v s = absurd (let z : ◌≡◌ {A = ℕ} 0 1 = cc in omega arith)
  after_test i (loop j e b r) cost br w v s = absurd (let z : ◌≡◌ {A = ℕ} 0 1 = cc in omega arith)

  -- the row behind the header of the loop at i
  pub behind_header : (i : ℕ) (b : Row) → Tested op i → IsRow op l (suc i) to b → Walked fee Counted b 0 unbroken k
      → (s : Row) × IsRow op l (next5 i) to s × Walked fee Counted s (header_fee fee i) (costliest (header_fee fee i)) k
  behind_header i b t w v =
      let (b₁, w₁, v₁) = after_plain (suc i) b 0 unbroken w v t.first in
      let (b₂, w₂, v₂) = after_plain (next2 i) b₁ _ unbroken w₁ v₁ t.second in
      let (b₃, w₃, v₃) = after_plain (next3 i) b₂ _ unbroken w₂ v₂ t.third in
      let (b₄, w₄, v₄) = after_test (next4 i) b₃ _ unbroken w₃ v₃ t.fourth in
      (b₄, w₄, v₄)
