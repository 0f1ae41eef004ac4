-- What each function of the walk gives, from what it asks and what its callees gave: positions counted and ops read as the code does.
-- Assumes nothing.
use mathlib.Core.Path.{◌≡◌, refl, sym, ap, ◌∙◌}
use mathlib.Core.Bool.{Bool, true, ◌&&◌, ◌||◌, or-false}
use mathlib.Core.List.{List}
use Prim.Native.Nat.{ℕ, zero, suc, ◌+◌, ◌-◌, ◌<◌, ◌≤◌}
use native.Mathlib.Numerals.{add-one, sub-one}
use native.Mathlib.Omega.{arith}
use borrow.Author.Tests.{ne_eqb}
use lib.Dec.{eqb}
use lib.ListN.{get_or}
use Rattle.std.specs.Prelude.{Option, Some, None, unwrap_or}
use Rattle.rules.specs.Kinds as K
use Rattle.rules.specs.Ops.{kind, op_at}
use Rattle.rules.specs.Yields as R
use Rattle.rules.specs.Yields.{row_cover}
use Rattle.words.proofs.OpLaws.{read_op}
use Rattle.rows.specs.Tree.{HasRow}
use Rattle.rows.specs.Opens.{Opens, TellsCall, RowFits, StepFits, IfFits, ElseFits, LoopFits}
use Rattle.rows.specs.declared.block.Block.TheVariants as B
use Rattle.rows.specs.declared.block.Block.TheVariants.{Plain, Call, Break, BreakIf, If, IfElse, Loop}
use Rattle.rows.proofs.TreeLaws.{row-end, tree_empty}
use Rattle.rows.proofs.FitLaws.{if_within, else_within, loop_within}
use Rattle.yields.specs.declared.region.Cover.{Cover}
use Rattle.yields.specs.declared.region.Step.{Step}
use Rattle.yields.specs.declared.region.Step.TheVariants.{Goes, Ends}
use Rattle.yields.specs.Answers.{noted_of, reached_of, cover_of, behind_arms, region_cover, part_cover}
use Rattle.yields.specs.Steps.{step_cover, Onward, StepMeans, IfMeans, ElseMeans, LoopMeans, goes_or_ends, joined, left_by}

-- the rest of a row at i, with the flag and the breaks so far, gives the row's answer
pub record Rest (ops lent : List ℕ) (from to left : ℕ) (initial : Bool) (b : Option Bool) (i : ℕ) (y : Bool) (met : Option Bool) : Type 0 where
  pub row : HasRow (op_at ops) true i to
  pub same : region_cover ops lent i to left y (noted_of met) ≡ region_cover ops lent from to left initial (noted_of b)

-- a row where it starts
pub rest_start : {ops : List ℕ} (lent : List ℕ) {from to : ℕ} (left : ℕ) (initial : Bool) (b : Option Bool) → RowFits ops from to
    → Rest ops lent from to left initial b from initial b
rest_start lent left initial b f = record { row = f.has_row; same = refl }

module _ {ops lent : List ℕ} {from to left : ℕ} {initial : Bool} {b : Option Bool} {i : ℕ} {y : Bool} {met : Option Bool}
    (r : Rest ops lent from to left initial b i y met) where
  -- what a step asks, as long as an op is left
  pub rest_fits : RowFits ops from to → i < to → StepFits ops i to
  rest_fits f lt = record { here = lt; row = record { within = f.within; short = f.short; has_row = r.row } }

  -- behind a step that goes on
  pub rest_goes : (z : Bool) (noted : Option Bool) (j : ℕ) → StepMeans ops lent i to left y (noted_of met) (Goes z noted j)
      → Rest ops lent from to left initial b j z noted
  rest_goes z noted j m = record { row = m.1.2; same = m.0 ∙ r.same }

  -- a step that ends the row
  pub rest_ends : (noted : Option Bool) → StepMeans ops lent i to left y (noted_of met) (Ends noted)
      → R.cover R.never (noted_of noted) ≡ region_cover ops lent from to left initial (noted_of b)
  rest_ends noted m = m.0 ∙ r.same

  -- and at the row's end
  pub rest_end : to ≤ i → R.cover (R.reached y) (noted_of met) ≡ region_cover ops lent from to left initial (noted_of b)
  unfolding row_cover
  rest_end h =
      let at : i ≡ to = row-end (op_at ops) true i to r.row.0 r.row.1 h in
      (let e : R.cover (R.reached y) (noted_of met) ≡ region_cover ops lent i to left y (noted_of met) = rw (at, tree_empty (op_at ops) to) refl in e) ∙ r.same

-- a level is left
pub part_on : (ops lent : List ℕ) (i to left : ℕ) (y : Bool) (b : R.Noted) → (left ≡ 0 → ⊥)
    → region_cover ops lent i to (left - 1) y b ≡ part_cover ops lent i to left y b
part_on ops lent i to zero y b h = absurd (h refl)
part_on ops lent i to (suc n) y b h = rw sub-one

module _ {ops : List ℕ} {i to : ℕ} (s : StepFits ops i to) (lent : List ℕ) (left : ℕ) (y : Bool) (b : Option Bool) where
  read : op_at ops i ≡ get_or ops i 0
  read = read_op ops i (omega (arith, s.here, s.row.within))

  -- an op that is no Call gives up the turn if it is a Yield
  no_call : (w : ℕ) → (kind w ≡ K.call → ⊥) → R.gives_turn lent w ≡ eqb (kind w) K.yield
  no_call w h = rw (ne_eqb (kind w) K.call h, or-false)

  pub step_plain : (z : Bool) → Opens ops i to Plain → TellsCall (get_or ops i 0) Plain → z ≡ (y || eqb (kind (get_or ops i 0)) K.yield)
      → StepMeans ops lent i to left y (noted_of b) (Goes z b (i + 1))
  unfolding row_cover
  step_plain z o u is =
      let gives : R.gives_turn lent (op_at ops i) ≡ eqb (kind (get_or ops i 0)) K.yield = rw read (no_call (get_or ops i 0) u) in
      let flag : z ≡ (y || R.gives_turn lent (op_at ops i)) = is ∙ ap (λ (g : Bool). y || g) (sym gives) in
      rw add-one (rw o.tree (ap (λ (u : Bool). region_cover ops lent (suc i) to left u (noted_of b)) flag), (omega arith, s.here, o.rest))

  -- a Call, if its callee is listed as 1
  pub step_call : (k : ℕ) (z : Bool) → Opens ops i to (Call k) → TellsCall (get_or ops i 0) (Call k) → z ≡ (y || eqb (get_or lent k 0) 1)
      → StepMeans ops lent i to left y (noted_of b) (Goes z b (i + 1))
  unfolding row_cover
  step_call k z o u is =
      let gives : R.gives_turn lent (op_at ops i) ≡ eqb (get_or lent k 0) 1 = rw (read, u.0, u.1) refl in
      let flag : z ≡ (y || R.gives_turn lent (op_at ops i)) = is ∙ ap (λ (g : Bool). y || g) (sym gives) in
      rw add-one (rw o.tree (ap (λ (u : Bool). region_cover ops lent (suc i) to left u (noted_of b)) flag), (omega arith, s.here, o.rest))

  -- Return or Trap
  pub step_ends : Opens ops i to B.Ends → StepMeans ops lent i to left y (noted_of b) (Goes y b (i + 1))
  unfolding row_cover
  step_ends o = rw add-one (rw o.tree refl, (omega arith, s.here, o.rest))

  -- a break, noted
  pub step_break : (n : Option Bool) → Opens ops i to Break → noted_of n ≡ R.note_flag (noted_of b) y → StepMeans ops lent i to left y (noted_of b) (Ends n)
  unfolding row_cover
  step_break n o is = (rw (is, o.behind.tree) refl, tt)

  pub step_break_if : (n : Option Bool) → Opens ops i to BreakIf → noted_of n ≡ R.note_flag (noted_of b) y
      → StepMeans ops lent i to left y (noted_of b) (Goes y n (i + 1))
  unfolding row_cover
  step_break_if n o is = rw add-one (rw (is, o.behind.tree) refl, (omega arith, s.here, o.behind.rest))

  -- a block, by its parts
  pub step_if : (t : ℕ) → Opens ops i to (If t) → (r : Step) → ((to : ℕ) → IfFits ops i t to → IfMeans ops lent i t to left y (noted_of b) r)
      → StepMeans ops lent i to left y (noted_of b) r
  unfolding row_cover
  step_if t o r m = rw o.tree (m to (record { row = s.row; at = o }))

  pub step_else : (e f : ℕ) → Opens ops i to (IfElse e f) → (r : Step) → ((to : ℕ) → ElseFits ops i e f to → ElseMeans ops lent i e f to left y (noted_of b) r)
      → StepMeans ops lent i to left y (noted_of b) r
  unfolding row_cover
  step_else e f o r m = rw o.tree (m to (record { row = s.row; at = o }))

  pub step_loop : (e : ℕ) → Opens ops i to (Loop e) → (r : Step) → ((to : ℕ) → LoopFits ops i e to → LoopMeans ops lent i e to left y (noted_of b) r)
      → StepMeans ops lent i to left y (noted_of b) r
  unfolding row_cover
  step_loop e o r m = rw o.tree (m to (record { row = s.row; at = o }))

-- the flag behind an arm, which counts as yielded where it never reaches its end
arm_flag : (k : Option Bool) (y : Bool) → (unwrap_or k true && y) ≡ R.after_arm (reached_of k) y
arm_flag (Some a) y = refl
arm_flag None y = refl

module _ (ops lent : List ℕ) where
  -- a step by a flag that may be missing
  goes_on : (i j to left : ℕ) (k m : Option Bool) → i < j → j ≤ to → HasRow (op_at ops) true j to → Onward ops i to (goes_or_ends k m j)
  goes_on i j to left (Some y) m lt le row = (lt, le, row)
  goes_on i j to left None m lt le row = tt

  arms_step : (j k b : Option Bool) (f to left : ℕ) → step_cover ops lent to left (goes_or_ends (behind_arms j k) b (suc f))
      ≡ R.unless_never (R.after_arms (reached_of j) (reached_of k)) (noted_of b) (λ z. region_cover ops lent (suc f) to left z (noted_of b))
  arms_step (Some x) (Some z) b f to left = refl
  arms_step (Some x) None b f to left = refl
  arms_step None (Some z) b f to left = refl
  arms_step None None b f to left = refl

  left_step : (m b : Option Bool) (e to left : ℕ) → step_cover ops lent to left (left_by e m b)
      ≡ R.after_loop (noted_of m) (noted_of b) (λ z. region_cover ops lent (suc e) to left z (noted_of b))
  left_step (Some z) b e to left = refl
  left_step None b e to left = refl

module _ {ops : List ℕ} (lent : List ℕ) where
  -- an If at i with EndIf at t, its arm walked
  pub if_goes : {i t to : ℕ} → IfFits ops i t to → (left : ℕ) (y : Bool) (b : Option Bool) (arm : Cover)
      → cover_of arm ≡ part_cover ops lent (i + 1) t left y (noted_of b) → (u : Bool) → u ≡ unwrap_or arm.coverage true
      → IfMeans ops lent i t to left y (noted_of b) (Goes (u && y) arm.breaks (t + 1))
  if_goes {i} {t} {to} h left y b arm walked u is =
      let arm_is = rw add-one at walked in
      rw (add-one, ← arm_is, is, arm_flag arm.coverage y) (refl, (omega (arith, if_within h), h.at.within, h.at.rest))

  -- one with Else at e and EndIf at f, both arms walked
  pub else_joins : {i e f to : ℕ} → ElseFits ops i e f to → (left : ℕ) (y : Bool) (b : Option Bool) (arm other : Cover)
      → cover_of arm ≡ part_cover ops lent (i + 1) e left y (noted_of b) → cover_of other ≡ part_cover ops lent (e + 1) f left y (noted_of arm.breaks)
      → (r : Step) → r ≡ joined f arm other → ElseMeans ops lent i e f to left y (noted_of b) r
  else_joins {i} {e} {f} {to} h left y b arm other first second r is =
      let arm_is = rw add-one at first in
      let other_is = rw add-one at second in
      rw (is, ← arm_is, ← other_is) (
        arms_step ops lent arm.coverage other.coverage other.breaks f to left,
        goes_on ops lent i (suc f) to left (behind_arms arm.coverage other.coverage) other.breaks (omega (arith, else_within h)) h.at.within h.at.rest,
      )

  -- a Loop at i with EndLoop at e, its body walked
  pub loop_left : {i e to : ℕ} → LoopFits ops i e to → (left : ℕ) (y : Bool) (b : Option Bool) (body : Cover)
      → cover_of body ≡ part_cover ops lent (i + 1) e left y R.no_break → (r : Step) → r ≡ left_by e body.breaks b
      → LoopMeans ops lent i e to left y (noted_of b) r
  loop_left {i} {e} {to} h left y b body walked r is =
      let body_is = rw add-one at walked in
      rw (is, ← body_is) (
        left_step ops lent body.breaks b e to left,
        goes_on ops lent i (suc e) to left body.breaks b (omega (arith, loop_within h)) h.at.within h.at.rest,
      )
