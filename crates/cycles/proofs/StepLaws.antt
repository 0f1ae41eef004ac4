-- What each function of the walk gives, from what it asks and what its callees gave: positions counted and ops read as the code does.
-- Assumes nothing.
use mathlib.Core.Path.{◌≡◌, refl, sym, ◌∙◌}
use mathlib.Core.Bool.{true, false, ◌&&◌}
use mathlib.Core.List.{List, []}
use Prim.Native.Nat.{ℕ, zero, suc, ◌+◌, ◌-◌, ◌^◌, ◌<◌, ◌≤◌, min}
use native.Mathlib.Numerals.{add-one, sub-one}
use native.Mathlib.Omega.{arith}
use borrow.Author.Tests.{eqb-true}
use lib.ListN.{get_or}
use Rattle.std.specs.Prelude.{Option, Some, None, Result, Ok}
use Rattle.std.specs.Option.{option_cmp}
use Rattle.std.specs.Ordering.{ord_max, nat_cmp}
use Rattle.rules.specs.Kinds as K
use Rattle.rules.specs.Outcome as O
use Rattle.rules.specs.Outcome.{ok, no}
use Rattle.rules.specs.Ops.{kind, op_at}
use Rattle.rules.specs.Rows.{end}
use Rattle.rules.specs.Placed.{placed_count, Begins, range}
use Rattle.rules.specs.Cycles as R
use Rattle.rules.specs.Cycles.{row_cost}
use Rattle.rules.proofs.RowTree.{row_forward}
use Rattle.rules.proofs.RowSums.{begins_behind}
use Rattle.rules.proofs.RowGrows.{has_grown}
use Rattle.rules.proofs.Placing.{row_placed}
use Rattle.words.specs.Chunks.{chunk_of}
use Rattle.words.specs.declared.chunk.Chunk.{Chunk}
use Rattle.words.specs.declared.refusals.Fault.{Fault}
use Rattle.words.proofs.Cases.{decide, result}
use Rattle.words.proofs.OpLaws.{read_op}
use Rattle.rows.specs.Tree.{HasRow}
use Rattle.rows.specs.Opens.{Opens, TellsCall, RowFits, StepFits, IfFits, ElseFits, LoopFits}
use Rattle.rows.specs.declared.block.Block.TheVariants as B
use Rattle.rows.specs.declared.block.Block.TheVariants.{Plain, Call, Break, BreakIf, If, IfElse, Loop}
use Rattle.rows.proofs.TreeLaws.{row-end}
use Rattle.rows.proofs.FitLaws.{if_within, else_within, loop_within}
use Rattle.cycles.specs.declared.region.Cost.{Cost}
use Rattle.cycles.specs.declared.region.Step.{Step}
use Rattle.cycles.specs.declared.region.Step.TheVariants.{Goes, Ends}
use Rattle.cycles.specs.Answers.{breaks_of, cost_of, charge_at, region_cost, part_cost}
use Rattle.cycles.specs.Steps.{cut, step_cost, step_result, pass_once, one_pass_at, Inside, Onward, stepped, StepMeans, IfMeans, ElseMeans, LoopMeans, arms_tail, joined, all_passes_at}
use Rattle.cycles.proofs.CycleLaws as L
use Rattle.cycles.proofs.RowLaws.{plain_row, break_row, if_block_row, else_block_row, loop_block_row}

-- a position inside a row of the range is in the range
pub inside_behind : {op : ℕ → ℕ} {start from i : ℕ} → Inside op start from i → start ≤ i
inside_behind {op} {start} {from} {i} s =
    omega (arith, begins_behind op start from s.begins, row_forward op s.before.0 true from i s.before.1)

-- what is left of a row at i, with the cost and the breaks so far, gives the row's answer
pub record Rest (k : Chunk) (wholes : List ℕ) (from to left : ℕ) (b : Option ℕ) (i cost : ℕ) (met : Option ℕ) : Type 0 where
  pub before : HasRow (op_at k.ops.now) true from i
  pub row : HasRow (op_at k.ops.now) true i to
  pub same : (start : ℕ) → Begins (op_at k.ops.now) start from
      → region_cost (chunk_of k) wholes start i to left cost (breaks_of met) ≡ region_cost (chunk_of k) wholes start from to left 0 (breaks_of b)

-- a level is left
pub inner_on : {A : Type 0} (left : ℕ) (f : ℕ → O.Result A) → (left ≡ 0 → ⊥) → f (left - 1) ≡ R.inner left f
inner_on zero f h = absurd (h refl)
inner_on (suc n) f h = rw sub-one

-- at the row's end its answer is the cost and the breaks so far
pub rest_end : {k : Chunk} {wholes : List ℕ} {from to left : ℕ} {b : Option ℕ} {i cost : ℕ} {met : Option ℕ} → Rest k wholes from to left b i cost met → to ≤ i
    → (start : ℕ) → Begins (op_at k.ops.now) start from
    → ok (R.costs cost false (breaks_of met)) ≡ region_cost (chunk_of k) wholes start from to left 0 (breaks_of b)
rest_end {k} {wholes} {from} {to} {left} {b} {i} {cost} {met} r h start begins =
    L.region_end (chunk_of k) wholes start i to left cost (breaks_of met) (row-end (op_at k.ops.now) true i to r.row.0 r.row.1 h) ∙ r.same start begins

-- a row where it starts
pub rest_start : {k : Chunk} {from to : ℕ} (wholes : List ℕ) (left : ℕ) (b : Option ℕ) → HasRow (op_at k.ops.now) true from to → Rest k wholes from to left b from 0 b
rest_start wholes left b row = record { before = (end, refl); row = row; same = λ start begins. refl }

-- what a step asks and is told, as long as an op is left
pub rest_fits : {k : Chunk} {wholes : List ℕ} {from to left : ℕ} {b : Option ℕ} {i cost : ℕ} {met : Option ℕ} → Rest k wholes from to left b i cost met
    → RowFits k.ops.now from to → i < to → StepFits k.ops.now i to
rest_fits r f lt = record { here = lt; row = record { within = f.within; short = f.short; has_row = r.row } }

pub rest_inside : {k : Chunk} {wholes : List ℕ} {from to left : ℕ} {b : Option ℕ} {i cost : ℕ} {met : Option ℕ} → Rest k wholes from to left b i cost met
    → (start : ℕ) → Begins (op_at k.ops.now) start from → Inside (op_at k.ops.now) start from i
rest_inside r start begins = record { begins = begins; before = r.before }

-- and behind a step that goes on
pub rest_on : {k : Chunk} {wholes : List ℕ} {from to left : ℕ} {b : Option ℕ} {i cost : ℕ} {met : Option ℕ} → Rest k wholes from to left b i cost met
    → (next total : ℕ) (noted : Option ℕ)
    → ((start : ℕ) → Inside (op_at k.ops.now) start from i → StepMeans (chunk_of k) wholes start i to left cost (breaks_of met) (Ok (Goes total noted next)))
    → Rest k wholes from to left b next total noted
rest_on {k} {from = from} {i = i} r next total noted means =
    let (is, onward) = means from (rest_inside r from (range refl)) in
    let (far, within, mid, rest) = onward in
    record {
      before = has_grown (op_at k.ops.now) true from i next r.before mid;
      row = rest;
      same = λ start begins. (means start (rest_inside r start begins)).0 ∙ r.same start begins;
    }

module _ (k : Chunk) (wholes : List ℕ) where
  -- an If at i with EndIf at t, both charged: the step behind EndIf
  pub if_goes : (start : ℕ) {i t to : ℕ} → IfFits k.ops.now i t to → (left cost : ℕ) (b : Option ℕ) (arm : Cost)
      → ok (cost_of arm) ≡ part_cost (chunk_of k) wholes start (i + 1) t left (breaks_of b) → (y : ℕ) → ok y ≡ charge_at k.ops.now k.extras.now t
      → (first total : ℕ) → first ≡ min (cost + arm.cycles) (2 ^ 64 - 1) → total ≡ min (first + y) (2 ^ 64 - 1)
      → IfMeans (chunk_of k) wholes start i t to left cost (breaks_of b) (Ok (Goes total arm.breaks (t + 1)))
  if_goes start {i} {t} h left cost b arm walked y charged first total f s =
      let arm_is = rw add-one at walked in
      L.charge_is k wholes t y charged
      (λ d p c. let sum : total ≡ cut (cut (cost + arm.cycles) + cut d) = omega arith in
      rw (add-one, sum) (rw (← arm_is, L.uncalled k wholes t (λ o. omega (arith, h.at.closed)), p) refl, (omega (arith, if_within h), h.at.within, if_block_row h, h.at.rest)))

  -- both arms joined
  joined_means : (start : ℕ) {i e f to : ℕ} → ElseFits k.ops.now i e f to → (left cost : ℕ) (arm other : Cost) (r : O.Result Step)
      → r ≡ joined k.ops.now k.extras.now e f cost arm other
      → (step_result (chunk_of k) wholes start to left r ≡ arms_tail (chunk_of k) wholes start e f to left cost (cost_of arm) (cost_of other)) × Onward k.ops.now i to r
  joined_means start {i} {e} {f} h left cost arm other r is =
      let jump = L.uncalled k wholes e (λ o. omega (arith, eqb-true (kind (op_at k.ops.now e)) K.else h.at.is_else)) in
      let close = L.uncalled k wholes f (λ o. omega (arith, h.at.closed)) in
      rw (is, jump, close)
      (result (R.charge_of (chunk_of k) [] e)
      (λ d p. result (R.charge_of (chunk_of k) [] f)
      (λ g q. decide (arm.ends && other.ends) (λ t. rw (p, q, t) (refl, tt))
      (λ t. rw (p, q, t) (refl, (omega (arith, else_within h), h.at.within, else_block_row h, h.at.rest))))
      (λ n s q. rw (p, q) (refl, tt)))
      (λ n s p. rw p (refl, tt)))

  -- an If at i with Else at e and EndIf at f, both arms walked
  pub else_joins : (start : ℕ) {i e f to : ℕ} → ElseFits k.ops.now i e f to → (left cost : ℕ) (b : Option ℕ) (arm other : Cost)
      → ok (cost_of arm) ≡ part_cost (chunk_of k) wholes start (i + 1) e left (breaks_of b)
      → ok (cost_of other) ≡ part_cost (chunk_of k) wholes start (e + 1) f left (breaks_of arm.breaks)
      → (r : Result Step Fault) → stepped r ≡ joined k.ops.now k.extras.now e f cost arm other
      → ElseMeans (chunk_of k) wholes start i e f to left cost (breaks_of b) r
  else_joins start h left cost b arm other first second r is =
      let arm_is = rw add-one at first in
      let other_is = rw add-one at second in
      rw (← arm_is, ← other_is) (joined_means start h left cost arm other (stepped r) is)

  -- a Loop at i with EndLoop at e whose body never gets there
  pub loop_once : (start : ℕ) {i e to : ℕ} → LoopFits k.ops.now i e to → (left cost : ℕ) (b : Option ℕ) (body : Cost)
      → ok (cost_of body) ≡ part_cost (chunk_of k) wholes start (i + 1) e left R.unbroken → body.ends ≡ true
      → LoopMeans (chunk_of k) wholes start i e to left cost (breaks_of b) (Ok (one_pass_at e cost body b))
  loop_once start {i} {e} {to} h left cost b body walked t =
      let body_is = rw add-one at walked in
      rw (← body_is, t) (by body.breaks)
    where
      by : (x : Option ℕ)
          → (step_cost (chunk_of k) wholes start to left (pass_once x e cost body.cycles b)
          ≡ R.passes_cost cut (R.charge_of (chunk_of k) wholes) (placed_count (chunk_of k) start) true i e (R.costs body.cycles true (breaks_of x)) cost (breaks_of b)
          (λ n z. region_cost (chunk_of k) wholes start (suc e) to left n z))
          × Onward k.ops.now i to (ok (pass_once x e cost body.cycles b))
      by (Some c) = (refl, (omega (arith, loop_within h), h.at.within, loop_block_row h, h.at.rest))
      by None = (refl, tt)

  -- a Loop at i with EndLoop at e whose body reaches its end
  pub loop_passes : {start from i e to : ℕ} → Inside (op_at k.ops.now) start from i → LoopFits k.ops.now i e to → (left cost : ℕ) (b : Option ℕ) (body : Cost)
      → ok (cost_of body) ≡ part_cost (chunk_of k) wholes start (i + 1) e left R.unbroken → body.ends ≡ false
      → (r : Result Step Fault) → stepped r ≡ all_passes_at (chunk_of k) k.extras.now from i e cost body b
      → LoopMeans (chunk_of k) wholes start i e to left cost (breaks_of b) r
  loop_passes {start} {from} {i} {e} {to} s h left cost b body walked t r is =
      let body_is = rw add-one at walked in
      let behind : (i < suc e) × (suc e ≤ to) × HasRow (op_at k.ops.now) true i (suc e) × HasRow (op_at k.ops.now) true (suc e) to =
      (omega (arith, loop_within h), h.at.within, loop_block_row h, h.at.rest) in
      rw (is, row_placed (chunk_of k) s.before.0 true start from i s.begins s.before.1, ← body_is, t, L.uncalled k wholes e (λ o. omega (arith, h.at.closed)))
      (result (placed_count (chunk_of k) start i)
      (λ n p. result (R.charge_of (chunk_of k) [] e) (λ d q. rw (p, q) (refl, behind)) (λ m s q. rw (p, q) (refl, tt)))
      (λ m s p. rw p (refl, tt)))

-- an op with open text refuses the row
pub step_refused : (k : Chunk) (wholes : List ℕ) (start : ℕ) {i to : ℕ} → StepFits k.ops.now i to → (left cycles : ℕ) (b : Option ℕ) (n p : ℕ)
    → no n p ≡ charge_at k.ops.now k.extras.now i → (r : Result Step Fault) → stepped r ≡ no n p
    → StepMeans (chunk_of k) wholes start i to left cycles (breaks_of b) r
step_refused k wholes start {i} {to} s left cycles b n p charged r is =
    rw is (sym (L.region_refused k wholes start i to left cycles (breaks_of b) n p s.row.has_row s.here (L.charge_refused k wholes i n p charged)), tt)

-- what is known once the op at i is charged to a walk, without what a callee adds
pub record Charged (k : Chunk) (i to cycles cost : ℕ) : Type 0 where
  pub fits : StepFits k.ops.now i to
  pub exact : ℕ
  pub charge : R.charge_of (chunk_of k) [] i ≡ ok exact
  pub sum : cost ≡ cut (cycles + cut exact)

-- an op that is charged
pub step_charged : (k : Chunk) {i to : ℕ} → StepFits k.ops.now i to → (cycles x cost : ℕ) → ok x ≡ charge_at k.ops.now k.extras.now i
    → cost ≡ min (cycles + x) (2 ^ 64 - 1) → Charged k i to cycles cost
step_charged k {i} s cycles x cost charged sum =
    L.charge_is k [] i x charged (λ d p c. record { fits = s; exact = d; charge = p; sum = omega arith })

-- the op as the code reads it
read : {k : Chunk} {i to cycles cost : ℕ} → Charged k i to cycles cost → op_at k.ops.now i ≡ get_or k.ops.now i 0
read {k} {i} a = read_op k.ops.now i (omega (arith, a.fits.here, a.fits.row.within))

-- what the op at i, charged, makes of the walk of the row
module _ {k : Chunk} {i to cycles cost : ℕ} (a : Charged k i to cycles cost) (wholes : List ℕ) (left : ℕ) (b : Option ℕ) (start : ℕ) where
  -- a Call, with its callee's figure
  pub step_call : (callee whole total : ℕ) → Opens k.ops.now i to (Call callee) → TellsCall (get_or k.ops.now i 0) (Call callee)
      → whole ≡ get_or wholes callee 0 → total ≡ min (cost + whole) (2 ^ 64 - 1)
      → StepMeans (chunk_of k) wholes start i to left cycles (breaks_of b) (Ok (Goes total b (i + 1)))
  unfolding row_cost
  step_call callee whole total o w is sum =
      let charged = L.called k wholes i callee a.exact (rw (read a) w.0) (rw (read a) w.1) a.charge in
      let all : total ≡ cut (cycles + cut (a.exact + get_or wholes callee 0)) = omega (arith, a.sum) in
      rw add-one (rw (o.tree, charged, all) refl, (omega arith, a.fits.here, plain_row a.fits.row.has_row o, o.rest))

  -- an op that is no Call was charged in full
  module _ (uncalled : kind (get_or k.ops.now i 0) ≡ K.call → ⊥) where
    paid : R.charge_of (chunk_of k) wholes i ≡ ok a.exact
    paid = L.uncalled k wholes i (rw (read a) uncalled) ∙ a.charge

    -- an If, by its arm
    pub step_if : (t : ℕ) → Opens k.ops.now i to (If t) → (r : Result Step Fault)
        → ((to : ℕ) → IfFits k.ops.now i t to → IfMeans (chunk_of k) wholes start i t to left cost (breaks_of b) r)
        → StepMeans (chunk_of k) wholes start i to left cycles (breaks_of b) r
    unfolding row_cost
    step_if t o r m = rw (o.tree, paid, ← a.sum) (m to (record { row = a.fits.row; at = o }))

    -- an If with Else, by its arms
    pub step_else : (e f : ℕ) → Opens k.ops.now i to (IfElse e f) → (r : Result Step Fault)
        → ((to : ℕ) → ElseFits k.ops.now i e f to → ElseMeans (chunk_of k) wholes start i e f to left cost (breaks_of b) r)
        → StepMeans (chunk_of k) wholes start i to left cycles (breaks_of b) r
    unfolding row_cost
    step_else e f o r m = rw (o.tree, paid, ← a.sum) (m to (record { row = a.fits.row; at = o }))

    -- a Loop, by its body
    pub step_loop : (e : ℕ) → Opens k.ops.now i to (Loop e) → (r : Result Step Fault)
        → ((to : ℕ) → LoopFits k.ops.now i e to → LoopMeans (chunk_of k) wholes start i e to left cost (breaks_of b) r)
        → StepMeans (chunk_of k) wholes start i to left cycles (breaks_of b) r
    unfolding row_cost
    step_loop e o r m = rw (o.tree, paid, ← a.sum) (m to (record { row = a.fits.row; at = o }))

    -- Return or Trap
    pub step_ends : Opens k.ops.now i to B.Ends → StepMeans (chunk_of k) wholes start i to left cycles (breaks_of b) (Ok (Ends cost b))
    unfolding row_cost
    step_ends o = (rw (o.tree, paid, a.sum) refl, tt)

    -- Break, noted
    pub step_break : (n : Option ℕ) → Opens k.ops.now i to Break → n ≡ ord_max (option_cmp nat_cmp) b (Some cost)
        → StepMeans (chunk_of k) wholes start i to left cycles (breaks_of b) (Ok (Ends cost n))
    unfolding row_cost
    step_break n o z = (rw (z, L.noted b cost, o.behind.tree, paid, a.sum) refl, tt)

    -- BreakIf, noted
    pub step_break_if : (n : Option ℕ) → Opens k.ops.now i to BreakIf → n ≡ ord_max (option_cmp nat_cmp) b (Some cost)
        → StepMeans (chunk_of k) wholes start i to left cycles (breaks_of b) (Ok (Goes cost n (i + 1)))
    unfolding row_cost
    step_break_if n o z = rw add-one (rw (z, L.noted b cost, o.behind.tree, paid, a.sum) refl, (omega arith, a.fits.here, break_row a.fits.row.has_row o.behind, o.behind.rest))

    -- any other op
    pub step_plain : Opens k.ops.now i to Plain → StepMeans (chunk_of k) wholes start i to left cycles (breaks_of b) (Ok (Goes cost b (i + 1)))
    unfolding row_cost
    step_plain o = rw add-one (rw (o.tree, paid, a.sum) refl, (omega arith, a.fits.here, plain_row a.fits.row.has_row o, o.rest))
