-- `array_is_beside` answers whether a row holds all that an array's search stops at. The loop's invariant: what is left to be followed decides.
-- Assumes nothing.
use Rattle.std.proofs.Common.{◌≡◌, ℕ, Bool, true, List, [], sym, ◌∙◌, arith}
use Rattle.rules.specs.Ops.{op_at}
use Rattle.rules.specs.Placed.{all_of, beside}
use Rattle.count.specs.Count.{SetAt}
use Rattle.count.proofs.SearchLaws.{set_at}
use Rattle.count.proofs.BalanceLaws.{array_none, array_first, not_held, held_alone, held_copy}
use Rattle.count.proofs.sure.array_is_beside.Goals as goal
use Rattle.count.proofs.sure.array_is_beside.Goals.{Else-at-eq0}

-- past the test for 0: where the search found the SetLocal
here : (c : Else-at-eq0) → SetAt c.args.ops.now c.loop-at.i c.loop-at.slot c.in-Some.at
here c = set_at _ _ _ _ c.in-Some.ensures c.if-at-eq0.false (omega (arith, c.requires, c.loop-at.invariant.0))

-- nothing is left
no_stops : (f : ℕ → Bool) (ss : List ℕ) → ss ≡ [] → true ≡ all_of f ss
unfolding all_of
no_stops f ss e = rw e

pub is_beside-requires : goal.is_beside-requires
is_beside-requires c = let h = here (goal.at.is_beside-requires c).Else-at-eq0 in (h.below, h.within, omega (arith, c.requires))

pub offset_bounds-ops-at : goal.offset_bounds-ops-at
offset_bounds-ops-at c = omega (arith, here (goal.at.offset_bounds-ops-at c).Else-at-eq0)

pub bounds-ops-at : goal.bounds-ops-at
bounds-ops-at c = omega (arith, here (goal.at.bounds-ops-at c).Else-at-eq0)

pub loop-at-smaller : goal.loop-at-smaller
loop-at-smaller c = omega (arith, here (goal.at.loop-at-smaller c).Else-at-eq0)

pub loop-at-preserved : goal.loop-at-preserved
loop-at-preserved c =
    let h = here (goal.at.loop-at-preserved c).Else-at-eq0 in (
      omega (arith, h, c.loop-at.invariant.0),
      c.loop-at.invariant.1 ∙ held_copy c.args.from h (sym c.is_beside.ensures ∙ c.if-not-is_beside.false) (sym c.is.ensures ∙ c.if-not-is.false),
    )

pub returns-in_default : goal.returns-in_default
returns-in_default c =
    rw c.loop-at.invariant.1 (no_stops (beside (op_at c.args.ops.now) c.args.from c.loop-at.i) _ (array_none c.args.ops.now c.loop-at.i c.loop-at.slot c.in_default.ensures))

pub returns-then-at-eq0 : goal.returns-then-at-eq0
returns-then-at-eq0 c =
    rw c.loop-at.invariant.1 (no_stops (beside (op_at c.args.ops.now) c.args.from c.loop-at.i) _
    (array_first c.args.ops.now c.loop-at.i c.loop-at.slot (rw c.if-at-eq0.true at c.in-Some.ensures)))

pub returns-then-not-is_beside : goal.returns-then-not-is_beside
returns-then-not-is_beside c =
    let h = here (goal.at.returns-then-not-is_beside c).Else-at-eq0 in
    sym (c.loop-at.invariant.1 ∙ not_held c.args.from h (sym c.is_beside.ensures ∙ c.if-not-is_beside.true))

pub returns-then-not-is : goal.returns-then-not-is
returns-then-not-is c =
    let h = here (goal.at.returns-then-not-is c).Else-at-eq0 in
    sym (c.loop-at.invariant.1 ∙ held_alone c.args.from h (sym c.is_beside.ensures ∙ c.if-not-is_beside.false) (sym c.is.ensures ∙ c.if-not-is.true))
