-- `trace_literal_array_length` answers the length of the array in a slot. The position falls at each call of itself.
-- Assumes nothing.
use Rattle.std.proofs.Common.{◌≡◌, ℕ, ◌-◌, false, ◌&&◌, eqb, get_or, sym, ◌∙◌, arith, w64}
use Rattle.std.proofs.lemmas.Bool.{eq-eqb, ne_eqb}
use Rattle.std.proofs.lemmas.Int.{to_z_pos}
use Rattle.rules.specs.Kinds as K
use Rattle.rules.specs.Ops.{kind, field_a, field_b}
use Rattle.count.specs.Count.{SetAt}
use Rattle.count.proofs.SearchLaws.{set_at, array_told, array_at}
use Rattle.count.proofs.search.+trace_literal_array_length.Goals as goal
use Rattle.count.proofs.search.+trace_literal_array_length.Goals.{Else-at-eq0, Joined-else-is, else-is-via-then-is+else-w-eq1, else-is-via-else-is}

-- past the test for 0: where the search found the SetLocal
here : (t : ℕ) (c : Else-at-eq0 t) → let a = c.args in SetAt a.ops.now a.before a.slot c.in-Some.at
here t c = set_at _ _ _ _ c.in-Some.ensures c.if-at-eq0.false c.requires

-- past the test for a literal: there is none
no-literal : (t : ℕ) (c : Joined-else-is t) → let w = get_or c.args.ops.now (c.in-Some.at - 1) 0 in (eqb (kind w) K.new_composite && eqb (field_b w) 1) ≡ false
no-literal t c =
    elim c.else-is.branch [
      | else-is-via-then-is+else-w-eq1 w ↦ rw (sym c.is.ensures ∙ w.if-is.true, ne_eqb _ _ w.if-w-eq1.false)
      | else-is-via-else-is w ↦ rw (sym c.is.ensures ∙ w.if-is.false)
    ]

pub returns-in_default : goal.returns-in_default
returns-in_default t c = sym (array_told _ _ _ c.in_default.ensures)

pub returns-then-at-eq0 : goal.returns-then-at-eq0
returns-then-at-eq0 t c = sym (array_told _ _ _ (rw c.if-at-eq0.true at c.in-Some.ensures))

pub offset_bounds-ops-at : goal.offset_bounds-ops-at
offset_bounds-ops-at t c = omega (arith, here t (goal.at.offset_bounds-ops-at t c).Else-at-eq0)

pub bounds-ops-at : goal.bounds-ops-at
bounds-ops-at t c = omega (arith, here t (goal.at.bounds-ops-at t c).Else-at-eq0)

pub returns-then-w-eq1 : goal.returns-then-w-eq1
returns-then-w-eq1 t c =
    let w = get_or c.args.ops.now (c.in-Some.at - 1) 0 in
    rw (to_z_pos w64 (field_a w) (omega arith))
    (sym (array_at (here t (goal.at.returns-then-w-eq1 t c).Else-at-eq0) ∙ rw (sym c.is.ensures ∙ c.if-is.true, eq-eqb _ _ c.if-w-eq1.true)))

pub trace_literal_array_length-requires : goal.trace_literal_array_length-requires
trace_literal_array_length-requires t c = let h = here t (goal.at.trace_literal_array_length-requires t c).Else-at-eq0 in (omega arith, omega arith)

pub returns-then-is-2 : goal.returns-then-is-2
returns-then-is-2 t c =
    c.trace_literal_array_length.ensures
    ∙ sym (array_at (here t (goal.at.returns-then-is-2 t c).Else-at-eq0)
    ∙ rw (no-literal t (goal.at.returns-then-is-2 t c).Joined-else-is, sym c.is-2.ensures ∙ c.if-is-2.true))

pub returns : goal.returns
returns t c =
    sym (array_at (here t (goal.at.returns t c).Else-at-eq0)
    ∙ rw (no-literal t (goal.at.returns t c).Joined-else-is, sym c.is-2.ensures ∙ c.if-is-2.false))
