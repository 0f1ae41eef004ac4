-- `value_is_beside` answers whether a row holds all that the search of a value stopped at.
-- Assumes nothing.
use Rattle.std.proofs.Common.{◌≡◌, ◌&&◌, Bool, List, ℕ, get_or, eqb, ◌-◌, sym, ◌∙◌, arith, inl, inr}
use mathlib.Core.Bool.{and-false}
use Rattle.rules.specs.Kinds as K
use Rattle.rules.specs.Outcome.{found}
use Rattle.rules.specs.Ops.{kind, op_at}
use Rattle.rules.specs.Sure.{stops_at, len_stops}
use Rattle.rules.specs.Placed.{all_of, beside}
use Rattle.count.specs.Count.{SetAt}
use Rattle.count.proofs.BalanceLaws.{value_stops, no_length, with_length, length_held}
use Rattle.count.proofs.sure.value_is_beside.Goals as goal
use Rattle.count.proofs.sure.value_is_beside.Goals.{then-at-eq1-via-then-at-eq1, then-at-eq1-via-else-at-eq1+then-not-is}

-- the SetLocal's own test, and what stands before it
whole : (from : ℕ) {ops : List ℕ} {n s v : ℕ} → SetAt ops n s v → {b : Bool} → beside (op_at ops) from n v ≡ b
    → all_of (beside (op_at ops) from n) (stops_at ops (found v)) ≡ (b && all_of (beside (op_at ops) from n) (len_stops ops (v - 1)))
whole from {ops} {n} {s} {v} h e = value_stops (beside (op_at ops) from n) ops v h.later (omega (arith, h.below, h.within)) ∙ rw e

pub returns-then-not-is_beside : goal.returns-then-not-is_beside
returns-then-not-is_beside c = sym (whole c.args.from c.requires.0.1 (sym c.is_beside.ensures ∙ c.if-not-is_beside.true))

pub returns-then-at-eq1 : goal.returns-then-at-eq1
returns-then-at-eq1 c =
    let a = c.args in
    let h = c.requires.0.1 in
    let f = beside (op_at a.ops.now) a.from a.p in
    sym (whole a.from h (sym c.is_beside.ensures ∙ c.if-not-is_beside.false)
    ∙ no_length f a.ops.now a.at h.later (omega (arith, h.below, h.within))
    (elim c.then-at-eq1.branch [
      | then-at-eq1-via-then-at-eq1 w ↦ inl w.if-at-eq1.true
      | then-at-eq1-via-else-at-eq1+then-not-is w ↦ inr (rw (sym w.is.ensures ∙ w.if-not-is.true))
    ]))

pub returns-then-not-is-2 : goal.returns-then-not-is-2
returns-then-not-is-2 c =
    let a = c.args in
    let h = c.requires.0.1 in
    let f = beside (op_at a.ops.now) a.from a.p in
    sym (whole a.from h (sym c.is_beside.ensures ∙ c.if-not-is_beside.false)
    ∙ no_length f a.ops.now a.at h.later (omega (arith, h.below, h.within))
    (inr (rw (sym c.is-2.ensures ∙ c.if-not-is-2.true) (and-false (eqb (kind (get_or a.ops.now (a.at - 1) 0)) K.len)))))

pub returns : goal.returns
returns c =
    let a = c.args in
    let h = c.requires.0.1 in
    let f = beside (op_at a.ops.now) a.from a.p in
    let held = sym c.is_beside.ensures ∙ c.if-not-is_beside.false in
    let len = sym c.is.ensures ∙ c.if-not-is.false in
    let get = sym c.is-2.ensures ∙ c.if-not-is-2.false in
    c.array_is_beside.ensures
    ∙ sym (whole a.from h held ∙ with_length f a.ops.now a.at h.later (omega (arith, h.below, h.within)) c.if-at-eq1.false (rw (len, get))
    ∙ length_held a.from h held c.if-at-eq1.false len get _)
