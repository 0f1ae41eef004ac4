-- `last_set` answers the last position below `before` whose op sets the slot. The loop's invariant: what is left gives the whole.
-- Assumes nothing.
use mathlib.Core.Path.{◌≡◌, sym, ◌∙◌}
use Prim.Native.Nat.{◌≤◌}
use native.Mathlib.Omega.{arith}
use Rattle.rules.specs.Count.{last_set}
use Rattle.count.proofs.SearchLaws.{last_none, last_step}
use Rattle.count.proofs.search.last_set.Goals as goal
use Rattle.count.proofs.search.last_set.Goals.{Joined-far-before, then-far-before, else-far-before}

-- behind the pieces that were passed over, if any
past : (c : Joined-far-before) → let a = c.args in (c.if-far-before.i ≤ c.loop-i.i) × (last_set a.ops.now a.before a.slot ≡ last_set a.ops.now c.if-far-before.i a.slot)
past c =
    elim c.if-far-before.branch [
      | then-far-before w ↦ rw w.i-is (w.past_pieces-i.ensures.0, c.loop-i.invariant.1 ∙ w.past_pieces-i.ensures.1)
      | else-far-before w ↦ rw w.i-is (omega arith, c.loop-i.invariant.1)
    ]

pub loop-i-preserved : goal.loop-i-preserved
loop-i-preserved c = let b = past (goal.at.loop-i-preserved c).Joined-far-before in
    (omega arith, b.1 ∙ last_step _ _ _ c.if-i-eq0.false (omega arith) (sym c.has_slot.ensures ∙ c.if-has_slot.false))

pub returns-then-i-eq0 : goal.returns-then-i-eq0
returns-then-i-eq0 c = sym ((past (goal.at.returns-then-i-eq0 c).Joined-far-before).1 ∙ last_none _ _ _ c.if-i-eq0.true)

pub returns-then-has_slot : goal.returns-then-has_slot
returns-then-has_slot c = let b = past (goal.at.returns-then-has_slot c).Joined-far-before in
    sym (b.1 ∙ last_step _ _ _ c.if-i-eq0.false (omega arith) (sym c.has_slot.ensures ∙ c.if-has_slot.true))
