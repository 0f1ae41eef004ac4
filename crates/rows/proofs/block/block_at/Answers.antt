-- `block_at` tells how a row opens at its first op.
-- Assumes nothing.
use mathlib.Core.Logic.{inl, inr}
use native.Mathlib.Omega.{arith}
use borrow.Author.Tests.{true-eqb, false-eqb}
use Rattle.rows.proofs.Openings.{if_reach, loop_reach, at_else, at_if, at_loop, at_break, at_break_if, at_end, at_call, at_plain}
use Rattle.rows.proofs.block.block_at.Goals as goal
use Rattle.rows.proofs.block.block_at.Goals.{then-is-7-via-then-is-7, then-is-7-via-else-is-7+then-is-8}

pub overflow_sub-e : goal.overflow_sub-e
overflow_sub-e c = omega (arith, if_reach c.requires.1 (true-eqb _ _ c.if-is.ensures))

pub bounds-ops-e : goal.bounds-ops-e
bounds-ops-e c = omega (arith, if_reach c.requires.1 (true-eqb _ _ c.if-is.ensures))

pub returns-then-is-2-clause-opens : goal.returns-then-is-2-clause-opens
returns-then-is-2-clause-opens c = λ to s. at_else s (true-eqb _ _ c.if-is.ensures) (true-eqb _ _ c.if-is-2.ensures)

pub returns-then-is-clause-opens : goal.returns-then-is-clause-opens
returns-then-is-clause-opens c = λ to s. at_if s (true-eqb _ _ c.if-is.ensures) (false-eqb _ _ c.if-is-2.ensures)

pub returns-then-is-3-clause-opens : goal.returns-then-is-3-clause-opens
returns-then-is-3-clause-opens c = λ to s. at_call s (true-eqb _ _ c.if-is-3.ensures)

pub overflow_sub-end : goal.overflow_sub-end
overflow_sub-end c = omega (arith, loop_reach c.requires.1 (true-eqb _ _ c.if-is-4.ensures))

pub returns-then-is-4-clause-opens : goal.returns-then-is-4-clause-opens
returns-then-is-4-clause-opens c = λ to s. at_loop s (true-eqb _ _ c.if-is-4.ensures)

pub returns-then-is-5-clause-opens : goal.returns-then-is-5-clause-opens
returns-then-is-5-clause-opens c = λ to s. at_break s (true-eqb _ _ c.if-is-5.ensures)

pub returns-then-is-6-clause-opens : goal.returns-then-is-6-clause-opens
returns-then-is-6-clause-opens c = λ to s. at_break_if s (true-eqb _ _ c.if-is-6.ensures)

pub returns-then-is-7-clause-opens : goal.returns-then-is-7-clause-opens
returns-then-is-7-clause-opens c =
    λ to s. at_end s (elim c.then-is-7.branch [
      | then-is-7-via-then-is-7 w ↦ inl (true-eqb _ _ w.if-is-7.ensures)
      | then-is-7-via-else-is-7+then-is-8 w ↦ inr (true-eqb _ _ w.if-is-8.ensures)
    ])

pub returns-clause-opens : goal.returns-clause-opens
returns-clause-opens c =
    λ to s. at_plain s (false-eqb _ _ c.if-is.ensures) (false-eqb _ _ c.if-is-4.ensures) (false-eqb _ _ c.if-is-5.ensures) (false-eqb _ _ c.if-is-6.ensures)
    (false-eqb _ _ c.if-is-7.ensures) (false-eqb _ _ c.if-is-8.ensures)
