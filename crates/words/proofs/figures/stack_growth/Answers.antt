-- `stack_growth` is the growth of `figures_of`: one test over the rows shows it at each kind below 64 but 36 and 50. Assumes nothing.
use mathlib.Core.Path.{refl, sym}
use mathlib.Core.Bool.{◌||◌}
use Prim.Native.Nat.{◌/◌, ◌%◌}
use native.Mathlib.Omega.{arith}
use borrow.Author.Tests.{lt-leb, ne_eqb}
use lib.Dec.{eqb, leb}
use Rattle.rules.specs.Ops.{kind, field_a, field_b, in_groups}
use Rattle.words.proofs.Table.{same, split}
use Rattle.words.proofs.FigureLaws.{figures_by, row_of, over, trap_growth}
use Rattle.words.proofs.figures.stack_growth.Goals as goal

pub returns-then-k-3 : goal.returns-then-k-3
returns-then-k-3 c = rw (over c.args.w c.if-k-3.true)

pub returns : goal.returns
unfolding in_groups
returns c = let w = c.args.w in
    rw c.row_of.ensures
    (split (kind w) 50 (λ e. rw e (sym (trap_growth (field_a w))))
    (λ n.
    same (λ k. eqb k 36 || eqb k 50 || leb 64 k) (λ k. row_of k / 2 % 8) (λ k. (figures_by k (field_b w) (field_a w)).growth) 66 refl (kind w) (omega arith)
    (simp (ne_eqb _ _ c.if-k.false, ne_eqb _ _ n, lt-leb _ _ c.if-k-2.false))))
