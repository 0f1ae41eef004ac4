-- `cycles` is the cycles of `figures_of`: one test over the rows shows them at each kind but 36 and 50. Assumes nothing.
use mathlib.Core.Path.{refl}
use mathlib.Core.Bool.{◌||◌}
use Prim.Native.Nat.{◌/◌}
use native.Mathlib.Omega.{arith}
use borrow.Author.Tests.{ne_eqb}
use lib.Dec.{eqb}
use Rattle.rules.specs.Ops.{kind, field_a, field_b, in_groups}
use Rattle.words.proofs.Table.{same}
use Rattle.words.proofs.FigureLaws.{figures_by, row_of, over}
use Rattle.words.proofs.figures.cycles.Goals as goal

pub returns-then-k : goal.returns-then-k
returns-then-k c = rw (over c.args.w c.if-k.true)

pub returns : goal.returns
unfolding in_groups
returns c = let w = c.args.w in
    rw c.row_of.ensures
    (same (λ k. eqb k 36 || eqb k 50) (λ k. row_of k / 16) (λ k. (figures_by k (field_b w) (field_a w)).cycles) 66 refl (kind w) (omega arith)
    (simp (ne_eqb _ _ c.if-k-2.false, ne_eqb _ _ c.if-k-3.false)))
