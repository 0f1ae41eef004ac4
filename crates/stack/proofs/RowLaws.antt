-- What the walk of a row gives, from the steps that it takes.
-- Assumes nothing.
use mathlib.Core.Path.{◌≡◌, ◌∙◌}
use mathlib.Core.Bool.{Bool, true}
use mathlib.Core.List.{List}
use Prim.Native.Nat.{ℕ, ◌-◌, ◌*◌, ◌<◌, ◌≤◌}
use native.Mathlib.Omega.{arith}
use lib.IntN.{pos}
use Rattle.std.specs.Prelude.{Ok}
use Rattle.rules.specs.Ops.{op_at}
use Rattle.rules.specs.Form.{Chunk}
use Rattle.rules.specs.Stack.{row_height}
use Rattle.rows.specs.Tree.{HasRow}
use Rattle.rows.specs.Opens.{RowFits, StepFits}
use Rattle.rows.proofs.TreeLaws.{tree_empty, row-end}
use Rattle.stack.specs.declared.level.Level.{Level}
use Rattle.stack.specs.declared.height.Height.{Height}
use Rattle.stack.specs.declared.region.Step.TheVariants.{Goes, Ends}
use Rattle.stack.specs.Levels.{height_of, ends_at, Small}
use Rattle.stack.specs.Steps.{region_height, level_height, RegionMeans, StepMeans}
use Rattle.stack.proofs.BoundLaws.{small_more, height_more, ends_small}

-- what is left of a row at i, with the level there, gives the row's answer
pub record Rest (c : Chunk) (callees : List ℕ) (from to left : ℕ) (broken : Bool) (i : ℕ) (l : Level) : Type 0 where
  pub from_start : from ≤ i
  pub row : HasRow (op_at c.ops) true i to
  pub small : Small l (65536 * (i - from))
  pub same : level_height c callees i to left l ≡ region_height c callees from to left (pos 0) 0 broken

module _ {c : Chunk} {callees : List ℕ} {from to left : ℕ} {broken : Bool} {i : ℕ} {l : Level} (r : Rest c callees from to left broken i l) where
  -- there is an op before the row's end
  pub rest_fits : RowFits c.ops from to → i < to → StepFits c.ops i to
  rest_fits f lt = record { here = lt; row = record { within = f.within; short = f.short; has_row = r.row } }

  -- the row's end is reached
  pub rest_end : to ≤ i → (h : Height) → height_of h ≡ ends_at l → RegionMeans c callees from to left broken (Ok h)
  unfolding row_height
  rest_end le h is =
      let e = row-end (op_at c.ops) true i to r.row.0 r.row.1 le in
      (rw (is, ← r.same, e, tree_empty (op_at c.ops) to), rw (is, ← e) (ends_small r.small))

  -- the step taken at i goes on
  pub rest_goes : {j : ℕ} {n : Level} → StepMeans c callees i to left l (Ok (Goes j n)) → Rest c callees from to left broken j n
  rest_goes m =
      let (lt, _, row, grows) = m.1 in
      let b = r.from_start in
      record { from_start = omega arith; row = row; small = small_more (grows _ r.small) (omega arith); same = m.0 ∙ r.same }

  -- or it ends the row
  pub rest_ends : (h : Height) → i < to → StepMeans c callees i to left l (Ok (Ends h)) → RegionMeans c callees from to left broken (Ok h)
  rest_ends h lt m = let b = r.from_start in (m.0 ∙ r.same, height_more (m.1 _ r.small) (omega arith))
