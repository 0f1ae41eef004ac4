-- What each step of the coverage walk asks of a row, and what it gives.
use Rattle.std.specs.Prelude.{◌≡◌, Bool, true, List, ℕ, suc, ◌≤◌, ◌<◌, Option, Some, None}
use Rattle.rules.specs.Ops.{op_at}
use Rattle.rules.specs.Yields as R
use Rattle.rows.specs.Tree.{HasRow}
use Rattle.yields.specs.declared.region.Cover.{Cover}
use Rattle.yields.specs.declared.region.Step.{Step}
use Rattle.yields.specs.declared.region.Step.TheVariants.{Goes, Ends}
use Rattle.yields.specs.Answers.{noted_of, behind_arms, region_cover, part_cover}

-- how a row that ends at `to` goes on from a step
abbrev pub step_cover : List ℕ → List ℕ → ℕ → ℕ → Step → R.Cover
step_cover ops lent to left (Goes y b j) = region_cover ops lent j to left y (noted_of b)
step_cover ops lent to left (Ends b) = R.cover R.never (noted_of b)

-- a step from i goes on behind i, before a row
abbrev pub Onward : List ℕ → ℕ → ℕ → Step → Type 0
Onward ops i to (Goes y b j) = (i < j) × (j ≤ to) × HasRow (op_at ops) true j to
Onward ops i to (Ends b) = Unit {0}

-- a step that gives this cover, and goes on
abbrev pub Means : List ℕ → List ℕ → ℕ → ℕ → ℕ → R.Cover → Step → Type 0
Means ops lent i to left result s = (step_cover ops lent to left s ≡ result) × Onward ops i to s

-- the walk from an op on
abbrev pub StepMeans : List ℕ → List ℕ → ℕ → ℕ → ℕ → Bool → R.Noted → Step → Type 0
StepMeans ops lent i to left y b s = Means ops lent i to left (region_cover ops lent i to left y b) s

-- the walk from an If on: arm, EndIf at t
abbrev pub if_tail : List ℕ → List ℕ → ℕ → ℕ → ℕ → ℕ → Bool → R.Noted → R.Cover
if_tail ops lent i t to left y b =
    let arm = part_cover ops lent (suc i) t left y b in
    region_cover ops lent (suc t) to left (R.after_arm arm.coverage y) arm.breaks

abbrev pub IfMeans : List ℕ → List ℕ → ℕ → ℕ → ℕ → ℕ → Bool → R.Noted → Step → Type 0
IfMeans ops lent i t to left y b s = Means ops lent i to left (if_tail ops lent i t to left y b) s

-- the walk from an If on: both arms, Else at e, EndIf at f
abbrev pub arms_tail : List ℕ → List ℕ → ℕ → ℕ → ℕ → R.Cover → R.Cover → R.Cover
arms_tail ops lent f to left arm other =
    R.unless_never (R.after_arms arm.coverage other.coverage) other.breaks (λ z. region_cover ops lent (suc f) to left z other.breaks)

abbrev pub else_tail : List ℕ → List ℕ → ℕ → ℕ → ℕ → ℕ → ℕ → Bool → R.Noted → R.Cover
else_tail ops lent i e f to left y b =
    let arm = part_cover ops lent (suc i) e left y b in
    arms_tail ops lent f to left arm (part_cover ops lent (suc e) f left y arm.breaks)

abbrev pub ElseMeans : List ℕ → List ℕ → ℕ → ℕ → ℕ → ℕ → ℕ → Bool → R.Noted → Step → Type 0
ElseMeans ops lent i e f to left y b s = Means ops lent i to left (else_tail ops lent i e f to left y b) s

-- the walk from a Loop on: body, EndLoop at e
abbrev pub loop_tail : List ℕ → List ℕ → ℕ → ℕ → ℕ → ℕ → Bool → R.Noted → R.Cover
loop_tail ops lent i e to left y b =
    R.after_loop (part_cover ops lent (suc i) e left y R.no_break).breaks b (λ z. region_cover ops lent (suc e) to left z b)

abbrev pub LoopMeans : List ℕ → List ℕ → ℕ → ℕ → ℕ → ℕ → Bool → R.Noted → Step → Type 0
LoopMeans ops lent i e to left y b s = Means ops lent i to left (loop_tail ops lent i e to left y b) s

-- both arms joined, as a step
abbrev pub goes_or_ends : Option Bool → Option Bool → ℕ → Step
goes_or_ends (Some y) b j = Goes y b j
goes_or_ends None b j = Ends b

abbrev pub joined : ℕ → Cover → Cover → Step
joined f arm other = goes_or_ends (behind_arms arm.coverage other.coverage) other.breaks (suc f)

-- behind a loop, as a step: m are the breaks of its body
abbrev pub left_by : ℕ → Option Bool → Option Bool → Step
left_by e m b = goes_or_ends m b (suc e)
