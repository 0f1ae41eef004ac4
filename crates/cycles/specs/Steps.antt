-- What each step of the cycle walk asks of a row, and what it gives.
use Rattle.std.specs.Prelude.{◌≡◌, Bool, true, false, ◌&&◌, List, ℕ, suc, ◌+◌, ◌*◌, ◌≤◌, ◌<◌, Option, Some, None, Result, min, max}
use Rattle.rules.specs.Outcome as O
use Rattle.rules.specs.Ops.{op_at}
use Rattle.rules.specs.Form.{Chunk}
use Rattle.rules.specs.Placed.{placed_count, row_count, Begins}
use Rattle.rules.specs.Cycles as R
use Rattle.words.specs.declared.refusals.Fault.{Fault}
use Rattle.words.specs.Refusals.{result_of}
use Rattle.rows.specs.Tree.{HasRow}
use Rattle.cycles.specs.declared.region.Cost.{Cost}
use Rattle.cycles.specs.declared.region.Step.{Step}
use Rattle.cycles.specs.declared.region.Step.TheVariants.{Goes, Ends}
use Rattle.cycles.specs.Answers.{wide_cap, breaks_of, charge_at, region_cost, part_cost}

abbrev pub cut : ℕ → ℕ
cut n = min wide_cap n

-- The row at hand begins at `from`, in a range that begins at `start`, and what it has before i is a row too.
pub record Inside (op : ℕ → ℕ) (start from i : ℕ) : Type 0 where
  pub begins : Begins op start from
  pub before : HasRow op true from i

-- how a row that ends at `to`, in a range that begins at `start`, goes on from a step
abbrev pub step_cost : Chunk → List ℕ → ℕ → ℕ → ℕ → Step → O.Result R.Cost
step_cost c wholes start to left (Goes k b j) = region_cost c wholes start j to left k (breaks_of b)
step_cost c wholes start to left (Ends k b) = O.ok (R.costs k true (breaks_of b))

abbrev pub step_result : Chunk → List ℕ → ℕ → ℕ → ℕ → O.Result Step → O.Result R.Cost
step_result c wholes start to left r = O.and_then r (λ s. step_cost c wholes start to left s)

-- a step from i goes on behind i, behind a row and before one
abbrev pub Onward : List ℕ → ℕ → ℕ → O.Result Step → Type 0
Onward ops i to (O.ok (Goes k b j)) = (i < j) × (j ≤ to) × HasRow (op_at ops) true i j × HasRow (op_at ops) true j to
Onward ops i to (O.ok (Ends k b)) = Unit {0}
Onward ops i to (O.no n p) = Unit {0}

abbrev pub stepped : Result Step Fault → O.Result Step
stepped r = result_of (λ s. s) r

-- a step that gives this result, and goes on
abbrev pub Means : Chunk → List ℕ → ℕ → ℕ → ℕ → ℕ → O.Result R.Cost → Result Step Fault → Type 0
Means c wholes start i to left result r = (step_result c wholes start to left (stepped r) ≡ result) × Onward c.ops i to (stepped r)

-- the walk from an op on
abbrev pub StepMeans : Chunk → List ℕ → ℕ → ℕ → ℕ → ℕ → ℕ → R.Breaks → Result Step Fault → Type 0
StepMeans c wholes start i to left cost breaks r = Means c wholes start i to left (region_cost c wholes start i to left cost breaks) r

-- the walk behind an If that was charged: arm, EndIf at t
abbrev pub if_tail : Chunk → List ℕ → ℕ → ℕ → ℕ → ℕ → ℕ → ℕ → R.Breaks → O.Result R.Cost
if_tail c wholes start i t to left cost breaks =
    O.and_then (part_cost c wholes start (suc i) t left breaks)
    (λ arm. O.and_then (R.charge_of c wholes t)
    (λ d. region_cost c wholes start (suc t) to left (cut (cut (cost + arm.cycles) + cut d)) arm.breaks))

abbrev pub IfMeans : Chunk → List ℕ → ℕ → ℕ → ℕ → ℕ → ℕ → ℕ → R.Breaks → Result Step Fault → Type 0
IfMeans c wholes start i t to left cost breaks r = Means c wholes start i to left (if_tail c wholes start i t to left cost breaks) r

-- both arms walked: Else at e, EndIf at f
abbrev pub arms_tail : Chunk → List ℕ → ℕ → ℕ → ℕ → ℕ → ℕ → ℕ → R.Cost → R.Cost → O.Result R.Cost
arms_tail c wholes start e f to left cost arm other =
    O.and_then (R.charge_of c wholes e)
    (λ d. O.and_then (R.charge_of c wholes f)
    (λ g. R.unless_ends (arm.ends && other.ends) (cut (cut (cost + max (cut (arm.cycles + cut d)) other.cycles) + cut g)) other.breaks
    (λ k b. region_cost c wholes start (suc f) to left k b)))

-- the walk behind an If that was charged: first arm, second arm, Else at e, EndIf at f
abbrev pub else_tail : Chunk → List ℕ → ℕ → ℕ → ℕ → ℕ → ℕ → ℕ → ℕ → R.Breaks → O.Result R.Cost
else_tail c wholes start i e f to left cost breaks =
    O.and_then (part_cost c wholes start (suc i) e left breaks)
    (λ arm. O.and_then (part_cost c wholes start (suc e) f left arm.breaks) (λ other. arms_tail c wholes start e f to left cost arm other))

abbrev pub ElseMeans : Chunk → List ℕ → ℕ → ℕ → ℕ → ℕ → ℕ → ℕ → ℕ → R.Breaks → Result Step Fault → Type 0
ElseMeans c wholes start i e f to left cost breaks r = Means c wholes start i to left (else_tail c wholes start i e f to left cost breaks) r

-- the walk behind a Loop that was charged: body, passes, EndLoop at e
abbrev pub loop_tail : Chunk → List ℕ → ℕ → ℕ → ℕ → ℕ → ℕ → ℕ → R.Breaks → O.Result R.Cost
loop_tail c wholes start i e to left cost breaks =
    O.and_then (part_cost c wholes start (suc i) e left R.unbroken)
    (λ body. R.passes_cost cut (R.charge_of c wholes) (placed_count c start) body.ends i e body cost breaks (λ k b. region_cost c wholes start (suc e) to left k b))

abbrev pub LoopMeans : Chunk → List ℕ → ℕ → ℕ → ℕ → ℕ → ℕ → ℕ → R.Breaks → Result Step Fault → Type 0
LoopMeans c wholes start i e to left cost breaks r = Means c wholes start i to left (loop_tail c wholes start i e to left cost breaks) r

abbrev pub ends_or : Bool → ℕ → ℕ → Option ℕ → Step
ends_or true j cost b = Ends cost b
ends_or false j cost b = Goes cost b j

-- both arms walked, as a step
abbrev pub joined : List ℕ → List ℕ → ℕ → ℕ → ℕ → Cost → Cost → O.Result Step
joined ops extras e f cost arm other =
    O.and_then (charge_at ops extras e)
    (λ d. O.and_then (charge_at ops extras f)
    (λ g. O.ok (ends_or (arm.ends && other.ends) (suc f) (cut (cut (cost + max (cut (arm.cycles + d)) other.cycles) + g)) other.breaks)))

abbrev pub pass_once : Option ℕ → ℕ → ℕ → ℕ → Option ℕ → Step
pass_once (Some costliest) e cost cycles b = Goes (cut (cost + max cycles costliest)) b (suc e)
pass_once None e cost cycles b = Ends (cut (cost + cycles)) b

-- a body that never reaches its end, as a step
abbrev pub one_pass_at : ℕ → ℕ → Cost → Option ℕ → Step
one_pass_at e cost body b = pass_once body.breaks e cost body.cycles b

-- the cost behind n passes of a body and its EndLoop, charged d, with the costliest break
abbrev pub passes_sum : ℕ → Cost → ℕ → ℕ → ℕ
passes_sum cost body n d = cut (cost + cut (cut (cut (body.cycles + d) * n) + R.break_cost (breaks_of body.breaks)))

-- a body that reaches its end, as a step: its count, which is sure in the row that begins at `from`, EndLoop at e, and the passes
abbrev pub all_passes_at : Chunk → List ℕ → ℕ → ℕ → ℕ → ℕ → Cost → Option ℕ → O.Result Step
all_passes_at c extras from i e cost body b =
    O.and_then (row_count c from i)
    (λ n. O.and_then (charge_at c.ops extras e) (λ d. O.ok (Goes (passes_sum cost body n d) b (suc e))))
