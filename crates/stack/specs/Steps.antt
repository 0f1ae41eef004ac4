-- What each step of the stack walk asks of a row, and what it gives.
use Rattle.std.specs.Prelude.{◌≡◌, Bool, true, false, List, ℕ, suc, ◌+◌, ◌-◌, ◌*◌, ◌≤◌, ◌<◌, None, Result, max, ℤ, pos, nat_abs}
use Rattle.rules.specs.Outcome as O
use Rattle.rules.specs.Ops.{op_at}
use Rattle.rules.specs.Form.{Chunk}
use Rattle.rules.specs.Count.{count_of}
use Rattle.rules.specs.Cycles.{inner}
use Rattle.rules.specs.Stack as R
use Rattle.rows.specs.Tree.{HasRow, tree_of}
use Rattle.rows.specs.Opens.{RowFits}
use Rattle.stack.specs.declared.level.Level.{Level}
use Rattle.words.specs.declared.refusals.Fault.{Fault}
use Rattle.words.specs.Refusals.{result_of}
use Rattle.stack.specs.declared.height.Height.{Height}
use Rattle.stack.specs.declared.region.Step.{Step}
use Rattle.stack.specs.declared.region.Step.TheVariants.{Goes, Ends}
use Rattle.stack.specs.Levels.{height_of, lifted, Small, SmallHeight}

-- the walk of the positions from i up to `to` of a chunk, with so many levels left, from an offset, a peak and breaks
abbrev pub region_height : Chunk → List ℕ → ℕ → ℕ → ℕ → ℤ → ℕ → Bool → O.Result R.Height
region_height c callees i to left d peak broken =
    R.row_height (R.rise_of c callees) (R.move_of c) (count_of c) (tree_of (op_at c.ops) i to) left d peak broken

-- the same from a level
abbrev pub level_height : Chunk → List ℕ → ℕ → ℕ → ℕ → Level → O.Result R.Height
level_height c callees i to left l = region_height c callees i to left l.offset l.peak.0 l.broken

-- the walk of a body, one level deeper
abbrev pub body_height : Chunk → List ℕ → ℕ → ℕ → ℕ → Bool → O.Result R.Height
body_height c callees from to left broken = inner left (λ l. region_height c callees from to l (pos 0) 0 broken)

-- a body's answer as the row around it sees it from offset d; a refusal stays
abbrev pub lifted_by : ℤ → O.Result R.Height → O.Result R.Height
lifted_by d (O.ok h) = O.ok (lifted d h)
lifted_by d (O.no n p) = O.no n p

-- the walk of a part of a row, as the row around it sees it
abbrev pub part_height : Chunk → List ℕ → ℕ → ℕ → ℕ → ℤ → Bool → O.Result R.Height
part_height c callees from to left d broken = lifted_by d (body_height c callees from to left broken)

-- what an answer of the walk stands for in document 01
abbrev pub walk_result : Result Height Fault → O.Result R.Height
walk_result r = result_of height_of r

-- a height within the bounds, or a refusal
abbrev pub SmallResult : O.Result R.Height → ℕ → Type 0
SmallResult (O.ok h) b = SmallHeight h b
SmallResult (O.no n p) b = Unit {0}

-- a row stands from i up to `to`, begun at a level that the ops before moved by at most 65,536 each
pub record PartFits (ops : List ℕ) (i to : ℕ) (l : Level) : Type 0 where
  pub ordered : i ≤ to
  pub row : RowFits ops i to
  pub small : Small l (65536 * i)

-- a row's height from its start; its bound grows by 65,536 an op
abbrev pub RegionMeans : Chunk → List ℕ → ℕ → ℕ → ℕ → Bool → Result Height Fault → Type 0
RegionMeans c callees from to left broken r =
    (walk_result r ≡ region_height c callees from to left (pos 0) 0 broken) × SmallResult (walk_result r) (65536 * (to - from))

-- a part's height as the row around it sees it
abbrev pub PartMeans : Chunk → List ℕ → ℕ → ℕ → ℕ → Level → Result Height Fault → Type 0
PartMeans c callees from to left l r =
    (walk_result r ≡ part_height c callees from to left l.offset l.broken)
    × ((b : ℕ) → nat_abs l.offset ≤ b → SmallResult (walk_result r) (b + 65536 * (to - from)))

-- what an answer of a step stands for
abbrev pub stepped : Result Step Fault → O.Result Step
stepped r = result_of (λ s. s) r

-- how a row that ends at `to` goes on from a step
abbrev pub step_height : Chunk → List ℕ → ℕ → ℕ → Step → O.Result R.Height
step_height c callees to left (Goes j l) = level_height c callees j to left l
step_height c callees to left (Ends h) = O.ok (height_of h)

-- how a row goes on from the answer of a step; a refusal stays
abbrev pub step_result : Chunk → List ℕ → ℕ → ℕ → O.Result Step → O.Result R.Height
step_result c callees to left r = O.and_then r (λ s. step_height c callees to left s)

-- a step from i goes on behind i, before a row; from the level at `at` on, its bound grows by 65,536 an op
abbrev pub Onward : List ℕ → ℕ → ℕ → ℕ → Level → O.Result Step → Type 0
Onward ops i at to l (O.ok (Goes j m)) =
    (i < j) × (j ≤ to) × HasRow (op_at ops) true j to × ((b : ℕ) → Small l b → Small m (b + 65536 * (j - at)))
Onward ops i at to l (O.ok (Ends h)) = (b : ℕ) → Small l b → SmallHeight (height_of h) (b + 65536 * (to - at))
Onward ops i at to l (O.no n p) = Unit {0}

-- a step that gives this result, and goes on
abbrev pub Means : Chunk → List ℕ → ℕ → ℕ → ℕ → ℕ → Level → O.Result R.Height → Result Step Fault → Type 0
Means c callees i at to left l result r =
    (step_result c callees to left (stepped r) ≡ result) × Onward c.ops i at to l (stepped r)

-- the walk from an op on
abbrev pub StepMeans : Chunk → List ℕ → ℕ → ℕ → ℕ → Level → Result Step Fault → Type 0
StepMeans c callees i to left l r = Means c callees i i to left l (level_height c callees i to left l) r

-- the walk behind an If: the arm, EndIf at t
abbrev pub if_tail : Chunk → List ℕ → ℕ → ℕ → ℕ → ℕ → Level → O.Result R.Height
if_tail c callees i t to left l =
    O.and_then (part_height c callees (suc i) t left l.offset l.broken)
    (λ arm. R.unless_ended (R.greater_delta (R.offset l.offset) arm.delta) (max l.peak.0 arm.peak) arm.broken
    (λ d p b. region_height c callees (suc t) to left d p b))

-- the step over an If whose arm ends at EndIf t
abbrev pub IfMeans : Chunk → List ℕ → ℕ → ℕ → ℕ → ℕ → Level → Result Step Fault → Type 0
IfMeans c callees i t to left l r = Means c callees i (suc i) to left l (if_tail c callees i t to left l) r

-- both arms walked: EndIf at f
abbrev pub arms_tail : Chunk → List ℕ → ℕ → ℕ → ℕ → Level → R.Height → R.Height → O.Result R.Height
arms_tail c callees f to left l arm other =
    R.unless_ended (R.greater_delta arm.delta other.delta) (max (max l.peak.0 arm.peak) other.peak) other.broken
    (λ d p b. region_height c callees (suc f) to left d p b)

-- the walk behind an If: first arm, Else at e, second arm, EndIf at f
abbrev pub else_tail : Chunk → List ℕ → ℕ → ℕ → ℕ → ℕ → ℕ → Level → O.Result R.Height
else_tail c callees i e f to left l =
    O.and_then (part_height c callees (suc i) e left l.offset l.broken)
    (λ arm. O.and_then (part_height c callees (suc e) f left l.offset arm.broken) (λ other. arms_tail c callees f to left l arm other))

-- the step over an If with Else at e and EndIf at f
abbrev pub ElseMeans : Chunk → List ℕ → ℕ → ℕ → ℕ → ℕ → ℕ → Level → Result Step Fault → Type 0
ElseMeans c callees i e f to left l r = Means c callees i (suc i) to left l (else_tail c callees i e f to left l) r

-- the walk behind a Loop: the body, EndLoop at e
abbrev pub loop_tail : Chunk → List ℕ → ℕ → ℕ → ℕ → ℕ → Level → O.Result R.Height
loop_tail c callees i e to left l =
    O.and_then (part_height c callees (suc i) e left l.offset false)
    (λ body. R.after_body (R.rise_of c callees) (R.move_of c) (count_of c) body.delta body.broken i l.offset
    (max l.peak.0 body.peak) l.broken (λ d p b. region_height c callees (suc e) to left d p b))

-- the step over a Loop with EndLoop at e
abbrev pub LoopMeans : Chunk → List ℕ → ℕ → ℕ → ℕ → ℕ → Level → Result Step Fault → Type 0
LoopMeans c callees i e to left l r = Means c callees i (suc i) to left l (loop_tail c callees i e to left l) r

-- a step that ends the row
abbrev pub ended_at : ℕ → Bool → Step
ended_at peak broken = Ends (record { peak = record { 0 = peak }; delta = None; broken = broken })

-- behind an EndIf, as a step
abbrev pub goes_on : ℕ → ℕ → R.Delta → Bool → Step
goes_on close peak (R.offset x) broken = Goes (suc close) (record { offset = x; peak = record { 0 = peak }; broken = broken })
goes_on close peak R.ends broken = ended_at peak broken

-- both arms walked, as a step
abbrev pub joined : ℕ → Level → R.Height → R.Height → Step
joined f l arm other =
    goes_on f (max (max l.peak.0 arm.peak) other.peak) (R.greater_delta arm.delta other.delta) other.broken

-- behind a Loop whose body never reaches its end, as a step
abbrev pub passed_once : ℕ → Level → Bool → Step
passed_once e l true = Goes (suc e) l
passed_once e l false = ended_at l.peak.0 l.broken
