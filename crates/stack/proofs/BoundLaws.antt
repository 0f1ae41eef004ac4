-- How the bounds of levels and heights grow along a row and where arms meet.
-- Assumes nothing.
use mathlib.Core.Bool.{Bool, true, false}
use mathlib.Core.List.{List}
use Prim.Native.Nat.{ℕ, suc, ◌+◌, ◌-◌, ◌*◌, ◌<◌, ◌≤◌, max}
use native.Mathlib.Omega.{arith}
use Rattle.rules.specs.Outcome.{Result, ok, no}
use Rattle.rules.specs.Ops.{op_at}
use Rattle.rules.specs.Stack as R
use Rattle.rows.specs.Tree.{HasRow}
use Rattle.stack.specs.declared.level.Level.{Level}
use Rattle.stack.specs.declared.region.Step.{Step}
use Rattle.stack.specs.declared.region.Step.TheVariants.{Goes, Ends}
use Rattle.stack.specs.Levels.{raised_to, ends_at, Small, SmallDelta, SmallHeight}
use Rattle.stack.specs.Steps.{Onward, goes_on, joined, passed_once}

-- a bound may be greater
pub small_more : {l : Level} {b k : ℕ} → Small l b → b ≤ k → Small l k
small_more s h = record { offset = omega arith; peak = omega arith }

-- so may that of a delta
delta_more : (x : R.Delta) (b k : ℕ) → SmallDelta x b → b ≤ k → SmallDelta x k
delta_more (R.offset x) b k s h = omega arith
delta_more R.ends b k s h = tt

-- and that of a height
pub height_more : {h : R.Height} {b k : ℕ} → SmallHeight h b → b ≤ k → SmallHeight h k
height_more {h} {b} {k} s m = record { peak = omega arith; delta = delta_more h.delta b k s.delta m }

-- the height of a row that ends at a level is as small as the level
pub ends_small : {l : Level} {b : ℕ} → Small l b → SmallHeight (ends_at l) b
ends_small s = record { peak = s.peak; delta = s.offset }

-- the greater of two deltas is as small as both
greater_small : (d e : R.Delta) (b : ℕ) → SmallDelta d b → SmallDelta e b → SmallDelta (R.greater_delta d e) b
greater_small (R.offset x) (R.offset y) b h k = grind arith
greater_small (R.offset x) R.ends b h k = h
greater_small R.ends (R.offset y) b h k = k
greater_small R.ends R.ends b h k = tt

-- a step that goes on from the level behind an op goes on from the level before it
pub onward_over : (ops : List ℕ) (i to : ℕ) (l m : Level) (r : Result Step) → i < to → ((b : ℕ) → Small l b → Small m (b + 65536))
    → Onward ops i (suc i) to m r → Onward ops i i to l r
onward_over ops i to l m (ok (Goes j n)) lt grows o =
    (o.0, o.1, o.2, λ b s. let k = o.0 in small_more (o.3 (b + 65536) (grows b s)) (omega arith))
onward_over ops i to l m (ok (Ends h)) lt grows o = λ b s. height_more (o (b + 65536) (grows b s)) (omega arith)
onward_over ops i to l m (no n p) lt grows o = tt

-- behind arms or a body that close at f, from the level at i + 1
module _ (ops : List ℕ) (i f to : ℕ) (l : Level) (lt : i < f) (within : f < to) (rest : HasRow (op_at ops) true (suc f) to) where
  -- two arms as small as the row up to their end
  pub joined_onward : (arm other : R.Height)
      → ((b : ℕ) → Small l b → SmallHeight arm (b + 65536 * (f - suc i)) × SmallHeight other (b + 65536 * (f - suc i)))
      → Onward ops i (suc i) to l (ok (joined f l arm other))
  joined_onward arm other parts =
      (elim (R.greater_delta arm.delta other.delta) as (λ x. ((b : ℕ) → Small l b → SmallDelta x (b + 65536 * (f - suc i)))
      → Onward ops i (suc i) to l (ok (goes_on f (max (max l.peak.0 arm.peak) other.peak) x other.broken))) [
        | R.offset x ↦ λ g. (omega arith, within, rest, λ b s. let p = parts b s in let h = g b s in record { offset = omega arith; peak = omega arith })
        | R.ends ↦ λ g b s. let p = parts b s in record { peak = omega arith; delta = tt }
      ]) (λ b s. let p = parts b s in greater_small arm.delta other.delta _ p.0.delta p.1.delta)

  -- a body as small as the row up to its end, behind which the row goes on or ends
  pub passed_onward : (peak : ℕ) (met : Bool) → ((b : ℕ) → Small l b → peak ≤ b + 65536 * (f - suc i) + 134217728)
      → Onward ops i (suc i) to l (ok (passed_once f (raised_to l peak) met))
  passed_onward peak true most = (omega arith, within, rest, λ b s. let h = most b s in record { offset = omega arith; peak = omega arith })
  passed_onward peak false most = λ b s. let h = most b s in record { peak = omega arith; delta = tt }
