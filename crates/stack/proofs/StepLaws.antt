-- What a step of the stack walk gives at the op at i, from the level behind it, how the row opens there, and what the walk of its block gave.
-- Assumes nothing.
use mathlib.Core.Path.{◌≡◌, ◌∙◌}
use mathlib.Core.Bool.{Bool, true}
use mathlib.Core.List.{List}
use Prim.Native.Nat.{ℕ, suc, ◌+◌, ◌*◌}
use native.Mathlib.Numerals.{add-one}
use native.Mathlib.Omega.{arith}
use Rattle.std.specs.Prelude.{Result, Ok}
use Rattle.rules.specs.Outcome as O
use Rattle.rules.specs.Ops.{op_at}
use Rattle.rules.specs.Form.{Chunk}
use Rattle.rules.specs.Stack.{row_height}
use Rattle.words.specs.declared.refusals.Fault.{Fault}
use Rattle.rows.specs.Tree.{HasRow}
use Rattle.rows.specs.Opens.{Opens, StepFits, IfFits, ElseFits, LoopFits}
use Rattle.rows.specs.declared.block.Block.TheVariants.{Plain, Ends, Break, BreakIf, If, IfElse, Loop}
use Rattle.stack.specs.declared.level.Effect.{Effect}
use Rattle.stack.specs.declared.level.Level.{Level}
use Rattle.stack.specs.declared.region.Step.{Step}
use Rattle.stack.specs.declared.region.Step.TheVariants.{Goes}
use Rattle.stack.specs.Levels.{effect_at, level_over, marked_as, Small, SmallEffect}
use Rattle.stack.specs.Steps.{StepMeans, IfMeans, ElseMeans, LoopMeans, Onward, ended_at, stepped}
use Rattle.stack.proofs.LevelLaws.{over_small}
use Rattle.stack.proofs.BoundLaws.{small_more, onward_over}
use Rattle.stack.proofs.StackLaws.{behind_if, behind_else, behind_loop}

-- what is known once the op at i is counted: m is the level behind it
pub record Over (ops callees : List ℕ) (i to : ℕ) (l m : Level) : Type 0 where
  pub fits : StepFits ops i to
  pub is : m ≡ level_over l (effect_at ops callees i)
  pub grows : (b : ℕ) → Small l b → Small m (b + 65536)

-- the op is counted by its effect
pub over : {ops callees : List ℕ} {i to : ℕ} {l m : Level} {e : Effect} → StepFits ops i to → (e ≡ effect_at ops callees i) × SmallEffect e
    → m ≡ level_over l e → Over ops callees i to l m
over {l} {e} s f is = record { fits = s; is = rw f.0 at is; grows = λ b z. rw is (over_small l e b z f.1) }

module _ {ops callees : List ℕ} {i to : ℕ} {l m : Level} (a : Over ops callees i to l m) where
  -- the bound of the level behind the op
  pub behind_small : Small l (65536 * i) → Small m (65536 * suc i)
  behind_small z = small_more (a.grows _ z) (omega arith)

  -- what goes on behind the op goes on from it
  onward : (r : O.Result Step) → Onward ops i (suc i) to m r → Onward ops i i to l r
  onward r o = onward_over ops i to l m r a.fits.here a.grows o

  -- the row behind the op is the next step
  next : (broken : Bool) → HasRow (op_at ops) true (suc i) to → Onward ops i (suc i) to m (O.ok (Goes (suc i) (marked_as m broken)))
  next broken r = (omega arith, a.fits.here, r, λ b z. record { offset = omega arith; peak = omega arith })

  -- the row ends with the op
  ending : (broken : Bool) → Onward ops i (suc i) to m (O.ok (ended_at m.peak.0 broken))
  ending broken = λ b z. record { peak = omega arith; delta = tt }

-- what is there at i, and what the step there gives
module _ (c : Chunk) {callees : List ℕ} {i to : ℕ} {l m : Level} (a : Over c.ops callees i to l m) (left : ℕ) where
  -- an If
  pub step_if : {t : ℕ} → Opens c.ops i to (If t) → (r : Result Step Fault) → ((to : ℕ) → IfFits c.ops i t to → IfMeans c callees i t to left m r)
      → StepMeans c callees i to left l r
  step_if o r g =
      let n = g to (record { row = a.fits.row; at = o }) in
      (n.0 ∙ rw a.is (behind_if c callees i to left l _ o), onward a (stepped r) n.1)

  -- an If with an Else
  pub step_else : {e f : ℕ} → Opens c.ops i to (IfElse e f) → (r : Result Step Fault)
      → ((to : ℕ) → ElseFits c.ops i e f to → ElseMeans c callees i e f to left m r) → StepMeans c callees i to left l r
  step_else o r g =
      let n = g to (record { row = a.fits.row; at = o }) in
      (n.0 ∙ rw a.is (behind_else c callees i to left l _ _ o), onward a (stepped r) n.1)

  -- a Loop
  pub step_loop : {e : ℕ} → Opens c.ops i to (Loop e) → (r : Result Step Fault) → ((to : ℕ) → LoopFits c.ops i e to → LoopMeans c callees i e to left m r)
      → StepMeans c callees i to left l r
  step_loop o r g =
      let n = g to (record { row = a.fits.row; at = o }) in
      (n.0 ∙ rw a.is (behind_loop c callees i to left l _ o), onward a (stepped r) n.1)

  -- an op that ends the row
  pub step_ends : Opens c.ops i to Ends → (k : Step) → k ≡ ended_at m.peak.0 m.broken → StepMeans c callees i to left l (Ok k)
  unfolding row_height
  step_ends o k is = rw is (rw (a.is, o.tree), onward a (O.ok (ended_at m.peak.0 m.broken)) (ending a m.broken))

  -- a Break
  pub step_break : Opens c.ops i to Break → (k : Step) → k ≡ ended_at m.peak.0 true → StepMeans c callees i to left l (Ok k)
  unfolding row_height
  step_break o k is = rw is (rw (a.is, o.behind.tree), onward a (O.ok (ended_at m.peak.0 true)) (ending a true))

  -- a BreakIf
  pub step_break_if : Opens c.ops i to BreakIf → (n : Level) → n ≡ marked_as m true → StepMeans c callees i to left l (Ok (Goes (i + 1) n))
  unfolding row_height
  step_break_if o n is = rw (add-one i, is) (rw (a.is, o.behind.tree), onward a (O.ok (Goes (suc i) (marked_as m true))) (next a true o.behind.rest))

  -- an op that is passed over
  pub step_plain : Opens c.ops i to Plain → StepMeans c callees i to left l (Ok (Goes (i + 1) m))
  unfolding row_height
  step_plain o = rw (add-one i) (rw (a.is, o.tree), onward a (O.ok (Goes (suc i) m)) (next a m.broken o.rest))
