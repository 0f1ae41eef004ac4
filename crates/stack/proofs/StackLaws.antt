-- How the stack walk goes on behind an If, an Else and a Loop, said of plain values.
-- Assumes nothing.
use mathlib.Core.Path.{◌≡◌, refl}
use mathlib.Core.Bool.{Bool, true, false}
use mathlib.Core.List.{List}
use Prim.Native.Nat.{ℕ, suc, max}
use lib.IntN.{ℤ}
use Rattle.std.specs.Prelude.{Option, Some, None, is_some}
use Rattle.rules.specs.Outcome.{Result, ok, no, and_then}
use Rattle.rules.specs.Ops.{op_at}
use Rattle.rules.specs.Form.{Chunk}
use Rattle.rules.specs.Count.{count_at, count_of}
use Rattle.rules.specs.Stack as R
use Rattle.rules.specs.Stack.{row_height}
use Rattle.words.specs.Found.{found_of}
use Rattle.rows.specs.Opens.{IfAt, ElseAt, LoopAt}
use Rattle.stack.specs.declared.level.Level.{Level}
use Rattle.stack.specs.Levels.{effect_at, level_over, delta_of, lifted}
use Rattle.stack.specs.Steps.{region_height, level_height, body_height, lifted_by, step_height, if_tail, arms_tail, else_tail, loop_tail, goes_on, joined, passed_once}

-- what follows a part follows it as the row around it sees it
lift_then : (d : ℤ) (r : Result R.Height) (f g : R.Height → Result R.Height) → ((h : R.Height) → f (lifted d h) ≡ g h)
    → and_then (lifted_by d r) f ≡ and_then r g
lift_then d (ok h) f g same = same h
lift_then d (no n p) f g same = refl

module _ (c : Chunk) (callees : List ℕ) where
  -- a body that goes on and has a count leads on from the level before it
  pub body_goes : (delta : Option ℤ) (o : Option ℕ) (i : ℕ) → is_some delta ≡ true → found_of o ≡ count_at c.constants c.ops i → is_some o ≡ true
      → (met : Bool) (d : ℤ) (peak : ℕ) (broken : Bool) (rest : ℤ → ℕ → Bool → Result R.Height)
      → R.after_body (R.rise_of c callees) (R.move_of c) (count_of c) (delta_of delta) met i d peak broken rest ≡ rest d peak broken
  body_goes (Some x) (Some n) i g count h met d peak broken rest = rw (← count)
  body_goes (Some x) None i g count h met d peak broken rest = cc
  body_goes None o i g count h met d peak broken rest = cc

  -- one that ends leads on where a break was met, and else the row ends
  pub body_ends : (delta : Option ℤ) (i e to left : ℕ) (l : Level) → is_some delta ≡ false → (met : Bool) → step_height c callees to left (passed_once e l met)
      ≡ R.after_body (R.rise_of c callees) (R.move_of c) (count_of c) (delta_of delta) met i l.offset l.peak.0 l.broken
      (λ d p b. region_height c callees (suc e) to left d p b)
  body_ends (Some x) i e to left l h met = cc
  body_ends None i e to left l h true = refl
  body_ends None i e to left l h false = refl

  -- behind the op at i
  module _ (i to left : ℕ) (l : Level) where
    abbrev behind : Level
    behind = level_over l (effect_at c.ops callees i)

    -- the walk from an If on is that behind it
    pub behind_if : (t : ℕ) → IfAt (op_at c.ops) true i to t → if_tail c callees i t to left behind ≡ level_height c callees i to left l
    unfolding row_height
    behind_if t a = rw a.tree (lift_then behind.offset (body_height c callees (suc i) t left l.broken) _ _ (λ h. refl))

    -- the same with an Else
    pub behind_else : (e f : ℕ) → ElseAt (op_at c.ops) true i to e f → else_tail c callees i e f to left behind ≡ level_height c callees i to left l
    unfolding row_height
    behind_else e f a =
        rw a.tree (lift_then behind.offset (body_height c callees (suc i) e left l.broken) _ _
        (λ h. lift_then behind.offset (body_height c callees (suc e) f left h.broken) _ _ (λ j. refl)))

    -- and of a Loop
    pub behind_loop : (e : ℕ) → LoopAt (op_at c.ops) true i to e → loop_tail c callees i e to left behind ≡ level_height c callees i to left l
    unfolding row_height
    behind_loop e a =
        rw a.tree (lift_then behind.offset (body_height c callees (suc i) e left false) _ _
        (λ h. elim h.delta as (λ x. after h (R.part_delta behind.offset x) ≡ after h x) [ R.offset x ↦ refl | R.ends ↦ refl ]))
      where
        after : R.Height → R.Delta → Result R.Height
        after body x =
            R.after_body (R.rise_of c callees) (R.move_of c) (count_of c) x body.broken i behind.offset
            (R.part_peak behind.peak.0 behind.offset body) l.broken (λ d p b. region_height c callees (suc e) to left d p b)

  -- both arms joined, as a step
  pub joined_means : (f to left : ℕ) (l : Level) (arm other : R.Height)
      → step_height c callees to left (joined f l arm other) ≡ arms_tail c callees f to left l arm other
  joined_means f to left l arm other =
      let peak = max (max l.peak.0 arm.peak) other.peak in
      elim (R.greater_delta arm.delta other.delta) as (λ x. step_height c callees to left (goes_on f peak x other.broken)
      ≡ R.unless_ended x peak other.broken (λ d p b. region_height c callees (suc f) to left d p b)) [ R.offset x ↦ refl | R.ends ↦ refl ]
