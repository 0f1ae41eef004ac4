-- Both walks against those with distances not divided, which are the Rust's: where these answer, the cycle walk answers with at most their figure and the
-- stack walk with the same, and their refusals but 9 are the walks' too; unless the cycle walk is refused by 2.8's 16. Assumes nothing.
use mathlib.Core.Path.{◌≡◌, refl, sym, ap, ◌∙◌}
use mathlib.Core.Bool.{Bool, true, false}
use mathlib.Core.List.{[]}
use mathlib.Core.Logic.{inl, inr, ⊎_elim}
use Prim.Native.Nat.{ℕ, ◌≤◌}
use native.Mathlib.Omega.{arith}
use lib.IntN.{ℤ, pos}
use Rattle.rules.specs.Limits.{deepest}
use Rattle.rules.specs.Numbers as N
use Rattle.rules.specs.Outcome.{Result, ok, no, and_then}
use Rattle.rules.specs.Form.{Chunk}
use Rattle.rules.specs.Rows.{Row, end, step, stop, leave, leave_if, if_then, if_else, loop, chunk_row}
use Rattle.rules.specs.Count.{count_of}
use Rattle.rules.specs.Cycles.{unbroken, inner, charge_of, Cost, Cycles, cycles_of, row_cycles, chunk_cycles}
use Rattle.rules.specs.Stack.{Delta, offset, ends, Height, greater_delta, part_delta, part_peak, unless_ended, during, behind, after_body, rise_of, move_of, row_height, stack_of, row_stack, chunk_stack}
use Rattle.rules.specs.StepClaims.{undivided, undivided_cost, undivided_cycles, undivided_height, undivided_stack, RefusedAlike, CyclesBelow, StackSame}
use Rattle.rules.specs.SureClaims.{counted_cost, counted_cycles}
use Rattle.rules.proofs.Below.{Below, less_n, LessCost, same_below, then_below, inner_below, walk_below}
use Rattle.rules.proofs.TailStep.{spared, counts_below}
use Rattle.rules.proofs.UnsureAdded.{unsure_added}

-- answers and refusals told apart
told : {A : Type 0} (Less : A → A → Type 0) (x y : Result A) → Below spared Less x y
    → ((k : A) → y ≡ ok k → (j : A) × (x ≡ ok j) × Less j k) × RefusedAlike x y
told Less (ok j) (ok k) h =
    (λ l e. (j, refl, let same : k ≡ l = cc in rw (← same) h), λ n p apart e. absurd (let z : ◌≡◌ {A = ℕ} 0 1 = cc in omega arith))
told Less (no n p) (ok k) h = absurd h
told Less x (no n p) h = (
  λ l e. absurd (let z : ◌≡◌ {A = ℕ} 0 1 = cc in omega arith),
  λ m q apart e. ⊎_elim (λ f. f ∙ e) (λ s. absurd (apart (let same : n ≡ m = cc in sym same ∙ s))) h,
)

abbrev Equal : {A : Type 0} → A → A → Type 0
Equal x y = x ≡ y

-- a range that is a row, walked in two ways
by_row : {A : Type 0} (P : A → A → Type 0) (x : Result Row) (f g : Row → Result A) → ((r : Row) → Below spared P (f r) (g r))
    → Below spared P (and_then x f) (and_then x g)
by_row P (ok r) f g h = h r
by_row P (no n p) f g h = inl refl

-- the cycle walk
abbrev LessCycles : Cycles → Cycles → Type 0
LessCycles j k = (j.cycles ≤ k.cycles) × (j.ends ≡ k.ends)

cut_below : (x y : Result Cost) → Below spared LessCost x y
    → Below spared LessCycles (and_then x (λ k. ok (cycles_of k))) (and_then y (λ k. ok (cycles_of k)))
cut_below (ok j) (ok k) h = (omega (arith, h.0), h.1)
cut_below (no n p) (ok k) h = absurd h
cut_below x (no n p) h = ⊎_elim (λ e. inl (rw e)) (λ s. inr s) h

counted_below : (c : Chunk) → Below spared LessCycles (counted_cycles c) (undivided_cycles c)
counted_below c =
    by_row LessCycles (chunk_row c) (λ r. and_then (counted_cost c [] r) (λ k. ok (cycles_of k))) (λ r. and_then (undivided_cost c r) (λ k. ok (cycles_of k))) (λ r.
    cut_below (counted_cost c [] r) (undivided_cost c r)
    (walk_below spared (charge_of c []) (charge_of c []) (count_of c) (undivided c) (λ i. same_below spared less_n (λ n. omega arith) (charge_of c [] i))
    (counts_below c) r deepest 0 0 unbroken unbroken (omega arith) tt))

-- which is the cycle walk, where that is not refused by 16
as_counted : (c : Chunk) → ((p : ℕ) → chunk_cycles c ≡ no N.unsure_count p → ⊥) → chunk_cycles c ≡ counted_cycles c
as_counted c sure = go (chunk_row c) sure
  where
    go : (x : Result Row) → ((p : ℕ) → and_then x (λ r. row_cycles c [] r) ≡ no N.unsure_count p → ⊥)
        → and_then x (λ r. row_cycles c [] r) ≡ and_then x (λ r. and_then (counted_cost c [] r) (λ k. ok (cycles_of k)))
    go (ok r) sure =
        ⊎_elim (λ e. ap (λ (x : Result Cost). and_then x (λ k. ok (cycles_of k))) e)
        (λ u. absurd (sure u.0 (ap (λ (x : Result Cost). and_then x (λ k. ok (cycles_of k))) u.4))) (unsure_added c [] r)
    go (no n p) sure = refl

pub cycles_below : CyclesBelow
cycles_below c sure =
    let (answers, refuses) = told LessCycles (chunk_cycles c) (undivided_cycles c) (rw (as_counted c sure) (counted_below c)) in
    (λ k e. let (j, is, less) = answers k e in (j, is, less.0, less.1), refuses)

-- the stack walk, for which a count has only to be there
module _ (rise move : ℕ → ℤ) (count many : ℕ → Result ℕ) (counts : (p : ℕ) → Below spared less_n (count p) (many p)) where
  abbrev Same : Result Height → Result Height → Type 0
  Same x y = Below spared Equal x y

  -- a row from an offset, a peak and a break met, with the one's counts and with the other's
  abbrev few : Row → ℕ → ℤ → ℕ → Bool → Result Height
  few r left d peak broken = row_height rise move count r left d peak broken

  abbrev full : Row → ℕ → ℤ → ℕ → Bool → Result Height
  full r left d peak broken = row_height rise move many r left d peak broken

  abbrev Alike : Row → Type 0
  Alike r = (left : ℕ) (d : ℤ) (peak : ℕ) (broken : Bool) → Same (few r left d peak broken) (full r left d peak broken)

  part_same : (p : Row) (left : ℕ) (broken : Bool) (f g : Height → Result Height) → Alike p → ((h : Height) → Same (f h) (g h))
      → Same (and_then (inner left (λ l. few p l (pos 0) 0 broken)) f) (and_then (inner left (λ l. full p l (pos 0) 0 broken)) g)
  part_same p left broken f g h next =
      then_below spared Equal Equal (inner left _) (inner left _) f g
      (inner_below spared Equal left _ _ (λ l. h l (pos 0) 0 broken)) (λ j k e. rw (← e) (next j))

  ended_same : (r : Row) (left : ℕ) (x : Delta) (peak : ℕ) (broken : Bool) → Alike r
      → Same (unless_ended x peak broken (λ d p b. few r left d p b)) (unless_ended x peak broken (λ d p b. full r left d p b))
  ended_same r left (offset d) peak broken h = h left d peak broken
  ended_same r left ends peak broken h = refl

  body_same : (r : Row) (left : ℕ) (x : Delta) (met : Bool) (i : ℕ) (d : ℤ) (peak : ℕ) (broken : Bool) → Alike r
      → Same (after_body rise move count x met i d peak broken (λ d p b. few r left d p b)) (after_body rise move many x met i d peak broken (λ d p b. full r left d p b))
  body_same r left (offset x) met i d peak broken h =
      then_below spared less_n Equal (count i) (many i) _ _ (counts i) (λ n m l. h left d peak broken)
  body_same r left ends true i d peak broken h = h left d peak broken
  body_same r left ends false i d peak broken h = refl

  heights_same : (r : Row) → Alike r
  unfolding row_height
  heights_same end left d peak broken = refl
  heights_same (step i r) left d peak broken = heights_same r left _ _ _
  heights_same (stop i r) left d peak broken = refl
  heights_same (leave i r) left d peak broken = refl
  heights_same (leave_if i r) left d peak broken = heights_same r left _ _ _
  heights_same (if_then i t p r) left d peak broken =
      let b = behind rise move count d i in
      part_same p left broken _ _ (heights_same p) (λ arm.
      ended_same r left (greater_delta (offset b) (part_delta b arm.delta)) (part_peak (during rise move count peak d i) b arm) arm.broken (heights_same r))
  heights_same (if_else i e t p q r) left d peak broken =
      let b = behind rise move count d i in
      part_same p left broken _ _ (heights_same p) (λ arm.
      part_same q left arm.broken _ _ (heights_same q) (λ other.
      ended_same r left (greater_delta (part_delta b arm.delta) (part_delta b other.delta))
      (part_peak (part_peak (during rise move count peak d i) b arm) b other) other.broken (heights_same r)))
  heights_same (loop i e b r) left d peak broken =
      part_same b left false _ _ (heights_same b) (λ body.
      body_same r left body.delta body.broken i (behind rise move count d i) (part_peak (during rise move count peak d i) (behind rise move count d i) body) broken
      (heights_same r))

-- bytes follow from a height
tall_same : (c : Chunk) (x y : Result Height) → Below spared Equal x y
    → Below spared Equal (and_then x (λ h. stack_of c.locals h)) (and_then y (λ h. stack_of c.locals h))
tall_same c x y h =
    then_below spared Equal Equal x y (λ h. stack_of c.locals h) (λ h. stack_of c.locals h) h
    (λ j k e. rw (← e) (same_below spared Equal (λ a. refl) (stack_of c.locals j)))

pub stack_same : StackSame
stack_same c callees =
    let (answers, refuses) =
    told Equal (chunk_stack c callees) (undivided_stack c callees)
    (by_row Equal (chunk_row c) (λ r. row_stack c callees r) (λ r. and_then (undivided_height c callees r) (λ h. stack_of c.locals h)) (λ r.
    tall_same c _ (undivided_height c callees r)
    (heights_same (rise_of c callees) (move_of c) (count_of c) (undivided c) (counts_below c) r deepest (pos 0) 0 false))) in
    (λ s e. let (j, is, same) = answers s e in is ∙ ap ok same, refuses)
