-- The test of breaks over the positions of a row: what is left to be searched with the targets of the open Loops at hand.
-- Assumes nothing.
use mathlib.Core.Path.{◌≡◌, refl, sym}
use mathlib.Core.Bool.{Bool, true, false, true≢false}
use mathlib.Core.List.{List, [], ◌∷◌}
use Prim.Native.Nat.{ℕ, zero, suc, ◌-◌, ◌<◌, ◌≤◌}
use native.Mathlib.Omega.{arith}
use lib.Dec.{eqb}
use lib.ListN.{length}
use Rattle.rules.specs.Outcome.{Found, found, nothing}
use Rattle.rules.specs.Ops.{field_a}
use Rattle.rules.specs.Rows.{Shape, plain, trap, returns, if_to, else_to, end_if, loop_to, end_loop, breaks, breaks_if, calls, shape_of}
use Rattle.rules.specs.Rows.{Row, end, step, stop, leave, leave_if, if_then, if_else, loop, Plain, Ending, IsRow, unless_stray, or_else, stray_break}
use Rattle.rules.proofs.Shapes.{by_plain, by_ending}
use Rattle.rows.specs.Tree.{HasRow, tree_of}
use Rattle.rows.proofs.TreeLaws.{tree_is}

-- the innermost open Loop, which there has to be
abbrev pub WithInnermost : List ℕ → (ℕ → List ℕ → Type 0) → Type 0
WithInnermost [] next = ⊥
WithInnermost (t ∷ ts) next = next t ts

-- A break whose operand is the target goes on. Another is what the search finds; what follows is a row all the same.
abbrev pub Own : Bool → Found → ℕ → (Found → Type 0) → Type 0
Own true f i next = next f
Own false f i next = (f ≡ found i) × ((h : Found) × next h)

-- what an op at i of this shape and with this operand leaves to be searched for f, with the targets ts open: `next` is of what is open behind it
abbrev pub Turn : Shape → ℕ → List ℕ → ℕ → Found → (List ℕ → Found → Type 0) → Type 0
Turn plain a ts i f next = next ts f
Turn trap a ts i f next = next ts f
Turn returns a ts i f next = next ts f
Turn (if_to t) a ts i f next = next ts f
Turn (else_to e) a ts i f next = next ts f
Turn end_if a ts i f next = next ts f
Turn (loop_to t) a ts i f next = next (t ∷ ts) f
Turn end_loop a ts i f next = WithInnermost ts (λ t us. next us f)
Turn breaks a ts i f next = WithInnermost ts (λ t us. Own (eqb a t) f i (next ts))
Turn breaks_if a ts i f next = WithInnermost ts (λ t us. Own (eqb a t) f i (next ts))
Turn (calls k) a ts i f next = next ts f

-- the search of n positions from i on, with the targets ts open, finds f; at its end no Loop is open
abbrev pub LeftIn : ℕ → (ℕ → ℕ) → List ℕ → ℕ → Found → Type 0
LeftIn zero op ts i f = (ts ≡ []) × (f ≡ nothing)
LeftIn (suc n) op ts i f = Turn (shape_of (op i)) (field_a (op i)) ts i f (λ us h. LeftIn n op us (suc i) h)

-- the innermost target, or 0 where no Loop is open
abbrev head_of : List ℕ → ℕ
head_of [] = 0
head_of (t ∷ ts) = t

-- the first of three that finds something does so however they are grouped
chosen : (f g h : Found) → or_else (or_else f (λ u. g)) (λ u. h) ≡ or_else f (λ u. or_else g (λ u. h))
chosen (found i) g h = refl
chosen nothing g h = refl

-- a search that is followed by none finds what it finds
chosen_last : (f : Found) → or_else f (λ u. nothing) ≡ f
chosen_last (found i) = refl
chosen_last nothing = refl

module _ (op : ℕ → ℕ) (to : ℕ) where
  -- from i up to the end of the range
  abbrev pub LeftFrom : List ℕ → ℕ → Found → Type 0
  LeftFrom ts i f = LeftIn (to - i) op ts i f

  -- an op that is left is one of the positions that are left
  one_less : (i : ℕ) → i < to → to - i ≡ suc (to - suc i)
  one_less i lt = omega arith

  -- what is left at an op, by its shape
  taken : (ts : List ℕ) (i : ℕ) (f : Found) → i < to → (s : Shape) → shape_of (op i) ≡ s → Turn s (field_a (op i)) ts i f (λ us h. LeftFrom us (suc i) h) → LeftFrom ts i f
  taken ts i f lt s e t = rw (one_less i lt, e) t

  -- a plain op is passed over
  plain_left : (ts : List ℕ) (i : ℕ) (f : Found) → i < to → Plain (shape_of (op i)) → LeftFrom ts (suc i) f → LeftFrom ts i f
  plain_left ts i f lt p t =
      taken ts i f lt (shape_of (op i)) refl (by_plain (λ s. Turn s (field_a (op i)) ts i f (λ us h. LeftFrom us (suc i) h)) t (λ k. t) (shape_of (op i)) p)

  -- and so is one that ends the row
  ending_left : (ts : List ℕ) (i : ℕ) (f : Found) → i < to → Ending (shape_of (op i)) → LeftFrom ts (suc i) f → LeftFrom ts i f
  ending_left ts i f lt p t =
      taken ts i f lt (shape_of (op i)) refl (by_ending (λ s. Turn s (field_a (op i)) ts i f (λ us h. LeftFrom us (suc i) h)) t t (shape_of (op i)) p)

  -- what is left at an op is what its shape says
  pub left_turn : (ts : List ℕ) (i : ℕ) (f : Found) → i < to → LeftFrom ts i f → Turn (shape_of (op i)) (field_a (op i)) ts i f (λ us h. LeftFrom us (suc i) h)
  left_turn ts i f lt t = rw (one_less i lt) at t

  -- every open Loop has its EndLoop among the positions that are left
  module _ (n i : ℕ) (less : (ts : List ℕ) (f : Found) → LeftIn n op ts (suc i) f → length ts ≤ n) where
    -- an op that leaves the targets as they are
    same_few : (ts : List ℕ) (f : Found) → LeftIn n op ts (suc i) f → length ts ≤ suc n
    same_few ts f t = omega (arith, less ts f t)

    -- an EndLoop
    closing_few : (ts : List ℕ) (f : Found) → WithInnermost ts (λ t us. LeftIn n op us (suc i) f) → length ts ≤ suc n
    closing_few [] f t = absurd t
    closing_few (u ∷ us) f t = omega (arith, less us f t)

    -- a break
    breaking_few : (ts : List ℕ) (f : Found) → WithInnermost ts (λ t us. Own (eqb (field_a (op i)) t) f i (λ h. LeftIn n op ts (suc i) h)) → length ts ≤ suc n
    breaking_few [] f t = absurd t
    breaking_few (u ∷ us) f t =
        (elim (eqb (field_a (op i)) u) as (λ c. Own c f i (λ h. LeftIn n op (u ∷ us) (suc i) h) → suc (length us) ≤ suc n)
        [ true ↦ λ t. same_few (u ∷ us) f t | false ↦ λ t. same_few (u ∷ us) t.1.0 t.1.1 ]) t

    -- any op
    turn_few : (s : Shape) (ts : List ℕ) (f : Found) → Turn s (field_a (op i)) ts i f (λ us h. LeftIn n op us (suc i) h) → length ts ≤ suc n
    turn_few plain ts f t = same_few ts f t
    turn_few trap ts f t = same_few ts f t
    turn_few returns ts f t = same_few ts f t
    turn_few (if_to u) ts f t = same_few ts f t
    turn_few (else_to e) ts f t = same_few ts f t
    turn_few end_if ts f t = same_few ts f t
    turn_few (loop_to u) ts f t = omega (arith, less (u ∷ ts) f t)
    turn_few end_loop ts f t = closing_few ts f t
    turn_few breaks ts f t = breaking_few ts f t
    turn_few breaks_if ts f t = breaking_few ts f t
    turn_few (calls k) ts f t = same_few ts f t

  -- so no more Loops are open than positions are left
  pub few : (n i : ℕ) (ts : List ℕ) (f : Found) → LeftIn n op ts i f → length ts ≤ n
  few zero i ts f t = rw t.0 (omega arith)
  few (suc n) i ts f t = turn_few n i (λ us h x. few n (suc i) us h x) (shape_of (op i)) ts f t

  -- a break, where the search of the rest finds what it must
  broken : (i : ℕ) (ts : List ℕ) → 1 ≤ length ts → (f g : Found) → LeftFrom ts (suc i) (or_else f (λ u. g))
      → WithInnermost ts (λ t us. Own (eqb (field_a (op i)) t) (or_else (unless_stray (eqb (field_a (op i)) (head_of ts)) i (λ u. f)) (λ u. g)) i (λ h. LeftFrom ts (suc i) h))
  broken i [] n f g x = absurd (omega arith)
  broken i (t ∷ ts) n f g x =
      elim (eqb (field_a (op i)) t) as (λ c. Own c (or_else (unless_stray c i (λ u. f)) (λ u. g)) i (λ h. LeftFrom (t ∷ ts) (suc i) h))
      [ true ↦ x | false ↦ (refl, (or_else f (λ u. g), x)) ]

  -- a row that is followed by what is left
  row_left : (l : Bool) (i b : ℕ) (r : Row) → IsRow op l i b r → (ts : List ℕ) → (l ≡ true → 1 ≤ length ts) → b ≤ to → (g : Found) → LeftFrom ts b g
      → LeftFrom ts i (or_else (stray_break op (head_of ts) r) (λ u. g))
  unfolding stray_break
  row_left l i b end w ts a h g x = rw w x
  row_left l i b (step j r) w ts a h g x = plain_left ts i _ (omega arith) w.2 (row_left l (suc i) b r w.3 ts a h g x)
  row_left l i b (stop j r) w ts a h g x = ending_left ts i _ (omega arith) w.2 (row_left l (suc i) b r w.3 ts a h g x)
  row_left l i b (leave j r) w ts a h g x =
      let rest = row_left l (suc i) b r w.4 ts a h g x in
      rw w.0 (taken ts i _ (omega arith) breaks w.2 (broken i ts (a w.3) (stray_break op (head_of ts) r) g rest))
  row_left l i b (leave_if j r) w ts a h g x =
      let rest = row_left l (suc i) b r w.4 ts a h g x in
      rw w.0 (taken ts i _ (omega arith) breaks_if w.2 (broken i ts (a w.3) (stray_break op (head_of ts) r) g rest))
  row_left l i b (if_then j t p r) w ts a h g x =
      let rest = row_left l (suc t) b r w.6 ts a h g x in
      let ended = taken ts t _ (omega arith) end_if w.4 rest in
      let arm = row_left l (suc i) t p w.5 ts a (omega arith) _ ended in
      rw (chosen (stray_break op (head_of ts) p) (stray_break op (head_of ts) r) g) (taken ts i _ (omega arith) (if_to t) w.1 arm)
  row_left l i b (if_else j e t p q r) w ts a h g x =
      let rest = row_left l (suc t) b r w.9 ts a h g x in
      let ended = taken ts t _ (omega arith) end_if w.6 rest in
      let other = row_left l (suc e) t q w.8 ts a (omega arith) _ ended in
      let turned = taken ts e _ (omega arith) (else_to t) w.5 other in
      let arm = row_left l (suc i) e p w.7 ts a (omega arith) _ turned in
      let y = stray_break op (head_of ts) q in
      let z = stray_break op (head_of ts) r in
      rw (chosen (stray_break op (head_of ts) p) (or_else y (λ u. z)) g, chosen y z g) (taken ts i _ (omega arith) (if_to (suc e)) w.1 arm)
  row_left l i b (loop j e p r) w ts a h g x =
      let rest = row_left l (suc e) b r w.6 ts a h g x in
      let ended = taken (suc e ∷ ts) e _ (omega arith) end_loop w.4 rest in
      let body = row_left true (suc i) e p w.5 (suc e ∷ ts) (λ _. omega arith) (omega arith) _ ended in
      rw (chosen (stray_break op (suc e) p) (stray_break op (head_of ts) r) g) (taken ts i _ (omega arith) (loop_to (suc e)) w.1 body)

  -- a range that is a row is left to be searched for the first stray break of its tree
  pub tree_left : (from : ℕ) → HasRow op false from to → LeftFrom [] from (stray_break op 0 (tree_of op from to))
  tree_left from (r, w) =
      let none : to - to ≡ 0 = omega arith in
      let last : LeftFrom [] to nothing = rw none (refl, refl) in
      rw (tree_is op false from to r w, ← chosen_last (stray_break op 0 r))
      (row_left false from to r w [] (λ e. absurd (true≢false (sym e))) (omega arith) nothing last)

  -- the search is over
  pub none_left : (ts : List ℕ) (i : ℕ) (f : Found) → to ≤ i → LeftFrom ts i f → f ≡ nothing
  none_left ts i f h t = let none : to - i ≡ 0 = omega arith in (rw none at t).1
