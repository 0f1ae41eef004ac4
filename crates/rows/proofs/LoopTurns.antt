-- The test of breaks turn by turn, over its list of the targets of the open Loops, the innermost last. Assumes nothing.
use mathlib.Core.Path.{◌≡◌, refl, sym, ap, ◌∙◌}
use mathlib.Core.Bool.{true, false, not, true≢false}
use mathlib.Core.List.{List, [], ◌∷◌, ◌++◌, reverse}
use mathlib.Core.Logic.{◌↔◌}
use Prim.Native.Nat.{ℕ, suc, ◌+◌, ◌-◌, ◌<◌, ◌≤◌}
use native.Mathlib.Numerals.{add-one}
use native.Mathlib.Omega.{arith}
use borrow.Author.Tests.{eq-eqb, ne_eqb, eqb-true, eqb-false, not-true, not-false}
use denote.Ref.{Bor}
use lib.Dec.{eqb}
use lib.ListN.{length, length-append, length-reverse}
use Rattle.std.specs.Prelude.{Option, Some, None, IsSome, slice_get}
use Rattle.std.specs.Option.{option_eq, option_copied, option_to_list}
use Rattle.rules.specs.Kinds as K
use Rattle.rules.specs.Outcome.{Found, found}
use Rattle.rules.specs.Ops.{kind, field_a}
use Rattle.rules.specs.Rows.{Shape, loop_to, end_loop, breaks, shape_of}
use Rattle.rules.proofs.Shapes.{by_kind}
use Rattle.rows.proofs.Backwards.{reverse_push, reverse_pop, reverse_last}
use Rattle.rows.proofs.OpenLoops.{WithInnermost, Own, Turn, LeftFrom, left_turn, few}

-- Break and BreakIf
abbrev pub IsBreak : ℕ → Type 0
IsBreak w = (K.break ≤ kind w) × (kind w ≤ K.break_if)

-- where a `&u32` in an `Option` is no other than y, it holds the same number
pub same_copied : (o : Option (Bor ℕ)) (y : Bor ℕ) → false ≡ not (option_eq (λ x y. eqb x.now y.now) o (Some y)) → option_copied o ≡ Some y.now
same_copied None y e = absurd (true≢false (sym e))
same_copied (Some x) y e = ap Some (eqb-true x.now y.now (not-false _ (sym e)))

-- where it is another, it does not
pub other_copied : (o : Option (Bor ℕ)) (y : Bor ℕ) → true ≡ not (option_eq (λ x y. eqb x.now y.now) o (Some y)) → option_copied o ≡ Some y.now → ⊥
other_copied None y e h = cc
other_copied (Some x) y e h = let same : x.now ≡ y.now = cc in eqb-false x.now y.now (not-true _ (sym e)) same

-- the search at i, with the targets of the open Loops in a list, finds f
pub record Search (op : ℕ → ℕ) (from to : ℕ) (f : Found) (targets : List ℕ) (i : ℕ) : Type 0 where
  pub low : from + length targets ≤ i
  pub left : LeftFrom op to (reverse targets) i f

-- the op at i, in the range, is w
pub record SearchAt (op : ℕ → ℕ) (from to : ℕ) (f : Found) (targets : List ℕ) (i w : ℕ) : Type 0 where
  pub stage : Search op from to f targets i
  pub lt : i < to
  pub here : op i ≡ w

-- where a Loop has to be open, one is
innermost : (ts : List ℕ) (next : ℕ → List ℕ → Type 0) → WithInnermost ts next → (t : ℕ) × (us : List ℕ) × (ts ≡ t ∷ us) × next t us
innermost [] next x = absurd x
innermost (t ∷ us) next x = (t, us, refl, x)

module _ {op : ℕ → ℕ} {from to : ℕ} {f : Found} {targets : List ℕ} {i w : ℕ} (a : SearchAt op from to f targets i w) where
  -- what is left behind the op
  abbrev Next : List ℕ → Found → Type 0
  Next us h = LeftFrom op to us (suc i) h

  -- what the op leaves, by its shape
  turned : (s : Shape) → shape_of w ≡ s → Turn s (field_a w) (reverse targets) i f Next
  turned s e = rw (a.here, e) at (left_turn op to (reverse targets) i f a.lt a.stage.left)

  -- the search behind the op
  next_with : (us : List ℕ) → from + length us ≤ suc i → Next (reverse us) f → Search op from to f us (i + 1)
  next_with us h x = record { low = omega arith; left = rw (add-one i) x }

  module _ (k : kind w ≡ K.loop) where
    -- behind a Loop its target is open
    opened : Next (field_a w ∷ reverse targets) f
    opened = turned (loop_to (field_a w)) (simp k)

    -- an open Loop takes two ops, one of them still to come, so there is room for one target more
    pub open_room : from + (length targets + length targets) + 2 ≤ to
    open_room =
        omega (arith, a.lt, a.stage.low, length-reverse targets, few op to (to - suc i) (suc i) (field_a w ∷ reverse targets) f opened)

    -- a Loop pushes its target
    pub open_next : Search op from to f (targets ++ field_a w ∷ []) (i + 1)
    open_next = record {
      low = simp length-append (omega (arith, a.stage.low));
      left = rw (add-one i, reverse_push targets (field_a w)) opened;
    }

  -- an EndLoop pops the innermost target
  pub close_next : kind w ≡ K.end_loop → (rest : List ℕ) (last : Option ℕ) → targets ≡ rest ++ option_to_list last → IsSome last ↔ (0 < length targets)
      → Search op from to f rest (i + 1)
  close_next k rest last items some =
      let (t, us, is, x) = innermost (reverse targets) (λ t us. Next us f) (turned end_loop (simp k)) in
      let less : length rest ≤ length targets = rw items (simp length-append (omega arith)) in
      next_with rest (omega (arith, a.stage.low)) (rw (reverse_pop targets rest last items some is) x)

  module _ (k : IsBreak w) where
    -- a break is held against the last target
    breaking : (t : ℕ) × (slice_get targets (length targets - 1) ≡ Some t) × Own (eqb (field_a w) t) f i (Next (reverse targets))
    breaking =
        held (innermost (reverse targets) (λ t us. Own (eqb (field_a w) t) f i (Next (reverse targets)))
        (by_kind w (λ s. Turn s (field_a w) (reverse targets) i f Next → Turn breaks (field_a w) (reverse targets) i f Next)
        (λ e x. absurd (omega arith)) (λ e x. absurd (omega arith)) (λ e x. absurd (omega arith)) (λ e x. absurd (omega arith))
        (λ e x. absurd (omega arith)) (λ e x. x) (λ e x. x) (λ e x. absurd (omega arith)) (λ e x. absurd (omega arith)) (λ e x. absurd (omega arith))
        (λ n x. absurd (n (omega arith) (omega arith))) (turned (shape_of w) refl)))
      where
        -- it is the first of the list read backwards
        held : (t : ℕ) × (us : List ℕ) × (reverse targets ≡ t ∷ us) × Own (eqb (field_a w) t) f i (Next (reverse targets))
            → (t : ℕ) × (slice_get targets (length targets - 1) ≡ Some t) × Own (eqb (field_a w) t) f i (Next (reverse targets))
        held (t, us, is, x) = (t, reverse_last targets ∙ ap (λ ts. slice_get ts 0) is, x)

    -- with that for its operand the search goes on
    pub own_next : slice_get targets (length targets - 1) ≡ Some (field_a w) → Search op from to f targets (i + 1)
    own_next e =
        let (t, is, x) = breaking in
        let same : field_a w ≡ t = cc in
        next_with targets (omega (arith, a.stage.low)) (rw (eq-eqb _ _ same) at x)

    -- with another it is what is found
    pub stray_found : (slice_get targets (length targets - 1) ≡ Some (field_a w) → ⊥) → f ≡ found i
    stray_found n =
        let (t, is, x) = breaking in
        let other : field_a w ≡ t → ⊥ = λ e. n (cc) in
        (rw (ne_eqb _ _ other) at x).0

  -- any other op leaves the list as it is
  pub other_next : (K.loop ≤ kind w → kind w ≤ K.break_if → ⊥) → Search op from to f targets (i + 1)
  other_next n =
      next_with targets (omega (arith, a.stage.low)) (by_kind w (λ s. Turn s (field_a w) (reverse targets) i f Next → Next (reverse targets) f)
      (λ k x. x) (λ k x. x) (λ k x. x) (λ k x. absurd (n (omega arith) (omega arith))) (λ k x. absurd (n (omega arith) (omega arith)))
      (λ k x. absurd (n (omega arith) (omega arith))) (λ k x. absurd (n (omega arith) (omega arith))) (λ k x. x) (λ k x. x) (λ k x. x) (λ m x. x)
      (turned (shape_of w) refl))
