-- What an op does to a level: the figures of an op and the level behind it, as the code computes them, and their bounds.
-- Assumes nothing.
use mathlib.Core.Path.{◌≡◌, refl}
use mathlib.Core.Bool.{Bool, true, false, cond, ◌&&◌, and-eq-true_iff}
use mathlib.Core.List.{List, [], ◌∷◌}
use Prim.Native.Nat.{ℕ, ◌+◌, ◌%◌, ◌^◌, ◌<◌, ◌≤◌, max}
use native.Mathlib.Omega.{arith}
use borrow.Author.Tests.{leb-true}
use lib.Dec.{eqb, leb}
use lib.IntN.{ℤ, pos, nat_abs, ◌+ℤ◌, ◌-ℤ◌}
use lib.ListN.{length, get_or}
use mir.Syntax.{w64}
use mir.Val.{to_z, of_z}
use Rattle.std.specs.Int.{int_max}
use Rattle.std.proofs.lemmas.Int.{ints, to_z-of_z}
use Rattle.rules.specs.Ops.{Figures, Group, kind, field_b, field_a, table, between, in_groups, figures_of}
use Rattle.rules.specs.Stack.{call_rise, at_least_zero}
use Rattle.stack.specs.declared.level.Effect.{Effect}
use Rattle.stack.specs.declared.level.Level.{Level}
use Rattle.words.proofs.OpLaws.{read_op}
use Rattle.stack.specs.Levels.{effect_at, level_over, SmallEffect, Small}

-- Growth and shrink are small.
record SmallFigures (f : Figures) : Type 0 where
  growth : f.growth ≤ 5
  shrink : f.shrink ≤ 65535

-- of two small figures either is small
either : (t : Bool) (f g : Figures) → SmallFigures f → SmallFigures g → SmallFigures (cond t f g)
either true f g p q = p
either false f g p q = q

-- whether all groups of a table are small
abbrev all_small : List Group → Bool
all_small [] = true
all_small (g ∷ gs) = leb g.cost.growth 5 && (leb g.cost.shrink 65535 && all_small gs)

-- by such a table the figures of every kind are small
groups_small : (gs : List Group) → all_small gs ≡ true → (k : ℕ) → SmallFigures (in_groups gs k)
unfolding in_groups
groups_small [] t k = record { growth = omega arith; shrink = omega arith }
groups_small (g ∷ gs) t k =
    let a = (and-eq-true_iff (leb g.cost.growth 5) (leb g.cost.shrink 65535 && all_small gs)).0 t in
    let b = (and-eq-true_iff (leb g.cost.shrink 65535) (all_small gs)).0 a.1 in
    let s : SmallFigures g.cost = record { growth = leb-true _ _ a.0; shrink = leb-true _ _ b.0 } in
    either (between g.first g.last k) g.cost (in_groups gs k) s (groups_small gs b.1 k)

-- the figures of every word are small
figures_small : (w : ℕ) → SmallFigures (figures_of w)
figures_small w =
    either (eqb (kind w) 30) _ _ (omega arith)
    (either (eqb (kind w) 34) _ _ (omega arith)
    (either (eqb (kind w) 36) _ _ (either (eqb (field_b w) 1) _ _ (omega arith) (omega arith))
    (either (eqb (kind w) 50) _ _ (either (eqb (field_a w) 8) _ _ (omega arith) (either (eqb (field_a w) 9) _ _ (omega arith) (omega arith)))
    (either (eqb (kind w) 58) _ _ (omega arith)
    (either (between 64 65 (kind w)) _ _
    (elim (leb 128 (field_b w)) as (λ t. SmallFigures (record { cycles = 10; growth = cond t 2 1; shrink = field_b w % 128 }))
    [ true ↦ omega arith | false ↦ omega arith ]) (groups_small table refl (kind w)))))))

-- The effect of an op, from its growth g and shrink s.
module _ (ops callees : List ℕ) (i g s : ℕ) (within : i < length ops) where
  abbrev here : ℕ
  here = get_or ops i 0

  abbrev shift_read : ℤ
  shift_read = to_z w64 (of_z w64 (to_z w64 g -ℤ to_z w64 s))

  abbrev Effected : ℤ → Type 0
  Effected r = (◌≡◌ {A = Effect} (record { rise = r; shift = shift_read }) (effect_at ops callees i)) × SmallEffect (record { rise = r; shift = shift_read })

  module _ (grows : g ≡ (figures_of here).growth) (shrinks : s ≡ (figures_of here).shrink) where
    -- both fit a field
    few : max g s ≤ 65535
    few = let f = figures_small here in omega arith

    -- by whether it is a Call
    effect_is : (call : Bool) → call ≡ eqb (kind here) 30 → (r : ℤ) → r ≡ cond call (call_rise callees here) (pos g) → nat_abs r ≤ 134217727
        → Effected (to_z w64 (of_z w64 r))
    effect_is call is r e n =
        let m = few in
        let b : to_z w64 (of_z w64 r) ≡ r = omega (arith, ints) in
        let d : shift_read ≡ pos g -ℤ pos s = omega (arith, ints) in
        (rw (b, d, e, is, grows, shrinks, read_op ops i within), rw (b, d) (record { rise = n; shift = omega (arith, ints) }))

    -- of a Call, whose rise is r
    pub effect_call : true ≡ eqb (kind here) 30 → (r : ℤ) → r ≡ call_rise callees here → nat_abs r ≤ 134217727 → Effected (to_z w64 (of_z w64 r))
    effect_call is = effect_is true is

    -- of another op, whose rise is its growth
    pub effect_plain : false ≡ eqb (kind here) 30 → Effected (to_z w64 g)
    effect_plain is = effect_is false is (pos g) refl (omega (arith, few))

-- the machine's sum of two numbers
abbrev sum_read : ℤ → ℤ → ℤ
sum_read a b = to_z w64 (of_z w64 (to_z w64 (of_z w64 a) +ℤ to_z w64 (of_z w64 b)))

-- a number near 0, raised to 0, as the machine reads it
raised_read : (z : ℤ) → nat_abs z < 2 ^ 63 → nat_abs (to_z w64 (of_z w64 (int_max z (pos 0)))) ≡ at_least_zero z
raised_read z h = grind (arith, to_z-of_z)

-- the level behind an op
module _ (l : Level) (e : Effect) (s : Small l 1073741824) (t : SmallEffect e) where
  -- its offset
  pub offset_over : sum_read l.offset e.shift ≡ l.offset +ℤ e.shift
  offset_over = omega (arith, ints)

  -- the height while the op runs
  pub during_over : (d : ℤ) → d ≡ int_max (sum_read l.offset e.rise) (pos 0) → nat_abs (to_z w64 (of_z w64 d)) ≡ at_least_zero (l.offset +ℤ e.rise)
  during_over d is =
      let same : sum_read l.offset e.rise ≡ l.offset +ℤ e.rise = omega (arith, ints) in
      rw (is, same) (raised_read (l.offset +ℤ e.rise) (omega (arith, ints)))

-- one op moves the bound by 65,536
pub over_small : (l : Level) (e : Effect) (b : ℕ) → Small l b → SmallEffect e → Small (level_over l e) (b + 65536)
over_small l e b s t = record { offset = omega (arith, ints); peak = grind (arith, ints) }
