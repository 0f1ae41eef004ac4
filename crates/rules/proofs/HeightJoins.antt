-- Where a stack walk goes on behind arms and loops: from an offset that is at least each way's own, and below the peak. Assumes nothing.
use mathlib.Core.Path.{◌≡◌, refl}
use mathlib.Core.Bool.{Bool, true, false}
use mathlib.Core.Logic.{◌⊎◌, inl, inr}
use Prim.Native.Nat.{ℕ, zero, suc, ◌+◌, ◌≤◌}
use native.Mathlib.Omega.{arith}
use lib.IntN.{ℤ, ◌+ℤ◌}
use Rattle.rules.specs.Outcome.{Result, ok}
use Rattle.rules.specs.Cycles.{inner}
use Rattle.rules.specs.Stack.{Delta, offset, ends, Height, height, max_z, at_least_zero, part_peak, part_delta, greater_delta, unless_ended, after_body}
use Rattle.rules.proofs.Answers.{from_ok}
use Rattle.rules.proofs.SignedOrder.{AtMost, sum_above, greatest}

-- the offset at a row's end is below a peak
abbrev pub Low : ℕ → Delta → Type 0
Low peak (offset z) = at_least_zero z ≤ peak
Low peak ends = Unit {0}

-- a part begun at b leads to no more than m
abbrev pub LeadsTo : ℤ → ℤ → Delta → Type 0
LeadsTo b m (offset z) = AtMost (b +ℤ z) m
LeadsTo b m ends = Unit {0}

pub from_inner : {A : Type 0} (left : ℕ) (walk : ℕ → Result A) {a : A} → inner left walk ≡ ok a → (l : ℕ) × (walk l ≡ ok a)
from_inner zero walk e = absurd (let z : ◌≡◌ {A = ℕ} 0 1 = cc in omega arith)
from_inner (suc l) walk e = (l, e)

-- `rest` walks what stands behind, from an offset, a peak and whether a break was met.
module _ (rest : ℤ → ℕ → Bool → Result Height) (h : Height) (b : ℤ) (peak : ℕ) where
  -- an If alone
  pub if_joins : (arm : Height) (δ : Delta) → Low arm.peak δ → at_least_zero b ≤ peak
      → unless_ended (greater_delta (offset b) (part_delta b δ)) (part_peak peak b arm) arm.broken rest ≡ ok h
      → (m : ℤ) × AtMost b m × LeadsTo b m δ × (at_least_zero m ≤ part_peak peak b arm) × (rest m (part_peak peak b arm) arm.broken ≡ ok h)
  if_joins arm (offset z) low before e =
      let g = greatest b (b +ℤ z) in
      (max_z b (b +ℤ z), g.left, g.right, omega (arith, g.above, sum_above b z), e)
  if_joins arm ends low before e = (b, omega arith, tt, omega arith, e)

  -- two arms, which may both end
  pub else_joins : (met : Bool) (p q : ℕ) (δ ε : Delta) → Low p δ → Low q ε → at_least_zero b + p ≤ peak → at_least_zero b + q ≤ peak
      → unless_ended (greater_delta (part_delta b δ) (part_delta b ε)) peak met rest ≡ ok h
      → ((m : ℤ) × LeadsTo b m δ × LeadsTo b m ε × (at_least_zero m ≤ peak) × (rest m peak met ≡ ok h))
      ⊎ ((δ ≡ ends) × (ε ≡ ends) × (h ≡ height peak ends met))
  else_joins met p q (offset y) (offset z) k l f g e =
      let m = greatest (b +ℤ y) (b +ℤ z) in
      inl (max_z (b +ℤ y) (b +ℤ z), m.left, m.right, omega (arith, m.above, sum_above b y, sum_above b z), e)
  else_joins met p q (offset y) ends k l f g e = inl (b +ℤ y, omega arith, tt, omega (arith, sum_above b y), e)
  else_joins met p q ends (offset z) k l f g e = inl (b +ℤ z, tt, omega arith, omega (arith, sum_above b z), e)
  else_joins met p q ends ends k l f g e = inr (refl, refl, cc)

  -- a loop, whose body may end without a break
  pub loop_joins : (rise move : ℕ → ℤ) (count : ℕ → Result ℕ) (i : ℕ) (broken : Bool) (δ : Delta) (met : Bool)
      → after_body rise move count δ met i b peak broken rest ≡ ok h → (rest b peak broken ≡ ok h) ⊎ ((met ≡ false) × (h ≡ height peak ends broken))
  loop_joins rise move count i broken (offset z) met e = inl (from_ok (count i) _ e).2
  loop_joins rise move count i broken ends true e = inl e
  loop_joins rise move count i broken ends false e = inr (refl, cc)
