-- A value that a search finds is no less than -2^63: an array's length is not below 0, and constants have 64 bits. Assumes nothing.
use mathlib.Core.Path.{◌≡◌, refl, ap, ◌∙◌}
use mathlib.Core.Bool.{Bool, true, false, ◌&&◌}
use mathlib.Core.List.{List}
use Prim.Native.Nat.{ℕ, zero, suc, ◌^◌, ◌≤◌, ◌<◌}
use native.Mathlib.Omega.{arith}
use lib.Dec.{eqb}
use lib.IntN.{ℤ, pos, negsuc}
use lib.ListN.{get_or}
use lib.Signed.{mag}
use Rattle.rules.specs.Kinds as K
use Rattle.rules.specs.Outcome.{Found, found, nothing}
use Rattle.rules.specs.Ops.{kind, field_a, field_b, op_at}
use Rattle.rules.specs.Form.{Constant, integer, other, Each, ConstantFits}
use Rattle.rules.specs.Count.{is, is_set_local, last_set, array_literal, array_copy, array_length, at_array_set, constant_value, len_source, length_before, value_before, value_at, value_of}
use Rattle.rules.proofs.SignedOrder.{under}
use Rattle.rules.proofs.Every.{each_at}

array_low : (ops : List ℕ) (n x : ℕ) (z : ℤ) → array_length ops n x ≡ is z → under z ≡ 0
unfolding array_length
array_low ops zero x z h = absurd (let o : ◌≡◌ {A = ℕ} 0 1 = cc in omega arith)
array_low ops (suc zero) x z h = absurd (let o : ◌≡◌ {A = ℕ} 0 1 = cc in omega arith)
array_low ops (suc (suc i)) x z h = by (is_set_local x (op_at ops (suc i))) h (λ y k. array_low ops i y z k) (λ k. array_low ops (suc i) x z k)
  where
    copy : (b : Bool) → array_copy b (λ s. array_length ops i s) (op_at ops i) ≡ is z → ((y : ℕ) → array_length ops i y ≡ is z → under z ≡ 0) → under z ≡ 0
    copy true h next = next (field_a (op_at ops i)) h
    copy false h next = absurd (let o : ◌≡◌ {A = ℕ} 0 1 = cc in omega arith)

    source : (b : Bool) → array_literal b (λ s. array_length ops i s) (op_at ops i) ≡ is z → ((y : ℕ) → array_length ops i y ≡ is z → under z ≡ 0) → under z ≡ 0
    source true h next = let same : pos (field_a (op_at ops i)) ≡ z = cc in rw (← same)
    source false h next = copy (eqb (kind (op_at ops i)) K.get_local) h next

    by : (b : Bool) → at_array_set b (λ s. array_length ops i s) (λ s. array_length ops (suc i) s) (op_at ops i) x ≡ is z
        → ((y : ℕ) → array_length ops i y ≡ is z → under z ≡ 0) → (array_length ops (suc i) x ≡ is z → under z ≡ 0) → under z ≡ 0
    by true h next down = source (eqb (kind (op_at ops i)) K.new_composite && eqb (field_b (op_at ops i)) 1) h next
    by false h next down = down h

under_mag : (z : ℤ) → mag z < 2 ^ 63 → under z ≤ 2 ^ 63
under_mag (pos n) h = omega arith
under_mag (negsuc n) h = h

pub value_low : (constants : List Constant) (ops : List ℕ) (p x : ℕ) (z : ℤ) → Each ConstantFits constants → value_of constants ops p x ≡ is z → under z ≤ 2 ^ 63
value_low constants ops p x z fit h = at (last_set ops p x) h
  where
    constant : (k : Constant) (a : ℕ) → get_or constants a other ≡ k → constant_value k ≡ is z → under z ≤ 2 ^ 63
    constant (integer y) a e h = let same : y ≡ z = cc in under_mag z (let f : ConstantFits (integer z) = rw (e ∙ ap integer same) at (each_at ConstantFits other tt constants a fit) in f)
    constant other a e h = absurd (let o : ◌≡◌ {A = ℕ} 0 1 = cc in omega arith)

    length : (b : Bool) (g : ℕ) → length_before b ops g ≡ is z → under z ≤ 2 ^ 63
    length true g h = let low = array_low ops g (field_a (op_at ops g)) z h in omega (arith, low)
    length false g h = absurd (let o : ◌≡◌ {A = ℕ} 0 1 = cc in omega arith)

    len : (i : ℕ) → len_source ops i ≡ is z → under z ≤ 2 ^ 63
    len zero h = absurd (let o : ◌≡◌ {A = ℕ} 0 1 = cc in omega arith)
    len (suc g) h = length (eqb (kind (op_at ops (suc g))) K.len && eqb (kind (op_at ops g)) K.get_local) g h

    by : (b : Bool) (i : ℕ) → value_before b constants ops i ≡ is z → under z ≤ 2 ^ 63
    by true i h = constant (get_or constants (field_a (op_at ops i)) other) (field_a (op_at ops i)) refl h
    by false i h = len i h

    at : (f : Found) → value_at constants ops f ≡ is z → under z ≤ 2 ^ 63
    at nothing h = absurd (let o : ◌≡◌ {A = ℕ} 0 1 = cc in omega arith)
    at (found zero) h = absurd (let o : ◌≡◌ {A = ℕ} 0 1 = cc in omega arith)
    at (found (suc i)) h = by (eqb (kind (op_at ops i)) K.const) i h
