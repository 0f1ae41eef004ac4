-- How the searches that run backward go, told by the words that the code reads.
-- Assumes nothing.
use mathlib.Core.Path.{◌≡◌, refl, sym, ap, ◌∙◌}
use mathlib.Core.Bool.{Bool, true, false, cond, ◌&&◌}
use mathlib.Core.List.{List}
use Prim.Native.Nat.{ℕ, zero, suc, ◌-◌, ◌<◌, ◌≤◌}
use native.Mathlib.Numerals.{sub-one}
use native.Mathlib.Omega.{arith}
use lib.Dec.{eqb}
use lib.IntN.{ℤ}
use lib.ListN.{length, get_or}
use Rattle.std.specs.Prelude.{Option, Some, None}
use Rattle.rules.specs.Kinds as K
use Rattle.rules.specs.Outcome.{Found, found, nothing}
use Rattle.rules.specs.Ops.{kind, field_a, op_at}
use Rattle.rules.specs.Form.{Constant, other}
use Rattle.rules.specs.Count.{Value, unknown, is_set_local, last_set, array_length, array_source, constant_value, value_at, value_before, len_source, length_before}
use Rattle.words.specs.Values.{constant_is}
use Rattle.words.proofs.Cases.{decide}
use Rattle.words.proofs.OpLaws.{read_op}
use Rattle.count.specs.Count.{value_is, SetAt}

-- what is defined at a later position by the op before it, told by the word that the code reads there
pub at_later : {A : Type 0} (ops : List ℕ) (f : ℕ → A) (g : ℕ → ℕ → A) → ((i : ℕ) → f (suc i) ≡ g (op_at ops i) i) → (v : ℕ) → (v ≡ 0 → ⊥) → v ≤ length ops
    → f v ≡ g (get_or ops (v - 1) 0) (v - 1)
at_later ops f g is zero h b = absurd (h refl)
at_later ops f g is (suc i) h b = is i ∙ rw (sub-one, read_op ops i (omega arith))

module _ (ops : List ℕ) (s : ℕ) where
  -- one position down: the op there sets the slot, or the search goes on
  pub last_step : (i : ℕ) → (i ≡ 0 → ⊥) → i ≤ length ops → {t : Bool} → is_set_local s (get_or ops (i - 1) 0) ≡ t
      → last_set ops i s ≡ cond t (found (i - 1)) (last_set ops (i - 1) s)
  unfolding last_set
  last_step i h b e = at_later ops (λ j. last_set ops j s) (λ w j. cond (is_set_local s w) (found j) (last_set ops j s)) (λ j. refl) i h b ∙ rw e

  -- below 0 there is nothing to find
  pub last_none : (i : ℕ) → i ≡ 0 → last_set ops i s ≡ nothing
  unfolding last_set
  last_none i e = rw e

  -- a found position lies below the one that the search starts at
  pub below_start : (n v : ℕ) → last_set ops n s ≡ found v → v < n
  unfolding last_set
  below_start zero v e = let z : ◌≡◌ {A = ℕ} 0 1 = cc in omega arith
  below_start (suc n) v e =
      decide (is_set_local s (op_at ops n)) (λ t. let z : n ≡ v = cc (rw t at e) in omega arith) (λ t. omega (arith, below_start n v (rw t at e)))

-- what a search that found the SetLocal says
pub set_at : (ops : List ℕ) (n s v : ℕ) → found v ≡ last_set ops n s → (v ≡ 0 → ⊥) → n ≤ length ops → SetAt ops n s v
set_at ops n s v e h b = record { set = sym e; later = h; below = below_start ops s n v (sym e); within = b }

-- the array's length, told by the search
abbrev pub at_array : List ℕ → Found → Value
at_array ops nothing = unknown
at_array ops (found zero) = unknown
at_array ops (found (suc i)) = array_source (op_at ops i) (λ s. array_length ops i s)

-- the search decides the array's length
by_search : (ops : List ℕ) (n s : ℕ) → array_length ops n s ≡ at_array ops (last_set ops n s)
unfolding array_length last_set
by_search ops zero s = refl
by_search ops (suc zero) s = decide (is_set_local s (op_at ops 0)) (λ t. rw t) (λ t. rw t)
by_search ops (suc (suc i)) s = decide (is_set_local s (op_at ops (suc i))) (λ t. rw t) (λ t. rw t (by_search ops (suc i) s))

-- the array's length, by what the search found
pub array_told : (ops : List ℕ) (n s : ℕ) {f : Found} → f ≡ last_set ops n s → array_length ops n s ≡ at_array ops f
array_told ops n s e = by_search ops n s ∙ ap (at_array ops) (sym e)

-- the array's length, by the op before the SetLocal
pub array_at : {ops : List ℕ} {n s v : ℕ} → SetAt ops n s v → array_length ops n s ≡ array_source (get_or ops (v - 1) 0) (λ t. array_length ops (v - 1) t)
array_at {ops} {n} {s} {v} h =
    array_told ops n s (sym h.set)
    ∙ at_later ops (λ j. at_array ops (found j)) (λ w j. array_source w (λ t. array_length ops j t)) (λ j. refl) v h.later (omega arith)

-- what stands right before the op before a found SetLocal
before_len : (ops : List ℕ) (v : ℕ) → (v ≡ 0 → ⊥) → (v ≡ 1 → ⊥) → v ≤ length ops
    → len_source ops (v - 1) ≡ length_before (eqb (kind (get_or ops (v - 1) 0)) K.len && eqb (kind (get_or ops (v - 2) 0)) K.get_local) ops (v - 2)
before_len ops zero h k b = absurd (h refl)
before_len ops (suc zero) h k b = absurd (k refl)
before_len ops (suc (suc i)) h k b =
    let z : suc (suc i) - 2 ≡ i = omega arith in
    rw (sub-one, z, read_op ops (suc i) (omega arith), read_op ops i (omega arith))

-- what a constant gives as a value
pub value_told : (r : Option ℤ) → value_is r ≡ constant_value (constant_is r)
value_told (Some z) = refl
value_told None = refl

-- the value that the SetLocal at v gives
module _ (cs : List Constant) (ops : List ℕ) (v : ℕ) (later : v ≡ 0 → ⊥) (within : v < length ops) where
  -- by the op before the SetLocal
  by_kind : value_at cs ops (found v) ≡ value_before (eqb (kind (get_or ops (v - 1) 0)) K.const) cs ops (v - 1)
  by_kind = at_later ops (λ j. value_at cs ops (found j)) (λ w j. value_before (eqb (kind w) K.const) cs ops j) (λ j. refl) v later (omega arith)

  -- that op is Const
  pub value_constant : eqb (kind (get_or ops (v - 1) 0)) K.const ≡ true
      → value_at cs ops (found v) ≡ constant_value (get_or cs (field_a (get_or ops (v - 1) 0)) other)
  value_constant k = rw (by_kind, k, read_op ops (v - 1) (omega arith))

  -- that op is Len, and there is one before it
  module _ (k : eqb (kind (get_or ops (v - 1) 0)) K.const ≡ false) (g : v ≡ 1 → ⊥) (l : eqb (kind (get_or ops (v - 1) 0)) K.len ≡ true) where
    -- by the op before Len
    by_get : value_at cs ops (found v) ≡ length_before (eqb (kind (get_or ops (v - 2) 0)) K.get_local) ops (v - 2)
    by_get = by_kind ∙ rw (k, before_len ops v later g (omega arith), l)

    -- which is not GetLocal
    pub value_no_get : eqb (kind (get_or ops (v - 2) 0)) K.get_local ≡ false → value_at cs ops (found v) ≡ unknown
    value_no_get m = rw (by_get, m)

    -- or is GetLocal
    pub value_length : eqb (kind (get_or ops (v - 2) 0)) K.get_local ≡ true
        → value_at cs ops (found v) ≡ array_length ops (v - 2) (field_a (get_or ops (v - 2) 0))
    value_length m = rw (by_get, m, read_op ops (v - 2) (omega arith))
