-- What the ops that request 2.8 names do, by their kinds, and that only SetLocal changes a local. Assumes nothing.
use mathlib.Core.Path.{◌≡◌, refl, sym}
use mathlib.Core.Bool.{Bool, true, false, cond, ◌&&◌}
use mathlib.Core.List.{List, [], ◌∷◌}
use Prim.Native.Nat.{ℕ, suc, ◌-◌}
use native.Mathlib.Omega.{arith}
use borrow.Author.Tests.{eqb-true, eq-eqb}
use lib.Dec.{eqb}
use lib.IntN.{ℤ}
use lib.ListN.{get_or}
use Rattle.rules.specs.Kinds as K
use Rattle.rules.specs.Ops.{kind, field_a, field_b, op_at}
use Rattle.rules.specs.Form.{Constant, integer, other, Chunk}
use Rattle.rules.specs.Count.{is, is_set_local, constant_value}
use Rattle.rules.specs.Values.{Val, Memory, Effect, gives, loads, stores, makes, measures, adds, drops, anything, const_effect, is_drop, effect_at, Same, Stored, Leaves}
use Rattle.rules.proofs.Flags.{both}

-- an op that stores nothing changes no local, and one that stores only its own
same_of : (e : Effect) (m n : Memory) → ((s : ℕ) → e ≡ stores s → ⊥) → Leaves e m n → Same m n
same_of (gives z) m n h l = l.0
same_of (loads s) m n h l = l.0
same_of (stores s) m n h l = absurd (h s refl)
same_of (makes a) m n h l = l.0
same_of measures m n h l = l.0
same_of adds m n h l = l.0
same_of drops m n h l = l.0
same_of anything m n h l = l

stored_others : (ys : List Val) (s : ℕ) (m n : Memory) → Stored ys s m n → (j : ℕ) → (j ≡ s → ⊥) → n.locals j ≡ m.locals j
stored_others [] s m n h j ne = h j ne
stored_others (y ∷ ys) s m n h j ne = h.1 j ne

-- a store is a SetLocal's
abbrev Told : ℕ → Effect → Type 0
Told w (gives z) = Unit {0}
Told w (loads s) = Unit {0}
Told w (stores s) = (kind w ≡ K.set_local) × (field_a w ≡ s)
Told w (makes a) = Unit {0}
Told w measures = Unit {0}
Told w adds = Unit {0}
Told w drops = Unit {0}
Told w anything = Unit {0}

-- a SetLocal of the slot
pub set_tells : (x w : ℕ) → is_set_local x w ≡ true → (kind w ≡ K.set_local) × (field_a w ≡ x)
set_tells x w h =
    let a = both (eqb (kind w) K.set_local) (eqb (field_a w) x) h in
    (eqb-true (kind w) K.set_local a.0, eqb-true (field_a w) x a.1)

-- every other local stays
abbrev pub Kept : Chunk → ℕ → Memory → Memory → Type 0
Kept c i m n = (x : ℕ) → is_set_local x (op_at c.ops i) ≡ false → n.locals x ≡ m.locals x

module _ (c : Chunk) where
  -- the op at a position
  abbrev op : ℕ → ℕ
  op i = op_at c.ops i

  effect_told : (i : ℕ) → Told (op i) (effect_at c i)
  effect_told i =
      test (eqb (kind (op i)) K.const) _ _ (λ h. const (get_or c.constants (field_a (op i)) other)) (test (eqb (kind (op i)) K.get_local) _ _ (λ h. tt)
      (test (eqb (kind (op i)) K.set_local) _ _ (λ h. (eqb-true (kind (op i)) K.set_local h, refl)) (test (eqb (kind (op i)) K.new_composite && eqb (field_b (op i)) 1) _ _ (λ h. tt)
      (test (eqb (kind (op i)) K.len) _ _ (λ h. tt) (test (eqb (kind (op i)) K.checked_add && is_drop (op (suc i))) _ _ (λ h. tt)
      (test (is_drop (op i) && eqb (kind (op (i - 1))) K.checked_add) _ _ (λ h. tt) tt))))))
    where
      const : (k : Constant) → Told (op i) (const_effect k)
      const (integer z) = tt
      const other = tt

      test : (b : Bool) (s t : Effect) → (b ≡ true → Told (op i) s) → Told (op i) t → Told (op i) (cond b s t)
      test true s t yes_then no_then = yes_then refl
      test false s t yes_then no_then = no_then

  pub store_effect : (i : ℕ) → kind (op i) ≡ K.set_local → effect_at c i ≡ stores (field_a (op i))
  store_effect i h = simp h

  pub load_effect : (i : ℕ) → kind (op i) ≡ K.get_local → effect_at c i ≡ loads (field_a (op i))
  load_effect i h = simp h

  pub const_gives : (i : ℕ) (z : ℤ) → kind (op i) ≡ K.const → constant_value (get_or c.constants (field_a (op i)) other) ≡ is z → effect_at c i ≡ gives z
  const_gives i z h v = simp h (by (get_or c.constants (field_a (op i)) other) v)
    where
      by : (k : Constant) → constant_value k ≡ is z → const_effect k ≡ gives z
      by (integer y) e = let same : y ≡ z = cc in rw same
      by other e = absurd (let o : ◌≡◌ {A = ℕ} 0 1 = cc in omega arith)

  pub len_effect : (i : ℕ) → kind (op i) ≡ K.len → effect_at c i ≡ measures
  len_effect i h = simp h

  pub make_effect : (i : ℕ) → kind (op i) ≡ K.new_composite → field_b (op i) ≡ 1 → effect_at c i ≡ makes (field_a (op i))
  make_effect i h g = simp (h, g)

  -- a kind that sets no local
  pub no_set : (i k : ℕ) → kind (op i) ≡ k → eqb k K.set_local ≡ false → (x : ℕ) → is_set_local x (op i) ≡ false
  no_set i k h ne x = rw (h, ne)

  pub leaves_kept : (i : ℕ) (m n : Memory) → Leaves (effect_at c i) m n → Kept c i m n
  leaves_kept i m n l x e = by (eqb (kind (op i)) K.set_local) refl
    where
      by : (b : Bool) → eqb (kind (op i)) K.set_local ≡ b → n.locals x ≡ m.locals x
      by true h =
          let k = eqb-true (kind (op i)) K.set_local h in
          stored_others m.operands (field_a (op i)) m n (rw (store_effect i k) at l) x (λ same.
          let z : is_set_local x (op i) ≡ true = rw (h, eq-eqb (field_a (op i)) x (sym same)) in
          let o : ◌≡◌ {A = ℕ} 0 1 = cc in omega arith)
      by false h =
          same_of (effect_at c i) m n (λ s f.
          let t : Told (op i) (stores s) = rw f at (effect_told i) in
          let z = eq-eqb (kind (op i)) K.set_local t.0 in
          let o : ◌≡◌ {A = ℕ} 0 1 = cc in omega arith) l x
