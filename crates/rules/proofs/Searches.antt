-- What the backward searches find, and what the SetLocals that a row holds have left in the locals: kept by every op, and told by the operands at a
-- SetLocal. Assumes nothing.
use mathlib.Core.Path.{◌≡◌, refl, ◌∙◌}
use mathlib.Core.Bool.{Bool, true, false, cond}
use mathlib.Core.List.{List, ◌∷◌}
use Prim.Native.Nat.{ℕ, zero, suc, ◌≤◌, ◌<◌}
use native.Mathlib.Omega.{arith}
use borrow.Author.Tests.{eqb-true, eqb-false, ltb-true, ltb-false, leb-true, leb-false}
use lib.Dec.{eqb, leb, ltb}
use lib.IntN.{ℤ, pos}
use Rattle.rules.specs.Kinds as K
use Rattle.rules.specs.Outcome.{Found, found, nothing}
use Rattle.rules.specs.Ops.{kind, op_at}
use Rattle.rules.specs.Form.{Chunk}
use Rattle.rules.specs.Rows.{Row}
use Rattle.rules.specs.Count.{is, is_set_local, last_set, array_source, array_length, at_array_set, value_before, value_at, value_of}
use Rattle.rules.specs.Sure.{holds, copy_stops, array_stops, at_stop, len_stops, stops_at, stops_of}
use Rattle.rules.specs.Placed.{all_of}
use Rattle.rules.specs.Values.{Val, number, array, Memory}
use Rattle.rules.proofs.Flags.{both}
use Rattle.rules.proofs.HeldRows.{Hides}
use Rattle.rules.proofs.Effects.{Kept}

-- Searches below a position.
module _ (ops : List ℕ) where
  -- a SetLocal is found there or later
  set_found : (n x i : ℕ) → is_set_local x (op_at ops i) ≡ true → i < n → (s : ℕ) × (last_set ops n x ≡ found s) × (i ≤ s) × (s < n)
  unfolding last_set
  set_found zero x i h lt = absurd (omega arith)
  set_found (suc n) x i h lt = by (is_set_local x (op_at ops n)) refl (λ k. set_found n x i h k)
    where
      by : (b : Bool) → is_set_local x (op_at ops n) ≡ b → (i < n → (s : ℕ) × (last_set ops n x ≡ found s) × (i ≤ s) × (s < n))
          → (s : ℕ) × (cond b (found n) (last_set ops n x) ≡ found s) × (i ≤ s) × (s < suc n)
      by true e next = (n, refl, omega arith, omega arith)
      by false e next = later (ltb i n) refl
        where
          later : (b : Bool) → ltb i n ≡ b → (s : ℕ) × (last_set ops n x ≡ found s) × (i ≤ s) × (s < suc n)
          later true l = let a = next (ltb-true i n l) in (a.0, a.1, a.2, omega (arith, a.3))
          later false l =
              let same : i ≡ n = omega (arith, ltb-false i n l) in
              absurd (let z : is_set_local x (op_at ops n) ≡ true = rw same at h in let o : ◌≡◌ {A = ℕ} 0 1 = cc in omega arith)

  -- what is found is a SetLocal below
  pub found_is : (n x s : ℕ) → last_set ops n x ≡ found s → (is_set_local x (op_at ops s) ≡ true) × (s < n)
  unfolding last_set
  found_is zero x s h = absurd (let o : ◌≡◌ {A = ℕ} 0 1 = cc in omega arith)
  found_is (suc n) x s h = by (is_set_local x (op_at ops n)) refl h (λ k. found_is n x s k)
    where
      by : (b : Bool) → is_set_local x (op_at ops n) ≡ b → cond b (found n) (last_set ops n x) ≡ found s
          → (last_set ops n x ≡ found s → (is_set_local x (op_at ops s) ≡ true) × (s < n)) → (is_set_local x (op_at ops s) ≡ true) × (s < suc n)
      by true e h next = let same : n ≡ s = cc in (rw same at e, omega (arith, same))
      by false e h next = let a = next h in (a.0, omega (arith, a.1))

  -- a search finds the same from anywhere behind what it found
  found_before : (n x s i : ℕ) → last_set ops n x ≡ found s → s < i → i ≤ n → last_set ops i x ≡ found s
  unfolding last_set
  found_before zero x s i h lt le = absurd (omega arith)
  found_before (suc n) x s i h lt le = by (leb i n) refl (λ k l. found_before n x s i k lt l)
    where
      at : (b : Bool) → cond b (found n) (last_set ops n x) ≡ found s → i ≤ n → last_set ops n x ≡ found s
      at true e l = let same : n ≡ s = cc in absurd (omega (arith, same, lt, l))
      at false e l = e

      by : (b : Bool) → leb i n ≡ b → (last_set ops n x ≡ found s → i ≤ n → last_set ops i x ≡ found s) → last_set ops i x ≡ found s
      by true l next = let k = leb-true i n l in next (at (is_set_local x (op_at ops n)) h k) k
      by false l next = let same : i ≡ suc n = omega (arith, leb-false i n l) in rw same h

  -- an array's length is what its SetLocal tells
  array_found : (n x : ℕ) (z : ℤ) → array_length ops n x ≡ is z
      → (s : ℕ) × (last_set ops n x ≡ found (suc s)) × (array_source (op_at ops s) (λ y. array_length ops s y) ≡ is z)
      × (array_stops ops n x ≡ suc s ∷ copy_stops (eqb (kind (op_at ops s)) K.get_local) (λ y. array_stops ops s y) (op_at ops s))
  unfolding last_set array_length array_stops
  array_found zero x z h = absurd (let o : ◌≡◌ {A = ℕ} 0 1 = cc in omega arith)
  array_found (suc zero) x z h = absurd (let o : ◌≡◌ {A = ℕ} 0 1 = cc in omega arith)
  array_found (suc (suc i)) x z h = by (is_set_local x (op_at ops (suc i))) h (λ k. array_found (suc i) x z k)
    where
      by : (b : Bool) → at_array_set b (λ s. array_length ops i s) (λ s. array_length ops (suc i) s) (op_at ops i) x ≡ is z
          → (array_length ops (suc i) x ≡ is z → (s : ℕ) × (last_set ops (suc i) x ≡ found (suc s)) × (array_source (op_at ops s) (λ y. array_length ops s y) ≡ is z)
          × (array_stops ops (suc i) x ≡ suc s ∷ copy_stops (eqb (kind (op_at ops s)) K.get_local) (λ y. array_stops ops s y) (op_at ops s)))
          → (s : ℕ) × (cond b (found (suc i)) (last_set ops (suc i) x) ≡ found (suc s)) × (array_source (op_at ops s) (λ y. array_length ops s y) ≡ is z)
          × (at_stop b (λ s. array_stops ops i s) (λ s. array_stops ops (suc i) s) (suc i) (op_at ops i) x
          ≡ suc s ∷ copy_stops (eqb (kind (op_at ops s)) K.get_local) (λ y. array_stops ops s y) (op_at ops s))
      by true h next = (i, refl, h, refl)
      by false h next = next h

-- the row holds all of them
abbrev pub all_held : Row → List ℕ → Bool
all_held r ss = all_of (λ s. holds r s) ss

module _ (c : Chunk) (full : Row) where
  -- the ops of the chunk
  abbrev ops : List ℕ
  ops = c.ops

  -- what the SetLocal right behind s leaves, where the row holds all that its search stops at
  pub record SetLeaves (s : ℕ) (val : Val) : Type 0 where
    pub numbers : (z : ℤ) → value_before (eqb (kind (op_at ops s)) K.const) c.constants ops s ≡ is z → all_held full (len_stops ops s) ≡ true → val ≡ number z
    pub arrays : (z : ℤ) → array_source (op_at ops s) (λ y. array_length ops s y) ≡ is z
        → all_held full (copy_stops (eqb (kind (op_at ops s)) K.get_local) (λ y. array_stops ops s y) (op_at ops s)) ≡ true → (n : ℕ) × (z ≡ pos n) × (val ≡ array n)

  -- what the SetLocals that the row holds below position h have left
  abbrev pub Known : ℕ → Memory → Type 0
  Known h m = (x s : ℕ) → last_set ops h x ≡ found (suc s) → holds full (suc s) ≡ true → SetLeaves s (m.locals x)

  -- nothing at its start, where all that it holds is behind
  pub known_start : (h : ℕ) (m : Memory) → ((s : ℕ) → holds full s ≡ true → h ≤ s) → Known h m
  known_start h m later x s f g = absurd (let a = found_is ops h x (suc s) f in let b = later (suc s) g in omega (arith, a.1, b))

  -- one op on
  pub known_next : (i : ℕ) (m n : Memory) → Known i m → Kept c i m n
      → ((x s : ℕ) → is_set_local x (op_at ops i) ≡ true → i ≡ suc s → SetLeaves s (n.locals x)) → Known (suc i) n
  unfolding last_set
  known_next i m n k kept set x s f g = by (is_set_local x (op_at ops i)) refl f
    where
      by : (b : Bool) → is_set_local x (op_at ops i) ≡ b → cond b (found i) (last_set ops i x) ≡ found (suc s) → SetLeaves s (n.locals x)
      by true e f = let same : i ≡ suc s = cc in set x s e same
      by false e f = rw (kept x e) (k x s f g)

  -- an op inside a block of the row, where the search is from behind the block
  pub known_inside : (a t i : ℕ) (m n : Memory) → Hides full a t → a ≤ i → i ≤ t → Kept c i m n
      → Known (suc t) m → Known (suc t) n
  known_inside a t i m n hides le le' kept k x s f g = by (is_set_local x (op_at ops i)) refl
    where
      by : (b : Bool) → is_set_local x (op_at ops i) ≡ b → SetLeaves s (n.locals x)
      by true e =
          let (s', f', l, l') = set_found ops (suc t) x i e (omega arith) in
          let same : s' ≡ suc s = cc in
          let none = hides (suc s) (omega arith) (omega arith) in
          absurd (let o : ◌≡◌ {A = ℕ} 0 1 = cc in omega arith)
      by false e = rw (kept x e) (k x s f g)

  -- into a block that starts at i, which is no SetLocal
  pub known_into : (t i : ℕ) (m n : Memory) → Hides full (suc i) t → i ≤ t → ((x : ℕ) → is_set_local x (op_at ops i) ≡ false)
      → Kept c i m n → Known i m → Known (suc t) n
  known_into t i m n hides le no_set kept k x s f g =
      let a = found_is ops (suc t) x (suc s) f in
      rw (kept x (no_set x)) (k x s (found_before ops (suc t) x (suc s) i f (before (ltb (suc s) i) refl a.0 a.1) (omega arith)) g)
    where
      before : (b : Bool) → ltb (suc s) i ≡ b → is_set_local x (op_at ops (suc s)) ≡ true → suc s < suc t → suc s < i
      before true l e lt = ltb-true (suc s) i l
      before false l e lt = at (eqb (suc s) i) refl
        where
          at : (b : Bool) → eqb (suc s) i ≡ b → suc s < i
          at true d =
              let z : is_set_local x (op_at ops (suc s)) ≡ false = rw (eqb-true (suc s) i d) (no_set x) in
              absurd (let o : ◌≡◌ {A = ℕ} 0 1 = cc in omega arith)
          at false d =
              let ne = eqb-false (suc s) i d in
              let z = hides (suc s) (omega (arith, ltb-false (suc s) i l, ne)) (omega arith) in
              absurd (let o : ◌≡◌ {A = ℕ} 0 1 = cc in omega arith)

  -- the value of a local, and an array's length
  pub local_number : (p x : ℕ) (z : ℤ) (m : Memory) → Known p m → value_of c.constants ops p x ≡ is z → all_held full (stops_of ops p x) ≡ true
      → m.locals x ≡ number z
  unfolding all_of
  local_number p x z m k v h = by (last_set ops p x) refl v h
    where
      by : (f : Found) → last_set ops p x ≡ f → value_at c.constants ops f ≡ is z → all_held full (stops_at ops f) ≡ true → m.locals x ≡ number z
      by nothing e v h = absurd (let o : ◌≡◌ {A = ℕ} 0 1 = cc in omega arith)
      by (found zero) e v h = absurd (let o : ◌≡◌ {A = ℕ} 0 1 = cc in omega arith)
      by (found (suc s)) e v h = let a = both (holds full (suc s)) (all_held full (len_stops ops s)) h in (k x s e a.0).numbers z v a.1

  pub local_array : (h g x : ℕ) (z : ℤ) (m : Memory) → Known h m → last_set ops h x ≡ last_set ops g x → array_length ops g x ≡ is z
      → all_held full (array_stops ops g x) ≡ true → (n : ℕ) × (z ≡ pos n) × (m.locals x ≡ array n)
  unfolding all_of
  local_array h g x z m k same v held =
      let (s, f, src, stops) = array_found ops g x z v in
      let rest = copy_stops (eqb (kind (op_at ops s)) K.get_local) (λ y. array_stops ops s y) (op_at ops s) in
      let a = both (holds full (suc s)) (all_held full rest) (rw stops at held) in
      (k x s (same ∙ f) a.0).arrays z src a.1
