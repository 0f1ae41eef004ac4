-- What the ops right before a position have left on top of the operands, along a path that does as its ops say, and what a SetLocal so leaves in its
-- local. Assumes nothing.
use mathlib.Core.Path.{◌≡◌, refl, sym, ap, ◌∙◌}
use mathlib.Core.Bool.{Bool, true, false, cond, ◌&&◌}
use mathlib.Core.List.{List, [], ◌∷◌}
use Prim.Native.Nat.{ℕ, zero, suc}
use native.Mathlib.Omega.{arith}
use borrow.Author.Tests.{eqb-true}
use lib.Dec.{eqb}
use lib.IntN.{ℤ, pos, ◌+ℤ◌}
use Rattle.rules.specs.Kinds as K
use Rattle.rules.specs.Ops.{kind, field_a, field_b, op_at}
use Rattle.rules.specs.Form.{Chunk}
use Rattle.rules.specs.Rows.{Row, end_if, shape_of}
use Rattle.rules.specs.Count.{is, is_set_local, last_set, array_source, array_literal, array_copy, array_length, len_source, length_before, value_before}
use Rattle.rules.specs.Sure.{copy_stops, array_stops, len_stops}
use Rattle.rules.specs.Values.{Val, number, array, Memory, gives, loads, makes, measures, adds, drops, anything, effect_at}
use Rattle.rules.specs.Values.{Fits, Stored, Measured, Added, Dropped, Leaves}
use Rattle.rules.proofs.Flags.{both}
use Rattle.rules.proofs.Shapes.{shape_tells}
use Rattle.rules.proofs.Effects.{set_tells, store_effect, load_effect, const_gives, len_effect, make_effect, no_set}
use Rattle.rules.proofs.Searches.{all_held, SetLeaves, Known, local_array}

-- the values on top of the operands: the first, the first two, and the third
abbrev pub Top1 : Val → Memory → Type 0
Top1 v m = (xs : List Val) × (m.operands ≡ v ∷ xs)

abbrev pub Top2 : Val → Val → Memory → Type 0
Top2 v w m = (xs : List Val) × (m.operands ≡ v ∷ w ∷ xs)

abbrev pub Top3 : Val → Memory → Type 0
Top3 v m = (a : Val) × (b : Val) × (xs : List Val) × (m.operands ≡ a ∷ b ∷ v ∷ xs)

-- what is measured, added and dropped
measured_is : (n : ℕ) (xs ys zs : List Val) → ys ≡ array n ∷ xs → Measured ys zs → zs ≡ number (pos n) ∷ xs
measured_is n xs ys zs e h = rw e at h

added_is : (y z : ℤ) (xs ys zs : List Val) → ys ≡ number z ∷ number y ∷ xs → Added ys zs → Fits (y +ℤ z)
    → (a : Val) × (b : Val) × (zs ≡ a ∷ b ∷ number (y +ℤ z) ∷ xs)
added_is y z xs ys zs e h f = let g : Added (number z ∷ number y ∷ xs) zs = rw e at h in g f

dropped_is : (a b : Val) (xs ys zs : List Val) → ys ≡ a ∷ b ∷ xs → Dropped ys zs → zs ≡ xs
dropped_is a b xs ys zs e h = rw e at h

pub stored_is : (v : Val) (xs : List Val) (ys : List Val) (s : ℕ) (m n : Memory) → ys ≡ v ∷ xs → Stored ys s m n → n.locals s ≡ v
stored_is v xs ys s m n e h = let g : Stored (v ∷ xs) s m n = rw e at h in g.0

module _ (c : Chunk) where
  -- the op at a position
  abbrev op : ℕ → ℕ
  op i = op_at c.ops i

  -- what the op at j, and those right before it, have left on top
  pub record Recent (j : ℕ) (m : Memory) : Type 0 where
    pub const : (z : ℤ) → effect_at c j ≡ gives z → Top1 (number z) m
    pub load : (x : ℕ) → effect_at c j ≡ loads x → Top1 (m.locals x) m
    pub made : (a : ℕ) → effect_at c j ≡ makes a → Top1 (array a) m
    pub long : (g x n : ℕ) → j ≡ suc g → effect_at c j ≡ measures → effect_at c g ≡ loads x → m.locals x ≡ array n → Top1 (number (pos n)) m
    pub two : (g x : ℕ) (z : ℤ) → j ≡ suc g → effect_at c j ≡ gives z → effect_at c g ≡ loads x → Top2 (number z) (m.locals x) m
    pub sum : (g x : ℕ) (y z : ℤ) → j ≡ suc (suc g) → effect_at c j ≡ adds → effect_at c (suc g) ≡ gives z → effect_at c g ≡ loads x → m.locals x ≡ number y
        → Fits (y +ℤ z) → Top3 (number (y +ℤ z)) m
    pub total : (g x : ℕ) (y z : ℤ) → j ≡ suc (suc (suc g)) → effect_at c j ≡ drops → effect_at c (suc (suc g)) ≡ adds → effect_at c (suc g) ≡ gives z
        → effect_at c g ≡ loads x → m.locals x ≡ number y → Fits (y +ℤ z) → Top1 (number (y +ℤ z)) m

  -- nothing is said at EndIf, to which an If may have jumped
  abbrev pub RecentAt : ℕ → Memory → Type 0
  RecentAt i m = (j : ℕ) → i ≡ suc j → (shape_of (op i) ≡ end_if → ⊥) → Recent j m

  -- an op that is none of those named
  pub recent_none : (j : ℕ) (m : Memory) → effect_at c j ≡ anything → Recent j m
  recent_none j m e =
      record {
        const = λ z f. absurd (let o : ◌≡◌ {A = ℕ} 0 1 = cc in omega arith);
        load = λ x f. absurd (let o : ◌≡◌ {A = ℕ} 0 1 = cc in omega arith);
        made = λ a f. absurd (let o : ◌≡◌ {A = ℕ} 0 1 = cc in omega arith);
        long = λ g x n s f h l. absurd (let o : ◌≡◌ {A = ℕ} 0 1 = cc in omega arith);
        two = λ g x z s f h. absurd (let o : ◌≡◌ {A = ℕ} 0 1 = cc in omega arith);
        sum = λ g x y z s f h i l k. absurd (let o : ◌≡◌ {A = ℕ} 0 1 = cc in omega arith);
        total = λ g x y z s f a h i l k. absurd (let o : ◌≡◌ {A = ℕ} 0 1 = cc in omega arith);
      }

  end_if_effect : (i : ℕ) → shape_of (op i) ≡ end_if → effect_at c i ≡ anything
  end_if_effect i e = simp (shape_tells (op i) end_if e)

  -- behind the op at i
  pub recent_next : (i : ℕ) (m n : Memory) → RecentAt i m → Leaves (effect_at c i) m n → Recent i n
  recent_next i m n r l =
      record {
        const = λ z f. let k : Leaves (gives z) m n = rw f at l in (m.operands, k.1);
        load = λ x f. let k : Leaves (loads x) m n = rw f at l in (m.operands, rw (k.0 x) k.1);
        made = λ a f. let k : Leaves (makes a) m n = rw f at l in (k.1, k.2);
        long = λ g x k s f h a.
            let l' : Leaves measures m n = rw f at l in
            let (xs, t) = (before g s (λ e. let d = end_if_effect i e in let o : ◌≡◌ {A = ℕ} 0 1 = cc in omega arith)).load x h in
            (xs, measured_is k xs m.operands n.operands (t ∙ ap (λ (v : Val). v ∷ xs) (sym (l'.0 x) ∙ a)) l'.1);
        two = λ g x z s f h.
            let l' : Leaves (gives z) m n = rw f at l in
            let (xs, t) = (before g s (λ e. let d = end_if_effect i e in let o : ◌≡◌ {A = ℕ} 0 1 = cc in omega arith)).load x h in
            (xs, rw (l'.0 x) (l'.1 ∙ ap (λ (ys : List Val). number z ∷ ys) t));
        sum = λ g x y z s f h a k fit.
            let l' : Leaves adds m n = rw f at l in
            let (xs, t) = (before (suc g) s (λ e. let d = end_if_effect i e in let o : ◌≡◌ {A = ℕ} 0 1 = cc in omega arith)).two g x z refl h a in
            let (b, d, u) =
            added_is y z xs m.operands n.operands (t ∙ ap (λ (v : Val). number z ∷ v ∷ xs) (sym (l'.0 x) ∙ k)) l'.1 fit in
            (b, d, xs, u);
        total = λ g x y z s f h a k v fit.
            let l' : Leaves drops m n = rw f at l in
            let (b, d, xs, t) =
            (before (suc (suc g)) s (λ e. let d = end_if_effect i e in let o : ◌≡◌ {A = ℕ} 0 1 = cc in omega arith)).sum g x y z refl h a k (sym (l'.0 x) ∙ v) fit in
            (xs, dropped_is b d (number (y +ℤ z) ∷ xs) m.operands n.operands t l'.1);
      }
    where
      before : (g : ℕ) → i ≡ suc g → (shape_of (op i) ≡ end_if → ⊥) → Recent g m
      before g s e = r g s e

  -- what a SetLocal leaves
  module _ (full : Row) (s x : ℕ) (m n : Memory) (set : is_set_local x (op (suc s)) ≡ true) (r : RecentAt (suc s) m) (known : Known c full (suc s) m)
      (l : Leaves (effect_at c (suc s)) m n) where
    set_kind : (kind (op (suc s)) ≡ K.set_local) × (field_a (op (suc s)) ≡ x)
    set_kind = set_tells x (op (suc s)) set

    gets : (v : Val) → Top1 v m → n.locals x ≡ v
    gets v (xs, t) =
        let k : Stored m.operands (field_a (op (suc s))) m n = rw (store_effect c (suc s) set_kind.0) at l in
        stored_is v xs m.operands x m n t (rw set_kind.1 at k)

    before : Recent s m
    before = r s refl (λ e. let d = end_if_effect (suc s) e in let f = store_effect c (suc s) set_kind.0 in let o : ◌≡◌ {A = ℕ} 0 1 = cc in omega arith)

    unset : (j k y : ℕ) → kind (op j) ≡ k → eqb k K.set_local ≡ false → last_set c.ops (suc j) y ≡ last_set c.ops j y
    unfolding last_set
    unset j k y h ne = rw (no_set c j k h ne y)

    copied : (z : ℤ) → array_source (op s) (λ y. array_length c.ops s y) ≡ is z
        → all_held full (copy_stops (eqb (kind (op s)) K.get_local) (λ y. array_stops c.ops s y) (op s)) ≡ true → (k : ℕ) × (z ≡ pos k) × (n.locals x ≡ array k)
    copied z v held = made (eqb (kind (op s)) K.new_composite && eqb (field_b (op s)) 1) refl v
      where
        copy : (b : Bool) → eqb (kind (op s)) K.get_local ≡ b → array_copy b (λ y. array_length c.ops s y) (op s) ≡ is z
            → all_held full (copy_stops b (λ y. array_stops c.ops s y) (op s)) ≡ true → (k : ℕ) × (z ≡ pos k) × (n.locals x ≡ array k)
        copy true e v held =
            let h = eqb-true (kind (op s)) K.get_local e in
            let y = field_a (op s) in
            let (k, same, a) = local_array c full (suc s) s y z m known (unset s K.get_local y h refl) v held in
            (k, same, gets (m.locals y) (before.load y (load_effect c s h)) ∙ a)
        copy false e v held = absurd (let o : ◌≡◌ {A = ℕ} 0 1 = cc in omega arith)

        made : (b : Bool) → (eqb (kind (op s)) K.new_composite && eqb (field_b (op s)) 1) ≡ b → array_literal b (λ y. array_length c.ops s y) (op s) ≡ is z
            → (k : ℕ) × (z ≡ pos k) × (n.locals x ≡ array k)
        made true e v =
            let a = both (eqb (kind (op s)) K.new_composite) (eqb (field_b (op s)) 1) e in
            let f = make_effect c s (eqb-true (kind (op s)) K.new_composite a.0) (eqb-true (field_b (op s)) 1 a.1) in
            let same : pos (field_a (op s)) ≡ z = cc in
            (field_a (op s), sym same, gets (array (field_a (op s))) (before.made (field_a (op s)) f))
        made false e v = copy (eqb (kind (op s)) K.get_local) refl v held

    counted : (z : ℤ) → value_before (eqb (kind (op s)) K.const) c.constants c.ops s ≡ is z → all_held full (len_stops c.ops s) ≡ true → n.locals x ≡ number z
    counted z v held = by (eqb (kind (op s)) K.const) refl v
      where
        length : (g : ℕ) (b : Bool) → s ≡ suc g → (eqb (kind (op (suc g))) K.len && eqb (kind (op g)) K.get_local) ≡ b → length_before b c.ops g ≡ is z
            → all_held full (cond b (array_stops c.ops g (field_a (op g))) []) ≡ true → n.locals x ≡ number z
        length g true same e v held =
            let a = both (eqb (kind (op (suc g))) K.len) (eqb (kind (op g)) K.get_local) e in
            let h = eqb-true (kind (op (suc g))) K.len a.0 in
            let h' = eqb-true (kind (op g)) K.get_local a.1 in
            let y = field_a (op g) in
            let skipped : last_set c.ops (suc s) y ≡ last_set c.ops g y = rw same (unset (suc g) K.len y h refl ∙ unset g K.get_local y h' refl) in
            let (k, is_k, a') = local_array c full (suc s) g y z m known skipped v held in
            rw is_k (gets (number (pos k)) (before.long g y k same (rw same (len_effect c (suc g) h)) (load_effect c g h') a'))
        length g false same e v held = absurd (let o : ◌≡◌ {A = ℕ} 0 1 = cc in omega arith)

        len : (k : ℕ) → s ≡ k → len_source c.ops k ≡ is z → all_held full (len_stops c.ops k) ≡ true → n.locals x ≡ number z
        len zero same v held = absurd (let o : ◌≡◌ {A = ℕ} 0 1 = cc in omega arith)
        len (suc g) same v held = length g (eqb (kind (op (suc g))) K.len && eqb (kind (op g)) K.get_local) same refl v held

        by : (b : Bool) → eqb (kind (op s)) K.const ≡ b → value_before b c.constants c.ops s ≡ is z → n.locals x ≡ number z
        by true e v = gets (number z) (before.const z (const_gives c s z (eqb-true (kind (op s)) K.const e) v))
        by false e v = len s refl v held

    pub set_left : SetLeaves c full s (n.locals x)
    set_left = record { numbers = counted; arrays = copied }
