-- Of two cycle walks of the same row, the charges and counts of one being at most the other's: where the second answers the first does, with the same ending
-- and at most its figure, and where it refuses the first refuses alike, unless it is by a refusal that the first may be spared. Assumes nothing.
use mathlib.Core.Path.{◌≡◌, refl}
use mathlib.Core.Bool.{Bool, true, false, ◌&&◌}
use mathlib.Core.Logic.{◌⊎◌, inl, inr, ⊎_elim}
use Prim.Native.Nat.{ℕ, zero, suc, ◌+◌, ◌*◌, ◌≤◌}
use native.Mathlib.Nat.{mul-zero, mul-suc}
use native.Mathlib.Omega.{arith}
use Rattle.rules.specs.Outcome.{Result, ok, no, and_then}
use Rattle.rules.specs.Rows.{Row, end, step, stop, leave, leave_if, if_then, if_else, loop}
use Rattle.rules.specs.Cycles.{Breaks, unbroken, costliest, note_break, break_cost, Cost, inner, unless_ends, one_pass, passes_cost, row_cost}

-- `Spared n p`: the second may refuse by n at p where the first does something else
module _ (Spared : ℕ → ℕ → Type 0) {A : Type 0} (Less : A → A → Type 0) where
  abbrev pub Below : Result A → Result A → Type 0
  Below x (no n p) = (x ≡ no n p) ⊎ Spared n p
  Below (ok a) (ok b) = Less a b
  Below (no n p) (ok b) = ⊥

-- none is spared
abbrev pub never : ℕ → ℕ → Type 0
never n p = ⊥

abbrev pub less_n : ℕ → ℕ → Type 0
less_n a b = a ≤ b

abbrev pub LessBreaks : Breaks → Breaks → Type 0
LessBreaks unbroken unbroken = Unit {0}
LessBreaks unbroken (costliest b) = ⊥
LessBreaks (costliest a) unbroken = ⊥
LessBreaks (costliest a) (costliest b) = a ≤ b

abbrev pub LessCost : Cost → Cost → Type 0
LessCost k l = (k.cycles ≤ l.cycles) × (k.ends ≡ l.ends) × LessBreaks k.breaks l.breaks

note_less : (a b : Breaks) (c d : ℕ) → LessBreaks a b → c ≤ d → LessBreaks (note_break a c) (note_break b d)
note_less unbroken unbroken c d h le = le
note_less unbroken (costliest b) c d h le = absurd h
note_less (costliest a) unbroken c d h le = absurd h
note_less (costliest a) (costliest b) c d h le = omega arith

cost_less : (a b : Breaks) → LessBreaks a b → break_cost a ≤ break_cost b
cost_less unbroken unbroken h = omega arith
cost_less unbroken (costliest b) h = absurd h
cost_less (costliest a) unbroken h = absurd h
cost_less (costliest a) (costliest b) h = h

times_less : (a b n m : ℕ) → a ≤ b → n ≤ m → a * n ≤ b * m
times_less a b zero m h k = omega (arith, mul-zero a)
times_less a b (suc n) zero h k = absurd (omega arith)
times_less a b (suc n) (suc m) h k = omega (arith, mul-suc a n, mul-suc b m, times_less a b n m h (omega arith))

module _ (Spared : ℕ → ℕ → Type 0) where
  pub same_below : {A : Type 0} (P : A → A → Type 0) → ((a : A) → P a a) → (x : Result A) → Below Spared P x x
  same_below P h (ok a) = h a
  same_below P h (no n p) = inl refl

  pub then_below : {A B : Type 0} (P : A → A → Type 0) (Q : B → B → Type 0) (x y : Result A) (f g : A → Result B) → Below Spared P x y
      → ((a b : A) → P a b → Below Spared Q (f a) (g b)) → Below Spared Q (and_then x f) (and_then y g)
  then_below P Q x (no n p) f g h next = ⊎_elim (λ e. inl (rw e)) (λ s. inr s) h
  then_below P Q (ok a) (ok b) f g h next = next a b h
  then_below P Q (no n p) (ok b) f g h next = absurd h

  pub inner_below : {A : Type 0} (P : A → A → Type 0) (left : ℕ) (u v : ℕ → Result A) → ((l : ℕ) → Below Spared P (u l) (v l))
      → Below Spared P (inner left u) (inner left v)
  inner_below P zero u v h = inl refl
  inner_below P (suc l) u v h = h l

module _ (Spared : ℕ → ℕ → Type 0) (f g count many : ℕ → Result ℕ) (charges : (i : ℕ) → Below Spared less_n (f i) (g i))
    (counts : (p : ℕ) → Below Spared less_n (count p) (many p)) where
  abbrev Rest : (ℕ → Breaks → Result Cost) → (ℕ → Breaks → Result Cost) → Type 0
  Rest u v = (c d : ℕ) (a b : Breaks) → c ≤ d → LessBreaks a b → Below Spared LessCost (u c a) (v d b)

  ends_below : (x y : Bool) (c d : ℕ) (a b : Breaks) (u v : ℕ → Breaks → Result Cost) → x ≡ y → c ≤ d → LessBreaks a b → Rest u v
      → Below Spared LessCost (unless_ends x c a u) (unless_ends y d b v)
  ends_below true true c d a b u v e h k rest = (h, refl, k)
  ends_below true false c d a b u v e h k rest = absurd (let z : ◌≡◌ {A = ℕ} 0 1 = cc in omega arith)
  ends_below false true c d a b u v e h k rest = absurd (let z : ◌≡◌ {A = ℕ} 0 1 = cc in omega arith)
  ends_below false false c d a b u v e h k rest = rest c d a b h k

  pass_below : (x y : Breaks) (c d n m : ℕ) (a b : Breaks) (u v : ℕ → Breaks → Result Cost) → LessBreaks x y → c ≤ d → n ≤ m → LessBreaks a b → Rest u v
      → Below Spared LessCost (one_pass (λ z. z) f count x c n a u) (one_pass (λ z. z) g many y d m b v)
  pass_below unbroken unbroken c d n m a b u v h le ln k rest = (omega arith, refl, k)
  pass_below unbroken (costliest y) c d n m a b u v h le ln k rest = absurd h
  pass_below (costliest x) unbroken c d n m a b u v h le ln k rest = absurd h
  pass_below (costliest x) (costliest y) c d n m a b u v h le ln k rest = rest _ _ a b (omega arith) k

  loop_below : (x y : Bool) (i e : ℕ) (j k : Cost) (c d : ℕ) (a b : Breaks) (u v : ℕ → Breaks → Result Cost) → x ≡ y → LessCost j k → c ≤ d → LessBreaks a b
      → Rest u v → Below Spared LessCost (passes_cost (λ z. z) f count x i e j c a u) (passes_cost (λ z. z) g many y i e k d b v)
  loop_below true true i e j k c d a b u v s h le l rest = pass_below j.breaks k.breaks c d j.cycles k.cycles a b u v h.2 le h.0 l rest
  loop_below true false i e j k c d a b u v s h le l rest = absurd (let z : ◌≡◌ {A = ℕ} 0 1 = cc in omega arith)
  loop_below false true i e j k c d a b u v s h le l rest = absurd (let z : ◌≡◌ {A = ℕ} 0 1 = cc in omega arith)
  loop_below false false i e j k c d a b u v s h le l rest =
      then_below Spared less_n LessCost (count i) (many i) _ _ (counts i) (λ n m ln.
      then_below Spared less_n LessCost (f e) (g e) _ _ (charges e) (λ p q lp.
      rest _ _ a b (omega (arith, times_less (j.cycles + p) (k.cycles + q) n m (omega (arith, h.0)) ln, cost_less j.breaks k.breaks h.2)) l))

  pub walk_below : (r : Row) (left c d : ℕ) (a b : Breaks) → c ≤ d → LessBreaks a b
      → Below Spared LessCost (row_cost (λ z. z) f count r left c a) (row_cost (λ z. z) g many r left d b)
  unfolding row_cost
  walk_below end left c d a b h k = (h, refl, k)
  walk_below (step i r) left c d a b h k = then_below Spared less_n LessCost (f i) (g i) _ _ (charges i) (λ p q l. walk_below r left _ _ a b (omega arith) k)
  walk_below (stop i r) left c d a b h k = then_below Spared less_n LessCost (f i) (g i) _ _ (charges i) (λ p q l. (omega arith, refl, k))
  walk_below (leave i r) left c d a b h k =
      then_below Spared less_n LessCost (f i) (g i) _ _ (charges i) (λ p q l. (omega arith, refl, note_less a b _ _ k (omega arith)))
  walk_below (leave_if i r) left c d a b h k =
      then_below Spared less_n LessCost (f i) (g i) _ _ (charges i) (λ p q l. walk_below r left _ _ _ _ (omega arith) (note_less a b _ _ k (omega arith)))
  walk_below (if_then i t p r) left c d a b h k =
      then_below Spared less_n LessCost (f i) (g i) _ _ (charges i) (λ x y l.
      then_below Spared LessCost LessCost (inner left _) (inner left _) _ _ (inner_below Spared LessCost left _ _ (λ m. walk_below p m 0 0 a b (omega arith) k)) (λ u v n.
      then_below Spared less_n LessCost (f t) (g t) _ _ (charges t) (λ z w o. walk_below r left _ _ _ _ (omega (arith, n.0)) n.2)))
  walk_below (if_else i e t p q r) left c d a b h k =
      then_below Spared less_n LessCost (f i) (g i) _ _ (charges i) (λ x y l.
      then_below Spared LessCost LessCost (inner left _) (inner left _) _ _ (inner_below Spared LessCost left _ _ (λ m. walk_below p m 0 0 a b (omega arith) k)) (λ u v n.
      then_below Spared LessCost LessCost (inner left _) (inner left _) _ _ (inner_below Spared LessCost left _ _ (λ m. walk_below q m 0 0 _ _ (omega arith) n.2)) (λ s w o.
      then_below Spared less_n LessCost (f e) (g e) _ _ (charges e) (λ α β γ.
      then_below Spared less_n LessCost (f t) (g t) _ _ (charges t) (λ δ ε ζ.
      ends_below (u.ends && s.ends) (v.ends && w.ends) _ _ _ _ _ _ (rw (n.1, o.1)) (omega (arith, n.0, o.0)) o.2
      (λ c' d' a' b' h' k'. walk_below r left c' d' a' b' h' k'))))))
  walk_below (loop i e q r) left c d a b h k =
      then_below Spared less_n LessCost (f i) (g i) _ _ (charges i) (λ x y l.
      then_below Spared LessCost LessCost (inner left _) (inner left _) _ _ (inner_below Spared LessCost left _ _ (λ m. walk_below q m 0 0 unbroken unbroken (omega arith) tt)) (λ u v n.
      loop_below u.ends v.ends i e u v _ _ a b _ _ n.1 n (omega arith) k (λ c' d' a' b' h' k'. walk_below r left c' d' a' b' h' k')))
