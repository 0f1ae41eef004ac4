-- The cycle walk looks at a count only at the Loops of its row. Of two walks of a row whose counts agree there they answer alike; and where the first may
-- instead refuse a Loop by 16 for some reason, its walk does as the other's or is so refused for such a reason. Assumes nothing.
use mathlib.Core.Path.{◌≡◌, refl, ◌∙◌}
use mathlib.Core.Bool.{Bool, true, false, ◌&&◌}
use mathlib.Core.Logic.{◌⊎◌, inl, inr, ⊎_elim}
use Prim.Native.Nat.{ℕ, zero, suc, ◌≤◌, ◌<◌}
use native.Mathlib.Omega.{arith}
use Rattle.rules.specs.Numbers as N
use Rattle.rules.specs.Outcome.{Result, ok, no, and_then}
use Rattle.rules.specs.Rows.{loop_to, shape_of, Row, end, step, stop, leave, leave_if, if_then, if_else, loop, IsRow}
use Rattle.rules.specs.Cycles.{Breaks, unbroken, costliest, Cost, inner, unless_ends, one_pass, passes_cost, row_cost}

-- one of the Loops of a tree is at p
abbrev pub LoopOf : Row → ℕ → Type 0
LoopOf end p = ⊥
LoopOf (step i r) p = LoopOf r p
LoopOf (stop i r) p = LoopOf r p
LoopOf (leave i r) p = LoopOf r p
LoopOf (leave_if i r) p = LoopOf r p
LoopOf (if_then i t a r) p = LoopOf a p ⊎ LoopOf r p
LoopOf (if_else i e t a b r) p = LoopOf a p ⊎ (LoopOf b p ⊎ LoopOf r p)
LoopOf (loop i e b r) p = (p ≡ i) ⊎ (LoopOf b p ⊎ LoopOf r p)

-- `Reason` says of a Loop why it may be refused by 16.
module _ (Reason : ℕ → Type 0) where
  -- two answers: the same, or the first is refused by 16 at a place with a reason
  abbrev pub SameOrRefused : {A : Type 0} → Result A → Result A → Type 0
  SameOrRefused x y = (x ≡ y) ⊎ ((p : ℕ) × Reason p × (x ≡ no N.unsure_count p))

  then_alike : {A B : Type 0} (x y : Result A) (f g : A → Result B) → SameOrRefused x y → ((a : A) → SameOrRefused (f a) (g a)) → SameOrRefused (and_then x f) (and_then y g)
  then_alike x (ok a) f g (inl e) h = rw e (h a)
  then_alike x (no n p) f g (inl e) h = inl (rw e)
  then_alike x y f g (inr (p, why, e)) h = inr (p, why, rw e)

  then_same : {A B : Type 0} (x : Result A) (f g : A → Result B) → ((a : A) → SameOrRefused (f a) (g a)) → SameOrRefused (and_then x f) (and_then x g)
  then_same x f g h = then_alike x x f g (inl refl) h

  -- a part walked with one level less
  inner_alike : (left : ℕ) (u v : ℕ → Result Cost) (f g : Cost → Result Cost) → ((n : ℕ) → SameOrRefused (u n) (v n)) → ((a : Cost) → SameOrRefused (f a) (g a))
      → SameOrRefused (and_then (inner left u) f) (and_then (inner left v) g)
  inner_alike zero u v f g h next = inl refl
  inner_alike (suc left) u v f g h next = then_alike (u left) (v left) f g (h left) next

  module _ (cut : ℕ → ℕ) (charge count count' : ℕ → Result ℕ) where
    -- what follows from any cost and any breaks
    abbrev Rest : (ℕ → Breaks → Result Cost) → (ℕ → Breaks → Result Cost) → Type 0
    Rest f g = (n : ℕ) (z : Breaks) → SameOrRefused (f n z) (g n z)

    ends_alike : (b : Bool) (cost : ℕ) (br : Breaks) (f g : ℕ → Breaks → Result Cost) → Rest f g → SameOrRefused (unless_ends b cost br f) (unless_ends b cost br g)
    ends_alike true cost br f g h = inl refl
    ends_alike false cost br f g h = h cost br

    pass_alike : (x : Breaks) (cost body : ℕ) (br : Breaks) (f g : ℕ → Breaks → Result Cost) → Rest f g
        → SameOrRefused (one_pass cut charge count x cost body br f) (one_pass cut charge count' x cost body br g)
    pass_alike unbroken cost body br f g h = inl refl
    pass_alike (costliest b) cost body br f g h = h _ br

    loop_alike : (x : Bool) (i e : ℕ) (body : Cost) (cost : ℕ) (br : Breaks) (f g : ℕ → Breaks → Result Cost) → SameOrRefused (count i) (count' i) → Rest f g
        → SameOrRefused (passes_cost cut charge count x i e body cost br f) (passes_cost cut charge count' x i e body cost br g)
    loop_alike true i e body cost br f g c h = pass_alike body.breaks cost body.cycles br f g h
    loop_alike false i e body cost br f g c h = then_alike (count i) (count' i) _ _ c (λ n. then_same (charge e) _ _ (λ d. h _ br))

    -- at the Loops of a tree
    abbrev pub AtLoops : Row → Type 0
    AtLoops r = (p : ℕ) → LoopOf r p → SameOrRefused (count p) (count' p)

    pub walk_alike : (r : Row) → AtLoops r → (left cost : ℕ) (br : Breaks)
        → SameOrRefused (row_cost cut charge count r left cost br) (row_cost cut charge count' r left cost br)
    unfolding row_cost
    walk_alike end h left cost br = inl refl
    walk_alike (step i r) h left cost br = then_same (charge i) _ _ (λ c. walk_alike r h left _ br)
    walk_alike (stop i r) h left cost br = inl refl
    walk_alike (leave i r) h left cost br = inl refl
    walk_alike (leave_if i r) h left cost br = then_same (charge i) _ _ (λ c. walk_alike r h left _ _)
    walk_alike (if_then i t a r) h left cost br =
        then_same (charge i) _ _ (λ c.
        inner_alike left _ _ _ _ (λ n. walk_alike a (λ p l. h p (inl l)) n 0 br) (λ arm.
        then_same (charge t) _ _ (λ d. walk_alike r (λ p l. h p (inr l)) left _ arm.breaks)))
    walk_alike (if_else i e t a b r) h left cost br =
        then_same (charge i) _ _ (λ c.
        inner_alike left _ _ _ _ (λ n. walk_alike a (λ p l. h p (inl l)) n 0 br) (λ arm.
        inner_alike left _ _ _ _ (λ n. walk_alike b (λ p l. h p (inr (inl l))) n 0 arm.breaks) (λ other.
        then_same (charge e) _ _ (λ d. then_same (charge t) _ _ (λ f.
        ends_alike (arm.ends && other.ends) _ other.breaks _ _ (λ n z. walk_alike r (λ p l. h p (inr (inr l))) left n z))))))
    walk_alike (loop i e b r) h left cost br =
        then_same (charge i) _ _ (λ c.
        inner_alike left _ _ _ _ (λ n. walk_alike b (λ p l. h p (inr (inl l))) n 0 unbroken) (λ body.
        loop_alike body.ends i e body _ br _ _ (h i (inl refl)) (λ n z. walk_alike r (λ p l. h p (inr (inr l))) left n z)))

-- The Loops of a tree are those of its positions.
module _ (op : ℕ → ℕ) where
  -- a Loop at p, which is one of the positions from i up to `to`
  abbrev IsLoop : ℕ → ℕ → ℕ → Type 0
  IsLoop i to p = (i ≤ p) × (p < to) × (t : ℕ) × (shape_of (op p) ≡ loop_to t)

  wider : (i n k to p : ℕ) → i ≤ n → k ≤ to → IsLoop n k p → IsLoop i to p
  wider i n k to p h g (a, b, t, s) = (omega arith, omega arith, t, s)

  loop_there : (r : Row) (l : Bool) (i to p : ℕ) → IsRow op l i to r → LoopOf r p → IsLoop i to p
  loop_there end l i to p w h = absurd h
  loop_there (step j r) l i to p w h = wider i (suc i) to to p (omega arith) (omega arith) (loop_there r l (suc i) to p w.3 h)
  loop_there (stop j r) l i to p w h = wider i (suc i) to to p (omega arith) (omega arith) (loop_there r l (suc i) to p w.3 h)
  loop_there (leave j r) l i to p w h = wider i (suc i) to to p (omega arith) (omega arith) (loop_there r l (suc i) to p w.4 h)
  loop_there (leave_if j r) l i to p w h = wider i (suc i) to to p (omega arith) (omega arith) (loop_there r l (suc i) to p w.4 h)
  loop_there (if_then j t a r) l i to p w (inl h) = wider i (suc i) t to p (omega arith) (omega arith) (loop_there a l (suc i) t p w.5 h)
  loop_there (if_then j t a r) l i to p w (inr h) = wider i (suc t) to to p (omega arith) (omega arith) (loop_there r l (suc t) to p w.6 h)
  loop_there (if_else j e t a b r) l i to p w (inl h) = wider i (suc i) e to p (omega arith) (omega arith) (loop_there a l (suc i) e p w.7 h)
  loop_there (if_else j e t a b r) l i to p w (inr (inl h)) = wider i (suc e) t to p (omega arith) (omega arith) (loop_there b l (suc e) t p w.8 h)
  loop_there (if_else j e t a b r) l i to p w (inr (inr h)) = wider i (suc t) to to p (omega arith) (omega arith) (loop_there r l (suc t) to p w.9 h)
  loop_there (loop j e b r) l i to p w (inl h) = (omega arith, omega arith, suc e, rw (h ∙ w.0) w.1)
  loop_there (loop j e b r) l i to p w (inr (inl h)) = wider i (suc i) e to p (omega arith) (omega arith) (loop_there b true (suc i) e p w.5 h)
  loop_there (loop j e b r) l i to p w (inr (inr h)) = wider i (suc e) to to p (omega arith) (omega arith) (loop_there r l (suc e) to p w.6 h)

  pub count_used : (cut : ℕ → ℕ) (charge count count' : ℕ → Result ℕ) (r : Row) (l : Bool) (i to : ℕ) → IsRow op l i to r
      → ((p t : ℕ) → i ≤ p → p < to → shape_of (op p) ≡ loop_to t → count p ≡ count' p)
      → (left cost : ℕ) (br : Breaks) → row_cost cut charge count r left cost br ≡ row_cost cut charge count' r left cost br
  count_used cut charge count count' r l i to w h left cost br =
      ⊎_elim (λ e. e) (λ u. absurd u.1)
      (walk_alike (λ p. ⊥) cut charge count count' r (λ p a. let (le, lt, t, s) = loop_there r l i to p w a in inl (h p t le lt s)) left cost br)
