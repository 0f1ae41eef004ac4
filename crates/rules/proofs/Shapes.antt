-- What the shape of an op tells of its word, and the other way. Assumes nothing.
use mathlib.Core.Path.{◌≡◌, refl}
use mathlib.Core.Bool.{true, false, cond}
use Prim.Native.Nat.{ℕ, suc, ◌≤◌}
use native.Mathlib.Omega.{arith}
use lib.Dec.{eqb}
use borrow.Author.Tests.{eqb-true, eqb-false}
use Rattle.rules.specs.Kinds as K
use Rattle.rules.specs.Ops.{kind, field_a}
use Rattle.rules.specs.Rows.{Shape, plain, trap, returns, if_to, else_to, end_if, loop_to, end_loop, breaks, breaks_if, calls, shape_of}
use Rattle.rules.specs.Rows.{Plain, Ending}

-- the word's kind, and its field a where the shape holds a number
abbrev pub Tells : ℕ → Shape → Type 0
Tells w plain = Unit {0}
Tells w trap = kind w ≡ K.trap
Tells w returns = kind w ≡ K.return
Tells w (if_to t) = (kind w ≡ K.if) × (field_a w ≡ t)
Tells w (else_to t) = (kind w ≡ K.else) × (field_a w ≡ t)
Tells w end_if = kind w ≡ K.end_if
Tells w (loop_to t) = (kind w ≡ K.loop) × (field_a w ≡ t)
Tells w end_loop = kind w ≡ K.end_loop
Tells w breaks = kind w ≡ K.break
Tells w breaks_if = kind w ≡ K.break_if
Tells w (calls k) = (kind w ≡ K.call) × (field_a w ≡ k)

module _ (w : ℕ) where
  -- a kind among those of If to BreakIf is at least k
  abbrev From : ℕ → Type 0
  From k = K.if ≤ kind w → kind w ≤ K.break_if → k ≤ kind w

  -- what holds of the shape, by the kind; a plain op is of no kind from If to BreakIf
  pub by_kind : (P : Shape → Type 0) → (kind w ≡ K.if → P (if_to (field_a w))) → (kind w ≡ K.else → P (else_to (field_a w))) → (kind w ≡ K.end_if → P end_if)
      → (kind w ≡ K.loop → P (loop_to (field_a w))) → (kind w ≡ K.end_loop → P end_loop) → (kind w ≡ K.break → P breaks) → (kind w ≡ K.break_if → P breaks_if)
      → (kind w ≡ K.call → P (calls (field_a w))) → (kind w ≡ K.return → P returns) → (kind w ≡ K.trap → P trap)
      → ((K.if ≤ kind w → kind w ≤ K.break_if → ⊥) → P plain) → P (shape_of w)
  by_kind P a b c d e f g h j k m =
      by K.if (λ p q. p) a (λ n. by K.else n b (λ n. by K.end_if n c (λ n. by K.loop n d (λ n. by K.end_loop n e (λ n. by K.break n f (λ n.
      by K.break_if n g (λ n. by K.call (λ p q. omega (arith, n p q)) h (λ n. by K.return n j (λ n.
      by K.trap (λ p q. omega (arith, n p q)) k (λ n. m (λ p q. omega (arith, n p q))))))))))))
    where
      by : (k : ℕ) {s t : Shape} → From k → (kind w ≡ k → P s) → (From (suc k) → P t) → P (cond (eqb (kind w) k) s t)
      by k {s} {t} low y n =
          (elim (eqb (kind w) k) as (λ c. eqb (kind w) k ≡ c → P (cond c s t))
          [ true ↦ λ e. y (eqb-true _ k e) | false ↦ λ e. n (λ p q. let m = eqb-false (kind w) k e in omega (arith, low p q)) ]) refl

  tells : Tells w (shape_of w)
  tells =
      by_kind (Tells w) (λ h. (h, refl)) (λ h. (h, refl)) (λ h. h) (λ h. (h, refl)) (λ h. h) (λ h. h) (λ h. h) (λ h. (h, refl)) (λ h. h) (λ h. h) (λ n. tt)

  pub shape_tells : (s : Shape) → shape_of w ≡ s → Tells w s
  shape_tells s e = rw e at tells

  pub end_if_shape : kind w ≡ K.end_if → shape_of w ≡ end_if
  end_if_shape h = simp h

  pub end_loop_shape : kind w ≡ K.end_loop → shape_of w ≡ end_loop
  end_loop_shape h = simp h

  pub else_shape : kind w ≡ K.else → shape_of w ≡ else_to (field_a w)
  else_shape h = simp h

-- what holds of every plain op, and of every one that ends a row
pub by_plain : (P : Shape → Type 0) → P plain → ((k : ℕ) → P (calls k)) → (s : Shape) → Plain s → P s
by_plain P a b plain h = a
by_plain P a b trap h = absurd h
by_plain P a b returns h = absurd h
by_plain P a b (if_to t) h = absurd h
by_plain P a b (else_to e) h = absurd h
by_plain P a b end_if h = absurd h
by_plain P a b (loop_to t) h = absurd h
by_plain P a b end_loop h = absurd h
by_plain P a b breaks h = absurd h
by_plain P a b breaks_if h = absurd h
by_plain P a b (calls k) h = b k

pub by_ending : (P : Shape → Type 0) → P trap → P returns → (s : Shape) → Ending s → P s
by_ending P a b plain h = absurd h
by_ending P a b trap h = a
by_ending P a b returns h = b
by_ending P a b (if_to t) h = absurd h
by_ending P a b (else_to e) h = absurd h
by_ending P a b end_if h = absurd h
by_ending P a b (loop_to t) h = absurd h
by_ending P a b end_loop h = absurd h
by_ending P a b breaks h = absurd h
by_ending P a b breaks_if h = absurd h
by_ending P a b (calls k) h = absurd h
