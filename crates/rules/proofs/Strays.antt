-- The first stray break of a tree is the first by its position, and a tree without one is of a range without one. Assumes nothing.
use mathlib.Core.Path.{◌≡◌, refl, sym, ◌∙◌}
use mathlib.Core.Bool.{Bool, true, false, true≢false}
use mathlib.Core.List.{List}
use mathlib.Core.Logic.{◌⊎◌, inl, inr, ⊎_elim}
use Prim.Native.Nat.{ℕ, suc, ◌<◌, ◌≤◌}
use native.Mathlib.Omega.{arith}
use borrow.Author.Tests.{ltb-true, ltb-false, eqb-true, eqb-false}
use lib.Dec.{eqb, ltb}
use Rattle.rules.specs.Outcome.{ok, Found, found, nothing}
use Rattle.rules.specs.Ops.{field_a, op_at}
use Rattle.rules.specs.Rows.{Shape, plain, trap, returns, if_to, else_to, end_if, loop_to, end_loop, breaks, breaks_if, calls, shape_of}
use Rattle.rules.specs.Rows.{Row, end, step, stop, leave, leave_if, if_then, if_else, loop, IsRow, Range, row_of, unless_stray, or_else, stray_break}
use Rattle.rules.specs.Claims.{IsStray, StrayFirst, StrayNone}
use Rattle.rules.proofs.Shapes.{shape_tells, by_plain, by_ending}
use Rattle.rules.proofs.RowTree.{row_some}

-- neither a Loop nor a break
abbrev Passing : Shape → Type 0
Passing plain = Unit {0}
Passing trap = Unit {0}
Passing returns = Unit {0}
Passing (if_to t) = Unit {0}
Passing (else_to e) = Unit {0}
Passing end_if = Unit {0}
Passing (loop_to t) = ⊥
Passing end_loop = Unit {0}
Passing breaks = ⊥
Passing breaks_if = ⊥
Passing (calls k) = Unit {0}

-- the choice between a position before b and one from b on
before-or : {A : Type 0} (k b : ℕ) → (k < b → A) → (b ≤ k → A) → A
before-or {A} k b first then =
    (elim (ltb k b) as (λ c. ltb k b ≡ c → A) [ true ↦ λ e. first (ltb-true k b e) | false ↦ λ e. then (ltb-false k b e) ]) refl

module _ (ops : List ℕ) (g : Range) where
  abbrev IsBreak : ℕ → Type 0
  IsBreak i = (shape_of (op_at ops i) ≡ breaks) ⊎ (shape_of (op_at ops i) ≡ breaks_if)

  -- what a search of the positions from i up to `to` tells: the first stray break, or that there is none
  abbrev FirstIs : ℕ → ℕ → Found → Type 0
  FirstIs i to (found j) = (i ≤ j) × (j < to) × IsStray ops g j × ((k : ℕ) → i ≤ k → k < j → IsStray ops g k → ⊥)
  FirstIs i to nothing = (k : ℕ) → i ≤ k → k < to → IsStray ops g k → ⊥

  -- every Loop from a on and before b has its target at b or earlier
  abbrev AllClosed : ℕ → ℕ → Type 0
  AllClosed a b = (q t : ℕ) → a ≤ q → q < b → shape_of (op_at ops q) ≡ loop_to t → t ≤ b

  -- the innermost Loop around the positions from i up to `to`, which has the target t
  record LoopAround (t i to : ℕ) : Type 0 where
    at : ℕ
    is_loop : shape_of (op_at ops at) ≡ loop_to t
    before : (g.from ≤ at) × (at < i)
    behind : to < t
    closed : AllClosed (suc at) i

  -- there is one around a row that may have breaks
  abbrev Inside : Bool → ℕ → ℕ → ℕ → Type 0
  Inside l t i to = l ≡ true → LoopAround t i to

  -- a stretch of the range with its Loops, and the first stray break in it
  record Stretch (i to : ℕ) (f : Found) : Type 0 where
    forward : i ≤ to
    closed : AllClosed i to
    says : FirstIs i to f

  closed_then : (a b c : ℕ) → b ≤ c → AllClosed a b → AllClosed b c → AllClosed a c
  closed_then a b c h x y q t l u s = before-or q b (λ v. omega (arith, x q t l v s)) (λ v. y q t v u s)

  says_then : (i m to : ℕ) (f h : Found) → i ≤ m → m ≤ to → FirstIs i m f → FirstIs m to h → FirstIs i to (or_else f (λ u. h))
  says_then i m to (found j) h a b x y = (x.0, omega (arith, x.1), x.2, x.3)
  says_then i m to nothing (found j) a b x y = (omega (arith, y.0), y.1, y.2, λ k l u s. before-or k m (λ v. x k l v s) (λ v. y.3 k v u s))
  says_then i m to nothing nothing a b x y = λ k l u s. before-or k m (λ v. x k l v s) (λ v. y k v u s)

  joined : {i m to : ℕ} {f h : Found} → Stretch i m f → Stretch m to h → Stretch i to (or_else f (λ u. h))
  joined {i} {m} {to} {f} {h} a b = record {
    forward = omega (arith, a.forward, b.forward);
    closed = closed_then i m to b.forward a.closed b.closed;
    says = says_then i m to f h a.forward b.forward a.says b.says;
  }

  -- the same Loop is around what stands behind a stretch
  moved : {l : Bool} {t i to : ℕ} (j : ℕ) {m : ℕ} → Inside l t i to → i ≤ j → AllClosed i j → m ≤ to → Inside l t j m
  moved {i = i} j a h c n e =
      let o = a e in
      record {
        at = o.at;
        is_loop = o.is_loop;
        before = omega (arith, o.before);
        behind = omega (arith, o.behind);
        closed = closed_then (suc o.at) i j h o.closed c;
      }

  further : {l : Bool} {t i to j m : ℕ} {f : Found} → Stretch i j f → Inside l t i to → m ≤ to → Inside l t j m
  further {j = j} s a n = moved j a s.forward s.closed n

  none : (i : ℕ) → Stretch i i nothing
  none i = record { forward = omega arith; closed = λ q t a b s. absurd (omega arith); says = λ k a b s. absurd (omega arith) }

  -- an op that is no break in front of a stretch; if it is a Loop, its target lies there
  in_front : (i to : ℕ) {f : Found} → (IsBreak i → ⊥) → ((t : ℕ) → shape_of (op_at ops i) ≡ loop_to t → t ≤ to) → Stretch (suc i) to f → Stretch i to f
  in_front i to {f} n l a = record {
    forward = omega (arith, a.forward);
    closed = λ q t b u s. before-or q (suc i) (λ v. let same : q ≡ i = omega arith in l t (rw same at s)) (λ v. a.closed q t v u s);
    says =
        says_then i (suc i) to nothing f (omega arith) a.forward (λ k b u s. let same : k ≡ i = omega arith in n (rw same at s.is_break)) a.says;
  }

  one_passing : (i : ℕ) → Passing (shape_of (op_at ops i)) → Stretch i (suc i) nothing
  one_passing i q = in_front i (suc i) (⊎_elim (λ e. rw e at q) (λ e. rw e at q)) (λ t e. absurd (rw e at q)) (none (suc i))

  break_or_loop : (i t : ℕ) → shape_of (op_at ops i) ≡ loop_to t → IsBreak i → ⊥
  break_or_loop i t e =
      let k = shape_tells (op_at ops i) (loop_to t) e in
      ⊎_elim (λ b. omega (arith, k, shape_tells (op_at ops i) breaks b)) (λ b. omega (arith, k, shape_tells (op_at ops i) breaks_if b))

  looped : (i e : ℕ) {to : ℕ} {f : Found} → shape_of (op_at ops i) ≡ loop_to (suc e) → suc e ≤ to → Stretch (suc i) to f → Stretch i to f
  looped i e {to} s h a =
      in_front i to (break_or_loop i (suc e) s) (λ t k. let z : loop_to t ≡ loop_to (suc e) = sym k ∙ s in let y : t ≡ suc e = cc in omega arith) a

  -- a position has one innermost Loop
  one_target : (t i to : ℕ) → i < to → LoopAround t i to → (s : IsStray ops g i) → s.target ≡ t
  one_target t i to lt a s =
      before-or s.at a.at (λ v. absurd (s.innermost a.at t v a.before.1 a.is_loop (omega (arith, a.behind))))
      (λ v. before-or a.at s.at (λ u. absurd (omega (arith, a.closed s.at s.target u s.around.1 s.is_loop, s.around)))
      (λ u. let same : s.at ≡ a.at = omega arith in let z : loop_to s.target ≡ loop_to t = sym s.is_loop ∙ rw same a.is_loop in cc))

  module _ (t i to : ℕ) (lt : i < to) (from : g.from ≤ i) (within : to ≤ g.to) (is : IsBreak i) (a : LoopAround t i to) where
    stray : eqb (field_a (op_at ops i)) t ≡ false → IsStray ops g i
    stray e = record {
      within = omega arith;
      is_break = is;
      at = a.at;
      target = t;
      is_loop = a.is_loop;
      around = omega (arith, a.before, a.behind);
      innermost = λ q u v l s w. omega (arith, a.closed q u v l s);
      other = eqb-false _ t e;
    }

    own : eqb (field_a (op_at ops i)) t ≡ true → FirstIs i (suc i) nothing
    own e k v l s =
        let same : k ≡ i = omega arith in
        let o : IsStray ops g i = rw same at s in
        o.other (eqb-true _ t e ∙ sym (one_target t i to lt a o))

    break_closed : AllClosed i (suc i)
    break_closed q u v l s = let same : q ≡ i = omega arith in absurd (break_or_loop i u (rw same at s) is)

    -- a break in front of a stretch
    broken : {f : Found} → Stretch (suc i) to f → Stretch i to (unless_stray (eqb (field_a (op_at ops i)) t) i (λ u. f))
    broken {f} b = record {
      forward = omega (arith, b.forward);
      closed = closed_then i (suc i) to b.forward break_closed b.closed;
      says =
          (elim (eqb (field_a (op_at ops i)) t) as (λ c. eqb (field_a (op_at ops i)) t ≡ c → FirstIs i to (unless_stray c i (λ u. f))) [
            | true ↦ λ e. says_then i (suc i) to nothing f (omega arith) b.forward (own e) b.says
            | false ↦ λ e. (omega arith, lt, stray e, λ k v l s. absurd (omega arith))
          ]) refl;
    }

  -- the search of a tree is the search of its positions
  searched : (l : Bool) (t i to : ℕ) (r : Row) → IsRow (op_at ops) l i to r → Inside l t i to → g.from ≤ i → to ≤ g.to
      → Stretch i to (stray_break (op_at ops) t r)
  unfolding stray_break
  searched l t i to end w a h k = rw w (none to)
  searched l t i to (step j r) w a h k =
      let first = one_passing i (by_plain Passing tt (λ k. tt) (shape_of (op_at ops i)) w.2) in
      joined first (searched l t (suc i) to r w.3 (further first a (omega arith)) (omega arith) k)
  searched l t i to (stop j r) w a h k =
      let first = one_passing i (by_ending Passing tt tt (shape_of (op_at ops i)) w.2) in
      joined first (searched l t (suc i) to r w.3 (further first a (omega arith)) (omega arith) k)
  searched l t i to (leave j r) w a h k =
      let is : IsBreak i = inl w.2 in
      let o = a w.3 in
      let past : Inside l t (suc i) to = moved (suc i) a (omega arith) (break_closed t i to w.1 h k is o) (omega arith) in
      rw w.0 (broken t i to w.1 h k is o (searched l t (suc i) to r w.4 past (omega arith) k))
  searched l t i to (leave_if j r) w a h k =
      let is : IsBreak i = inr w.2 in
      let o = a w.3 in
      let past : Inside l t (suc i) to = moved (suc i) a (omega arith) (break_closed t i to w.1 h k is o) (omega arith) in
      rw w.0 (broken t i to w.1 h k is o (searched l t (suc i) to r w.4 past (omega arith) k))
  searched l t i to (if_then j f p r) w a h k =
      let first = one_passing i (rw w.1 tt) in
      let arm = searched l t (suc i) f p w.5 (further first a (omega arith)) (omega arith) (omega arith) in
      let last = one_passing f (rw w.4 tt) in
      let rest = searched l t (suc f) to r w.6 (further (joined first (joined arm last)) a (omega arith)) (omega arith) k in
      joined first (joined arm (joined last rest))
  searched l t i to (if_else j e f p q r) w a h k =
      let first = one_passing i (rw w.1 tt) in
      let arm = searched l t (suc i) e p w.7 (further first a (omega arith)) (omega arith) (omega arith) in
      let middle = one_passing e (rw w.5 tt) in
      let half = joined first (joined arm middle) in
      let other = searched l t (suc e) f q w.8 (further half a (omega arith)) (omega arith) (omega arith) in
      let last = one_passing f (rw w.6 tt) in
      let rest = searched l t (suc f) to r w.9 (further (joined half (joined other last)) a (omega arith)) (omega arith) k in
      joined first (joined arm (joined middle (joined other (joined last rest))))
  searched l t i to (loop j e b r) w a h k =
      let inner : LoopAround (suc e) (suc i) e =
      record { at = i; is_loop = w.1; before = omega arith; behind = omega arith; closed = λ q u v l s. absurd (omega arith) } in
      let body = searched true (suc e) (suc i) e b w.5 (λ _. inner) (omega arith) (omega arith) in
      let last = one_passing e (rw w.4 tt) in
      let whole = looped i e w.1 (omega arith) (joined body last) in
      let rest = searched l t (suc e) to r w.6 (further whole a (omega arith)) (omega arith) k in
      looped i e w.1 (omega arith) (joined body (joined last rest))

  range_searched : (r : Row) → g.from ≤ g.to → row_of ops g ≡ ok r → FirstIs g.from g.to (stray_break (op_at ops) 0 r)
  range_searched r h e =
      (searched false 0 g.from g.to r (row_some ops g r h e) (λ e. absurd (true≢false (sym e))) (omega arith) (omega arith)).says

pub stray_first : StrayFirst
stray_first ops g r i h row e = let s = rw e at (range_searched ops g r h row) in (s.2, λ j l t. s.3 j t.within.0 l t)

pub stray_none : StrayNone
stray_none ops g r h row e j t = (rw e at (range_searched ops g r h row)) j t.within.0 t.within.1 t
