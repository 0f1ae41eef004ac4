-- The backward pass over a row by sums: how many ops close a block and how many open one, counted forward, tell whether the pass gets to an op at depth 0. And
-- what the pass from the end of a row says of an op before the row. Assumes nothing.
use mathlib.Core.Path.{◌≡◌, refl, sym, ◌∙◌}
use mathlib.Core.Bool.{Bool, true, false, cond, ◌&&◌}
use Prim.Native.Nat.{ℕ, zero, suc, ◌+◌, ◌-◌, ◌≤◌, ◌<◌}
use native.Mathlib.Omega.{arith}
use borrow.Author.Tests.{eqb-true, eqb-false, leb-true, leb-false, eq-eqb, ne_eqb}
use lib.Dec.{eqb, leb}
use Rattle.rules.specs.Rows.{Shape, plain, if_to, else_to, loop_to, shape_of}
use Rattle.rules.specs.Rows.{Row, end, step, stop, leave, leave_if, if_then, if_else, loop, Plain, Ending, IsRow}
use Rattle.rules.proofs.Shapes.{by_plain, by_ending}
use Rattle.rules.proofs.RowTree.{row_forward}
use Rattle.rules.specs.Placed.{back_by, back, closing, opening, how_many, balanced, placed, beside, Begins, range, arm, second, body}
use Rattle.rules.proofs.Backward.{one_back, stopped, set_level, Block, if_block, loop_block, closed, else_passed, over_row}
use Rattle.rules.proofs.SameRow.{by_side, not_first, not_last, not_else}

-- The count of the positions from i up to `to`: none, the first of them, and in two parts.
module _ (f : Shape → Bool) (op : ℕ → ℕ) where
  pub count_done : (i : ℕ) → how_many f op (i - i) i ≡ 0
  unfolding how_many
  count_done i = let e : i - i ≡ 0 = omega arith in rw e

  pub count_next : (i to : ℕ) → i < to → how_many f op (to - i) i ≡ cond (f (shape_of (op i))) 1 0 + how_many f op (to - suc i) (suc i)
  unfolding how_many
  count_next i to lt = let e : to - i ≡ suc (to - suc i) = omega arith in rw e

  split_at : (n i m to : ℕ) → n + i ≡ m → m ≤ to → how_many f op (to - i) i ≡ how_many f op n i + how_many f op (to - m) m
  unfolding how_many
  split_at zero i m to e le = let same : i ≡ m = omega arith in rw same (omega arith)
  split_at (suc n) i m to e le =
      let a = count_next i to (omega arith) in
      let b = split_at n (suc i) m to (omega arith) le in
      omega (arith, a, b)

  pub count_parts : (i m to : ℕ) → i ≤ m → m ≤ to → how_many f op (to - i) i ≡ how_many f op (m - i) i + how_many f op (to - m) m
  count_parts i m to h le = split_at (m - i) i m to (omega arith) le

-- two pairs of numbers with one difference
pub eqb_apart : (a b c d : ℕ) → a + d ≡ b + c → eqb a b ≡ eqb c d
eqb_apart a b c d h = go (eqb c d) refl
  where
    go : (x : Bool) → eqb c d ≡ x → eqb a b ≡ x
    go true e = eq-eqb a b (let same = eqb-true c d e in omega arith)
    go false e = ne_eqb a b (λ k. eqb-false c d e (omega arith))

-- what an op adds to the two counts
abbrev Adds : Shape → ℕ → ℕ → Type 0
Adds x c o = (cond (closing x) 1 0 ≡ c) × (cond (opening x) 1 0 ≡ o)

plain_adds : (x : Shape) → Plain x → Adds x 0 0
unfolding closing opening
plain_adds x h = by_plain (λ x. Adds x 0 0) (refl, refl) (λ k. (refl, refl)) x h

ending_adds : (x : Shape) → Ending x → Adds x 0 0
unfolding closing opening
ending_adds x h = by_ending (λ x. Adds x 0 0) (refl, refl) (refl, refl) x h

module _ (op : ℕ → ℕ) where
  -- the two counts of the positions from i up to `to`
  abbrev closed_in : ℕ → ℕ → ℕ
  closed_in i to = how_many closing op (to - i) i

  abbrev opened_in : ℕ → ℕ → ℕ
  opened_in i to = how_many opening op (to - i) i

  -- the op at i adds c to the one and o to the other
  abbrev At : ℕ → ℕ → ℕ → Type 0
  At i c o = Adds (shape_of (op i)) c o

  first_adds : (i to c o : ℕ) → i < to → At i c o → (closed_in i to ≡ c + closed_in (suc i) to) × (opened_in i to ≡ o + opened_in (suc i) to)
  first_adds i to c o lt (a, b) =
      let n = count_next closing op i to lt in
      let m = count_next opening op i to lt in
      (omega (arith, n, a), omega (arith, m, b))

  -- a row closes as many blocks as it opens
  abbrev Even : ℕ → ℕ → Type 0
  Even i to = closed_in i to ≡ opened_in i to

  even_level : (i to : ℕ) → i < to → At i 0 0 → Even (suc i) to → Even i to
  even_level i to lt h e = let (a, b) = first_adds i to 0 0 lt h in omega (arith, a, b)

  -- two stretches with the op at e between, that adds c and o
  joined : (i e to c o : ℕ) → i ≤ e → e < to → At e c o → Even (suc e) to → closed_in i to + (opened_in i e + o) ≡ opened_in i to + (closed_in i e + c)
  joined i e to c o h lt w even =
      let (a, b) = first_adds e to c o lt w in
      let n = count_parts closing op i e to h (omega arith) in
      let m = count_parts opening op i e to h (omega arith) in
      omega (arith, a, b, n, m)

  even_block : (i e to : ℕ) → i < e → e < to → At i 0 1 → At e 1 0 → Even (suc i) e → Even (suc e) to → Even i to
  even_block i e to h lt o c inside rest =
      let (a, b) = first_adds i to 0 1 (omega arith) o in
      let j = joined (suc i) e to 1 0 h lt c rest in
      omega (arith, a, b, j)

  even_row : (r : Row) (l : Bool) (i to : ℕ) → IsRow op l i to r → Even i to
  unfolding closing opening
  even_row end l i to w = rw w (count_done closing op to ∙ sym (count_done opening op to))
  even_row (step j r) l i to w = even_level i to w.1 (plain_adds (shape_of (op i)) w.2) (even_row r l (suc i) to w.3)
  even_row (stop j r) l i to w = even_level i to w.1 (ending_adds (shape_of (op i)) w.2) (even_row r l (suc i) to w.3)
  even_row (leave j r) l i to w = even_level i to w.1 (rw w.2 (refl, refl)) (even_row r l (suc i) to w.4)
  even_row (leave_if j r) l i to w = even_level i to w.1 (rw w.2 (refl, refl)) (even_row r l (suc i) to w.4)
  even_row (if_then j t a r) l i to w =
      even_block i t to w.2 w.3 (rw w.1 (refl, refl)) (rw w.4 (refl, refl)) (even_row a l (suc i) t w.5) (even_row r l (suc t) to w.6)
  even_row (if_else j e t a b r) l i to w =
      let one = even_row a l (suc i) e w.7 in
      let two = joined (suc i) e t 0 0 w.2 w.3 (rw w.5 (refl, refl)) (even_row b l (suc e) t w.8) in
      even_block i t to (omega arith) w.4 (rw w.1 (refl, refl)) (rw w.6 (refl, refl)) (omega (arith, one, two)) (even_row r l (suc t) to w.9)
  even_row (loop j e b r) l i to w =
      even_block i e to w.2 w.3 (rw w.1 (refl, refl)) (rw w.4 (refl, refl)) (even_row b true (suc i) e w.5) (even_row r l (suc e) to w.6)

  -- From behind a row that s is in, at any depth: the pass gets to s at depth 0 exactly if the ops in between open all that is closed.
  module _ (s : ℕ) (set : shape_of (op s) ≡ plain) where
    -- the pass from m at depth d gets to s exactly if the sums say so
    abbrev Sums : ℕ → ℕ → Type 0
    Sums m d = back op m d s ≡ eqb (d + closed_in (suc s) m) (opened_in (suc s) m)

    -- from m on up to `to`, where the depth goes from e to d
    carried : (m to d e : ℕ) → s < m → m ≤ to → d + closed_in m to ≡ e + opened_in m to → back op to d s ≡ back op m e s → Sums m e → Sums to d
    carried m to d e lt le even over g =
        let a = count_parts closing op (suc s) m to lt le in
        let b = count_parts opening op (suc s) m to lt le in
        over ∙ g ∙ eqb_apart (e + closed_in (suc s) m) (opened_in (suc s) m) (d + closed_in (suc s) to) (opened_in (suc s) to) (omega (arith, a, b, even))

    here : (d : ℕ) → Sums (suc s) d
    here d = stopped op d s ∙ rw (count_done closing op (suc s), count_done opening op (suc s)) (eqb_apart d 0 (d + 0) 0 (omega arith))

    past_row : (r : Row) (l : Bool) (m to d : ℕ) → IsRow op l m to r → s < m → Sums m d → Sums to d
    past_row r l m to d w lt g =
        let even = even_row r l m to w in
        carried m to d d lt (row_forward op r l m to w) (omega (arith, even)) (over_row op r l m to d s w lt) g

    past_op : (m c o d e : ℕ) → s < m → At m c o → d + c ≡ e + o → back op (suc m) d s ≡ back op m e s → Sums m e → Sums (suc m) d
    past_op m c o d e lt h same over g =
        let (a, b) = first_adds m (suc m) c o (omega arith) h in
        let n = count_done closing op (suc m) in
        let k = count_done opening op (suc m) in
        carried m (suc m) d e lt (omega arith) (omega (arith, a, b, n, k, same)) over g

    level_sums : (r : Row) (l : Bool) (i to d : ℕ) → IsRow op l (suc i) to r → i ≤ s → (suc i ≤ s → Sums to d) → Sums to d
    level_sums r l i to d w le next =
        by_side i s next (λ k. past_row r l (suc i) to d w (omega arith) (rw k (here d))) (λ k. absurd (omega arith))

    block_sums : (r : Row) (l : Bool) (i e to d : ℕ) → Block op i e → At e 1 0 → IsRow op l (suc e) to r → i ≤ s
        → (suc i ≤ s → s < e → Sums e (suc d)) → (suc e ≤ s → Sums to d) → Sums to d
    block_sums r l i e to d b c w le inside behind =
        let first = not_first op b s (set_level op s set) in
        by_side s e
        (λ k. past_row r l (suc e) to d w (omega arith)
        (past_op e 1 0 d (suc d) k c (omega arith) (closed op b d s (λ m. omega arith)) (inside (omega (arith, first, le)) k)))
        (λ k. absurd (not_last op b s (set_level op s set) (sym k)))
        behind

    -- the arms of an If with Else at e
    arms_sums : (q : Row) (l : Bool) (e t d : ℕ) → shape_of (op e) ≡ else_to t → IsRow op l (suc e) t q → (s < e → Sums e (suc d))
        → (suc e ≤ s → Sums t (suc d)) → Sums t (suc d)
    unfolding closing opening
    arms_sums q l e t d h w one two =
        by_side s e
        (λ k. past_row q l (suc e) t (suc d) w (omega arith)
        (past_op e 0 0 (suc d) (suc d) k (rw h (refl, refl)) refl (else_passed op e t d s h (λ m. omega arith)) (one k)))
        (λ k. absurd (not_else op e t s h (set_level op s set) (sym k)))
        two

    row_sums : (r : Row) (l : Bool) (i to d : ℕ) → IsRow op l i to r → i ≤ s → s < to → Sums to d
    unfolding closing opening
    row_sums end l i to d w le lt = absurd (omega arith)
    row_sums (step j r) l i to d w le lt = level_sums r l i to d w.3 le (λ k. row_sums r l (suc i) to d w.3 k lt)
    row_sums (stop j r) l i to d w le lt = level_sums r l i to d w.3 le (λ k. row_sums r l (suc i) to d w.3 k lt)
    row_sums (leave j r) l i to d w le lt = level_sums r l i to d w.4 le (λ k. row_sums r l (suc i) to d w.4 k lt)
    row_sums (leave_if j r) l i to d w le lt = level_sums r l i to d w.4 le (λ k. row_sums r l (suc i) to d w.4 k lt)
    row_sums (if_then j t a r) l i to d w le lt =
        block_sums r l i t to d (if_block op i t t w.1 w.4) (rw w.4 (refl, refl)) w.6 le
        (λ k m. row_sums a l (suc i) t (suc d) w.5 k m) (λ k. row_sums r l (suc t) to d w.6 k lt)
    row_sums (if_else j e t a b r) l i to d w le lt =
        block_sums r l i t to d (if_block op i t (suc e) w.1 w.6) (rw w.6 (refl, refl)) w.9 le
        (λ k m. arms_sums b l e t d w.5 w.8
        (λ n. row_sums a l (suc i) e (suc d) w.7 k n) (λ n. row_sums b l (suc e) t (suc d) w.8 n m))
        (λ k. row_sums r l (suc t) to d w.9 k lt)
    row_sums (loop j e b r) l i to d w le lt =
        block_sums r l i e to d (loop_block op i e (suc e) w.1 w.4) (rw w.4 (refl, refl)) w.6 le
        (λ k m. row_sums b true (suc i) e (suc d) w.5 k m) (λ k. row_sums r l (suc e) to d w.6 k lt)

-- at depth 0, from the end of the row
pub back_sums : (op : ℕ → ℕ) (r : Row) (l : Bool) (from p s : ℕ) → IsRow op l from p r → from ≤ s → s < p → shape_of (op s) ≡ plain
    → back op p 0 s ≡ eqb (how_many closing op (p - suc s) (suc s)) (how_many opening op (p - suc s) (suc s))
back_sums op r l from p s w le lt set =
    let same : 0 + how_many closing op (p - suc s) (suc s) ≡ how_many closing op (p - suc s) (suc s) = omega arith in
    rw same at (row_sums op s set r l from p 0 w le lt)

-- the pass goes no further than what opens the row
opener_left : (op : ℕ → ℕ) (i s : ℕ) (x : Shape) → shape_of (op i) ≡ x → ((n : ℕ → Bool) → back_by x 0 n ≡ false) → shape_of (op s) ≡ plain
    → back op (suc i) 0 s ≡ false
opener_left op i s x h stops set = one_back op i 0 s apart ∙ rw h (stops (λ e. back op i e s))
  where
    apart : i ≡ s → ⊥
    apart k =
        let same : x ≡ plain = sym h ∙ rw k set in
        let f : true ≡ false = rw same at (stops (λ e. true)) in
        let o : ◌≡◌ {A = ℕ} 0 1 = cc in
        omega arith

begin_left : (op : ℕ → ℕ) (start from s : ℕ) → Begins op start from → start ≤ s → s < from → shape_of (op s) ≡ plain → back op from 0 s ≡ false
begin_left op start from s (range e) le lt set = absurd (omega arith)
begin_left op start from s (arm i t o e h) le lt set = rw e (opener_left op i s (if_to t) h (λ n. refl) set)
begin_left op start from s (second i t o e h) le lt set = rw e (opener_left op i s (else_to t) h (λ n. refl) set)
begin_left op start from s (body i t o e h) le lt set = rw e (opener_left op i s (loop_to t) h (λ n. refl) set)

-- which is in the range
pub begins_behind : (op : ℕ → ℕ) (start from : ℕ) → Begins op start from → start ≤ from
begins_behind op start from (range e) = omega arith
begins_behind op start from (arm i t o e h) = omega arith
begins_behind op start from (second i t o e h) = omega arith
begins_behind op start from (body i t o e h) = omega arith

-- Of an op before the end of a row: the start of the row and the two counts say what the pass from the row's end says.
pub row_stop : (op : ℕ → ℕ) (r : Row) (l : Bool) (start from p s : ℕ) → IsRow op l from p r → Begins op start from → s < p → shape_of (op s) ≡ plain
    → placed op start p s ≡ beside op from p s
row_stop op r l start from p s w begins lt set = go (leb start s) (leb from s) refl refl
  where
    go : (a b : Bool) → leb start s ≡ a → leb from s ≡ b → (a && back op p 0 s) ≡ (b && balanced op (suc s) p)
    go true true e f = back_sums op r l from p s w (leb-true from s f) lt set
    go true false e f =
        let k = leb-false from s f in
        over_row op r l from p 0 s w k ∙ begin_left op start from s begins (leb-true start s e) k set
    go false true e f = absurd (omega (arith, begins_behind op start from begins, leb-false start s e, leb-true from s f))
    go false false e f = refl
