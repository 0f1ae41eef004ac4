-- The parser of rows answers the tree that `IsRow` describes, and none exactly where there is none. Assumes nothing.
use mathlib.Core.Path.{◌≡◌, refl, ap, ◌∙◌}
use mathlib.Core.Bool.{Bool, true, false, cond, ◌&&◌}
use mathlib.Core.List.{List}
use Prim.Native.Nat.{ℕ, zero, suc, ◌+◌, ◌-◌, ◌<◌, ◌≤◌, max}
use native.Mathlib.Numerals.{sub-one}
use native.Mathlib.Omega.{arith}
use borrow.Author.Tests.{ltb-true, ltb-false, eqb-true, lt-ltb, le-ltb, ne_eqb}
use lib.Dec.{eqb, ltb}
use Rattle.rules.specs.Kinds as K
use Rattle.rules.specs.Numbers as N
use Rattle.rules.specs.Outcome.{ok, no, Found, found, nothing, and_then}
use Rattle.rules.specs.Ops.{kind, field_a, op_at}
use Rattle.rules.specs.Form.{Chunk}
use Rattle.rules.specs.Rows.{Shape, plain, trap, returns, if_to, else_to, end_if, loop_to, end_loop, breaks, breaks_if, calls, shape_of}
use Rattle.rules.specs.Rows.{Row, end, step, stop, leave, leave_if, if_then, if_else, loop, Plain, Ending, IsRow, Parsed, row, crossed}
use Rattle.rules.specs.Rows.{on_row, parsed_if, parse_if, parse_else, parse_either, parse_loop, parse_op, parse_in, parse}
use Rattle.rules.specs.Rows.{Range, first_of, or_refuse, range_if, range_by, range_of, forward_targets, or_crossed, row_of}
use Rattle.rules.specs.Rows.{unless_found, stray_break, own_targets, Walkable, walkable, chunk_row}
use Rattle.rules.specs.Paths.{range_found}
use Rattle.rules.proofs.Answers.{from_ok}
use Rattle.rules.proofs.Flags.{both}
use Rattle.rules.proofs.Shapes.{shape_tells, end_if_shape, end_loop_shape, else_shape, by_plain, by_ending}

-- what an answered tree tells of the test before it
passed : (b : Bool) (next : ℕ → Parsed) (i : ℕ) {r : Row} → parsed_if b next i ≡ row r → (b ≡ true) × (next i ≡ row r)
passed true next i e = (refl, e)
passed false next i e = absurd (let z : ◌≡◌ {A = ℕ} 0 1 = cc in omega arith)

allowed : (b : Bool) (next : ℕ → Parsed) (i : ℕ) → b ≡ true → parsed_if b next i ≡ next i
allowed true next i e = refl
allowed false next i e = absurd (let z : ◌≡◌ {A = ℕ} 0 1 = cc in omega arith)

-- the row that no op is left of
end_sound : (op : ℕ → ℕ) (l : Bool) (i to : ℕ) (r : Row) → i ≤ to → ltb i to ≡ false → row end ≡ row r → IsRow op l i to r
end_sound op l i to r h lt w =
    let same : r ≡ end = cc in
    rw same (omega (arith, ltb-false i to lt))

-- One op, where the trees of the parts behind it are right.
module _ (op : ℕ → ℕ) (rows : Bool → ℕ → ℕ → Parsed)
    (right : (l : Bool) (j e : ℕ) (r : Row) → j ≤ e → rows l j e ≡ row r → IsRow op l j e r) where
  part : (l : Bool) (j e : ℕ) (next : Row → Parsed) {r : Row} → j ≤ e → on_row (rows l j e) next ≡ row r → (q : Row) × IsRow op l j e q × (next q ≡ row r)
  part l j e next {r} h w = go (rows l j e) refl w
    where
      go : (p : Parsed) → rows l j e ≡ p → on_row p next ≡ row r → (q : Row) × IsRow op l j e q × (next q ≡ row r)
      go (row q) a w = (q, right l j e q h a, w)
      go crossed a w = absurd (let z : ◌≡◌ {A = ℕ} 0 1 = cc in omega arith)

  module _ (l : Bool) (i to : ℕ) (r : Row) where
    if_sound : (t : ℕ) → i < t → shape_of (op i) ≡ if_to t → parse_if op (rows l) i t to ≡ row r → IsRow op l i to r
    if_sound t lt s w =
        let a = passed (ltb t to && eqb (kind (op t)) 23) _ i w in
        let b = both (ltb t to) (eqb (kind (op t)) 23) a.0 in
        let before = ltb-true t to b.0 in
        let p = part l (suc i) t _ lt a.1 in
        let q = part l (suc t) to _ before p.2 in
        let same : r ≡ if_then i t p.0 q.0 = cc in
        rw same (refl, s, lt, before, end_if_shape (op t) (eqb-true _ _ b.1), p.1, q.1)

    else_sound : (e t : ℕ) → i < e → shape_of (op i) ≡ if_to (suc e) → shape_of (op e) ≡ else_to t → parse_else op (rows l) i e t to ≡ row r → IsRow op l i to r
    else_sound e t lt s k w =
        let a = passed (ltb e t && ltb t to && eqb (kind (op t)) 23) _ i w in
        let b = both (ltb e t && ltb t to) (eqb (kind (op t)) 23) a.0 in
        let c = both (ltb e t) (ltb t to) b.0 in
        let after = ltb-true e t c.0 in
        let before = ltb-true t to c.1 in
        let p = part l (suc i) e _ lt a.1 in
        let q = part l (suc e) t _ after p.2 in
        let z = part l (suc t) to _ before q.2 in
        let same : r ≡ if_else i e t p.0 q.0 z.0 = cc in
        rw same (refl, s, lt, after, before, k, end_if_shape (op t) (eqb-true _ _ b.1), p.1, q.1, z.1)

    -- an If is no Else, so the Else stands behind it
    else_behind : (t : ℕ) → i < t → shape_of (op i) ≡ if_to t → kind (op (t - 1)) ≡ 22 → i < t - 1
    else_behind t lt s k =
        let is-if = (shape_tells (op i) (if_to t) s).0 in
        let other : i ≡ t - 1 → ⊥ = λ e. let z : ◌≡◌ {A = ℕ} 21 22 = cc in omega arith in
        omega arith

    either_sound : (t : ℕ) (b : Bool) → eqb (kind (op (t - 1))) 22 ≡ b → i < t → shape_of (op i) ≡ if_to t → parse_either b op (rows l) i t to ≡ row r
        → IsRow op l i to r
    either_sound t true k lt s w =
        let is_else = eqb-true _ _ k in
        let same : t ≡ suc (t - 1) = omega arith in
        else_sound (t - 1) (field_a (op (t - 1))) (else_behind t lt s is_else) (s ∙ ap if_to same) (else_shape (op (t - 1)) is_else) w
    either_sound t false k lt s w = if_sound t lt s w

    loop_sound : (t : ℕ) → shape_of (op i) ≡ loop_to t → parse_loop op rows l i (t - 1) to ≡ row r → IsRow op l i to r
    loop_sound t s w =
        let e = t - 1 in
        let a = passed (ltb i e && ltb e to && eqb (kind (op e)) 25) _ i w in
        let b = both (ltb i e && ltb e to) (eqb (kind (op e)) 25) a.0 in
        let c = both (ltb i e) (ltb e to) b.0 in
        let after = ltb-true i e c.0 in
        let before = ltb-true e to c.1 in
        let p = part true (suc i) e _ after a.1 in
        let q = part l (suc e) to _ before p.2 in
        let same : r ≡ loop i e p.0 q.0 = cc in
        let next : t ≡ suc e = omega arith in
        rw same (refl, s ∙ ap loop_to next, after, before, end_loop_shape (op e) (eqb-true _ _ b.1), p.1, q.1)

    op_sound : (s : Shape) → i < to → shape_of (op i) ≡ s → parse_op s op rows l i to ≡ row r → IsRow op l i to r
    op_sound plain lt s w =
        let q = part l (suc i) to _ lt w in
        let same : r ≡ step i q.0 = cc in
        rw same (refl, lt, rw s tt, q.1)
    op_sound trap lt s w =
        let q = part l (suc i) to _ lt w in
        let same : r ≡ stop i q.0 = cc in
        rw same (refl, lt, rw s tt, q.1)
    op_sound returns lt s w =
        let q = part l (suc i) to _ lt w in
        let same : r ≡ stop i q.0 = cc in
        rw same (refl, lt, rw s tt, q.1)
    op_sound (if_to t) lt s w =
        let a = passed (ltb i t) _ i w in
        either_sound t (eqb (kind (op (t - 1))) 22) refl (ltb-true i t a.0) s a.1
    op_sound (else_to t) lt s w = absurd (let z : ◌≡◌ {A = ℕ} 0 1 = cc in omega arith)
    op_sound end_if lt s w = absurd (let z : ◌≡◌ {A = ℕ} 0 1 = cc in omega arith)
    op_sound (loop_to t) lt s w = loop_sound t s w
    op_sound end_loop lt s w = absurd (let z : ◌≡◌ {A = ℕ} 0 1 = cc in omega arith)
    op_sound breaks lt s w =
        let a = passed l _ i w in
        let q = part l (suc i) to _ lt a.1 in
        let same : r ≡ leave i q.0 = cc in
        rw same (refl, lt, s, a.0, q.1)
    op_sound breaks_if lt s w =
        let a = passed l _ i w in
        let q = part l (suc i) to _ lt a.1 in
        let same : r ≡ leave_if i q.0 = cc in
        rw same (refl, lt, s, a.0, q.1)
    op_sound (calls k) lt s w =
        let q = part l (suc i) to _ lt w in
        let same : r ≡ step i q.0 = cc in
        rw same (refl, lt, rw s tt, q.1)

    in-sound : (b : Bool) → ltb i to ≡ b → i ≤ to → parse_in b op rows l i to ≡ row r → IsRow op l i to r
    in-sound true lt h w = op_sound (shape_of (op i)) (ltb-true i to lt) refl w
    in-sound false lt h w = end_sound op l i to r h lt w

pub parse_sound : (f : ℕ) (op : ℕ → ℕ) (in_loop : Bool) (i to : ℕ) (r : Row) → i ≤ to → parse f op in_loop i to ≡ row r → IsRow op in_loop i to r
unfolding parse
parse_sound zero op l i to r h w = go (ltb i to) refl w
  where
    go : (b : Bool) → ltb i to ≡ b → cond b crossed (row end) ≡ row r → IsRow op l i to r
    go true lt w = absurd (let z : ◌≡◌ {A = ℕ} 0 1 = cc in omega arith)
    go false lt w = end_sound op l i to r h lt w
parse_sound (suc f) op l i to r h w = in-sound op (λ m j e. parse f op m j e) (λ m j e. parse_sound f op m j e) l i to r (ltb i to) refl h w

-- Where the op before a row is no Else, the op before its end is none.
no_else : (op : ℕ → ℕ) (l : Bool) (i to : ℕ) (r : Row) → IsRow op l (suc i) (suc to) r → (kind (op i) ≡ 22 → ⊥) → kind (op to) ≡ 22 → ⊥
no_else op l i to end w first k = first (let same : i ≡ to = omega arith in rw same k)
no_else op l i to (step j r) w first k = no_else op l (suc i) to r w.3 (λ m. rw (else_shape (op (suc i)) m) at w.2) k
no_else op l i to (stop j r) w first k = no_else op l (suc i) to r w.3 (λ m. rw (else_shape (op (suc i)) m) at w.2) k
no_else op l i to (leave j r) w first k = no_else op l (suc i) to r w.4 (λ m. omega (arith, shape_tells (op (suc i)) breaks w.2)) k
no_else op l i to (leave_if j r) w first k = no_else op l (suc i) to r w.4 (λ m. omega (arith, shape_tells (op (suc i)) breaks_if w.2)) k
no_else op l i to (if_then j t p r) w first k = no_else op l t to r w.6 (λ m. omega (arith, shape_tells (op t) end_if w.4)) k
no_else op l i to (if_else j e t p q r) w first k = no_else op l t to r w.9 (λ m. omega (arith, shape_tells (op t) end_if w.6)) k
no_else op l i to (loop j e b r) w first k = no_else op l e to r w.6 (λ m. omega (arith, shape_tells (op e) end_loop w.4)) k

-- so an arm that ends at EndIf has no Else before it
pub no_else_arm : (op : ℕ → ℕ) (l : Bool) (i t : ℕ) (p : Row) → i < t → shape_of (op i) ≡ if_to t → IsRow op l (suc i) t p → eqb (kind (op (t - 1))) 22 ≡ false
no_else_arm op l i zero p lt s w = absurd (omega arith)
no_else_arm op l i (suc e) p lt s w = rw sub-one (ne_eqb _ _ (no_else op l i e p w (λ k. omega (arith, (shape_tells (op i) (if_to (suc e)) s).0))))

-- a position below the end takes one unit of the number that falls
parse_op_lem : (f : ℕ) (op : ℕ → ℕ) (l : Bool) (i to : ℕ) → to ≤ i + f → i < to
    → (g : ℕ) × (to ≤ suc i + g) × (parse f op l i to ≡ parse_op (shape_of (op i)) op (λ m j e. parse g op m j e) l i to)
unfolding parse
parse_op_lem zero op l i to h lt = absurd (omega arith)
parse_op_lem (suc g) op l i to h lt = (g, omega arith, simp (lt-ltb i to lt))

parse-end : (f : ℕ) (op : ℕ → ℕ) (l : Bool) (i to : ℕ) → i ≡ to → parse f op l i to ≡ row end
unfolding parse
parse-end zero op l i to e = simp (le-ltb i to (omega arith))
parse-end (suc f) op l i to e = simp (le-ltb i to (omega arith))

module _ (op : ℕ → ℕ) (rows : Bool → ℕ → ℕ → Parsed) (l : Bool) (i to : ℕ) where
  plain_op : (s : Shape) → Plain s → parse_op s op rows l i to ≡ on_row (rows l (suc i) to) (λ r. row (step i r))
  plain_op s h = by_plain (λ t. parse_op t op rows l i to ≡ on_row (rows l (suc i) to) (λ r. row (step i r))) refl (λ k. refl) s h

  ending_op : (s : Shape) → Ending s → parse_op s op rows l i to ≡ on_row (rows l (suc i) to) (λ r. row (stop i r))
  ending_op s h = by_ending (λ t. parse_op t op rows l i to ≡ on_row (rows l (suc i) to) (λ r. row (stop i r))) refl refl s h

  if_complete : (j t : ℕ) (p r : Row) → IsRow op l i to (if_then j t p r) → rows l (suc i) t ≡ row p → rows l (suc t) to ≡ row r
      → parse_op (shape_of (op i)) op rows l i to ≡ row (if_then j t p r)
  if_complete j t p r w a b =
      let n = no_else_arm op l i t p w.2 w.1 w.5 in
      simp (w.0, w.1, lt-ltb i t w.2) (simp (n, lt-ltb t to w.3, shape_tells (op t) end_if w.4) (simp (a, b)))

  else_complete : (j e t : ℕ) (p q r : Row) → IsRow op l i to (if_else j e t p q r) → rows l (suc i) e ≡ row p → rows l (suc e) t ≡ row q
      → rows l (suc t) to ≡ row r → parse_op (shape_of (op i)) op rows l i to ≡ row (if_else j e t p q r)
  else_complete j e t p q r w a b c =
      let n = shape_tells (op e) (else_to t) w.5 in
      simp (w.0, w.1, lt-ltb i (suc e) (omega arith), sub-one, n.0)
      (simp (n.1, lt-ltb e t w.3, lt-ltb t to w.4, shape_tells (op t) end_if w.6) (simp (a, b, c)))

  loop_complete : (j e : ℕ) (p r : Row) → IsRow op l i to (loop j e p r) → rows true (suc i) e ≡ row p → rows l (suc e) to ≡ row r
      → parse_op (shape_of (op i)) op rows l i to ≡ row (loop j e p r)
  loop_complete j e p r w a b =
      simp (w.0, w.1, sub-one) (simp (lt-ltb i e w.2, lt-ltb e to w.3, shape_tells (op e) end_loop w.4) (simp (a, b)))

pub parse_complete : (f : ℕ) (op : ℕ → ℕ) (in_loop : Bool) (i to : ℕ) (r : Row) → to ≤ i + f → IsRow op in_loop i to r → parse f op in_loop i to ≡ row r
parse_complete f op l i to end h w = parse-end f op l i to w
parse_complete f op l i to (step j r) h w =
    let a = parse_op_lem f op l i to h w.1 in
    let b = parse_complete a.0 op l (suc i) to r a.1 w.3 in
    a.2 ∙ plain_op op _ l i to (shape_of (op i)) w.2 ∙ simp (b, w.0)
parse_complete f op l i to (stop j r) h w =
    let a = parse_op_lem f op l i to h w.1 in
    let b = parse_complete a.0 op l (suc i) to r a.1 w.3 in
    a.2 ∙ ending_op op _ l i to (shape_of (op i)) w.2 ∙ simp (b, w.0)
parse_complete f op l i to (leave j r) h w =
    let a = parse_op_lem f op l i to h w.1 in
    let b = parse_complete a.0 op l (suc i) to r a.1 w.4 in
    a.2 ∙ rw w.2 (allowed l _ i w.3 ∙ simp (b, w.0))
parse_complete f op l i to (leave_if j r) h w =
    let a = parse_op_lem f op l i to h w.1 in
    let b = parse_complete a.0 op l (suc i) to r a.1 w.4 in
    a.2 ∙ rw w.2 (allowed l _ i w.3 ∙ simp (b, w.0))
parse_complete f op l i to (if_then j t p r) h w =
    let a = parse_op_lem f op l i to h (omega arith) in
    let b = parse_complete a.0 op l (suc i) t p (omega arith) w.5 in
    let c = parse_complete a.0 op l (suc t) to r (omega arith) w.6 in
    a.2 ∙ if_complete op _ l i to j t p r w b c
parse_complete f op l i to (if_else j e t p q r) h w =
    let a = parse_op_lem f op l i to h (omega arith) in
    let b = parse_complete a.0 op l (suc i) e p (omega arith) w.7 in
    let c = parse_complete a.0 op l (suc e) t q (omega arith) w.8 in
    let d = parse_complete a.0 op l (suc t) to r (omega arith) w.9 in
    a.2 ∙ else_complete op _ l i to j e t p q r w b c d
parse_complete f op l i to (loop j e p r) h w =
    let a = parse_op_lem f op l i to h (omega arith) in
    let b = parse_complete a.0 op true (suc i) e p (omega arith) w.5 in
    let c = parse_complete a.0 op l (suc e) to r (omega arith) w.6 in
    a.2 ∙ loop_complete op _ l i to j e p r w b c

pub tree_unique : (op : ℕ → ℕ) (in_loop : Bool) (i to : ℕ) (r s : Row) → IsRow op in_loop i to r → IsRow op in_loop i to s → r ≡ s
tree_unique op l i to r s a b =
    let p = parse_complete to op l i to r (omega arith) a in
    let q = parse_complete to op l i to s (omega arith) b in
    cc

pub row_none : (ops : List ℕ) (g : Range) → row_of ops g ≡ no 6 0 → (r : Row) → IsRow (op_at ops) false g.from g.to r → ⊥
row_none ops g e r w =
    let p = parse_complete (g.to - g.from) (op_at ops) false g.from g.to r (omega arith) w in
    let z : ◌≡◌ {A = ℕ} 0 1 = cc in
    omega arith

pub row_some : (ops : List ℕ) (g : Range) (r : Row) → g.from ≤ g.to → row_of ops g ≡ ok r → IsRow (op_at ops) false g.from g.to r
row_some ops g r h e =
    parse_sound (g.to - g.from) (op_at ops) false g.from g.to r h (go (parse (g.to - g.from) (op_at ops) false g.from g.to) e)
  where
    go : (p : Parsed) → or_crossed p ≡ ok r → p ≡ row r
    go (row q) k = cc
    go crossed k = absurd (let z : ◌≡◌ {A = ℕ} 0 1 = cc in omega arith)

pub range_forward : (c : Chunk) (g : Range) → range_of c ≡ ok g → g.from ≤ g.to
range_forward c g e = go (eqb c.type K.stream_type) e
  where
    ends : (s n : Found) → and_then (or_refuse s 3) (λ s. and_then (or_refuse n 4) (λ r. ok (record { from = suc s; to = max (suc s) r }))) ≡ ok g
        → g.from ≤ g.to
    ends (found s) (found n) e = let a : g.from ≡ suc s = cc in let b : g.to ≡ max (suc s) n = cc in omega arith
    ends (found s) nothing e = absurd (let z : ◌≡◌ {A = ℕ} 0 1 = cc in omega arith)
    ends nothing n e = absurd (let z : ◌≡◌ {A = ℕ} 0 1 = cc in omega arith)

    go : (b : Bool) → range_if b c.ops ≡ ok g → g.from ≤ g.to
    go true e = ends (first_of 28 c.ops 0) (first_of 29 c.ops 0) e
    go false e = let a : g.from ≡ 0 = cc in omega arith

-- a row goes forward
pub row_forward : (op : ℕ → ℕ) (r : Row) (l : Bool) (i to : ℕ) → IsRow op l i to r → i ≤ to
row_forward op end l i to w = omega arith
row_forward op (step j r) l i to w = omega (arith, row_forward op r l (suc i) to w.3)
row_forward op (stop j r) l i to w = omega (arith, row_forward op r l (suc i) to w.3)
row_forward op (leave j r) l i to w = omega (arith, row_forward op r l (suc i) to w.4)
row_forward op (leave_if j r) l i to w = omega (arith, row_forward op r l (suc i) to w.4)
row_forward op (if_then j t p r) l i to w = omega arith
row_forward op (if_else j e t p q r) l i to w = omega arith
row_forward op (loop j e b r) l i to w = omega arith

-- the row is the tree of the chunk's range
pub record InRange (c : Chunk) (r : Row) : Type 0 where
  pub forward : (range_found (range_of c)).from ≤ (range_found (range_of c)).to
  pub is_row : IsRow (op_at c.ops) false (range_found (range_of c)).from (range_found (range_of c)).to r

-- a row that passes 15 is the row of the range
own_row : (ops : List ℕ) (r own : Row) → own_targets ops r ≡ ok own → r ≡ own
own_row ops r own e = let (u, _, same) = from_ok (unless_found (stray_break (op_at ops) 0 r) N.stray_break) _ e in cc

-- what may be walked is the range and its tree
pub walked_row : (type : ℕ) (ops : List ℕ) (w : Walkable) → walkable type ops ≡ ok w → (range_by type ops ≡ ok w.range) × (row_of ops w.range ≡ ok w.tree)
walked_row type ops w e =
    let (g, a, f) = from_ok (range_by type ops) _ e in
    let (u, _, k) = from_ok (forward_targets ops) _ f in
    let (r, b, m) = from_ok (row_of ops g) _ k in
    let (own, c, made) = from_ok (own_targets ops r) _ m in
    let same : r ≡ own = own_row ops r own c in
    let range : g ≡ w.range = cc made in
    let tree : own ≡ w.tree = cc made in
    (a ∙ ap ok range, rw (← range) (b ∙ ap ok (same ∙ tree)))

pub chunk_row_lem : (c : Chunk) (r : Row) → chunk_row c ≡ ok r → InRange c r
chunk_row_lem c r e =
    let (w, walks, is) = from_ok (walkable c.type c.ops) _ e in
    let (range, tree) = walked_row c.type c.ops w walks in
    let le = range_forward c w.range range in
    record { forward = rw range le; is_row = rw range (row_some c.ops w.range r le (tree ∙ is)) }
