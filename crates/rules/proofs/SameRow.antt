-- Whether a SetLocal stands in the row that holds a Loop, by positions: the backward pass says what `same_row` says of the tree. Assumes nothing.
use mathlib.Core.Path.{◌≡◌, refl, sym, ap, ◌∙◌}
use mathlib.Core.Bool.{Bool, true, false, ◌&&◌, ◌||◌, and-true, and-false, or-false}
use Prim.Native.Nat.{ℕ, suc, ◌≤◌, ◌<◌}
use native.Mathlib.Omega.{arith}
use borrow.Author.Tests.{eqb-true, eqb-false, ltb-true, ltb-false, eq-eqb, ne_eqb}
use lib.Dec.{eqb, ltb}
use Rattle.rules.specs.Rows.{Shape, plain, else_to, end_if, loop_to, end_loop, shape_of, Row, end, step, stop, leave, leave_if, if_then, if_else, loop, IsRow}
use Rattle.rules.specs.Sure.{holds, in_part, same_row}
use Rattle.rules.proofs.HeldRows.{held_out, part_out, same_out}
use Rattle.rules.specs.Placed.{back_by, back}
use Rattle.rules.proofs.Backward.{stopped, LevelOp, plain_level, ending_level, leave_level, test_level, set_level, level_back, Block, if_block, loop_block, closed, left, else_passed, else_left, over_row, over_if, over_else, over_loop}

-- a position before another, at it or behind it
pub by_side : {P : Type 0} (p t : ℕ) → (p < t → P) → (p ≡ t → P) → (t < p → P) → P
by_side {P} p t before at behind = go (ltb p t) (eqb p t) refl refl
  where
    go : (a b : Bool) → ltb p t ≡ a → eqb p t ≡ b → P
    go true b e f = before (ltb-true p t e)
    go false true e f = at (eqb-true p t f)
    go false false e f = behind (let ne = eqb-false p t f in omega (arith, ltb-false p t e, ne))

-- a test that fails at the end of another: at a depth over 0, and where the pass has left the row
shut : (b : Bool) (d : ℕ) → (b && eqb (suc d) 0) ≡ false
shut b d = rw (ne_eqb (suc d) 0 (λ k. omega arith)) (and-false b)

gone : (b x : Bool) → x ≡ false → (b && x) ≡ false
gone b x e = rw e (and-false b)

module _ (op : ℕ → ℕ) where
  -- an op that opens and closes no block is neither end of one, and no Else
  pub not_first : {i e : ℕ} → Block op i e → (s : ℕ) → LevelOp op s → i ≡ s → ⊥
  not_first b s h same = let f = b.leaves (λ x. true) in let g = h 0 (λ x. true) in let o : ◌≡◌ {A = ℕ} 0 1 = cc in omega arith

  pub not_last : {i e : ℕ} → Block op i e → (s : ℕ) → LevelOp op s → e ≡ s → ⊥
  not_last b s h same = let f = b.closes 0 (λ x. eqb x 0) in let g = h 0 (λ x. eqb x 0) in let o : ◌≡◌ {A = ℕ} 0 1 = cc in omega arith

  pub not_else : (e t s : ℕ) → shape_of (op e) ≡ else_to t → LevelOp op s → e ≡ s → ⊥
  not_else e t s k h same = let g : back_by (else_to t) 0 (λ x. true) ≡ true = rw (← same, k) at (h 0 (λ x. true)) in let o : ◌≡◌ {A = ℕ} 0 1 = cc in omega arith

  -- a Loop closes no block and is no Else
  not_loop : (e p t : ℕ) (x : Shape) → shape_of (op p) ≡ loop_to t → shape_of (op e) ≡ x → (x ≡ loop_to t → ⊥) → e ≡ p → ⊥
  not_loop e p t x h f ne same = ne (sym f ∙ ap (λ (k : ℕ). shape_of (op k)) same ∙ h)

  -- From behind a row that s is in: the pass gets to s at the depth that it began with if the row holds it, and else deeper.
  module _ (s : ℕ) (h : LevelOp op s) where
    into_level : (j i to d : ℕ) (b : Bool) → j ≡ i → i ≤ s → (s < suc i → back op to d s ≡ back op (suc i) d s)
        → (suc i ≤ s → back op to d s ≡ (b && eqb d 0)) → back op to d s ≡ ((eqb j s || b) && eqb d 0)
    into_level j i to d b e le over next = go (eqb j s) refl
      where
        go : (x : Bool) → eqb j s ≡ x → back op to d s ≡ ((x || b) && eqb d 0)
        go true f = let same : i ≡ s = omega (arith, eqb-true j s f, e) in over (omega arith) ∙ rw same (stopped op d s)
        go false f = let ne = eqb-false j s f in next (omega (arith, ne, e, le))

    into_block : (j i e to d : ℕ) (r : Row) (l : Bool) → j ≡ i → Block op i e → IsRow op l (suc e) to r → i ≤ s
        → (suc i ≤ s → s < e → back op e (suc d) s ≡ false) → (suc e ≤ s → back op to d s ≡ (holds r s && eqb d 0))
        → back op to d s ≡ ((eqb j s || holds r s) && eqb d 0)
    into_block j i e to d r l same b w le inside behind =
        let ne = not_first b s h in
        rw (ne_eqb j s (λ k. ne (omega arith)))
        (by_side s e
        (λ k. rw (held_out op r l (suc e) to s w (λ m. omega arith))
        (over_row op r l (suc e) to d s w (omega arith) ∙ closed op b d s (λ m. omega arith) ∙ inside (omega (arith, ne, le)) k))
        (λ k. absurd (not_last b s h (sym k)))
        behind)

    -- from the end of a second arm, with s in either
    into_arms : (e t d : ℕ) (p q : Row) (l : Bool) → shape_of (op e) ≡ else_to t → IsRow op l (suc e) t q
        → (s < e → back op e (suc d) s ≡ (holds p s && eqb (suc d) 0)) → (suc e ≤ s → back op t (suc d) s ≡ (holds q s && eqb (suc d) 0))
        → back op t (suc d) s ≡ false
    into_arms e t d p q l k w one two =
        by_side s e
        (λ m. over_row op q l (suc e) t (suc d) s w (omega arith) ∙ else_passed op e t d s k (λ n. omega arith) ∙ one m ∙ shut (holds p s) d)
        (λ m. absurd (not_else e t s k h (sym m)))
        (λ m. two m ∙ shut (holds q s) d)

    into_row : (r : Row) (l : Bool) (i to d : ℕ) → IsRow op l i to r → i ≤ s → s < to → back op to d s ≡ (holds r s && eqb d 0)
    unfolding holds
    into_row end l i to d w le lt = absurd (omega arith)
    into_row (step j r) l i to d w le lt =
        into_level j i to d (holds r s) w.0 le (λ k. over_row op r l (suc i) to d s w.3 k) (λ k. into_row r l (suc i) to d w.3 k lt)
    into_row (stop j r) l i to d w le lt =
        into_level j i to d (holds r s) w.0 le (λ k. over_row op r l (suc i) to d s w.3 k) (λ k. into_row r l (suc i) to d w.3 k lt)
    into_row (leave j r) l i to d w le lt =
        into_level j i to d (holds r s) w.0 le (λ k. over_row op r l (suc i) to d s w.4 k) (λ k. into_row r l (suc i) to d w.4 k lt)
    into_row (leave_if j r) l i to d w le lt =
        into_level j i to d (holds r s) w.0 le (λ k. over_row op r l (suc i) to d s w.4 k) (λ k. into_row r l (suc i) to d w.4 k lt)
    into_row (if_then j t a r) l i to d w le lt =
        into_block j i t to d r l w.0 (if_block op i t t w.1 w.4) w.6 le
        (λ k m. into_row a l (suc i) t (suc d) w.5 k m ∙ shut (holds a s) d) (λ k. into_row r l (suc t) to d w.6 k lt)
    into_row (if_else j e t p q r) l i to d w le lt =
        into_block j i t to d r l w.0 (if_block op i t (suc e) w.1 w.6) w.9 le
        (λ k m. into_arms e t d p q l w.5 w.8
        (λ n. into_row p l (suc i) e (suc d) w.7 k n) (λ n. into_row q l (suc e) t (suc d) w.8 n m))
        (λ k. into_row r l (suc t) to d w.9 k lt)
    into_row (loop j e a r) l i to d w le lt =
        into_block j i e to d r l w.0 (loop_block op i e (suc e) w.1 w.4) w.6 le
        (λ k m. into_row a true (suc i) e (suc d) w.5 k m ∙ shut (holds a s) d) (λ k. into_row r l (suc e) to d w.6 k lt)

  -- From p in a row that s stands before: the pass gets to the row's start at depth 0 if the row holds p, and else leaves the row that does.
  module _ (s p target : ℕ) (h : shape_of (op p) ≡ loop_to target) where
    from_level : (j i : ℕ) (b : Bool) → j ≡ i → LevelOp op i → s < i → i ≤ p → (suc i ≤ p → back op p 0 s ≡ (b && back op (suc i) 0 s))
        → back op p 0 s ≡ ((eqb j p || b) && back op i 0 s)
    from_level j i b e level lt le next = go (eqb j p) refl
      where
        go : (x : Bool) → eqb j p ≡ x → back op p 0 s ≡ ((x || b) && back op i 0 s)
        go true f = let same : p ≡ i = omega (arith, eqb-true j p f, e) in rw same
        go false f =
            let ne = eqb-false j p f in
            next (omega (arith, ne, e, le)) ∙ ap (λ (x : Bool). b && x) (level_back op i 0 s level (λ k. omega arith))

    from_block : (j i e to : ℕ) (r : Row) (l : Bool) → j ≡ i → i < e → IsRow op l (suc e) to r → i ≤ p → (e ≡ p → ⊥) → (suc i ≤ p → p < e → back op p 0 s ≡ false)
        → (suc e ≤ p → back op p 0 s ≡ (holds r p && back op (suc e) 0 s)) → back op (suc e) 0 s ≡ back op i 0 s
        → back op p 0 s ≡ ((eqb j p || holds r p) && back op i 0 s)
    from_block j i e to r l same fwd w le ne inside behind over =
        by_side p i (λ k. absurd (omega arith))
        (λ k. rw (eq-eqb j p (omega arith)) (ap (λ (x : ℕ). back op x 0 s) k))
        (λ k. rw (ne_eqb j p (λ m. omega arith))
        (by_side p e
        (λ m. rw (held_out op r l (suc e) to p w (λ n. omega arith)) (inside k m))
        (λ m. absurd (ne (sym m)))
        (λ m. behind m ∙ ap (λ (x : Bool). holds r p && x) over)))

    from_row : (r : Row) (l : Bool) (i to : ℕ) → IsRow op l i to r → s < i → i ≤ p → p < to → back op p 0 s ≡ (holds r p && back op i 0 s)
    unfolding holds
    from_row end l i to w lt le lt' = absurd (omega arith)
    from_row (step j r) l i to w lt le lt' =
        from_level j i (holds r p) w.0 (plain_level op i w.2) lt le (λ k. from_row r l (suc i) to w.3 (omega arith) k lt')
    from_row (stop j r) l i to w lt le lt' =
        from_level j i (holds r p) w.0 (ending_level op i w.2) lt le (λ k. from_row r l (suc i) to w.3 (omega arith) k lt')
    from_row (leave j r) l i to w lt le lt' =
        from_level j i (holds r p) w.0 (leave_level op i w.2) lt le (λ k. from_row r l (suc i) to w.4 (omega arith) k lt')
    from_row (leave_if j r) l i to w lt le lt' =
        from_level j i (holds r p) w.0 (test_level op i w.2) lt le (λ k. from_row r l (suc i) to w.4 (omega arith) k lt')
    from_row (if_then j t a r) l i to w lt le lt' =
        let b = if_block op i t t w.1 w.4 in
        from_block j i t to r l w.0 w.2 w.6 le (not_loop t p target end_if h w.4 (λ k. let o : ◌≡◌ {A = ℕ} 0 1 = cc in omega arith))
        (λ k m. from_row a l (suc i) t w.5 (omega arith) k m ∙ gone (holds a p) _ (left op b s (λ n. omega arith)))
        (λ k. from_row r l (suc t) to w.6 (omega arith) k lt') (over_if op j t a r l i to 0 s w lt)
    from_row (if_else j e t a b r) l i to w lt le lt' =
        let d = if_block op i t (suc e) w.1 w.6 in
        from_block j i t to r l w.0 (omega arith) w.9 le (not_loop t p target end_if h w.6 (λ k. let o : ◌≡◌ {A = ℕ} 0 1 = cc in omega arith))
        (λ k m. by_side p e
        (λ n. from_row a l (suc i) e w.7 (omega arith) k n ∙ gone (holds a p) _ (left op d s (λ n. omega arith)))
        (λ n. absurd (not_loop e p target (else_to t) h w.5 (λ x. let o : ◌≡◌ {A = ℕ} 0 1 = cc in omega arith) (sym n)))
        (λ n. from_row b l (suc e) t w.8 (omega arith) n m ∙ gone (holds b p) _ (else_left op e t s w.5 (λ n. omega arith))))
        (λ k. from_row r l (suc t) to w.9 (omega arith) k lt') (over_else op j e t a b r l i to 0 s w lt)
    from_row (loop j e a r) l i to w lt le lt' =
        let b = loop_block op i e (suc e) w.1 w.4 in
        from_block j i e to r l w.0 w.2 w.6 le (not_loop e p target end_loop h w.4 (λ k. let o : ◌≡◌ {A = ℕ} 0 1 = cc in omega arith))
        (λ k m. from_row a true (suc i) e w.5 (omega arith) k m ∙ gone (holds a p) _ (left op b s (λ n. omega arith)))
        (λ k. from_row r l (suc e) to w.6 (omega arith) k lt') (over_loop op j e a r l i to 0 s w lt)

  -- A SetLocal at s before a Loop at p.
  module _ (s p target : ℕ) (order : s < p) (set : shape_of (op s) ≡ plain) (opens : shape_of (op p) ≡ loop_to target) where
    -- the pass from the Loop gets to the SetLocal at depth 0
    abbrev reached : Bool
    reached = back op p 0 s

    -- the first op of what is left op of a row
    level_same : (j i to : ℕ) (r : Row) (l : Bool) → j ≡ i → IsRow op l (suc i) to r → i ≤ s → p < to → (suc i ≤ s → same_row r s p ≡ reached)
        → (((eqb j s || holds r s) && (eqb j p || holds r p)) || in_part r s p) ≡ reached
    level_same j i to r l e w le lt next = rw (ne_eqb j p (λ k. omega arith)) (go (eqb j s) refl)
      where
        go : (b : Bool) → eqb j s ≡ b → (((b || holds r s) && holds r p) || in_part r s p) ≡ reached
        go true f =
            let same : i ≡ s = omega (arith, eqb-true j s f, e) in
            let here : back op (suc i) 0 s ≡ true = rw same (stopped op 0 s) in
            rw (part_out op r l (suc i) to s p w (λ k. omega (arith, k.0, same)))
            (or-false (holds r p) ∙ sym (and-true (holds r p)) ∙ ap (λ (x : Bool). holds r p && x) (sym here)
            ∙ sym (from_row s p target opens r l (suc i) to w (omega arith) (omega arith) lt))
        go false f = let ne = eqb-false j s f in next (omega (arith, ne, e, le))

    -- a block, x being what its rows say
    block_same : (j i e to : ℕ) (r : Row) (l x : Bool) → j ≡ i → Block op i e → IsRow op l (suc e) to r → i ≤ s → p < to → (e ≡ p → ⊥)
        → (suc i ≤ s → p < e → x ≡ reached) → (e < p → x ≡ false) → (suc i ≤ s → s < e → back op e 1 s ≡ false) → (suc e ≤ s → same_row r s p ≡ reached)
        → (((eqb j s || holds r s) && (eqb j p || holds r p)) || (x || in_part r s p)) ≡ reached
    block_same j i e to r l x same b w le lt ne inside outside deep behind =
        let first = not_first b s (set_level op s set) in
        rw (ne_eqb j s (λ k. first (omega arith)), ne_eqb j p (λ k. omega arith))
        (by_side s e
        (λ k. rw (held_out op r l (suc e) to s w (λ m. omega arith), part_out op r l (suc e) to s p w (λ m. omega (arith, m.0)))
        (by_side p e
        (λ m. or-false x ∙ inside (omega (arith, first, le)) m)
        (λ m. absurd (ne (sym m)))
        (λ m. rw (outside m)
        (sym (from_row s p target opens r l (suc e) to w (omega arith) m lt
        ∙ gone (holds r p) _ (closed op b 0 s (λ n. omega arith) ∙ deep (omega (arith, first, le)) k))))))
        (λ k. absurd (not_last b s (set_level op s set) (sym k)))
        (λ k. rw (outside (omega arith)) (behind k)))

    -- the two arms of an If with Else at e
    arms_same : (i e t : ℕ) (a b : Row) (l : Bool) → shape_of (op e) ≡ else_to t → IsRow op l (suc i) e a → IsRow op l (suc e) t b → p < t
        → (p < e → same_row a s p ≡ reached) → (suc e ≤ s → same_row b s p ≡ reached) → (same_row a s p || same_row b s p) ≡ reached
    arms_same i e t a b l h w v lt one two =
        by_side s e
        (λ k. rw (same_out op b l (suc e) t s p v (λ m. omega (arith, m.0)))
        (or-false (same_row a s p)
        ∙ by_side p e one (λ m. absurd (not_loop e p target (else_to t) opens h (λ n. let o : ◌≡◌ {A = ℕ} 0 1 = cc in omega arith) (sym m)))
        (λ m. same_out op a l (suc i) e s p w (λ n. omega (arith, n.1))
        ∙ sym (from_row s p target opens b l (suc e) t v (omega arith) m lt ∙ gone (holds b p) _ (else_left op e t s h (λ n. omega arith))))))
        (λ k. absurd (not_else e t s h (set_level op s set) (sym k)))
        (λ k. rw (same_out op a l (suc i) e s p w (λ m. omega (arith, m.0))) (two k))

    row_reached : (r : Row) (l : Bool) (i to : ℕ) → IsRow op l i to r → i ≤ s → p < to → same_row r s p ≡ reached
    unfolding holds in_part
    row_reached end l i to w le lt = absurd (omega arith)
    row_reached (step j r) l i to w le lt = level_same j i to r l w.0 w.3 le lt (λ k. row_reached r l (suc i) to w.3 k lt)
    row_reached (stop j r) l i to w le lt = level_same j i to r l w.0 w.3 le lt (λ k. row_reached r l (suc i) to w.3 k lt)
    row_reached (leave j r) l i to w le lt = level_same j i to r l w.0 w.4 le lt (λ k. row_reached r l (suc i) to w.4 k lt)
    row_reached (leave_if j r) l i to w le lt = level_same j i to r l w.0 w.4 le lt (λ k. row_reached r l (suc i) to w.4 k lt)
    row_reached (if_then j t a r) l i to w le lt =
        block_same j i t to r l (same_row a s p) w.0 (if_block op i t t w.1 w.4) w.6 le lt
        (not_loop t p target end_if opens w.4 (λ k. let o : ◌≡◌ {A = ℕ} 0 1 = cc in omega arith))
        (λ k m. row_reached a l (suc i) t w.5 k m) (λ k. same_out op a l (suc i) t s p w.5 (λ m. omega (arith, m.1)))
        (λ k m. into_row s (set_level op s set) a l (suc i) t 1 w.5 k m ∙ shut (holds a s) 0)
        (λ k. row_reached r l (suc t) to w.6 k lt)
    row_reached (if_else j e t a b r) l i to w le lt =
        block_same j i t to r l (same_row a s p || same_row b s p) w.0 (if_block op i t (suc e) w.1 w.6) w.9 le lt
        (not_loop t p target end_if opens w.6 (λ k. let o : ◌≡◌ {A = ℕ} 0 1 = cc in omega arith))
        (λ k m. arms_same i e t a b l w.5 w.7 w.8 m (λ n. row_reached a l (suc i) e w.7 k n) (λ n. row_reached b l (suc e) t w.8 n m))
        (λ k. rw (same_out op a l (suc i) e s p w.7 (λ m. omega (arith, m.1)), same_out op b l (suc e) t s p w.8 (λ m. omega (arith, m.1))))
        (λ k m. into_arms s (set_level op s set) e t 0 a b l w.5 w.8
        (λ n. into_row s (set_level op s set) a l (suc i) e 1 w.7 k n) (λ n. into_row s (set_level op s set) b l (suc e) t 1 w.8 n m))
        (λ k. row_reached r l (suc t) to w.9 k lt)
    row_reached (loop j e a r) l i to w le lt =
        block_same j i e to r l (same_row a s p) w.0 (loop_block op i e (suc e) w.1 w.4) w.6 le lt
        (not_loop e p target end_loop opens w.4 (λ k. let o : ◌≡◌ {A = ℕ} 0 1 = cc in omega arith))
        (λ k m. row_reached a true (suc i) e w.5 k m) (λ k. same_out op a true (suc i) e s p w.5 (λ m. omega (arith, m.1)))
        (λ k m. into_row s (set_level op s set) a true (suc i) e 1 w.5 k m ∙ shut (holds a s) 0)
        (λ k. row_reached r l (suc e) to w.6 k lt)

  -- the pass says what the tree of the range says
  pub same_row_back : (top : Row) (l : Bool) (from to s p t : ℕ) → IsRow op l from to top → from ≤ s → s < p → p < to → shape_of (op p) ≡ loop_to t
      → shape_of (op s) ≡ plain → same_row top s p ≡ back op p 0 s
  same_row_back top l from to s p t w le order lt opens set = row_reached s p t order set opens top l from to w le lt

  -- and of what stands before the range the tree says that it is in no row with the Loop
  pub row_before : (top : Row) (l : Bool) (from to s p : ℕ) → IsRow op l from to top → s < from → same_row top s p ≡ false
  row_before top l from to s p w lt = same_out op top l from to s p w (λ b. omega (arith, b.0))
