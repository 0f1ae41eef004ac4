-- The figure of the walk bounds every path through a row, for any charge and any count of a loop with the header test: by induction over the row.
-- Assumes nothing.
use mathlib.Core.Path.{◌≡◌, refl, ap}
use mathlib.Core.Bool.{Bool, true, false, ◌&&◌, and-false}
use mathlib.Core.List.{List, [], ◌∷◌}
use Prim.Native.Nat.{ℕ, zero, suc, ◌+◌, ◌-◌, ◌*◌, ◌≤◌, max}
use native.Mathlib.Nat.{mul-zero, mul-suc}
use native.Mathlib.Omega.{arith}
use borrow.Author.Tests.{eq-eqb, ne_eqb}
use lib.Dec.{eqb}
use lib.IntN.{ℤ}
use Rattle.rules.specs.Form.{Chunk}
use Rattle.rules.specs.Rows.{else_to, end_if, loop_to, end_loop, Row, end, step, stop, leave, leave_if, if_then, if_else, loop, IsRow}
use Rattle.rules.specs.Count.{has_header}
use Rattle.rules.specs.Cycles.{Breaks, unbroken, costliest, note_break, break_cost, Cost}
use Rattle.rules.specs.Order.{chunk_at}
use Rattle.rules.specs.Paths.{Entry, Frame, pass_header}
use Rattle.rules.proofs.Walked.{Broken, Within, note_broken, still_broken, AfterArms, AfterPass, AfterLoop, Grows, Walked, grows}
use Rattle.rules.proofs.Header.{next2, next3, next4, next5, Tested, header_tested, header_fee, behind_header}
use Rattle.rules.proofs.Moves.{placed, op_in, Inside}
use Rattle.rules.proofs.Reach.{can_reach}
use Rattle.rules.proofs.Safe.{Called, SafeAt, Leaves, safe_more, leaves_more, unkept_safe, op_safe, plain_safe, ending_safe, if_safe, break_safe, test_safe}

within_cost : (a : ℕ) (b : Breaks) → Within (costliest a) b → a ≤ break_cost b
within_cost a unbroken h = absurd h
within_cost a (costliest b) h = h

module _ {cs : List Chunk} {run : Bool} {cap : ℕ} {price : Frame → ℕ} {Kept : Frame → Type 0} {c : ℕ} {fee : ℕ → ℕ} {Counted : ℕ → ℕ → Type 0}
    (given : Called cs run cap price Kept c fee Counted) where
  -- no BreakIf from i on is the header test of the innermost loop
  abbrev Past : List Entry → ℕ → Type 0
  Past [] i = Unit {0}
  Past (e ∷ es) i = (j : ℕ) → i ≤ j → (eqb j (e.loop + 4) && has_header (chunk_at cs c).ops e.loop) ≡ false

  past_later : (es : List Entry) (i j : ℕ) → i ≤ j → Past es i → Past es j
  past_later [] i j h p = tt
  past_later (e ∷ es) i j h p = λ n le. p n (omega arith)

  past_same : (es : List Entry) (i : ℕ) (d b : ℤ) → Past es i → pass_header cs es (placed c i d b es) ≡ es
  past_same [] i d b p = refl
  past_same (e ∷ es) i d b p = rw (p i (omega arith))

  -- From the start of a row of at most f ops, walked from `cost` on to the answer k: if behind its end and behind its breaks a path costs
  -- at most x, then from its start at most what the walk adds to `cost`, and x.
  abbrev RowSafe : ℕ → Row → Type 0
  RowSafe f r =
      (l : Bool) (i to cost : ℕ) (br : Breaks) (k : Cost) (es : List Entry) (x y : ℕ) → to ≤ i + f → Inside cs c i to → IsRow (op_in cs c) l i to r
      → Walked fee Counted r cost br k → Past es i → (k.ends ≡ false → SafeAt given to es x) → (Broken k.breaks → Leaves given es x)
      → k.cycles + x ≤ cost + y → SafeAt given i es y

  module _ (f : ℕ) (all : (s : Row) → RowSafe f s) where
    step_safe : (j : ℕ) (r : Row) → RowSafe (suc f) (step j r)
    step_safe j r l i to cost br k es x y n h w v past a b le =
        let same : fee j ≡ fee i = ap fee w.0 in
        let g = (grows fee Counted r (cost + fee j) br k v).0 in
        plain_safe given i (y - fee i) y es w.2 (omega arith)
        (all r l (suc i) to (cost + fee j) br k es x (y - fee i) (omega arith) (omega arith) w.3 v (past_later es i (suc i) (omega arith) past) a b
        (omega arith))

    leave_if_safe : (j : ℕ) (r : Row) → RowSafe (suc f) (leave_if j r)
    leave_if_safe j r l i to cost br k es x y n h w v past a b le =
        let same : fee j ≡ fee i = ap fee w.0 in
        let now = note_break br (cost + fee j) in
        let g = grows fee Counted r (cost + fee j) now k v in
        test_safe given i (y - fee i) y es es w.2 (omega arith) (λ d b. past_same es i d b past)
        (all r l (suc i) to (cost + fee j) now k es x (y - fee i) (omega arith) (omega arith) w.4 v (past_later es i (suc i) (omega arith) past) a b
        (omega arith))
        (leaves_more given es x (y - fee i) (omega arith) (b (still_broken now k.breaks g.1 (note_broken br (cost + fee j)))))

    if_then_safe : (j u : ℕ) (p r : Row) → RowSafe (suc f) (if_then j u p r)
    if_then_safe j u p r l i to cost br k es x y n h w (arm, v, v') past a b le =
        let same : fee j ≡ fee i = ap fee w.0 in
        let spent = cost + fee j + arm.cycles + fee u in
        let g = grows fee Counted r spent arm.breaks k v' in
        let z = k.cycles + x - spent in
        let rest =
        all r l (suc u) to spent arm.breaks k es x z (omega arith) (omega arith) w.6 v' (past_later es i (suc u) (omega arith) past) a b
        (omega arith) in
        let closed = op_safe given end_if u z (fee u + z) es w.4 (omega arith) (λ d b w. rest _ _) in
        let inside =
        all p l (suc i) u 0 br arm es (fee u + z) (arm.cycles + (fee u + z)) (omega arith) (omega arith) w.5 v
        (past_later es i (suc i) (omega arith) past) (λ m. closed)
        (λ m. leaves_more given es x (fee u + z) (omega arith) (b (still_broken arm.breaks k.breaks g.1 m))) (omega arith) in
        if_safe given i u (arm.cycles + (fee u + z)) y es w.1 (omega arith) inside (safe_more given u es (fee u + z) _ (omega arith) closed)

    if_else_safe : (j e u : ℕ) (p q r : Row) → RowSafe (suc f) (if_else j e u p q r)
    if_else_safe j e u p q r l i to cost br k es x y n h w (arm, other, v, v', v'') past a b le = go (arm.ends && other.ends) refl v''
      where
        spent : ℕ
        spent = cost + fee j + max (arm.cycles + fee e) other.cycles + fee u

        -- both arms, where what follows costs at most z
        arms : (z : ℕ) → ((arm.ends && other.ends) ≡ false → SafeAt given (suc u) es z) → (Broken other.breaks → Leaves given es z)
            → spent + z ≤ cost + y → SafeAt given i es y
        arms z a b le =
            let same : fee j ≡ fee i = ap fee w.0 in
            let g = (grows fee Counted q 0 arm.breaks other v').1 in
            let closed : (arm.ends && other.ends) ≡ false → SafeAt given u es (fee u + z) =
            λ m. op_safe given end_if u z (fee u + z) es w.6 (omega arith) (λ d b w. a m _ _) in
            let past-else : (arm.ends && other.ends) ≡ false → SafeAt given e es (fee e + (fee u + z)) =
            λ m. op_safe given (else_to u) e (fee u + z) (fee e + (fee u + z)) es w.5 (omega arith) (λ d b w. closed m _ _) in
            let first =
            all p l (suc i) e 0 br arm es (fee e + (fee u + z)) (arm.cycles + (fee e + (fee u + z))) (omega arith) (omega arith) w.7 v
            (past_later es i (suc i) (omega arith) past) (λ m. past-else (rw m))
            (λ m. leaves_more given es z _ (omega arith) (b (still_broken arm.breaks other.breaks g m))) (omega arith) in
            let second =
            all q l (suc e) u 0 arm.breaks other es (fee u + z) (other.cycles + (fee u + z)) (omega arith) (omega arith) w.8 v'
            (past_later es i (suc e) (omega arith) past) (λ m. closed (rw m (and-false arm.ends)))
            (λ m. leaves_more given es z _ (omega arith) (b m)) (omega arith) in
            if_safe given i (suc e) (max (arm.cycles + fee e) other.cycles + (fee u + z)) y es w.1 (omega arith)
            (safe_more given (suc i) es _ _ (omega arith) first) (safe_more given (suc e) es _ _ (omega arith) second)

        go : (m : Bool) → (arm.ends && other.ends) ≡ m → AfterArms m spent other.breaks k (λ n b. Walked fee Counted r n b k) → SafeAt given i es y
        go true both v =
            let all-spent : k.cycles ≡ spent = ap (λ (z : Cost). z.cycles) v in
            arms x (λ m. absurd (let o : ◌≡◌ {A = ℕ} 0 1 = cc in omega arith)) (λ m. b (rw v m)) (omega arith)
        go false both v =
            let g = grows fee Counted r spent other.breaks k v in
            let z = k.cycles + x - spent in
            let rest =
            all r l (suc u) to spent other.breaks k es x z (omega arith) (omega arith) w.9 v (past_later es i (suc u) (omega arith) past) a b
            (omega arith) in
            arms z (λ m. rest) (λ m. leaves_more given es x z (omega arith) (b (still_broken other.breaks k.breaks g.1 m))) (omega arith)

    -- A loop, where what follows it costs at most z.
    module _ (l : Bool) (i to j e : ℕ) (q r : Row) (n : to ≤ i + suc f) (h : Inside cs c i to) (w : IsRow (op_in cs c) l i to (loop j e q r)) (body : Cost)
        (v : Walked fee Counted q 0 unbroken body) (es : List Entry) (z : ℕ) (out : Broken body.breaks → SafeAt given (suc e) es z) where
      abbrev entry : ℤ → ℕ → Entry
      entry d q = record { loop = i; target = suc e; depth = d; passed = q }

      -- with a header test
      module _ (head : has_header (chunk_at cs c).ops i ≡ true) where
        tested : Tested (op_in cs c) i
        tested = header_tested (chunk_at cs c).ops i head

        behind : (s : Row) × IsRow (op_in cs c) true (next5 i) e s × Walked fee Counted s (header_fee fee i) (costliest (header_fee fee i)) body
        behind = behind_header fee Counted (op_in cs c) true e w.4 body i q tested w.5 v

        spent_there : Grows (header_fee fee i) (costliest (header_fee fee i)) body
        spent_there = grows fee Counted behind.0 (header_fee fee i) (costliest (header_fee fee i)) body behind.2

        leaves : (m : ℕ) → z ≤ m → SafeAt given (suc e) es m
        leaves m le = safe_more given (suc e) es z m le (out (still_broken (costliest (header_fee fee i)) body.breaks spent_there.1 tt))

        -- the header test, and then at most m
        through_header : (d : ℤ) (p m y : ℕ) → header_fee fee i + m ≤ y → z ≤ m → SafeAt given (next5 i) (entry d (suc p) ∷ es) m
            → SafeAt given (suc i) (entry d p ∷ es) y
        through_header d p m y le le' next =
            let m₄ = fee (next4 i) + m in
            let m₃ = fee (next3 i) + m₄ in
            let m₂ = fee (next2 i) + m₃ in
            let counts : (eqb (next4 i) (i + 4) && has_header (chunk_at cs c).ops i) ≡ true = rw (head, eq-eqb (next4 i) (i + 4) (omega arith)) in
            let at₄ =
            test_safe given (next4 i) m m₄ (entry d p ∷ es) (entry d (suc p) ∷ es) tested.fourth (omega arith) (λ x y. rw counts) next
            (leaves m le') in
            let at₃ = plain_safe given (next3 i) m₄ m₃ (entry d p ∷ es) (rw tested.third tt) (omega arith) at₄ in
            let at₂ = plain_safe given (next2 i) m₃ m₂ (entry d p ∷ es) (rw tested.second tt) (omega arith) at₃ in
            plain_safe given (suc i) m₂ y (entry d p ∷ es) (rw tested.first tt) (omega arith) at₂

        -- the row behind it
        rest_safe : (d : ℤ) (p x y : ℕ) → z ≤ x → body.cycles + x ≤ header_fee fee i + y → (body.ends ≡ false → SafeAt given e (entry d p ∷ es) x)
            → SafeAt given (next5 i) (entry d p ∷ es) y
        rest_safe d p x y le le' a =
            all behind.0 true (next5 i) e (header_fee fee i) (costliest (header_fee fee i)) body (entry d p ∷ es) x y (omega arith) (omega arith)
            behind.1 behind.2 (λ j lt. rw (ne_eqb j (i + 4) (λ m. omega arith))) a (λ m. leaves x le) le'

        -- a body that reaches its end: m passes of the count are left
        passes_safe : (count : ℕ) → Counted i count → body.ends ≡ false → (m p : ℕ) → count ≤ p + m
            → (d : ℤ) → SafeAt given (suc i) (entry d p ∷ es) ((body.cycles + fee e) * m + break_cost body.breaks + z)
        passes_safe count counted on zero p le d =
            let reach = can_reach cs c fee Counted given.rules.header i e q body w.1 (omega arith) w.2 w.5 v on in
            let spare = break_cost body.breaks - header_fee fee i + z in
            let g = within_cost (header_fee fee i) body.breaks spent_there.1 in
            through_header d p spare _ (omega (arith, mul-zero (body.cycles + fee e))) (omega arith)
            (unkept_safe given (next5 i) (entry d (suc p) ∷ es) spare
            (λ x y kept. omega (arith, given.rules.limit (next5 i) x y (entry d (suc p)) es count kept reach counted)))
        passes_safe count counted on (suc m) p le d =
            let later = (body.cycles + fee e) * m + break_cost body.breaks + z in
            let again = passes_safe count counted on m (suc p) (omega arith) d in
            let closed = op_safe given end_loop e later (fee e + later) (entry d (suc p) ∷ es) w.4 (omega arith) (λ x y w. again _ _) in
            let g = spent_there.0 in
            let y = body.cycles + (fee e + later) - header_fee fee i in
            let rest = rest_safe d (suc p) (fee e + later) y (omega arith) (omega arith) (λ m. closed) in
            through_header d p y _ (omega (arith, mul-suc (body.cycles + fee e) m)) (omega arith) rest

      -- a body that does not
      once_safe : body.ends ≡ true → (d : ℤ) → SafeAt given (suc i) (entry d 0 ∷ es) (body.cycles + z)
      once_safe ends d = go (has_header (chunk_at cs c).ops i) refl
        where
          never : (p : ℕ) → body.ends ≡ false → SafeAt given e (entry d p ∷ es) z
          never p m = absurd (let o : ◌≡◌ {A = ℕ} 0 1 = cc in omega arith)

          go : (t : Bool) → has_header (chunk_at cs c).ops i ≡ t → SafeAt given (suc i) (entry d 0 ∷ es) (body.cycles + z)
          go true head =
              let g = (spent_there head).0 in
              let y = body.cycles + z - header_fee fee i in
              through_header head d 0 y _ (omega arith) (omega arith) (rest_safe head d 1 z y (omega arith) (omega arith) (never 1))
          go false head =
              all q true (suc i) e 0 unbroken body (entry d 0 ∷ es) z (body.cycles + z) (omega arith) (omega arith) w.5 v
              (λ j lt. rw head (and-false (eqb j (i + 4)))) (never 0) out (omega arith)

    loop_safe : (j e : ℕ) (q r : Row) → RowSafe (suc f) (loop j e q r)
    loop_safe j e q r l i to cost br k es x y n h w (body, v, v') past a b le = go body.ends refl v'
      where
        same : fee j ≡ fee i
        same = ap fee w.0

        rest : (spent : ℕ) → Walked fee Counted r spent br k → SafeAt given (suc e) es (k.cycles + x - spent)
        rest spent v =
            let g = (grows fee Counted r spent br k v).0 in
            all r l (suc e) to spent br k es x (k.cycles + x - spent) (omega arith) (omega arith) w.6 v
            (past_later es i (suc e) (omega arith) past) a b (omega arith)

        enters : (m : ℕ) → fee i + m ≤ y → ((d : ℤ) → SafeAt given (suc i) (record { loop = i; target = suc e; depth = d; passed = 0 } ∷ es) m)
            → SafeAt given i es y
        enters m le inside = op_safe given (loop_to (suc e)) i m y es w.1 le (λ d b w. inside _ _ _)

        one_pass_lem : (o : Breaks) → body.breaks ≡ o → body.ends ≡ true → AfterPass o body.cycles (cost + fee j) br k (λ n b. Walked fee Counted r n b k)
            → SafeAt given i es y
        one_pass_lem unbroken none ends u =
            let all-spent : k.cycles ≡ cost + fee j + body.cycles = ap (λ (z : Cost). z.cycles) u in
            enters (body.cycles + 0) (omega (arith, same)) (once_safe l i to j e q r n h w body v es 0 (λ m. absurd (rw none at m)) ends)
        one_pass_lem (costliest o) some ends u =
            let spent = cost + fee j + max body.cycles o in
            let g = (grows fee Counted r spent br k u).0 in
            let z = k.cycles + x - spent in
            enters (body.cycles + z) (omega (arith, same)) (once_safe l i to j e q r n h w body v es z (λ m. rest spent u) ends)

        go : (t : Bool) → body.ends ≡ t → AfterLoop fee Counted t j e body (cost + fee j) br k (λ n b. Walked fee Counted r n b k) → SafeAt given i es y
        go true ends u = one_pass_lem body.breaks refl ends u
        go false on (count, counted, u) =
            let spent = cost + fee j + ((body.cycles + fee e) * count + break_cost body.breaks) in
            let g = (grows fee Counted r spent br k u).0 in
            let z = k.cycles + x - spent in
            enters ((body.cycles + fee e) * count + break_cost body.breaks + z) (omega (arith, same))
            (passes_safe l i to j e q r n h w body v es z (λ m. rest spent u) (given.rules.header i count (rw w.0 at counted)) count (rw w.0 at counted) on count 0
            (omega arith))

  end_safe : (f : ℕ) → RowSafe f end
  end_safe f l i to cost br k es x y n h w v past a b le =
      let all-spent : k.cycles ≡ cost = ap (λ (z : Cost). z.cycles) v in
      rw w (safe_more given to es x y (omega arith) (a (ap (λ (z : Cost). z.ends) v)))

  pub row_safe : (f : ℕ) (r : Row) → RowSafe f r
  row_safe zero end l i to cost br k es x y n h w v past a b le = end_safe zero l i to cost br k es x y n h w v past a b le
  row_safe zero (step j r) l i to cost br k es x y n h w v past a b le = absurd (omega arith)
  row_safe zero (stop j r) l i to cost br k es x y n h w v past a b le = absurd (omega arith)
  row_safe zero (leave j r) l i to cost br k es x y n h w v past a b le = absurd (omega arith)
  row_safe zero (leave_if j r) l i to cost br k es x y n h w v past a b le = absurd (omega arith)
  row_safe zero (if_then j u p r) l i to cost br k es x y n h w v past a b le = absurd (omega arith)
  row_safe zero (if_else j e u p q r) l i to cost br k es x y n h w v past a b le = absurd (omega arith)
  row_safe zero (loop j e q r) l i to cost br k es x y n h w v past a b le = absurd (omega arith)
  row_safe (suc f) end l i to cost br k es x y n h w v past a b le = end_safe (suc f) l i to cost br k es x y n h w v past a b le
  row_safe (suc f) (step j r) l i to cost br k es x y n h w v past a b le =
      step_safe f (row_safe f) j r l i to cost br k es x y n h w v past a b le
  row_safe (suc f) (stop j r) l i to cost br k es x y n h w v past a b le =
      let same : fee j ≡ fee i = ap fee w.0 in
      let all-spent : k.cycles ≡ cost + fee j = ap (λ (z : Cost). z.cycles) v in
      ending_safe given i y es w.2 (omega arith)
  row_safe (suc f) (leave j r) l i to cost br k es x y n h w v past a b le =
      let same : fee j ≡ fee i = ap fee w.0 in
      let all-spent : k.cycles ≡ cost + fee j = ap (λ (z : Cost). z.cycles) v in
      break_safe given i x y es w.2 (omega arith) (b (rw v (note_broken br (cost + fee j))))
  row_safe (suc f) (leave_if j r) l i to cost br k es x y n h w v past a b le =
      leave_if_safe f (row_safe f) j r l i to cost br k es x y n h w v past a b le
  row_safe (suc f) (if_then j u p r) l i to cost br k es x y n h w v past a b le =
      if_then_safe f (row_safe f) j u p r l i to cost br k es x y n h w v past a b le
  row_safe (suc f) (if_else j e u p q r) l i to cost br k es x y n h w v past a b le =
      if_else_safe f (row_safe f) j e u p q r l i to cost br k es x y n h w v past a b le
  row_safe (suc f) (loop j e q r) l i to cost br k es x y n h w v past a b le =
      loop_safe f (row_safe f) j e q r l i to cost br k es x y n h w v past a b le
