-- Where a path stands in a row that is visited, and that each way on leads to such a place again, as long as the path passes its ops: it takes no op that the
-- walk does not visit. Assumes nothing.
use mathlib.Core.Path.{◌≡◌, refl}
use mathlib.Core.Bool.{Bool, true, false, ◌&&◌}
use mathlib.Core.List.{List, [], ◌∷◌}
use mathlib.Core.Logic.{◌⊎◌, inl, inr}
use Prim.Native.Nat.{ℕ, suc, ◌+◌, ◌≤◌, ◌<◌}
use native.Mathlib.Omega.{arith}
use lib.Dec.{eqb}
use Rattle.rules.specs.Form.{Chunk}
use Rattle.rules.specs.Rows.{Shape, if_to, else_to, end_if, end_loop, breaks_if, shape_of, Row, end, step, stop, leave, leave_if, if_then, if_else, loop, IsRow}
use Rattle.rules.specs.Count.{has_header}
use Rattle.rules.specs.Order.{chunk_at}
use Rattle.rules.specs.Paths.{Way, on, aside, Entry, count_pass}
use Rattle.rules.proofs.Shapes.{by_plain, by_ending}
use Rattle.rules.proofs.RowTree.{row_forward}
use Rattle.rules.proofs.Moves.{op_in}
use Rattle.rules.proofs.Runs.{Outward, Leads}
use Rattle.rules.proofs.Visits.{Visits}

-- The part of a row that a position stands in, with what stands around it.
data VisitPart : Type 0 where
  -- the outermost row
  root : VisitPart
  -- an arm up to EndIf at t, the rest behind it, and the part around
  arm : ℕ → Row → VisitPart → VisitPart
  -- a first arm up to Else at e, with EndIf at t
  first : ℕ → ℕ → Row → VisitPart → VisitPart
  -- a loop's body: Loop at p, EndLoop at e, the body, the rest behind the loop, and the part around
  body : ℕ → ℕ → Row → Row → VisitPart → VisitPart

-- The outermost row that a path is followed in: up to which position, and what holds of each Loop that is met, of each op that is taken, at the row's end, of
-- the entries that are open in it, and of those behind a break out of it.
pub record Ground (cs : List Chunk) : Type 1 where
  pub last : ℕ
  pub Visited : ℕ → Type 0
  pub Passes : ℕ → Type 0
  pub AtLast : Type 0
  pub Open : List Entry → Type 0
  pub Free : List Entry → Type 0
  pub left : (n : Entry) (es : List Entry) → Open (n ∷ es) → Free es
  pub passed : (b : Bool) (n : Entry) (es : List Entry) → Open (n ∷ es) → Open (count_pass cs b n ∷ es)

pub none_open : {P : Type 0} (n : Entry) (es : List Entry) → n ∷ es ≡ [] → P
none_open n es h = absurd (let z : ◌≡◌ {A = ℕ} 0 1 = cc in omega arith)

-- a chunk's range up to `last` as the outermost row: no entry is open in it, and no break leads out of it
abbrev pub ground_of : (cs : List Chunk) → ℕ → (ℕ → Type 0) → (ℕ → Type 0) → Type 0 → Ground cs
ground_of cs last Visited Passes AtLast =
    record {
      last = last;
      Visited = Visited;
      Passes = Passes;
      AtLast = AtLast;
      Open = λ es. es ≡ [];
      Free = λ es. ⊥;
      left = λ n es h. none_open n es h;
      passed = λ b n es h. none_open n es h;
    }

module _ (cs : List Chunk) (c : ℕ) (g : Ground cs) where
  -- the op at a position
  abbrev op : ℕ → ℕ
  op i = op_in cs c i

  -- the position that a part ends at
  abbrev end_of : VisitPart → ℕ
  end_of root = g.last
  end_of (arm t r k) = t
  end_of (first e t r k) = e
  end_of (body p e b r k) = e

  -- the row r from i up to `to`
  abbrev Rows : ℕ → ℕ → Row → Type 0
  Rows i to r = (l : Bool) × IsRow op l i to r

  abbrev mutual
    -- what holds at a part's end
    After : VisitPart → Type 0
    After root = g.AtLast
    After (arm t r k) = Visits g.Visited g.Passes (After k) (BrokenOut k) r
    After (first e t r k) = Visits g.Visited g.Passes (After k) (BrokenOut k) r
    After (body p e b r k) = Unit {0}

    -- and behind a break out of the innermost loop
    BrokenOut : VisitPart → Type 0
    BrokenOut root = Unit {0}
    BrokenOut (arm t r k) = BrokenOut k
    BrokenOut (first e t r k) = BrokenOut k
    BrokenOut (body p e b r k) = Visits g.Visited g.Passes (After k) (BrokenOut k) r

  -- each open entry belongs to a loop around, which is visited
  abbrev InPlace : VisitPart → List Entry → Type 0
  InPlace root es = g.Open es
  InPlace (arm t r k) es = (shape_of (op t) ≡ end_if) × Rows (suc t) (end_of k) r × InPlace k es
  InPlace (first e t r k) es = (shape_of (op t) ≡ end_if) × Rows (suc t) (end_of k) r × InPlace k es × (shape_of (op e) ≡ else_to t) × (e < t)
  InPlace (body p e b r k) [] = ⊥
  InPlace (body p e b r k) (n ∷ es) =
      (shape_of (op e) ≡ end_loop) × Rows (suc e) (end_of k) r × InPlace k es × (n.target ≡ suc e) × (n.loop ≡ p) × Rows (suc p) e b
      × Visits g.Visited g.Passes (Unit {0}) (Visits g.Visited g.Passes (After k) (BrokenOut k) r) b × g.Visited p

  -- A path stands before position i with these entries open: what is left of its part is `row`, whose Loops are visited as it goes.
  pub record VisitPlace (i : ℕ) (es : List Entry) : Type 0 where
    part : VisitPart
    row : Row
    is : Rows i (end_of part) row
    visits : Visits g.Visited g.Passes (After part) (BrokenOut part) row
    placed : InPlace part es

  -- in a place, or out of the outermost row
  abbrev pub VisitedOrOut : ℕ → ℕ → List Entry → Unit {0} → Type 0
  VisitedOrOut d i es m = (d ≡ c) × (VisitPlace i es ⊎ g.Free es)

  inside : {i : ℕ} {es : List Entry} → VisitPlace i es → VisitedOrOut c i es tt
  inside s = (refl, inl s)

  -- where an op of that shape leads
  abbrev To : Shape → Way → ℕ → List Entry → Type 0
  To s w i es = Leads cs (Unit {0}) VisitedOrOut s w c i es tt

  breaks_out : (k : VisitPart) (es : List Entry) → InPlace k es → BrokenOut k → Outward cs (Unit {0}) VisitedOrOut c es tt
  breaks_out root [] p b = tt
  breaks_out root (n ∷ es) p b = (refl, inr (g.left n es p))
  breaks_out (arm t r k) es p b = breaks_out k es p.2 b
  breaks_out (first e t r k) es p b = breaks_out k es p.2 b
  breaks_out (body q e d r k) [] p b = absurd p
  breaks_out (body q e d r k) (n ∷ es) p b = inside (record { part = k; row = r; is = rw p.3 p.1; visits = b; placed = p.2 })

  repeats : (q e : ℕ) (b r : Row) (k : VisitPart) (n : Entry) (es : List Entry) → InPlace (body q e b r k) (n ∷ es) → VisitPlace (suc n.loop) (n ∷ es)
  repeats q e b r k n es p = record { part = body q e b r k; row = b; is = rw p.4 p.5; visits = p.6; placed = p }

  -- how often a header was passed plays no role
  entry_passed : (b : Bool) (k : VisitPart) (n : Entry) (es : List Entry) → InPlace k (n ∷ es) → InPlace k (count_pass cs b n ∷ es)
  entry_passed b root n es p = g.passed b n es p
  entry_passed b (arm t r k) n es p = (p.0, p.1, entry_passed b k n es p.2)
  entry_passed b (first e t r k) n es p = (p.0, p.1, entry_passed b k n es p.2, p.3, p.4)
  entry_passed true (body q e d r k) n es p = p
  entry_passed false (body q e d r k) n es p = p

  tests : (i : ℕ) (es : List Entry) (k : VisitPart) (r : Row) (w : Way) → Rows (suc i) (end_of k) r
      → Visits g.Visited g.Passes (After k) (BrokenOut k) r → BrokenOut k → InPlace k es → To breaks_if w i es
  tests i [] k r on is v b p = inside (record { part = k; row = r; is = is; visits = v; placed = p })
  tests i (n ∷ es) k r on is v b p =
      inside (record {
        part = k;
        row = r;
        is = is;
        visits = v;
        placed = entry_passed (eqb i (n.loop + 4) && has_header (chunk_at cs c).ops n.loop) k n es p;
      })
  tests i es k r aside is v b p = breaks_out k es p b

  if_goes : (t i : ℕ) (es : List Entry) (w : Way) → VisitPlace (suc i) es → VisitPlace t es → To (if_to t) w i es
  if_goes t i es on a b = inside a
  if_goes t i es aside a b = inside b

  -- at the end of its part a path stands before EndIf, Else or EndLoop
  end_taken : (k : VisitPart) (i : ℕ) (es : List Entry) (w : Way) → i ≡ end_of k → (i ≡ g.last → ⊥) → After k → InPlace k es → To (shape_of (op i)) w i es
  end_taken root i es w e before a p = absurd (before e)
  end_taken (arm t r k) i es w e before a p =
      rw (e, p.0) (inside (record { part = k; row = r; is = p.1; visits = a; placed = p.2 }))
  end_taken (first f t r k) i es w e before a p =
      rw (e, p.3) (inside (record { part = arm t r k; row = end; is = (true, refl); visits = a; placed = (p.0, p.1, p.2) }))
  end_taken (body q f b r k) i [] w e before a p = absurd p
  end_taken (body q f b r k) i (n ∷ es) w e before a p = rw (e, p.0) (inside (repeats q f b r k n es p))

  -- and before it, before the first op of what is left
  row_taken : (r : Row) (k : VisitPart) (l : Bool) (i : ℕ) (es : List Entry) (w : Way) → IsRow op l i (end_of k) r → (i ≡ g.last → ⊥) → g.Passes i
      → Visits g.Visited g.Passes (After k) (BrokenOut k) r → InPlace k es → To (shape_of (op i)) w i es
  row_taken end k l i es w is before taken v p = end_taken k i es w is before v p
  row_taken (step j r) k l i es w is before taken v p =
      let next : VisitPlace (suc i) es = record { part = k; row = r; is = (l, is.3); visits = v (rw is.0 taken); placed = p } in
      by_plain (λ s. To s w i es) (inside next) (λ k. inside next) (shape_of (op i)) is.2
  row_taken (stop j r) k l i es w is before taken v p = by_ending (λ s. To s w i es) tt tt (shape_of (op i)) is.2
  row_taken (leave j r) k l i es w is before taken v p = rw is.2 (breaks_out k es p v)
  row_taken (leave_if j r) k l i es w is before taken v p = rw is.2 (tests i es k r w (l, is.4) v.1 v.0 p)
  row_taken (if_then j t q r) k l i es w is before taken v p =
      rw is.1 (if_goes t i es w
      (record { part = arm t r k; row = q; is = (l, is.5); visits = v.0; placed = (is.4, (l, is.6), p) })
      (record { part = arm t r k; row = end; is = (l, refl); visits = v.1; placed = (is.4, (l, is.6), p) }))
  row_taken (if_else j e t q s r) k l i es w is before taken v p =
      rw is.1 (if_goes (suc e) i es w
      (record { part = first e t r k; row = q; is = (l, is.7); visits = v.0; placed = (is.6, (l, is.9), p, is.5, is.3) })
      (record { part = arm t r k; row = s; is = (l, is.8); visits = v.1; placed = (is.6, (l, is.9), p) }))
  row_taken (loop j e b r) k l i es w is before taken v p =
      rw is.1 (λ d.
      inside (record {
        part = body i e b r k;
        row = b;
        is = (true, is.5);
        visits = v.1;
        placed = (is.4, (l, is.6), p, refl, refl, (true, is.5), v.1, rw is.0 at v.0);
      }))

  pub visit_taken : (i : ℕ) (es : List Entry) (w : Way) → VisitPlace i es → (i ≡ g.last → ⊥) → g.Passes i → To (shape_of (op i)) w i es
  visit_taken i es w s before taken = row_taken s.row s.part s.is.0 i es w s.is.1 before taken s.visits s.placed

  -- the innermost entry's loop is visited
  abbrev pub EntryVisited : List Entry → Type 0
  EntryVisited [] = Unit {0}
  EntryVisited (n ∷ es) = g.Visited n.loop

  innermost_visited : (root_visited : (es : List Entry) → g.Open es → EntryVisited es) (k : VisitPart) (es : List Entry) → InPlace k es → EntryVisited es
  innermost_visited root_visited root es p = root_visited es p
  innermost_visited root_visited (arm t r k) es p = innermost_visited root_visited k es p.2
  innermost_visited root_visited (first e t r k) es p = innermost_visited root_visited k es p.2
  innermost_visited root_visited (body q e b r k) [] p = absurd p
  innermost_visited root_visited (body q e b r k) (n ∷ es) p = rw p.4 p.7

  pub stands_visited : ((es : List Entry) → g.Open es → EntryVisited es) → (i : ℕ) (es : List Entry) → VisitPlace i es → EntryVisited es
  stands_visited root_visited i es s = innermost_visited root_visited s.part es s.placed

  -- at the end of the outermost row
  inner_ends : (k : VisitPart) (es : List Entry) → InPlace k es → end_of k ≤ g.last
  inner_ends root es p = omega arith
  inner_ends (arm t r k) es p = omega (arith, row_forward op r p.1.0 (suc t) (end_of k) p.1.1, inner_ends k es p.2)
  inner_ends (first e t r k) es p = omega (arith, row_forward op r p.1.0 (suc t) (end_of k) p.1.1, inner_ends k es p.2, p.4)
  inner_ends (body q e b r k) [] p = absurd p
  inner_ends (body q e b r k) (n ∷ es) p = omega (arith, row_forward op r p.1.0 (suc e) (end_of k) p.1.1, inner_ends k es p.2)

  at_last : (k : VisitPart) (r : Row) (l : Bool) (es : List Entry) → InPlace k es → IsRow op l g.last (end_of k) r
      → Visits g.Visited g.Passes (After k) (BrokenOut k) r → g.AtLast
  at_last root end l es p w v = v
  at_last root (step j r) l es p w v = absurd (omega arith)
  at_last root (stop j r) l es p w v = absurd (omega arith)
  at_last root (leave j r) l es p w v = absurd (omega arith)
  at_last root (leave_if j r) l es p w v = absurd (omega arith)
  at_last root (if_then j t q r) l es p w v = absurd (omega arith)
  at_last root (if_else j e t q s r) l es p w v = absurd (omega arith)
  at_last root (loop j e b r) l es p w v = absurd (omega arith)
  at_last (arm t s k) r l es p w v =
      absurd (omega (arith, row_forward op r l g.last t w, row_forward op s p.1.0 (suc t) (end_of k) p.1.1, inner_ends k es p.2))
  at_last (first e t s k) r l es p w v =
      absurd (omega (arith, row_forward op r l g.last e w, row_forward op s p.1.0 (suc t) (end_of k) p.1.1, inner_ends k es p.2, p.4))
  at_last (body q e b s k) r l [] p w v = absurd p
  at_last (body q e b s k) r l (n ∷ es) p w v =
      absurd (omega (arith, row_forward op r l g.last e w, row_forward op s p.1.0 (suc e) (end_of k) p.1.1, inner_ends k es p.2))

  pub stands_last : (es : List Entry) → VisitPlace g.last es → g.AtLast
  stands_last es s = at_last s.part s.row s.is.0 es s.placed s.is.1 s.visits

  -- before the first op of the outermost row
  pub stands_first : (r : Row) (l : Bool) (i : ℕ) (es : List Entry) → IsRow op l i g.last r → Visits g.Visited g.Passes g.AtLast (Unit {0}) r → g.Open es
      → VisitPlace i es
  stands_first r l i es w v p = record { part = root; row = r; is = (l, w); visits = v; placed = p }
