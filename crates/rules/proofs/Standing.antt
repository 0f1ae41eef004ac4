-- Where a path stands in a chunk's row, and that each way on from there leads to such a place again, below the top. Assumes nothing.
use mathlib.Core.Path.{◌≡◌, refl}
use mathlib.Core.Bool.{Bool, true}
use mathlib.Core.List.{List, [], ◌∷◌}
use Prim.Native.Nat.{ℕ, suc, ◌≤◌}
use native.Mathlib.Omega.{arith}
use lib.IntN.{ℤ, pos, ◌+ℤ◌, +ℤ_idr}
use lib.Signed.{le_z}
use Rattle.rules.specs.Rows.{Shape, plain, trap, returns, if_to, else_to, end_if, loop_to, end_loop, breaks, breaks_if, calls, shape_of}
use Rattle.rules.specs.Rows.{Row, end, step, stop, leave, leave_if, if_then, if_else, loop, IsRow}
use Rattle.rules.specs.Stack.{at_least_zero}
use Rattle.rules.specs.Paths.{Entry}
use Rattle.rules.proofs.Shapes.{by_plain, by_ending}
use Rattle.rules.proofs.SignedOrder.{le_at_most}
use Rattle.rules.proofs.Covered.{Downward, Covered, covered_down}

-- The part of a row that a position stands in, with what stands around it.
pub data Part : Type 0 where
  -- the whole range
  whole : Part
  -- an arm up to EndIf at t, the rest behind it, and the part around
  arm : ℕ → Row → Part → Part
  -- a first arm up to Else at e, with EndIf at t
  first : ℕ → ℕ → Row → Part → Part
  -- a loop's body up to EndLoop at e: the body, the rest behind the loop, the depth at its entry, and the part around
  body : ℕ → Row → Row → ℤ → Part → Part

-- Else, EndIf and EndLoop
abbrev pub Quiet : Shape → Type 0
Quiet plain = ⊥
Quiet trap = ⊥
Quiet returns = ⊥
Quiet (if_to t) = ⊥
Quiet (else_to e) = Unit {0}
Quiet end_if = Unit {0}
Quiet (loop_to t) = ⊥
Quiet end_loop = Unit {0}
Quiet breaks = ⊥
Quiet breaks_if = ⊥
Quiet (calls k) = ⊥

-- The ops by position, the range's end, and the top with the rise and the move of each op.
module _ (op : ℕ → ℕ) (last top : ℕ) (rise move : ℕ → ℤ) where
  abbrev end_of : Part → ℕ
  end_of whole = last
  end_of (arm t r k) = t
  end_of (first e t r k) = e
  end_of (body e b r y k) = e

  abbrev Rows : ℕ → ℕ → Row → Type 0
  Rows i to r = (l : Bool) × IsRow op l i to r

  abbrev mutual
    -- what holds at a part's end, of the depth there
    After : Part → ℤ → Type 0
    After whole x = Unit {0}
    After (arm t r k) x = Covered top rise move (λ z. After k z) (Broken k) r x
    After (first e t r k) x = Covered top rise move (λ z. After k z) (Broken k) r x
    After (body e b r y k) x = Unit {0}

    -- what holds where it breaks out of the loop around it
    Broken : Part → Type 0
    Broken whole = Unit {0}
    Broken (arm t r k) = Broken k
    Broken (first e t r k) = Broken k
    Broken (body e b r y k) = Covered top rise move (λ z. After k z) (Broken k) r y

  -- the ops around the part stand where they should, and each open entry belongs to a loop around it
  abbrev pub InPlace : Part → List Entry → Type 0
  InPlace whole es = es ≡ []
  InPlace (arm t r k) es = (shape_of (op t) ≡ end_if) × Rows (suc t) (end_of k) r × InPlace k es
  InPlace (first e t r k) es = (shape_of (op t) ≡ end_if) × Rows (suc t) (end_of k) r × InPlace k es × (shape_of (op e) ≡ else_to t)
  InPlace (body e b r y k) [] = ⊥
  InPlace (body e b r y k) (n ∷ es) =
      (shape_of (op e) ≡ end_loop) × Rows (suc e) (end_of k) r × InPlace k es × (n.target ≡ suc e) × (n.depth ≡ y) × Rows (suc n.loop) e b
      × Covered top rise move (After (body e b r y k)) (Broken (body e b r y k)) b y

  -- A path stands before position i at depth x with these entries open: what is left of its part is a row that is covered from x.
  pub record Standing (i : ℕ) (x : ℤ) (es : List Entry) : Type 0 where
    pub part : Part
    pub row : Row
    pub is : Rows i (end_of part) row
    pub covered : Covered top rise move (After part) (Broken part) row x
    pub placed : InPlace part es

  -- Behind the op at i, at depth x: where a break leads, and where each shape leads.
  abbrev BreaksOut : ℤ → List Entry → Type 0
  BreaksOut x [] = Unit {0}
  BreaksOut x (n ∷ es) = le_z x n.depth ≡ true → Standing n.target x es

  abbrev Repeats : ℤ → List Entry → Type 0
  Repeats x [] = Unit {0}
  Repeats x (n ∷ es) = le_z x n.depth ≡ true → Standing (suc n.loop) x (n ∷ es)

  abbrev pub GoesOn : Shape → ℕ → ℤ → List Entry → Type 0
  GoesOn plain i x es = Standing (suc i) x es
  GoesOn trap i x es = Unit {0}
  GoesOn returns i x es = Unit {0}
  GoesOn (if_to t) i x es = Standing (suc i) x es × Standing t x es
  GoesOn (else_to e) i x es = Standing e x es
  GoesOn end_if i x es = Standing (suc i) x es
  GoesOn (loop_to t) i x es = Standing (suc i) x (record { loop = i; target = t; depth = x; passed = 0 } ∷ es)
  GoesOn end_loop i x es = Repeats x es
  GoesOn breaks i x es = BreaksOut x es
  GoesOn breaks_if i x es = Standing (suc i) x es × BreaksOut x es
  GoesOn (calls k) i x es = Standing (suc i) x es

  -- what holds of a depth holds of any lesser one
  after_less : (k : Part) → Downward (After k)
  after_less whole x y h a = tt
  after_less (arm t r k) x y h a = covered_down top rise move (After k) (Broken k) (after_less k) r x y h a
  after_less (first e t r k) x y h a = covered_down top rise move (After k) (Broken k) (after_less k) r x y h a
  after_less (body e b r y k) x z h a = tt

  row_less : (k : Part) (r : Row) → Downward (λ x. Covered top rise move (After k) (Broken k) r x)
  row_less k r = covered_down top rise move (After k) (Broken k) (after_less k) r

  -- where a break and a whole pass lead, if they leave no more than the depth at the entry
  breaks_out : (k : Part) (es : List Entry) (x : ℤ) → InPlace k es → Broken k → BreaksOut x es
  breaks_out whole [] x p b = tt
  breaks_out whole (n ∷ es) x p b = absurd (let z : ◌≡◌ {A = ℕ} 0 1 = cc in omega arith)
  breaks_out (arm t r k) es x p b = breaks_out k es x p.2 b
  breaks_out (first e t r k) es x p b = breaks_out k es x p.2 b
  breaks_out (body e d r y k) [] x p b = absurd p
  breaks_out (body e d r y k) (n ∷ es) x p b = λ le.
      record {
        part = k;
        row = r;
        is = rw p.3 p.1;
        covered = row_less k r y x (le_at_most x y (rw p.4 at le)) b;
        placed = p.2;
      }

  repeats : (e : ℕ) (b r : Row) (y : ℤ) (k : Part) (n : Entry) (es : List Entry) (x : ℤ) → InPlace (body e b r y k) (n ∷ es) → Repeats x (n ∷ es)
  repeats e b r y k n es x p = λ le.
      record {
        part = body e b r y k;
        row = b;
        is = p.5;
        covered = row_less (body e b r y k) b y x (le_at_most x y (rw p.4 at le)) p.6;
        placed = p;
      }

  -- the op at i, taken at depth x
  abbrev Taken : ℕ → ℤ → List Entry → Type 0
  Taken i x es = (at_least_zero (x +ℤ rise i) ≤ top) × GoesOn (shape_of (op i)) i (x +ℤ move i) es

  module _ (quiet : (i : ℕ) → Quiet (shape_of (op i)) → (rise i ≡ pos 0) × (move i ≡ pos 0)) where
    quiet_taken : (i : ℕ) (x : ℤ) (es : List Entry) (s : Shape) → Quiet s → shape_of (op i) ≡ s → at_least_zero x ≤ top → GoesOn s i x es → Taken i x es
    quiet_taken i x es s h e low n =
        let q = quiet i (rw e h) in
        (rw (q.0, +ℤ_idr) low, rw (q.1, +ℤ_idr, e) n)

    -- at the end of its part a path stands before EndIf, Else or EndLoop
    end-taken : (k : Part) (i : ℕ) (x : ℤ) (es : List Entry) → i ≡ end_of k → (i ≡ last → ⊥) → at_least_zero x ≤ top → After k x → InPlace k es → Taken i x es
    end-taken whole i x es e before low a p = absurd (before e)
    end-taken (arm t r k) i x es e before low a p =
        quiet_taken i x es end_if tt (rw e p.0) low
        (record { part = k; row = r; is = rw e p.1; covered = a; placed = p.2 })
    end-taken (first f t r k) i x es e before low a p =
        quiet_taken i x es (else_to t) tt (rw e p.3) low
        (record { part = arm t r k; row = end; is = (true, refl); covered = (low, a); placed = (p.0, p.1, p.2) })
    end-taken (body f b r y k) i x [] e before low a p = absurd p
    end-taken (body f b r y k) i x (n ∷ es) e before low a p = quiet_taken i x (n ∷ es) end_loop tt (rw e p.0) low (repeats f b r y k n es x p)

    -- and before it, before the first op of what is left
    row-taken : (r : Row) (k : Part) (l : Bool) (i : ℕ) (x : ℤ) (es : List Entry) → IsRow op l i (end_of k) r → (i ≡ last → ⊥)
        → Covered top rise move (After k) (Broken k) r x → InPlace k es → Taken i x es
    row-taken end k l i x es w before c p = end-taken k i x es w before c.0 c.1 p
    row-taken (step j r) k l i x es w before c p =
        let d = rw w.0 at c in (
          d.0,
          let n : Standing (suc i) (x +ℤ move i) es = record { part = k; row = r; is = (l, w.3); covered = d.1; placed = p } in
              by_plain (λ s. GoesOn s i (x +ℤ move i) es) n (λ c. n) (shape_of (op i)) w.2,
        )
    row-taken (stop j r) k l i x es w before c p = (rw w.0 at c, by_ending (λ s. GoesOn s i (x +ℤ move i) es) tt tt (shape_of (op i)) w.2)
    row-taken (leave j r) k l i x es w before c p =
        let d = rw w.0 at c in
        (d.0, rw w.2 (breaks_out k es (x +ℤ move i) p d.1))
    row-taken (leave_if j r) k l i x es w before c p =
        let d = rw w.0 at c in
        (d.0, rw w.2 (record { part = k; row = r; is = (l, w.4); covered = d.2; placed = p }, breaks_out k es (x +ℤ move i) p d.1))
    row-taken (if_then j t q r) k l i x es w before c p =
        let d = rw w.0 at c in (
          d.0,
          rw w.1 (
            record { part = arm t r k; row = q; is = (l, w.5); covered = d.1; placed = (w.4, (l, w.6), p) },
            record { part = arm t r k; row = end; is = (l, refl); covered = (d.2, d.3); placed = (w.4, (l, w.6), p) },
          ),
        )
    row-taken (if_else j e t q s r) k l i x es w before c p =
        let d = rw w.0 at c in (
          d.0,
          rw w.1 (
            record { part = first e t r k; row = q; is = (l, w.7); covered = d.1; placed = (w.6, (l, w.9), p, w.5) },
            record { part = arm t r k; row = s; is = (l, w.8); covered = d.2; placed = (w.6, (l, w.9), p) },
          ),
        )
    row-taken (loop j e b r) k l i x es w before c p =
        let d = rw w.0 at c in (
          d.0,
          rw w.1
              (record {
                part = body e b r (x +ℤ move i) k;
                row = b;
                is = (true, w.5);
                covered = d.1;
                placed = (w.4, (l, w.6), p, refl, refl, (true, w.5), d.1);
              }),
        )

    pub taken : (i : ℕ) (x : ℤ) (es : List Entry) → Standing i x es → (i ≡ last → ⊥) → Taken i x es
    taken i x es s before = row-taken s.row s.part s.is.0 i x es s.is.1 before s.covered s.placed
