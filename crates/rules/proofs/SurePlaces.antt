-- Where a path that does as its ops say stands in a chunk's row, with what its memory then holds: what is known of the locals in the row at hand and in
-- each row around, what the last ops have left, and how far each open loop with a sure count has counted. Assumes nothing.
use mathlib.Core.Path.{◌≡◌, refl}
use mathlib.Core.Bool.{Bool, true, false, ◌&&◌}
use mathlib.Core.List.{List, [], ◌∷◌}
use mathlib.Core.Logic.{◌⊎◌, inl, inr}
use Prim.Native.Nat.{ℕ, suc, ◌+◌, ◌≤◌, ◌<◌}
use native.Mathlib.Omega.{arith}
use borrow.Author.Tests.{eqb-true, eqb-false}
use lib.Dec.{eqb}
use Rattle.rules.specs.Ops.{op_at}
use Rattle.rules.specs.Form.{Chunk}
use Rattle.rules.specs.Rows.{Shape, plain, trap, returns, if_to, else_to, end_if, loop_to, end_loop, breaks, breaks_if, calls, shape_of}
use Rattle.rules.specs.Rows.{Row, IsRow}
use Rattle.rules.specs.Count.{has_header, is_set_local, count_at}
use Rattle.rules.specs.Paths.{on, Entry, count_pass}
use Rattle.rules.specs.Values.{Memory, anything, effect_at, Leaves, HeaderWay, AtHeader, WhereCounted, AtLeast}
use Rattle.rules.proofs.Shapes.{shape_tells}
use Rattle.rules.proofs.RowTree.{row_forward}
use Rattle.rules.proofs.HeldRows.{Hides}
use Rattle.rules.proofs.RowTails.{Tail}
use Rattle.rules.proofs.Effects.{Kept, leaves_kept}
use Rattle.rules.proofs.Searches.{SetLeaves, Known, known_inside}
use Rattle.rules.proofs.Operands.{RecentAt, recent_none, recent_next, set_left}
use Rattle.rules.proofs.SureLoop.{counter, limit, SureLoop}
use Rattle.rules.proofs.Counting.{Marks, Lands, next, into, past, Counting, behind_head, counting_pass, test_kind}
use Rattle.rules.proofs.CountingOn.{counting_on}

-- The part of a row that a position stands in, with what stands around it: `full` is the whole row of the part around.
pub data SurePart : Type 0 where
  root : SurePart
  -- an arm from a up to EndIf at t: full, the rest behind it, and the part around
  arm : ℕ → ℕ → Row → Row → SurePart → SurePart
  -- a first arm from a up to Else at e, with EndIf at t
  first : ℕ → ℕ → ℕ → Row → Row → SurePart → SurePart
  -- a loop's body: Loop at p, EndLoop at e, the body, full, the rest behind the loop, and the part around
  body : ℕ → ℕ → Row → Row → Row → SurePart → SurePart

mark_effect : (c : Chunk) (k : ℕ) (s : Shape) → shape_of (op_at c.ops k) ≡ s → Marks s → effect_at c k ≡ anything
mark_effect c k plain e h = absurd h
mark_effect c k trap e h = absurd h
mark_effect c k returns e h = absurd h
mark_effect c k (if_to t) e h = absurd h
mark_effect c k (else_to t) e h = simp (shape_tells (op_at c.ops k) (else_to t) e).0
mark_effect c k end_if e h = absurd h
mark_effect c k (loop_to t) e h = simp (shape_tells (op_at c.ops k) (loop_to t) e).0
mark_effect c k end_loop e h = simp (shape_tells (op_at c.ops k) end_loop e)
mark_effect c k breaks e h = absurd h
mark_effect c k breaks_if e h = absurd h
mark_effect c k (calls j) e h = absurd h

-- The chunk, the row of its range, and the range.
module _ (c : Chunk) (top : Row) (from last : ℕ) where
  -- the op at a position
  abbrev op : ℕ → ℕ
  op i = op_at c.ops i

  -- the position that a part begins at
  abbrev pub start_of : SurePart → ℕ
  start_of root = from
  start_of (arm a t f r k) = a
  start_of (first a e t f r k) = a
  start_of (body p e b f r k) = suc p

  -- and the one that it ends at
  abbrev pub end_of : SurePart → ℕ
  end_of root = last
  end_of (arm a t f r k) = t
  end_of (first a e t f r k) = e
  end_of (body p e b f r k) = e

  -- the row r from i up to `to`
  abbrev pub Rows : ℕ → ℕ → Row → Type 0
  Rows i to r = (l : Bool) × IsRow op l i to r

  -- the ops around the part stand where they should, and each open entry belongs to a loop around it
  abbrev pub InPlace : SurePart → List Entry → Type 0
  InPlace root es = es ≡ []
  InPlace (arm a t f r k) es =
      (shape_of (op t) ≡ end_if) × Rows (suc t) (end_of k) r × InPlace k es × (start_of k < a) × (a ≤ t) × Hides f a t × Tail top f r (suc t) (end_of k)
  InPlace (first a e t f r k) es =
      (shape_of (op t) ≡ end_if) × Rows (suc t) (end_of k) r × InPlace k es × (start_of k < a) × (a ≤ t) × Hides f a t × Tail top f r (suc t) (end_of k)
      × (shape_of (op e) ≡ else_to t) × (e < t)
  InPlace (body p e b f r k) [] = ⊥
  InPlace (body p e b f r k) (n ∷ es) =
      (shape_of (op e) ≡ end_loop) × Rows (suc e) (end_of k) r × InPlace k es × (start_of k < suc p) × (p < e) × Hides f (suc p) e × Tail top f r (suc e) (end_of k)
      × (n.target ≡ suc e) × (n.loop ≡ p) × Rows (suc p) e b × Tail top b b (suc p) e × (shape_of (op p) ≡ loop_to (suc e))

  -- what is known in the rows around
  abbrev pub Knows : SurePart → Memory → Type 0
  Knows root m = Unit {0}
  Knows (arm a t f r k) m = Known c f (suc t) m × Knows k m
  Knows (first a e t f r k) m = Known c f (suc t) m × Knows k m
  Knows (body p e b f r k) m = Known c f (suc e) m × Knows k m

  -- the loop at p, EndLoop at e, its header passed q times: if its count is sure it has counted so far
  abbrev pub CountedSoFar : ℕ → ℕ → ℕ → ℕ → Memory → Type 0
  CountedSoFar p e q i m = (n : ℕ) (s : SureLoop c top p e n) → Counting c s q i m

  -- and so each open loop
  abbrev pub EntryCounts : SurePart → List Entry → ℕ → Memory → Type 0
  EntryCounts root es i m = Unit {0}
  EntryCounts (arm a t f r k) es i m = EntryCounts k es i m
  EntryCounts (first a e t f r k) es i m = EntryCounts k es i m
  EntryCounts (body p e b f r k) [] i m = Unit {0}
  EntryCounts (body p e b f r k) (n ∷ es) i m = CountedSoFar p e n.passed i m × EntryCounts k es i m

  -- A path stands before position i with these entries open and this memory: what is left of its part is `row`, of the row `full`.
  pub record SurePlace (i : ℕ) (es : List Entry) (m : Memory) : Type 0 where
    pub part : SurePart
    pub full : Row
    pub row : Row
    pub is : Rows i (end_of part) row
    pub begun : start_of part ≤ i
    pub tail : Tail top full row i (end_of part)
    pub placed : InPlace part es
    pub known : Known c full i m
    pub around : Knows part m
    pub counts : EntryCounts part es i m
    pub recent : RecentAt c i m

  -- An op at i, and the memory before and behind it.
  module _ (i : ℕ) (m n : Memory) (l : Leaves (effect_at c i) m n) (recent : RecentAt c i m) where
    kept : Kept c i m n
    kept = leaves_kept c i m n l

    pub lands_recent : (j : ℕ) → Lands c i j → RecentAt c j n
    lands_recent j (next f) k g h = let same : k ≡ i = omega (arith, f, g) in rw same (recent_next c i m n recent l)
    lands_recent j (into a b d) k g h = absurd (h a)
    lands_recent j (past t f a d) k g h =
        let same : k ≡ t = omega (arith, f, g) in
        rw same (recent_none c t n (mark_effect c t (shape_of (op t)) refl a))

    -- behind a SetLocal
    pub set_behind : (full : Row) → Known c full i m → (x s : ℕ) → is_set_local x (op i) ≡ true → i ≡ suc s → SetLeaves c full s (n.locals x)
    set_behind full k x s h same = set_left c full s x m n (rw same at h) (rw same at recent) (rw same at k) (rw same at l)

    -- in a block nothing changes for the rows around
    pub still_knows : (k : SurePart) (es : List Entry) → InPlace k es → start_of k ≤ i → i ≤ end_of k → Knows k m → Knows k n
    still_knows root es p le le' a = tt
    still_knows (arm a t f r k) es p le le' (b, d) =
        let fwd = row_forward op r p.1.0 (suc t) (end_of k) p.1.1 in
        (known_inside c f a t i m n p.5 le le' kept b, still_knows k es p.2 (omega (arith, p.3, le)) (omega (arith, fwd, le')) d)
    still_knows (first a e t f r k) es p le le' (b, d) =
        let fwd = row_forward op r p.1.0 (suc t) (end_of k) p.1.1 in (
          known_inside c f a t i m n p.5 le (omega (arith, le', p.8)) kept b,
          still_knows k es p.2 (omega (arith, p.3, le)) (omega (arith, fwd, le', p.8)) d,
        )
    still_knows (body q e b f r k) [] p le le' a = absurd p
    still_knows (body q e b f r k) (x ∷ es) p le le' (d, g) =
        let fwd = row_forward op r p.1.0 (suc e) (end_of k) p.1.1 in
        (known_inside c f (suc q) e i m n p.5 le le' kept d, still_knows k es p.2 (omega (arith, p.3, le)) (omega (arith, fwd, le')) g)

    -- the op at i is no test of these loops: no BreakIf, or behind a mark inside them
    abbrev NoTest : ℕ → Type 0
    NoTest low = (shape_of (op i) ≡ breaks_if → ⊥) ⊎ ((t : ℕ) × (low ≤ t) × (t < i) × Marks (shape_of (op t)))

    no_test : {e N : ℕ} (p : ℕ) (s : SureLoop c top p e N) → NoTest (suc p) → i ≡ p + 4 → ⊥
    no_test p s (inl h) same = h (rw same (test_kind c s))
    no_test p s (inr (t, le, lt, h)) same = let low = behind_head c s t (omega arith) h in omega (arith, low, lt, same)

    later_test : (low low' : ℕ) → low ≤ low' → NoTest low' → NoTest low
    later_test low low' le (inl h) = inl h
    later_test low low' le (inr (t, a, b, h)) = inr (t, omega arith, b, h)

    -- one op on, inside all of them
    pub counts_on : (k : SurePart) (es : List Entry) (j low : ℕ) → InPlace k es → start_of k ≤ i → i < end_of k → start_of k ≤ low → low < j → j ≤ end_of k
        → Lands c i j → NoTest (start_of k) → EntryCounts k es i m → EntryCounts k es j n
    counts_on root es j low p le lt a b d lands h cs = tt
    counts_on (arm a t f r k) es j low p le lt a' b d lands h cs =
        let fwd = row_forward op r p.1.0 (suc t) (end_of k) p.1.1 in
        counts_on k es j low p.2 (omega (arith, p.3, le)) (omega (arith, fwd, lt)) (omega (arith, p.3, a')) b (omega (arith, fwd, d)) lands
        (later_test (start_of k) a (omega (arith, p.3)) h) cs
    counts_on (first a e t f r k) es j low p le lt a' b d lands h cs =
        let fwd = row_forward op r p.1.0 (suc t) (end_of k) p.1.1 in
        counts_on k es j low p.2 (omega (arith, p.3, le)) (omega (arith, fwd, lt, p.8)) (omega (arith, p.3, a')) b (omega (arith, fwd, d, p.8)) lands
        (later_test (start_of k) a (omega (arith, p.3)) h) cs
    counts_on (body q e b f r k) [] j low p le lt a' b' d lands h cs = absurd p
    counts_on (body q e b f r k) (x ∷ es) j low p le lt a' b' d lands h (g, cs) =
        let fwd = row_forward op r p.1.0 (suc e) (end_of k) p.1.1 in (
          λ N s. counting_on c s x.passed i j m n (g N s) l recent lands (omega arith) lt (no_test q s h) (omega arith) d,
          counts_on k es j low p.2 (omega (arith, p.3, le)) (omega (arith, fwd, lt)) (omega (arith, p.3, a')) b' (omega (arith, fwd, d)) lands
              (later_test (start_of k) (suc q) (omega (arith, p.3)) h) cs,
        )

    -- a BreakIf that is not taken
    tested : (q e : ℕ) (x : Entry) → x.loop ≡ q → suc q ≤ i → i < e → HeaderWay c (x ∷ []) i m on → CountedSoFar q e x.passed i m → (cs : List Chunk)
        → CountedSoFar q e (count_pass cs (eqb i (x.loop + 4) && has_header c.ops x.loop) x).passed (suc i) n
    tested q e x same le lt way g cs = at (eqb i (x.loop + 4)) refl way
      where
        at : (b : Bool) → eqb i (x.loop + 4) ≡ b
            → AtHeader b (WhereCounted (count_at c.constants c.ops x.loop) (AtLeast (m.locals (counter c top x.loop)) (m.locals (limit c top x.loop)) on))
            → CountedSoFar q e (count_pass cs (b && has_header c.ops x.loop) x).passed (suc i) n
        at false h way N s =
            let ne = eqb-false i (x.loop + 4) h in
            counting_on c s x.passed i (suc i) m n (g N s) l recent (next refl) (omega arith) lt (λ f. ne (rw same f)) (omega arith) (omega arith)
        at true h way N s =
            let here : i ≡ q + 4 = rw same at (eqb-true i (x.loop + 4) h) in
            let head : has_header c.ops x.loop ≡ true = rw same s.header in
            rw (head, here) (counting_pass c s x.passed m n (rw here at (g N s)) (rw here at kept) (rw same at way))

    pub places_count : (cs : List Chunk) (k : SurePart) (es : List Entry) (x : Entry) → InPlace k (x ∷ es) → start_of k ≤ i → i < end_of k
        → HeaderWay c (x ∷ es) i m on → EntryCounts k (x ∷ es) i m → EntryCounts k (count_pass cs (eqb i (x.loop + 4) && has_header c.ops x.loop) x ∷ es) (suc i) n
    places_count cs root es x p le lt way g = tt
    places_count cs (arm a t f r k) es x p le lt way g =
        let fwd = row_forward op r p.1.0 (suc t) (end_of k) p.1.1 in
        places_count cs k es x p.2 (omega (arith, p.3, le)) (omega (arith, fwd, lt)) way g
    places_count cs (first a e t f r k) es x p le lt way g =
        let fwd = row_forward op r p.1.0 (suc t) (end_of k) p.1.1 in
        places_count cs k es x p.2 (omega (arith, p.3, le)) (omega (arith, fwd, lt, p.8)) way g
    places_count cs (body q e b f r k) es x p le lt way (g, gs) =
        let fwd = row_forward op r p.1.0 (suc e) (end_of k) p.1.1 in (
          tested q e x p.8 le lt way g cs,
          counts_on k es (suc i) i p.2 (omega (arith, p.3, le)) (omega (arith, fwd, lt)) (omega (arith, p.3, le)) (omega arith) (omega (arith, fwd, lt))
              (next refl) (inr (q, omega (arith, p.3), le, rw p.11 tt)) gs,
        )
