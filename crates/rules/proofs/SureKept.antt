-- The claim `SureKept`: a path that does as its ops say passes the header of a loop with a sure count no more often than counted. Assumes nothing.
use mathlib.Core.Path.{◌≡◌, refl}
use mathlib.Core.Bool.{Bool, true, false, cond}
use mathlib.Core.List.{List, [], ◌∷◌}
use Prim.Native.Nat.{ℕ, suc, ◌+◌, ◌<◌, max}
use native.Mathlib.Omega.{arith}
use borrow.Author.Tests.{eqb-true}
use lib.Dec.{eqb}
use lib.ListN.{length, get_or}
use Rattle.rules.specs.Kinds as K
use Rattle.rules.specs.Limits.{no_op}
use Rattle.rules.specs.Numbers as N
use Rattle.rules.specs.Outcome.{ok, Found, found, nothing, and_then}
use Rattle.rules.specs.Ops.{kind, op_at}
use Rattle.rules.specs.Form.{Chunk, Each, ConstantFits}
use Rattle.rules.specs.Rows.{Row, loop_to, shape_of, first_of, or_refuse, range_if, range_of, chunk_row}
use Rattle.rules.specs.Order.{chunk_at}
use Rattle.rules.specs.Paths.{Way, Entry, Spot, here, over, range_found, range_at, go, begin}
use Rattle.rules.specs.Values.{Memory, anything, effect_at, Leaves, HeaderWay, Valued, EntriesSure, KeepsSure}
use Rattle.rules.specs.SureClaims.{SureKept}
use Rattle.rules.proofs.Shapes.{shape_tells}
use Rattle.rules.proofs.Moves.{op_in}
use Rattle.rules.proofs.Runs.{Leads, GoodSpot, after_op, from_start, leads_as}
use Rattle.rules.proofs.RowTree.{chunk_row_lem}
use Rattle.rules.proofs.Operands.{RecentAt, recent_none}
use Rattle.rules.proofs.SureLoop.{sure_loop}
use Rattle.rules.proofs.SurePlaces.{SurePart, root, arm, first, body, InPlace, EntryCounts, SurePlace}
use Rattle.rules.proofs.SureSteps.{SureAt}
use Rattle.rules.proofs.SureTaken.{sure_taken, sure_start}

-- the first op of a kind is of that kind
first_kind : (k : ℕ) (ws : List ℕ) (i s : ℕ) → first_of k ws i ≡ found s → (n : ℕ) × (s ≡ i + n) × (kind (get_or ws n no_op) ≡ k)
unfolding first_of
first_kind k [] i s h = absurd (let o : ◌≡◌ {A = ℕ} 0 1 = cc in omega arith)
first_kind k (w ∷ ws) i s h = by (eqb (kind w) k) refl h (λ e. first_kind k ws (suc i) s e)
  where
    by : (b : Bool) → eqb (kind w) k ≡ b → cond b (found i) (first_of k ws (suc i)) ≡ found s
        → (first_of k ws (suc i) ≡ found s → (n : ℕ) × (s ≡ suc i + n) × (kind (get_or ws n no_op) ≡ k))
        → (n : ℕ) × (s ≡ i + n) × (kind (get_or (w ∷ ws) n no_op) ≡ k)
    by true e h rest = let same : i ≡ s = cc in (0, omega (arith, same), eqb-true (kind w) k e)
    by false e h rest = let a = rest h in (suc a.0, omega (arith, a.1), a.2)

-- a range starts at 0 or behind a Stream
stream_before : (c : Chunk) (j : ℕ) → (range_found (range_of c)).from ≡ suc j → kind (op_at c.ops j) ≡ K.stream
stream_before c j h = by (eqb c.type K.stream_type) h
  where
    second : (s : ℕ) (y : Found) → first_of K.stream c.ops 0 ≡ found s
        → (range_found (and_then (or_refuse y N.no_reset) (λ r. ok (record { from = suc s; to = max (suc s) r })))).from ≡ suc j → kind (op_at c.ops j) ≡ K.stream
    second s (found r) e h =
        let (n, a, b) = first_kind K.stream c.ops 0 s e in
        let same : n ≡ j = omega (arith, a, h) in
        rw same at b
    second s nothing e h = absurd (omega (arith, h))

    stream : (x : Found) → first_of K.stream c.ops 0 ≡ x
        → (range_found (and_then (or_refuse x N.no_stream) (λ s. and_then (or_refuse (first_of K.reset c.ops 0) N.no_reset) (λ r. ok (record { from = suc s; to = max (suc s) r }))))).from ≡ suc j
        → kind (op_at c.ops j) ≡ K.stream
    stream (found s) e h = second s (first_of K.reset c.ops 0) e h
    stream nothing e h = absurd (omega (arith, h))

    by : (b : Bool) → (range_found (range_if b c.ops)).from ≡ suc j → kind (op_at c.ops j) ≡ K.stream
    by true h = stream (first_of K.stream c.ops 0) refl h
    by false h = absurd (omega (arith, h))

-- so no op before it has left anything that counts
first_recent : (c : Chunk) (m : Memory) → RecentAt c (range_found (range_of c)).from m
first_recent c m j f h = recent_none c j m (by (stream_before c j f))
  where
    by : kind (op_at c.ops j) ≡ K.stream → effect_at c j ≡ anything
    by h = simp h

-- a frame that so stands has kept its sure counts
module _ (c : Chunk) (top : Row) (from last : ℕ) (is : chunk_row c ≡ ok top) (fit : Each ConstantFits c.constants) where
  entries_sure : (k : SurePart) (es : List Entry) (i : ℕ) (m : Memory) → InPlace c top from last k es → EntryCounts c top from last k es i m → EntriesSure c es
  entries_sure root [] i m p g = tt
  entries_sure root (x ∷ es) i m p g = absurd (let o : ◌≡◌ {A = ℕ} 0 1 = cc in omega arith)
  entries_sure (arm a t f r k) es i m p g = entries_sure k es i m p.2 g
  entries_sure (first a e t f r k) es i m p g = entries_sure k es i m p.2 g
  entries_sure (body q e b f r k) [] i m p g = absurd p
  entries_sure (body q e b f r k) (x ∷ es) i m p g = (
    λ row n h sure.
        let same : row ≡ top = cc in
        let s = sure_loop c top q e n (shape_tells (op_at c.ops q) (loop_to (suc e)) p.11).1 fit (rw (same, p.8) at sure) in
        (g.0 n s).few,
    entries_sure k es i m p.2 g.1,
  )

module _ (cs : List Chunk) (rows : (k : ℕ) → k < length cs → (r : Row) × (chunk_row (chunk_at cs k) ≡ ok r) × Each ConstantFits (chunk_at cs k).constants) where
  -- a frame of chunk k stands in a place of SurePlaces, and what is asked of its chunk holds
  abbrev InChunk : ℕ → ℕ → List Entry → Memory → Type 0
  InChunk k i es m =
      (r : Row) × (chunk_row (chunk_at cs k) ≡ ok r) × Each ConstantFits (chunk_at cs k).constants
      × SurePlace (chunk_at cs k) r (range_at cs k).from (range_at cs k).to i es m

  starts : (k : ℕ) → k < length cs → (m : Memory) → InChunk k (range_at cs k).from [] m
  starts k lt m =
      let (r, is, fit) = rows k lt in
      let w = (chunk_row_lem (chunk_at cs k) r is).is_row in
      (r, is, fit, sure_start cs k r (range_at cs k).from (range_at cs k).to false m w (first_recent (chunk_at cs k) m))

  -- what an op does to the memory of its frame, and which way a counted header's BreakIf goes
  abbrev Does : ℕ → ℕ → List Entry → Memory → Way → Memory → Type 0
  Does k i es m w n = Leaves (effect_at (chunk_at cs k) i) m n × HeaderWay (chunk_at cs k) es i m w

  op_does : (k i : ℕ) (es : List Entry) (m n : Memory) (w : Way) → i < (range_at cs k).to → InChunk k i es m → Does k i es m w n
      → Leads cs Memory InChunk (shape_of (op_in cs k i)) w k i es n
  op_does k i es m n w lt (r, is, fit, s) (l, way) =
      leads_as cs Memory (SureAt cs k r (range_at cs k).from (range_at cs k).to) InChunk k n (λ j fs a. (r, is, fit, a)) (shape_of (op_in cs k i)) w i es
      (sure_taken cs k r (range_at cs k).from (range_at cs k).to i es m n w lt s l way)

  kept : (run : Bool) (s : Spot) (ways : List Way) (mem : ℕ → Memory) → GoodSpot cs Memory InChunk s mem → Valued cs run s mem ways → KeepsSure cs run s ways
  unfolding Valued KeepsSure
  kept run s [] mem g v = tt
  kept run over (w ∷ ws) mem g v = tt
  kept run (here f gs) (w ∷ ws) mem g (after, l, same, way, v) =
      let (r, is, fit, s) = g.1 in (
        entries_sure (chunk_at cs f.chunk) r (range_at cs f.chunk).from (range_at cs f.chunk).to is fit s.part f.entries f.at (mem (length gs)) s.placed s.counts,
        kept run (go cs run f gs w) ws after
            (after_op cs Memory InChunk run (λ k lt e m. starts k lt m) Does op_does f gs mem after w g (l, way) same) v,
      )

pub sure_kept : SureKept
sure_kept cs rows c lt run mem ways v = kept cs rows run (begin cs c) ways mem (from_start cs Memory (InChunk cs rows) c mem (starts cs rows c lt (mem 0))) v
