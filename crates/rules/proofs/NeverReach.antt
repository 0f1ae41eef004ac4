-- The other half of `can_reach`: a loop's body that the walk says ends has no way to its end; and no path enters a loop that the walk does not visit,
-- so the innermost open loop of every frame was counted if its body can reach its end. Assumes nothing.
use mathlib.Core.Path.{◌≡◌, refl}
use mathlib.Core.Bool.{Bool, true, false, cond}
use mathlib.Core.List.{List, [], ◌∷◌}
use mathlib.Core.Logic.{◌⊎◌, inl, inr}
use Prim.Native.Nat.{ℕ, suc, ◌-◌, ◌<◌}
use native.Mathlib.Omega.{arith}
use borrow.Author.Tests.{eqb-true}
use lib.IntN.{pos}
use lib.ListN.{length}
use Rattle.rules.specs.Outcome.{ok}
use Rattle.rules.specs.Ops.{field_a}
use Rattle.rules.specs.Form.{Chunk}
use Rattle.rules.specs.Rows.{Row, loop_to, shape_of, IsRow, chunk_row}
use Rattle.rules.specs.Cycles.{unbroken, Cost}
use Rattle.rules.specs.Order.{chunk_at}
use Rattle.rules.specs.Paths.{Way, Entry, Frame, Spot, here, over, range_at, in_loop, some_entry, stands_at, depth_behind, entry_at, settle, count_pass, in_range, go, begin}
use Rattle.rules.specs.Paths.{reaches, CanReachEnd}
use Rattle.rules.proofs.Flags.{both}
use Rattle.rules.proofs.Shapes.{shape_tells}
use Rattle.rules.proofs.Walked.{Walked}
use Rattle.rules.proofs.Moves.{placed, op_in}
use Rattle.rules.proofs.Runs.{EveryFrame, Leads, GoodSpot, goes, after_op, from_start, settled, leads_as}
use Rattle.rules.proofs.RowTree.{chunk_row_lem}
use Rattle.rules.proofs.Visits.{Visits, LoopAt, row_visits}
use Rattle.rules.proofs.VisitPlaces.{Ground, none_open, ground_of, VisitPlace, VisitedOrOut, EntryVisited, visit_taken, stands_visited, stands_last, stands_first}

-- one entry is open
abbrev Alone : List Entry → Type 0
Alone [] = ⊥
Alone (n ∷ []) = Unit {0}
Alone (n ∷ m ∷ es) = ⊥

alone_out : (n : Entry) (es : List Entry) → Alone (n ∷ es) → es ≡ []
alone_out n [] h = refl
alone_out n (m ∷ es) h = absurd h

alone_passed : (cs : List Chunk) (b : Bool) (n : Entry) (es : List Entry) → Alone (n ∷ es) → Alone (count_pass cs b n ∷ es)
alone_passed cs b n [] h = tt
alone_passed cs b n (m ∷ es) h = h

-- no entry is open
not_open : {P : Type 0} (es : List Entry) → some_entry es ≡ true → es ≡ [] → P
not_open es h e = absurd (let z : ◌≡◌ {A = ℕ} 0 1 = cc in omega arith)

-- The body from behind its Loop up to EndLoop at e, in chunk c.
module _ (cs : List Chunk) (c e : ℕ) where
  -- The body as the outermost row: one entry is open in it, and none behind a break out of it. No place is at its end, and nothing is said of the loops inside.
  abbrev body_ground : Ground cs
  body_ground =
      record {
        last = e;
        Visited = λ i. Unit {0};
        Passes = λ i. Unit {0};
        AtLast = ⊥;
        Open = Alone;
        Free = λ es. es ≡ [];
        left = alone_out;
        passed = alone_passed cs;
      }

  -- a place in the body
  abbrev In : ℕ → List Entry → Type 0
  In i es = VisitPlace cs c body_ground i es

  -- and, of any frame, that it stands in one or has left the loop
  abbrev Inside : ℕ → ℕ → List Entry → Unit {0} → Type 0
  Inside d i es m = VisitedOrOut cs c body_ground d i es m

  -- a way that stays in the loop comes by no place at e
  before_end : (i : ℕ) (es : List Entry) → In i es → i ≡ e → ⊥
  before_end i es s same = stands_last cs c body_ground es (rw same at s)

  leads : (d i : ℕ) (es : List Entry) (w : Way) → d ≡ c → In i es → Leads cs (Unit {0}) Inside (shape_of (op_in cs d i)) w d i es tt
  leads d i es w same s =
      rw same (visit_taken cs c body_ground i es w s (before_end i es s) tt)

  not_there : (s : Spot) → GoodSpot cs (Unit {0}) Inside s (λ k. tt) → in_loop s ≡ true → stands_at e s ≡ true → ⊥
  not_there over g l h = let z : ◌≡◌ {A = ℕ} 0 1 = cc in omega arith
  not_there (here f gs) g l h = by g.1.1
    where
      by : In f.at f.entries ⊎ (f.entries ≡ []) → ⊥
      by (inl s) = before_end f.at f.entries s (eqb-true f.at e h)
      by (inr n) = not_open f.entries l n

  never : (s : Spot) (ways : List Way) → GoodSpot cs (Unit {0}) Inside s (λ k. tt) → in_loop s ≡ true → reaches cs e s ways ≡ true → ⊥
  unfolding reaches
  never s [] g l h = not_there s g l h
  never over (w ∷ ws) g l h = let z : ◌≡◌ {A = ℕ} 0 1 = cc in omega arith
  never (here f gs) (w ∷ ws) g l h =
      let a = both (in_loop (go cs false f gs w)) (reaches cs e (go cs false f gs w) ws) h in
      never (go cs false f gs w) ws (by g.1.1) a.0 a.1
    where
      by : In f.at f.entries ⊎ (f.entries ≡ []) → GoodSpot cs (Unit {0}) Inside (go cs false f gs w) (λ k. tt)
      by (inl s) =
          goes cs (Unit {0}) Inside false (λ k lt r. absurd (let z : ◌≡◌ {A = ℕ} 0 1 = cc in omega arith)) f gs (λ k. tt) g.2 (shape_of (op_in cs f.chunk f.at)) w
          (leads f.chunk f.at f.entries w g.1.0 s)
      by (inr n) = not_open f.entries l n

  over_never : (ways : List Way) → reaches cs e over ways ≡ true → ⊥
  unfolding reaches
  over_never [] h = let z : ◌≡◌ {A = ℕ} 0 1 = cc in omega arith
  over_never (w ∷ ws) h = let z : ◌≡◌ {A = ℕ} 0 1 = cc in omega arith

  start_never : (f : Frame) → some_entry f.entries ≡ true → (ways : List Way) → GoodSpot cs (Unit {0}) Inside (settle cs f []) (λ k. tt)
      → reaches cs e (settle cs f []) ways ≡ true → ⊥
  unfolding settle
  start_never f l ways = by (in_range cs f)
    where
      by : (b : Bool) → GoodSpot cs (Unit {0}) Inside (cond b (here f []) over) (λ k. tt) → reaches cs e (cond b (here f []) over) ways ≡ true → ⊥
      by true g h = never (here f []) ways g l h
      by false g h = over_never ways h

  -- the loop at i
  pub never_reach : (fee : ℕ → ℕ) (Counted : ℕ → ℕ → Type 0) (i : ℕ) (b : Row) (body : Cost) → shape_of (op_in cs c i) ≡ loop_to (suc e) → i < e
      → IsRow (op_in cs c) true (suc i) e b → Walked fee Counted b 0 unbroken body → body.ends ≡ true → CanReachEnd cs c i → ⊥
  never_reach fee Counted i b body s lt w v ends (ways, found) =
      let target = (shape_tells (op_in cs c i) (loop_to (suc e)) s).1 in
      let same : field_a (op_in cs c i) - 1 ≡ e = omega arith in
      let first = placed c i (pos 0) (pos 0) [] in
      let x = entry_at cs (suc e) first in
      let row : Visits body_ground.Visited body_ground.Passes ⊥ (Unit {0}) b =
      row_visits body_ground.Visited body_ground.Passes fee Counted (op_in cs c) e (λ i e b body at v n. tt) b true (suc i) e 0 unbroken body ⊥ (Unit {0}) (omega arith) w v
      (λ f. let z : ◌≡◌ {A = ℕ} 0 1 = cc in omega arith) (λ m. tt) in
      let at : In (suc i) (x ∷ []) = stands_first cs c body_ground b true (suc i) (x ∷ []) w row tt in
      let f = placed c (suc i) (depth_behind cs first) (pos 0) (x ∷ []) in
      let start = settled cs (Unit {0}) Inside f [] (λ k. tt) (refl, inl at) tt in
      start_never f refl ways start (rw (same, s) at found)

-- Every chunk has a row that is walked to some answer, over any fee and any counts.
module _ (cs : List Chunk) (fee : ℕ → ℕ → ℕ) (Counted : ℕ → ℕ → ℕ → Type 0)
    (known : (k : ℕ) → k < length cs → (r : Row) × (cost : Cost) × (chunk_row (chunk_at cs k) ≡ ok r) × Walked (fee k) (Counted k) r 0 unbroken cost) where
  -- a loop whose body can reach its end was counted
  abbrev CountedIfReached : ℕ → ℕ → Type 0
  CountedIfReached k p = CanReachEnd cs k p → (n : ℕ) × Counted k p n

  -- the range of a chunk, in which no entry is open
  abbrev pub range_ground : ℕ → Ground cs
  range_ground k = ground_of cs (range_at cs k).to (CountedIfReached k) (λ i. Unit {0}) (Unit {0})

  -- a frame of chunk k stands in a place of its range
  abbrev InChunk : ℕ → ℕ → List Entry → Unit {0} → Type 0
  InChunk k i es m = VisitedOrOut cs k (range_ground k) k i es m

  starts : (k : ℕ) → k < length cs → InChunk k (range_at cs k).from [] tt
  starts k lt =
      let (r, cost, is, v) = known k lt in
      let w = (chunk_row_lem (chunk_at cs k) r is).is_row in (
        refl,
        inl (stands_first cs k (range_ground k) r false (range_at cs k).from [] w
            (row_visits (CountedIfReached k) (λ i. Unit {0}) (fee k) (Counted k) (op_in cs k) (range_at cs k).to (enters k) r false (range_at cs k).from (range_at cs k).to 0 unbroken cost
            (Unit {0}) (Unit {0}) (omega arith) w v (λ f. tt) (λ m. tt)) refl),
      )
    where
      enters : (k i e : ℕ) (b : Row) (body : Cost) → LoopAt (op_in cs k) (range_at cs k).to i e b → Walked (fee k) (Counted k) b 0 unbroken body
          → (body.ends ≡ false → (n : ℕ) × Counted k i n) → CountedIfReached k i
      enters k i e b body at v counted = by body.ends refl
        where
          by : (x : Bool) → body.ends ≡ x → CountedIfReached k i
          by true f = λ reach. absurd (never_reach cs k e (fee k) (Counted k) i b body at.opens at.forward at.rows v f reach)
          by false f = λ reach. counted f

  -- the innermost loop of a frame of chunk k
  abbrev pub EntryCounted : ℕ → List Entry → Type 0
  EntryCounted k es = EntryVisited cs k (range_ground k) es

  -- and so of a frame
  abbrev pub FrameCounted : Frame → Type 0
  FrameCounted f = EntryCounted f.chunk f.entries

  does : (k i : ℕ) (es : List Entry) (m n : Unit {0}) (w : Way) → i < (range_at cs k).to → InChunk k i es m → Unit {0}
      → Leads cs (Unit {0}) InChunk (shape_of (op_in cs k i)) w k i es n
  does k i es m n w lt (same, inl s) d =
      leads_as cs (Unit {0}) (VisitedOrOut cs k (range_ground k)) InChunk k tt (λ i es a. a)
      (shape_of (op_in cs k i)) w i es
      (visit_taken cs k (range_ground k) i es w s (λ e. omega arith) tt)
  does k i es m n w lt (same, inr s) d = absurd s

  -- every path, callees run or not
  all_counted : (run : Bool) (s : Spot) (ways : List Way) → GoodSpot cs (Unit {0}) InChunk s (λ k. tt) → EveryFrame cs run FrameCounted s ways
  unfolding EveryFrame
  all_counted run s [] g = tt
  all_counted run over (w ∷ ws) g = tt
  all_counted run (here f gs) (w ∷ ws) g = (
    of_entry g.1.1,
    all_counted run (go cs run f gs w) ws
        (after_op cs (Unit {0}) InChunk run (λ k lt r m. starts k lt) (λ c i es m w n. Unit {0}) does f gs (λ k. tt) (λ k. tt) w g tt (λ k lt. refl)),
  )
    where
      none_visited : (es : List Entry) → es ≡ [] → EntryCounted f.chunk es
      none_visited [] h = tt
      none_visited (n ∷ es) h = none_open n es h

      of_entry : VisitPlace cs f.chunk (range_ground f.chunk) f.at f.entries ⊎ ⊥ → FrameCounted f
      of_entry (inl s) = stands_visited cs f.chunk (range_ground f.chunk) none_visited f.at f.entries s
      of_entry (inr s) = absurd s

  pub path_counted : (run : Bool) (c : ℕ) → c < length cs → (ways : List Way) → EveryFrame cs run FrameCounted (begin cs c) ways
  path_counted run c lt ways = all_counted run (begin cs c) ways (from_start cs (Unit {0}) InChunk c (λ k. tt) (starts c lt))
