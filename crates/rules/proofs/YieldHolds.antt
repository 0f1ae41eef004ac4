-- The claims of request 2.9: a yes holds of every path that reaches the end of its range, and after a never there is none; of a chunk's row, and for one who
-- has the answer alone. Assumes nothing.
use mathlib.Core.Path.{◌≡◌, refl, sym}
use mathlib.Core.Bool.{Bool, true, false, and-false, false≢true}
use mathlib.Core.List.{List, [], ◌∷◌}
use mathlib.Core.Logic.{inl, inr}
use Prim.Native.Nat.{ℕ, suc, ◌<◌}
use native.Mathlib.Omega.{arith}
use borrow.Author.Tests.{eqb-true}
use lib.Dec.{eqb, ltb}
use lib.IntN.{pos}
use lib.ListN.{length}
use Rattle.rules.specs.Limits.{deepest}
use Rattle.rules.specs.Numbers as N
use Rattle.rules.specs.Outcome.{ok, answer, followed_by, in_chunk, demand}
use Rattle.rules.specs.Form.{Chunk}
use Rattle.rules.specs.Rows.{Shape, plain, trap, returns, if_to, else_to, end_if, loop_to, end_loop, breaks, breaks_if, calls, shape_of, Row, chunk_row}
use Rattle.rules.specs.Order.{chunk_at}
use Rattle.rules.specs.Sheet.{read_module}
use Rattle.rules.specs.Paths.{Way, on, aside, Entry, Frame, Spot, here, over, range_at, op_of, go, begin, path}
use Rattle.rules.specs.Yields.{Coverage, reached, never, no_break, gives_turn, coverage_of, chunk_coverage, yield_outcome}
use Rattle.rules.specs.Yields.{back_to, out_of, leads_to, is_at, ends_at, reaches_end, gives_up}
use Rattle.rules.specs.YieldClaims.{YesHolds, NeverHolds, YesTold, NeverTold}
use Rattle.std.proofs.lemmas.Bool.{or_parts}
use Rattle.rules.proofs.Answers.{from_ok, from_chunk}
use Rattle.rules.proofs.Moves.{op_in}
use Rattle.rules.proofs.Runs.{EveryFrame, before_end, Outward, Again, Leads, GoodSpot, after_op, from_start}
use Rattle.rules.proofs.RowTree.{chunk_row_lem}
use Rattle.rules.proofs.VisitPlaces.{Ground, ground_of, VisitedOrOut, visit_taken, stands_last, stands_first}
use Rattle.rules.proofs.Visits.{Visits}
use Rattle.rules.proofs.CoverVisits.{seen}

-- The range of chunk c, which is visited so that no path whose ops are all passed comes to its end.
module _ (cs : List Chunk) (c : ℕ) (Passed : ℕ → Type 0) where
  -- what is asked of the op at a position
  abbrev PassedAt : ℕ → Type 0
  PassedAt i = Passed (op_in cs c i)

  abbrev ground : Ground cs
  ground = ground_of cs (range_at cs c).to (λ i. Unit {0}) PassedAt ⊥

  -- a frame of a path stands in a place
  abbrev In : ℕ → ℕ → List Entry → Unit {0} → Type 0
  In d i es m = VisitedOrOut cs c ground d i es m

  not_there : (d i : ℕ) (es : List Entry) → In d i es tt → eqb i (range_at cs d).to ≡ true → ⊥
  not_there d i es (same, inl s) e =
      let at_end : i ≡ (range_at cs c).to = rw same at (eqb-true i (range_at cs d).to e) in
      stands_last cs c ground es (rw at_end at s)
  not_there d i es (same, inr s) e = absurd s

  not_again : (d : ℕ) (es : List Entry) → Again cs (Unit {0}) In d es tt → is_at (back_to es) (range_at cs d).to ≡ true → ⊥
  not_again d [] n e = false≢true e
  not_again d (x ∷ es) n e = not_there d (suc x.loop) (x ∷ es) n e

  not_outward : (d : ℕ) (es : List Entry) → Outward cs (Unit {0}) In d es tt → is_at (out_of es) (range_at cs d).to ≡ true → ⊥
  not_outward d [] n e = false≢true e
  not_outward d (x ∷ es) n e = not_there d x.target es n e

  -- so no op leads to the end
  leads_not : (s : Shape) (f : Frame) (w : Way) → Leads cs (Unit {0}) In s w f.chunk f.at f.entries tt
      → is_at (leads_to s f w) (range_at cs f.chunk).to ≡ true → ⊥
  leads_not plain f w n e = not_there f.chunk (suc f.at) f.entries n e
  leads_not trap f w n e = false≢true e
  leads_not returns f w n e = false≢true e
  leads_not (if_to t) f on n e = not_there f.chunk (suc f.at) f.entries n e
  leads_not (if_to t) f aside n e = not_there f.chunk t f.entries n e
  leads_not (else_to t) f w n e = not_there f.chunk t f.entries n e
  leads_not end_if f w n e = not_there f.chunk (suc f.at) f.entries n e
  leads_not (loop_to t) f w n e = not_there f.chunk (suc f.at) _ (n (pos 0)) e
  leads_not end_loop f w n e = not_again f.chunk f.entries n e
  leads_not breaks f w n e = not_outward f.chunk f.entries n e
  leads_not breaks_if f on n e = not_there f.chunk (suc f.at) _ n e
  leads_not breaks_if f aside n e = not_outward f.chunk f.entries n e
  leads_not (calls k) f w n e = not_there f.chunk (suc f.at) f.entries n e

  -- an op that is passed leads to a place again
  does : (d i : ℕ) (es : List Entry) (m n : Unit {0}) (w : Way) → i < (range_at cs d).to → In d i es m → Passed (op_in cs d i)
      → Leads cs (Unit {0}) In (shape_of (op_in cs d i)) w d i es n
  does d i es m n w lt (same, inl s) p =
      let before : i < (range_at cs c).to = rw same at lt in
      rw same (visit_taken cs c ground i es w s (λ e. omega arith) (rw same at p))
  does d i es m n w lt (same, inr s) p = absurd s

  abbrev AllPassed : Spot → List Way → Type 0
  AllPassed s ways = EveryFrame cs false (λ f. Passed (op_of cs f)) s ways

  caught : (s : Spot) (ways : List Way) → GoodSpot cs (Unit {0}) In s (λ k. tt) → AllPassed s ways → ends_at cs s ways ≡ true → ⊥
  unfolding EveryFrame ends_at
  caught s [] g p e = false≢true e
  caught over (w ∷ ws) g p e = false≢true e
  caught (here f gs) (w ∷ []) g p e = leads_not (shape_of (op_of cs f)) f w (does f.chunk f.at f.entries tt tt w (before_end cs f g.0) g.1 p.0) e
  caught (here f gs) (w ∷ v ∷ ws) g p e =
      caught (go cs false f gs w) (v ∷ ws)
      (after_op cs (Unit {0}) In false (λ k lt r. absurd (false≢true r)) (λ d i es m w n. Passed (op_in cs d i)) does f gs (λ k. tt) (λ k. tt) w g p.0
      (λ k lt. refl)) p.1 e

  -- from the chunk's start
  end_not_reached : (r : Row) → chunk_row (chunk_at cs c) ≡ ok r → Visits (λ i. Unit {0}) PassedAt ⊥ (Unit {0}) r → (ways : List Way)
      → AllPassed (begin cs c) ways → reaches_end cs c ways ≡ true → ⊥
  end_not_reached r is v ways p e = by ways p e
    where
      start : In c (range_at cs c).from [] tt
      start = (refl, inl (stands_first cs c ground r false (range_at cs c).from [] (chunk_row_lem (chunk_at cs c) r is).is_row v refl))

      by : (ways : List Way) → AllPassed (begin cs c) ways → reaches_end cs c ways ≡ true → ⊥
      by [] p e = not_there c (range_at cs c).from [] start e
      by (w ∷ ws) p e = caught (begin cs c) (w ∷ ws) (from_start cs (Unit {0}) In c (λ k. tt) start) p e

module _ (cs : List Chunk) where
  -- a path that gives up nothing passes each of its ops so
  silent : (lent : List ℕ) (s : Spot) (ways : List Way) → gives_up cs lent (path cs false s ways) ≡ false
      → EveryFrame cs false (λ f. gives_turn lent (op_of cs f) ≡ false) s ways
  unfolding gives_up path EveryFrame
  silent lent s [] e = tt
  silent lent over (w ∷ ws) e = tt
  silent lent (here f gs) (w ∷ ws) e =
      let (own, rest) = or_parts (gives_turn lent (op_of cs f)) (gives_up cs lent (path cs false (go cs false f gs w) ws)) e in
      (own, silent lent (go cs false f gs w) ws rest)

  -- and where nothing is asked of an op every path does
  each_passed : (s : Spot) (ways : List Way) → EveryFrame cs false (λ f. Unit {0}) s ways
  unfolding EveryFrame
  each_passed s [] = tt
  each_passed over (w ∷ ws) = tt
  each_passed (here f gs) (w ∷ ws) = (tt, each_passed (go cs false f gs w) ws)

-- no flag that has not yielded is at the end
pub yes_holds : YesHolds
yes_holds cs c lent r is deep said ways e = by (gives_up cs lent (path cs false (begin cs c) ways)) refl
  where
    gives : ℕ → Bool
    gives i = gives_turn lent (op_in cs c i)

    visited : Visits (λ i. Unit {0}) (λ i. gives i ≡ false) ⊥ (Unit {0}) r
    visited =
        seen gives (λ y. y ≡ false) (λ i. gives i ≡ false) (λ a b h. rw h refl) (λ a b h. rw (h, and-false a) refl) (λ y i h p. rw (h, p) refl) r deepest false
        no_break ⊥ (Unit {0}) refl deep (λ h. false≢true (sym (rw said at h))) (λ m. tt)

    by : (b : Bool) → gives_up cs lent (path cs false (begin cs c) ways) ≡ b → b ≡ true
    by true g = refl
    by false g = absurd (end_not_reached cs c (λ w. gives_turn lent w ≡ false) r is visited ways (silent cs lent (begin cs c) ways g) e)

-- no flag at all is at the end
pub never_holds : NeverHolds
never_holds cs c lent r is deep said ways e =
    end_not_reached cs c (λ w. Unit {0}) r is
    (seen (λ i. gives_turn lent (op_in cs c i)) (λ y. Unit {0}) (λ i. Unit {0}) (λ a b h. tt) (λ a b h. tt) (λ y i h p. tt) r deepest false no_break ⊥
    (Unit {0}) tt deep (λ h. rw said at h) (λ m. tt)) ways (each_passed cs (begin cs c) ways) e

-- the answer is that of the chunk's row
told : (words : List ℕ) (c : ℕ) (lent : List ℕ) (cs : List Chunk) (k : Coverage) → read_module words ≡ answer cs → yield_outcome words c lent ≡ answer k
    → (r : Row) × (chunk_row (chunk_at cs c) ≡ ok r) × (coverage_of (chunk_at cs c) lent r ≡ k)
told words c lent cs k reads e = by (ltb c (length cs)) (rw reads at e)
  where
    by : (b : Bool) → followed_by (in_chunk c (demand b N.no_such_chunk 0 (chunk_at cs c))) (λ x. in_chunk c (chunk_coverage x lent)) ≡ answer k
        → (r : Row) × (chunk_row (chunk_at cs c) ≡ ok r) × (coverage_of (chunk_at cs c) lent r ≡ k)
    by true e =
        let (r, is, said) = from_ok (chunk_row (chunk_at cs c)) _ (from_chunk c _ e) in
        (r, is, cc)
    by false e = absurd (let z : ◌≡◌ {A = ℕ} 0 1 = cc in omega arith)

pub yes_told : YesTold
yes_told words c lent cs reads shallow e ways ends =
    let (r, is, said) = told words c lent cs (reached true) reads e in
    yes_holds cs c lent r is (shallow r is) said ways ends

pub never_told : NeverTold
never_told words c lent cs reads shallow e ways ends =
    let (r, is, said) = told words c lent cs never reads e in
    never_holds cs c lent r is (shallow r is) said ways ends
