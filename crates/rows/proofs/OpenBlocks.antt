-- The open blocks of the row check: where the innermost part ends, and the ends of the parts around it, the innermost first. What is still to be a row
-- there, and each turn of the loop. Assumes nothing.
use mathlib.Core.Path.{◌≡◌, refl, sym, ◌∙◌}
use mathlib.Core.Bool.{Bool, true, false, cond, ◌||◌}
use mathlib.Core.List.{List, [], ◌∷◌}
use mathlib.Core.Logic.{◌↔◌}
use Prim.Native.Nat.{ℕ, suc, ◌+◌, ◌-◌, ◌<◌, ◌≤◌}
use native.Mathlib.Numerals.{add-one}
use native.Mathlib.Omega.{arith}
use borrow.Author.Tests.{lt-ltb, eqb-true}
use lib.Dec.{eqb, ltb}
use lib.ListN.{length}
use Rattle.rules.specs.Ops.{kind, field_a}
use Rattle.rules.specs.Rows.{end, row, crossed, parse}
use Rattle.rules.proofs.RowTree.{parse_sound, parse_complete}
use Rattle.rows.specs.declared.check.Opening.{Opening}
use Rattle.rows.specs.declared.check.Opening.TheVariants.{Plain, Crossed}
use Rattle.rows.specs.Tree.{HasRow, is_row}
use Rattle.rows.specs.Answers.{opens_at}
use Rattle.rows.proofs.TurnLaws.{Rest, ElseFits, opening, Opened, Turn, as_opened, turn}

-- how many of the open blocks are Loops: each part but the outermost is that of a block
abbrev loops_in : (ℕ → ℕ) → ℕ → List ℕ → ℕ
loops_in op e [] = 0
loops_in op e (b ∷ bs) = cond (eqb (kind (op e)) 25) (suc (loops_in op b bs)) (loops_in op b bs)

-- whether a Loop is among them
abbrev in_loop : (ℕ → ℕ) → ℕ → List ℕ → Bool
in_loop op e bs = ltb 0 (loops_in op e bs)

-- each end lies inside the part around it, and so does the target of an Else; the outermost part is the range, which ends at `to`
abbrev Nested : (ℕ → ℕ) → ℕ → ℕ → List ℕ → Type 0
Nested op to e [] = e ≡ to
Nested op to e (b ∷ bs) = (e < b) × (kind (op e) ≡ 22 → ElseFits op e b) × Nested op to b bs

-- what is still to be a row behind each end
abbrev After : (ℕ → ℕ) → ℕ → List ℕ → Type 0
After op e [] = Unit {0}
After op e (b ∷ bs) = Rest op (in_loop op b bs) e b × After op b bs

-- what is still to be a row from i on: the rest of the innermost part, and what is left behind each end
abbrev OpenAt : (ℕ → ℕ) → ℕ → List ℕ → ℕ → Type 0
OpenAt op e bs i = HasRow op (in_loop op e bs) i e × After op e bs

module _ (op : ℕ → ℕ) (from to : ℕ) where
  -- the check at i inside these parts, `loops` of them Loops: the range is a row exactly where what is open can still be one
  pub record Stage (e : ℕ) (bs : List ℕ) (loops i : ℕ) : Type 0 where
    pub low : from + length bs ≤ i
    pub within : i ≤ e
    pub nested : Nested op to e bs
    pub counted : loops ≡ loops_in op e bs
    pub same : HasRow op false from to ↔ OpenAt op e bs i

  -- at the start no block is open
  pub start : from ≤ to → Stage to [] 0 from
  start h = record { low = omega arith; within = h; nested = refl; counted = refl; same = (λ r. (r, tt), λ r. r.0) }

  -- behind the innermost end there is a place for that of each part around it
  room : (e : ℕ) (bs : List ℕ) → Nested op to e bs → e + length bs ≤ to
  room e [] n = omega arith
  room e (b ∷ bs) n = omega (arith, room b bs n.2)

  -- no more blocks are Loops than are open
  few_loops : (e : ℕ) (bs : List ℕ) → loops_in op e bs ≤ length bs
  few_loops e [] = omega arith
  few_loops e (b ∷ bs) =
      elim (eqb (kind (op e)) 25) as (λ c. cond c (suc (loops_in op b bs)) (loops_in op b bs) ≤ suc (length bs))
      [ true ↦ omega (arith, few_loops b bs) | false ↦ omega (arith, few_loops b bs) ]

  -- one block more is a Loop, or the others have one
  in_cons : (e b : ℕ) (bs : List ℕ) (c : Bool) → eqb (kind (op e)) 25 ≡ c → in_loop op e (b ∷ bs) ≡ c || in_loop op b bs
  in_cons e b bs true k = rw k (lt-ltb 0 (suc (loops_in op b bs)) (omega arith))
  in_cons e b bs false k = rw k

  -- what the numbers of the code are bounded by
  pub sizes : {e : ℕ} {bs : List ℕ} {loops i : ℕ} → Stage e bs loops i → (e + length bs ≤ to) × (loops ≤ length bs)
  sizes {e = e} {bs = bs} s = omega (arith, room e bs s.nested, s.counted, few_loops e bs)

  -- at the end of the range no block is open, so it is a row
  pub finished : {e : ℕ} {bs : List ℕ} {loops i : ℕ} → Stage e bs loops i → to ≤ i → HasRow op false from to
  finished {bs = []} s h = s.same.1 ((end, omega (arith, s.within, s.nested)), tt)
  finished {bs = b ∷ bs} s h = absurd (omega (arith, s.within, sizes s))

  -- a turn of the loop inside the innermost part
  module _ {b : ℕ} {bs : List ℕ} {loops i : ℕ} (s : Stage b bs loops i) (lt : i < b) where
    -- what the decision says of the rows there
    turn_at : {o : Opening} → o ≡ opens_at op i b (ltb 0 loops) → Turn op (in_loop op b bs) i b o
    turn_at e = rw (e, s.counted) (turn op (in_loop op b bs) i b lt)

    -- an op that opens nothing is passed over
    pub plain_turn : Plain ≡ opens_at op i b (ltb 0 loops) → Stage b bs loops (i + 1)
    plain_turn e =
        let t = turn_at e in
        rw (add-one i) (record {
          low = omega (arith, s.low);
          within = lt;
          nested = s.nested;
          counted = s.counted;
          same = (λ r. let o = s.same.0 r in (t.0 o.0, o.1), λ o. s.same.1 (t.1 o.0, o.1));
        })

    -- where an op stands that must not, the range is no row
    pub crossed_turn : Crossed ≡ opens_at op i b (ltb 0 loops) → HasRow op false from to → ⊥
    crossed_turn e r = turn_at e (s.same.0 r).0

    -- an If or a Loop, whose part is the innermost now
    module _ (c : Bool) (e : ℕ) (k : opening c e ≡ opens_at op i b (ltb 0 loops)) where
      -- its part ends at e
      opened_turn : Opened op (in_loop op b bs) i b c e
      opened_turn = as_opened op (in_loop op b bs) i b c e (turn_at k)

      -- there is room for one end more
      pub open_room : from + (length bs + length bs) + 2 ≤ to
      open_room = let t = opened_turn in omega (arith, s.low, sizes s, t.behind, t.within)

      -- the check goes on inside it
      pub open_turn : Stage e (b ∷ bs) (cond c (loops + 1) loops) (i + 1)
      open_turn =
          let t = opened_turn in
          let l = in_cons e b bs c t.is_loop in
          rw (add-one loops, add-one i) (record {
            low = omega (arith, s.low);
            within = t.behind;
            nested = (t.within, t.fits, s.nested);
            counted = rw (t.is_loop, s.counted);
            same = (
              λ r. let o = s.same.0 r in let p = t.split.0 o.0 in (rw l p.0, (p.1, o.1)),
              λ o. s.same.1 (t.split.1 (rw l at o.0, o.1.0), o.1.1),
            );
          })

  -- at the end of a part, inside the range, a block is open
  at_end : {e : ℕ} {bs : List ℕ} {loops i : ℕ} → Stage e bs loops i → e ≤ i → i < to
      → (b : ℕ) × (cs : List ℕ) × (bs ≡ b ∷ cs) × Stage i (b ∷ cs) loops i
  at_end {bs = []} s past lt = absurd (omega (arith, s.nested))
  at_end {e = e} {bs = b ∷ cs} {i = i} s past lt = let same : e ≡ i = omega (arith, s.within) in (b, cs, refl, rw same at s)

  -- so there is a part around it
  pub part_around : {e : ℕ} {bs : List ℕ} {loops i : ℕ} → Stage e bs loops i → e ≤ i → i < to → 0 < length bs
  part_around s past lt = let (b, cs, is, t) = at_end s past lt in rw is (omega arith)

  -- a turn of the loop at the end of a part, where the op is w
  module _ {e : ℕ} {bs : List ℕ} {loops i : ℕ} (s : Stage e bs loops i) (past : e ≤ i) (lt : i < to) {w : ℕ} (here : op i ≡ w) where
    -- EndLoop closes a Loop
    pub some_loop : true ≡ eqb (kind w) 25 → 1 ≤ loops
    some_loop k = let (b, cs, is, t) = at_end s past lt in omega (arith, rw (here, ← k) at t.counted)

    -- at an Else the block goes on, up to the Else's target
    pub else_turn : true ≡ eqb (kind w) 22 → Stage (field_a w) bs loops (i + 1)
    else_turn k =
        let (b, cs, is, t) = at_end s past lt in
        let x : eqb (kind (op i)) 22 ≡ true = rw here (sym k) in
        let j = eqb-true (kind (op i)) 22 x in
        let f = t.nested.1 j in
        let y : eqb (kind (op (field_a (op i)))) 22 ≡ false = simp f.closed in
        let l = in_cons (field_a (op i)) b cs false (simp f.closed) in
        rw (is, ← here, add-one i) (record {
          low = omega (arith, t.low);
          within = f.behind;
          nested = (f.within, λ j. absurd (omega (arith, f.closed)), t.nested.2);
          counted = t.counted ∙ simp (j, f.closed);
          same = (
            λ r. let o = rw x at (t.same.0 r).1 in (rw l o.0.0, (rw y o.0.1, o.1)),
            λ o. t.same.1 ((end, refl), (rw x (rw l at o.0, rw y at o.1.0), o.1.1)),
          );
        })

    -- at EndIf and EndLoop it is closed, and the part around it is the innermost again
    pub close_turn : (c : Bool) → c ≡ eqb (kind w) 25 → false ≡ eqb (kind w) 22 → {b : ℕ} {cs : List ℕ} → bs ≡ b ∷ cs
        → Stage b cs (cond c (loops - 1) loops) (i + 1)
    close_turn c k n {b = b} {cs = cs} is =
        let same : e ≡ i = omega (arith, past, s.within) in
        let t = rw (is, same) at s in
        let x : eqb (kind (op i)) 22 ≡ false = rw here (sym n) in
        let least = loops_in op b cs in
        rw (add-one i) (record {
          low = omega (arith, t.low);
          within = t.nested.0;
          nested = t.nested.2;
          counted =
              (elim c as (λ c. loops ≡ cond c (suc least) least → cond c (loops - 1) loops ≡ least) [ true ↦ λ h. omega arith | false ↦ λ h. h ])
              (rw (here, ← k) at t.counted);
          same = (λ r. rw x at (t.same.0 r).1, λ o. t.same.1 ((end, refl), rw x o));
        })

  -- a range that is a row has a tree
  pub row_there : HasRow op false from to → true ≡ is_row (parse (to - from) op false from to)
  row_there r = rw (parse_complete (to - from) op false from to r.0 (omega arith) r.1)

  -- one that is none has no tree
  pub no_row : from ≤ to → (HasRow op false from to → ⊥) → false ≡ is_row (parse (to - from) op false from to)
  no_row h n =
      (elim (parse (to - from) op false from to) as (λ p. parse (to - from) op false from to ≡ p → false ≡ is_row p)
      [ row r ↦ λ e. absurd (n (r, parse_sound (to - from) op false from to r h e)) | crossed ↦ λ _. refl ]) refl
