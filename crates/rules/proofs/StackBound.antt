-- The claim `StackBounded`: along every path with callees run whose passes and breaks leave no more than the depth at their loop's entry, each
-- frame stands below its own chunk's top, and each callee's top is below its caller's. Assumes nothing.
use mathlib.Core.Path.{◌≡◌, refl}
use mathlib.Core.Bool.{Bool, true, false, cond, ◌&&◌}
use mathlib.Core.List.{List, [], ◌∷◌}
use Prim.Native.Nat.{ℕ, suc, ◌+◌, ◌≤◌, ◌<◌}
use native.Mathlib.Omega.{arith}
use borrow.Author.Tests.{ltb-true, eqb-true}
use lib.Dec.{eqb, ltb}
use lib.IntN.{ℤ, pos, neg_ℤ, ◌+ℤ◌, ◌-ℤ◌}
use lib.ListN.{length}
use Rattle.rules.specs.Ops.{kind, field_a, field_b, figures_of, op_at}
use Rattle.rules.specs.Form.{Chunk}
use Rattle.rules.specs.Rows.{Shape, plain, trap, returns, if_to, else_to, end_if, loop_to, end_loop, breaks, breaks_if, calls, shape_of}
use Rattle.rules.specs.Count.{has_header}
use Rattle.rules.specs.Stack.{at_least_zero, callee_slots, rise_of, move_of}
use Rattle.rules.specs.Order.{chunk_at}
use Rattle.rules.specs.Sheet.{Line}
use Rattle.rules.specs.Paths.{Way, on, aside, Entry, Frame, Spot, here, over, range_at, op_of, depth_at, depth_behind, moved_to, in_range, settle, returned}
use Rattle.rules.specs.Paths.{leave_loop, repeat_loop, count_pass, pass_header, callee_frame, entered, go_by, go, begin, path, start_depth, path_depth}
use Rattle.rules.specs.Paths.{leaves_at_most, depth_kept, KeepsDepths}
use Rattle.rules.specs.Claims.{StackBounded}
use Rattle.rules.proofs.Flags.{both}
use Rattle.rules.proofs.Shapes.{shape_tells}
use Rattle.rules.proofs.SheetLines.{sheet_lines, accepted_sheet}
use Rattle.rules.proofs.SignedOrder.{AtMost, sum_parts, minus_parts, at_most_above}
use Rattle.rules.proofs.Runs.{before_end}
use Rattle.rules.proofs.Standing.{Part, whole, arm, first, body, InPlace, Standing, GoesOn, taken}
use Rattle.rules.proofs.ChunkTop.{called, quiet_chunk, growth_rise, call_rise_lem, StandsIn, Tall, line_tall}

-- how often a header was passed plays no role
module _ (cs : List Chunk) (op : ℕ → ℕ) (last top : ℕ) (rise move : ℕ → ℤ) where
  entry_passed : (b : Bool) (k : Part) (n : Entry) (es : List Entry) → InPlace op last top rise move k (n ∷ es)
      → InPlace op last top rise move k (count_pass cs b n ∷ es)
  entry_passed false k n es p = p
  entry_passed true whole n es p = absurd (let z : ◌≡◌ {A = ℕ} 0 1 = cc in omega arith)
  entry_passed true (arm t r k) n es p = (p.0, p.1, entry_passed true k n es p.2)
  entry_passed true (first e t r k) n es p = (p.0, p.1, entry_passed true k n es p.2, p.3)
  entry_passed true (body e b r y k) n es p = p

  header_passed : (es : List Entry) (f : Frame) (i : ℕ) (x : ℤ) → Standing op last top rise move i x es
      → Standing op last top rise move i x (pass_header cs es f)
  header_passed [] f i x s = s
  header_passed (n ∷ es) f i x s =
      record {
        part = s.part;
        row = s.row;
        is = s.is;
        covered = s.covered;
        placed = entry_passed (eqb f.at (n.loop + 4) && has_header (chunk_at cs f.chunk).ops n.loop) s.part n es s.placed;
      }

module _ (cs : List Chunk) (lines : List Line) (tall : (c : ℕ) → c < length cs → Tall cs lines c) (limit : ℕ) where
  -- a frame stands below its chunk's top, and its base and that top are below the limit
  record Good (f : Frame) : Type 0 where
    fit : Tall cs lines f.chunk
    stands : StandsIn cs f.chunk fit.top fit.callees f.at f.depth f.entries
    low : AtMost (f.base +ℤ pos fit.top) (pos limit)

  abbrev AllGood : List Frame → Type 0
  AllGood [] = Unit {0}
  AllGood (g ∷ gs) = Good g × AllGood gs

  abbrev GoodSpot : Spot → Type 0
  GoodSpot (here f gs) = (in_range cs f ≡ true) × Good f × AllGood gs
  GoodSpot over = Unit {0}

  settled : (f : Frame) (gs : List Frame) → Good f → AllGood gs → GoodSpot (settle cs f gs)
  unfolding settle
  settled f [] h hs = go (in_range cs f) refl
    where
      go : (b : Bool) → in_range cs f ≡ b → GoodSpot (cond b (here f []) over)
      go true e = (e, h, tt)
      go false e = tt
  settled f (g ∷ gs) h hs = go (in_range cs f) refl (settled g gs hs.0 hs.1)
    where
      go : (b : Bool) → in_range cs f ≡ b → GoodSpot (settle cs g gs) → GoodSpot (cond b (here f (g ∷ gs)) (settle cs g gs))
      go true e rest = (e, h, hs)
      go false e rest = rest

  -- The op that a good frame takes, in range.
  module _ (f : Frame) (h : Good f) where
    abbrev rise : ℤ
    rise = rise_of (chunk_at cs f.chunk) h.fit.callees f.at

    -- its op stays below the chunk's top
    abbrev OpLow : Type 0
    OpLow = at_least_zero (f.depth +ℤ rise) ≤ h.fit.top

    -- where an op of that shape leads
    abbrev Leads : Shape → List Entry → Type 0
    Leads s es =
        GoesOn (op_at (chunk_at cs f.chunk).ops) (range_at cs f.chunk).to h.fit.top (rise_of (chunk_at cs f.chunk) h.fit.callees)
        (move_of (chunk_at cs f.chunk)) s f.at (depth_behind cs f) es

    -- the depth at the op, all that its callee may reach, and the depth at the callee's start
    depth_low : OpLow → at_least_zero (depth_at cs f) ≤ limit
    depth_low low =
        let g = pos (figures_of (op_of cs f)).growth in
        let m : AtMost (depth_at cs f) (pos limit) =
        omega (
          arith,
          h.low,
          growth_rise (chunk_at cs f.chunk) h.fit.callees f.at,
          sum_parts f.base (f.depth +ℤ g),
          sum_parts f.depth g,
          sum_parts f.depth rise,
          sum_parts f.base (pos h.fit.top),
        ) in
        omega (arith, at_most_above (depth_at cs f) (pos limit) m)

    callee_low : (k : ℕ) → kind (op_of cs f) ≡ 30 → field_a (op_of cs f) ≡ k → k < length cs → (t : Tall cs lines k) → OpLow
        → AtMost ((callee_frame cs k f).base +ℤ pos t.top) (pos limit)
    callee_low k e same lt t low =
        let b = field_b (op_of cs f) in
        let inside = f.depth -ℤ pos b in
        let slots = callee_slots h.fit.callees (field_a (op_of cs f)) in
        let n = (chunk_at cs k).locals in
        let known = h.fit.knows k (lt, rw same at (called (chunk_at cs f.chunk).ops f.at e)) in
        let size : slots ≡ n + t.top = rw same (omega (arith, known, t.bytes)) in
        omega (
          arith,
          h.low,
          size,
          call_rise_lem (chunk_at cs f.chunk) h.fit.callees f.at e,
          sum_parts (f.base +ℤ inside +ℤ pos n) (pos t.top),
          sum_parts (f.base +ℤ inside) (pos n),
          sum_parts f.base inside,
          sum_parts f.depth (neg_ℤ (pos b)),
          minus_parts (pos b),
          sum_parts (pos slots) (neg_ℤ (pos b)),
          sum_parts f.depth rise,
          sum_parts f.base (pos h.fit.top),
        )

    start_low : OpLow → start_depth cs f ≤ limit
    start_low low = test (eqb (kind (op_of cs f)) 30 && ltb (field_a (op_of cs f)) (length cs)) refl
      where
        test : (b : Bool) → eqb (kind (op_of cs f)) 30 && ltb (field_a (op_of cs f)) (length cs) ≡ b
            → cond b (at_least_zero (callee_frame cs (field_a (op_of cs f)) f).base) 0 ≤ limit
        test true e =
            let k = field_a (op_of cs f) in
            let a = both (eqb (kind (op_of cs f)) 30) (ltb k (length cs)) e in
            let lt = ltb-true k (length cs) a.1 in
            let t = tall k lt in
            let base = (callee_frame cs k f).base in
            let m : AtMost base (pos limit) =
            omega (arith, callee_low k (eqb-true (kind (op_of cs f)) 30 a.0) refl lt t low, sum_parts base (pos t.top)) in
            omega (arith, at_most_above base (pos limit) m)
        test false e = omega arith

    -- the same frame behind its op
    abbrev Next : ℕ → List Entry → Type 0
    Next i es = StandsIn cs f.chunk h.fit.top h.fit.callees i (depth_behind cs f) es

    moved : (i : ℕ) (es : List Entry) → Next i es → Good (moved_to cs i es f)
    moved i es s = record { fit = h.fit; stands = s; low = h.low }

    module _ (gs : List Frame) (hs : AllGood gs) where
      onward : (i : ℕ) (es : List Entry) → Next i es → GoodSpot (settle cs (moved_to cs i es f) gs)
      onward i es s = settled (moved_to cs i es f) gs (moved i es s) hs

      back : GoodSpot (returned cs gs)
      back = pop gs hs
        where
          pop : (gs : List Frame) → AllGood gs → GoodSpot (returned cs gs)
          pop [] hs = tt
          pop (g ∷ gs) hs = settled g gs hs.0 hs.1

      left_loop : (es : List Entry) → Leads breaks es → leaves_at_most cs es f ≡ true → GoodSpot (leave_loop cs es f gs)
      left_loop [] s e = tt
      left_loop (n ∷ es) s e = onward n.target es (s e)

      repeated : (es : List Entry) → Leads end_loop es → leaves_at_most cs es f ≡ true → GoodSpot (repeat_loop cs es f gs)
      repeated [] s e = tt
      repeated (n ∷ es) s e = onward (suc n.loop) (n ∷ es) (s e)

      calling : (k : ℕ) → shape_of (op_of cs f) ≡ calls k → OpLow → Next (suc f.at) f.entries
          → (b : Bool) → ltb k (length cs) ≡ b → GoodSpot (entered cs b k f gs)
      calling k e low s true lt =
          let w = shape_tells (op_of cs f) (calls k) e in
          let t = tall k (ltb-true k (length cs) lt) in
          settled (callee_frame cs k f) (moved_to cs (suc f.at) f.entries f ∷ gs)
          (record { fit = t; stands = t.starts; low = callee_low k w.0 w.1 (ltb-true k (length cs) lt) t low }) (moved (suc f.at) f.entries s, hs)
      calling k e low s false lt = onward (suc f.at) f.entries s

      -- each way on, as the rules of paths have it
      goes : (s : Shape) (w : Way) → shape_of (op_of cs f) ≡ s → OpLow → Leads s f.entries → depth_kept cs s f w ≡ true → GoodSpot (go_by cs s true f gs w)
      goes plain w e low n kept = onward (suc f.at) f.entries n
      goes trap w e low n kept = tt
      goes returns w e low n kept = back
      goes (if_to t) on e low n kept = onward (suc f.at) f.entries n.0
      goes (if_to t) aside e low n kept = onward t f.entries n.1
      goes (else_to t) w e low n kept = onward t f.entries n
      goes end_if w e low n kept = onward (suc f.at) f.entries n
      goes (loop_to t) w e low n kept = onward (suc f.at) _ n
      goes end_loop w e low n kept = repeated f.entries n kept
      goes breaks w e low n kept = left_loop f.entries n kept
      goes breaks_if on e low n kept =
          onward (suc f.at) (pass_header cs f.entries f) (header_passed cs _ _ _ _ _ f.entries f (suc f.at) (depth_behind cs f) n.0)
      goes breaks_if aside e low n kept = left_loop f.entries n.1 kept
      goes (calls k) w e low n kept = calling k e low n (ltb k (length cs)) refl

    frame_taken : in_range cs f ≡ true → OpLow × Leads (shape_of (op_of cs f)) f.entries
    frame_taken e =
        let before = before_end cs f e in
        taken _ _ _ _ _ (quiet_chunk (chunk_at cs f.chunk) h.fit.callees) f.at f.depth f.entries h.stands
        (λ same. omega (arith, before))

  -- so no op of a path goes over the limit
  path_low : (s : Spot) (ways : List Way) → GoodSpot s → KeepsDepths cs true s ways → path_depth cs (path cs true s ways) ≤ limit
  unfolding path path_depth KeepsDepths
  path_low s [] g k = omega arith
  path_low over (w ∷ ws) g k = omega arith
  path_low (here f gs) (w ∷ []) g k =
      let t = frame_taken f g.1 g.0 in
      omega (arith, depth_low f g.1 t.0, start_low f g.1 t.0)
  path_low (here f gs) (w ∷ v ∷ ws) g k =
      let t = frame_taken f g.1 g.0 in
      let next = goes f g.1 gs g.2 (shape_of (op_of cs f)) w refl t.0 t.1 k.0 in
      omega (arith, depth_low f g.1 t.0, start_low f g.1 t.0, path_low (go cs true f gs w) (v ∷ ws) next k.1)

pub stack_bounded : StackBounded
stack_bounded words room cs s accepted c lt ways keeps =
    let tall : (k : ℕ) → k < length cs → Tall cs s.lines k = λ k l. line_tall cs s.lines k (sheet_lines cs s (accepted_sheet accepted) k l) in
    let t = tall c lt in
    let f : Frame = record { chunk = c; at = (range_at cs c).from; depth = pos 0; base = pos 0; entries = [] } in
    let start = settled cs s.lines tall t.top f [] (record { fit = t; stands = t.starts; low = omega arith }) tt in
    omega (arith, t.bytes, path_low cs s.lines tall t.top (begin cs c) ways start keeps)
