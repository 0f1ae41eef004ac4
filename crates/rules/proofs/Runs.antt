-- What holds of every frame that a path brings to an op, by what each op does to it: for any property of a chunk's number, the position, the open
-- entries and the frame's memory. Assumes nothing.
use mathlib.Core.Path.{◌≡◌, refl}
use mathlib.Core.Bool.{Bool, true, false, cond, ◌&&◌}
use mathlib.Core.List.{List, [], ◌∷◌}
use Prim.Native.Nat.{ℕ, suc, ◌<◌}
use native.Mathlib.Omega.{arith}
use borrow.Author.Tests.{ltb-true}
use lib.Dec.{leb, ltb}
use lib.IntN.{ℤ, pos}
use lib.ListN.{length}
use Rattle.rules.specs.Form.{Chunk}
use Rattle.rules.specs.Rows.{Shape, plain, trap, returns, if_to, else_to, end_if, loop_to, end_loop, breaks, breaks_if, calls, shape_of}
use Rattle.rules.specs.Paths.{Way, on, aside, Entry, Frame, Spot, here, over, range_at, op_of, moved_to, in_range, settle, returned}
use Rattle.rules.specs.Paths.{leave_loop, repeat_loop, pass_header, callee_frame, entered, go_by, go, begin}
use Rattle.rules.proofs.Flags.{both}
use Rattle.rules.proofs.Moves.{placed, op_in}

-- every op is taken by a frame with that property
unfoldable pub EveryFrame : List Chunk → Bool → (Frame → Type 0) → Spot → List Way → Type 0
EveryFrame cs run P s [] = Unit {0}
EveryFrame cs run P over (w ∷ ws) = Unit {0}
EveryFrame cs run P (here f gs) (w ∷ ws) = P f × EveryFrame cs run P (go cs run f gs w) ws

-- a frame that takes an op stands before its range's end
pub before_end : (cs : List Chunk) (f : Frame) → in_range cs f ≡ true → f.at < (range_at cs f.chunk).to
before_end cs f h =
    ltb-true f.at (range_at cs f.chunk).to (both (leb (range_at cs f.chunk).from f.at) (ltb f.at (range_at cs f.chunk).to) h).1

module _ (cs : List Chunk) (M : Type 0) (G : ℕ → ℕ → List Entry → M → Type 0) where
  -- out of the innermost loop, and back to its start
  abbrev pub Outward : ℕ → List Entry → M → Type 0
  Outward c [] m = Unit {0}
  Outward c (e ∷ es) m = G c e.target es m

  abbrev pub Again : ℕ → List Entry → M → Type 0
  Again c [] m = Unit {0}
  Again c (e ∷ es) m = G c (suc e.loop) (e ∷ es) m

  -- where an op of that shape leads
  abbrev pub Leads : Shape → Way → ℕ → ℕ → List Entry → M → Type 0
  Leads plain w c i es m = G c (suc i) es m
  Leads trap w c i es m = Unit {0}
  Leads returns w c i es m = Unit {0}
  Leads (if_to t) on c i es m = G c (suc i) es m
  Leads (if_to t) aside c i es m = G c t es m
  Leads (else_to t) w c i es m = G c t es m
  Leads end_if w c i es m = G c (suc i) es m
  Leads (loop_to t) w c i es m = (d : ℤ) → G c (suc i) (record { loop = i; target = t; depth = d; passed = 0 } ∷ es) m
  Leads end_loop w c i es m = Again c es m
  Leads breaks w c i es m = Outward c es m
  Leads breaks_if on c i es m = G c (suc i) (pass_header cs es (placed c i (pos 0) (pos 0) es)) m
  Leads breaks_if aside c i es m = Outward c es m
  Leads (calls k) w c i es m = G c (suc i) es m

  -- a frame with this memory has the property
  abbrev pub Good : Frame → M → Type 0
  Good f m = G f.chunk f.at f.entries m

  -- the callers wait, each with its own memory
  abbrev AllGood : List Frame → (ℕ → M) → Type 0
  AllGood [] mem = Unit {0}
  AllGood (g ∷ gs) mem = Good g (mem (length gs)) × AllGood gs mem

  -- the frame that takes the next op has it, inside its range, and so have its callers
  abbrev pub GoodSpot : Spot → (ℕ → M) → Type 0
  GoodSpot (here f gs) mem = (in_range cs f ≡ true) × Good f (mem (length gs)) × AllGood gs mem
  GoodSpot over mem = Unit {0}

  waiting : (gs : List Frame) (mem next : ℕ → M) → ((k : ℕ) → k < length gs → next k ≡ mem k) → AllGood gs mem → AllGood gs next
  waiting [] mem next same h = tt
  waiting (g ∷ gs) mem next same h = (rw (same (length gs) (omega arith)) h.0, waiting gs mem next (λ k lt. same k (omega arith)) h.1)

  pub settled : (f : Frame) (gs : List Frame) (mem : ℕ → M) → Good f (mem (length gs)) → AllGood gs mem → GoodSpot (settle cs f gs) mem
  unfolding settle
  settled f [] mem h hs = by (in_range cs f) refl
    where
      by : (b : Bool) → in_range cs f ≡ b → GoodSpot (cond b (here f []) over) mem
      by true e = (e, h, tt)
      by false e = tt
  settled f (g ∷ gs) mem h hs = by (in_range cs f) refl (settled g gs mem hs.0 hs.1)
    where
      by : (b : Bool) → in_range cs f ≡ b → GoodSpot (settle cs g gs) mem → GoodSpot (cond b (here f (g ∷ gs)) (settle cs g gs)) mem
      by true e rest = (e, h, hs)
      by false e rest = rest

  returned_good : (gs : List Frame) (mem : ℕ → M) → AllGood gs mem → GoodSpot (returned cs gs) mem
  returned_good [] mem hs = tt
  returned_good (g ∷ gs) mem hs = settled g gs mem hs.0 hs.1

  -- a callee that is run starts so
  module _ (run : Bool) (starts : (k : ℕ) → k < length cs → run ≡ true → (m : M) → G k (range_at cs k).from [] m) where
    module _ (f : Frame) (gs : List Frame) (mem : ℕ → M) (hs : AllGood gs mem) where
      onward : (i : ℕ) (es : List Entry) → G f.chunk i es (mem (length gs)) → GoodSpot (settle cs (moved_to cs i es f) gs) mem
      onward i es s = settled (moved_to cs i es f) gs mem s hs

      left_loop : (es : List Entry) → Outward f.chunk es (mem (length gs)) → GoodSpot (leave_loop cs es f gs) mem
      left_loop [] s = tt
      left_loop (n ∷ es) s = onward n.target es s

      repeated : (es : List Entry) → Again f.chunk es (mem (length gs)) → GoodSpot (repeat_loop cs es f gs) mem
      repeated [] s = tt
      repeated (n ∷ es) s = onward (suc n.loop) (n ∷ es) s

      passed : (es : List Entry) → G f.chunk (suc f.at) (pass_header cs es (placed f.chunk f.at (pos 0) (pos 0) es)) (mem (length gs))
          → GoodSpot (settle cs (moved_to cs (suc f.at) (pass_header cs es f) f) gs) mem
      passed [] s = onward (suc f.at) [] s
      passed (n ∷ es) s = onward (suc f.at) _ s

      calling : (k : ℕ) (r b : Bool) → run ≡ r → ltb k (length cs) ≡ b → G f.chunk (suc f.at) f.entries (mem (length gs)) → GoodSpot (entered cs (r && b) k f gs) mem
      calling k false b rr lt s = onward (suc f.at) f.entries s
      calling k true false rr lt s = onward (suc f.at) f.entries s
      calling k true true rr lt s =
          settled (callee_frame cs k f) (moved_to cs (suc f.at) f.entries f ∷ gs) mem (starts k (ltb-true k (length cs) lt) rr _) (s, hs)

      -- each way on, as the rules of paths have it
      pub goes : (s : Shape) (w : Way) → Leads s w f.chunk f.at f.entries (mem (length gs)) → GoodSpot (go_by cs s run f gs w) mem
      goes plain w n = onward (suc f.at) f.entries n
      goes trap w n = tt
      goes returns w n = returned_good gs mem hs
      goes (if_to t) on n = onward (suc f.at) f.entries n
      goes (if_to t) aside n = onward t f.entries n
      goes (else_to t) w n = onward t f.entries n
      goes end_if w n = onward (suc f.at) f.entries n
      goes (loop_to t) w n = onward (suc f.at) _ (n _)
      goes end_loop w n = repeated f.entries n
      goes breaks w n = left_loop f.entries n
      goes breaks_if on n = passed f.entries n
      goes breaks_if aside n = left_loop f.entries n
      goes (calls k) w n = calling k run (ltb k (length cs)) refl refl n

    -- One op more: what it does to its frame's memory is `Does`, and the memories of the callers wait.
    module _ (Does : ℕ → ℕ → List Entry → M → Way → M → Type 0)
        (does : (c i : ℕ) (es : List Entry) (m n : M) (w : Way) → i < (range_at cs c).to → G c i es m → Does c i es m w n → Leads (shape_of (op_in cs c i)) w c i es n) where
      pub after_op : (f : Frame) (gs : List Frame) (mem next : ℕ → M) (w : Way) → GoodSpot (here f gs) mem
          → Does f.chunk f.at f.entries (mem (length gs)) w (next (length gs)) → ((k : ℕ) → k < length gs → next k ≡ mem k)
          → GoodSpot (go cs run f gs w) next
      after_op f gs mem next w g d same =
          goes f gs next (waiting gs mem next same g.2) (shape_of (op_of cs f)) w
          (does f.chunk f.at f.entries (mem (length gs)) (next (length gs)) w (before_end cs f g.0) g.1 d)

  pub from_start : (c : ℕ) (mem : ℕ → M) → G c (range_at cs c).from [] (mem 0) → GoodSpot (begin cs c) mem
  from_start c mem start = settled (record { chunk = c; at = (range_at cs c).from; depth = pos 0; base = pos 0; entries = [] }) [] mem start tt

-- what holds of every place in a chunk may be told in another way
module _ (cs : List Chunk) (M : Type 0) (G H : ℕ → ℕ → List Entry → M → Type 0) (c : ℕ) (m : M) (same : (i : ℕ) (es : List Entry) → G c i es m → H c i es m) where
  outward_as : (es : List Entry) → Outward cs M G c es m → Outward cs M H c es m
  outward_as [] a = tt
  outward_as (n ∷ es) a = same _ es a

  again_as : (es : List Entry) → Again cs M G c es m → Again cs M H c es m
  again_as [] a = tt
  again_as (n ∷ es) a = same _ _ a

  pub leads_as : (s : Shape) (w : Way) (i : ℕ) (es : List Entry) → Leads cs M G s w c i es m → Leads cs M H s w c i es m
  leads_as plain w i es a = same _ es a
  leads_as trap w i es a = tt
  leads_as returns w i es a = tt
  leads_as (if_to t) on i es a = same _ es a
  leads_as (if_to t) aside i es a = same _ es a
  leads_as (else_to t) w i es a = same _ es a
  leads_as end_if w i es a = same _ es a
  leads_as (loop_to t) w i es a = λ d. same _ _ (a d)
  leads_as end_loop w i es a = again_as es a
  leads_as breaks w i es a = outward_as es a
  leads_as breaks_if on i es a = same _ _ a
  leads_as breaks_if aside i es a = outward_as es a
  leads_as (calls k) w i es a = same _ es a
