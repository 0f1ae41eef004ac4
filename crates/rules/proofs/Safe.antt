-- Bounds on what every path from a spot costs up to a cap, one op after the other, for any price of an op, any condition on the frames that take
-- ops, callees run or not, and any callers behind. Assumes nothing.
use mathlib.Core.Path.{◌≡◌, refl}
use mathlib.Core.Bool.{Bool, true, false, cond, ◌&&◌}
use mathlib.Core.List.{List, [], ◌∷◌}
use Prim.Native.Nat.{ℕ, suc, ◌+◌, ◌≤◌, min}
use native.Mathlib.Omega.{arith}
use borrow.Author.Tests.{le-ltb}
use lib.Dec.{leb, ltb}
use lib.IntN.{ℤ}
use Rattle.rules.specs.Form.{Chunk}
use Rattle.rules.specs.Rows.{Shape, if_to, breaks, breaks_if, shape_of, Plain, Ending}
use Rattle.rules.specs.Paths.{Way, on, aside, Entry, Frame, Spot, here, over, pick, range_at, in_range, settle, returned, leave_loop, pass_header, go_by, go}
use Rattle.rules.specs.Paths.{path, CanReachEnd}
use Rattle.rules.specs.Count.{has_header}
use Rattle.rules.specs.Order.{chunk_at}
use Rattle.rules.proofs.Moves.{placed, op_in, ending_goes}

-- what the ops of a path cost, each at a price
unfoldable pub prices_of : (Frame → ℕ) → List Frame → ℕ
prices_of price [] = 0
prices_of price (f ∷ fs) = price f + prices_of price fs

module _ (cs : List Chunk) (run : Bool) (cap : ℕ) (price : Frame → ℕ) (Kept : Frame → Type 0) where
  -- every op is taken by a frame that keeps to the condition
  unfoldable pub Keeps : Spot → List Way → Type 0
  Keeps s [] = Unit {0}
  Keeps over (w ∷ ws) = Unit {0}
  Keeps (here f gs) (w ∷ ws) = Kept f × Keeps (go cs run f gs w) ws

  -- every such path from s costs, up to the cap, at most m
  abbrev pub Safe : Spot → ℕ → Type 0
  Safe s m = (ways : List Way) → Keeps s ways → min cap (prices_of price (path cs run s ways)) ≤ m

  pub over_safe : (m : ℕ) → Safe over m
  unfolding path prices_of
  over_safe m [] k = omega arith
  over_safe m (w ∷ ws) k = omega arith

  -- the spot of a frame is before its op, or, out of its range, where the callers go on
  pub behind : (f : Frame) (gs : List Frame) → settle cs f gs ≡ cond (in_range cs f) (here f gs) (returned cs gs)
  unfolding settle
  behind f [] = refl
  behind f (g ∷ gs) = refl

  -- where a path goes on, one more op is taken
  pub settled : (f : Frame) (gs : List Frame) (m : ℕ)
      → (Kept f → (w : Way) (ws : List Way) → Keeps (go cs run f gs w) ws → min cap (price f + prices_of price (path cs run (go cs run f gs w) ws)) ≤ m)
      → Safe (returned cs gs) m → Safe (settle cs f gs) m
  unfolding path prices_of Keeps
  settled f gs m next back = rw (behind f gs) (taken (in_range cs f))
    where
      taken : (b : Bool) → Safe (cond b (here f gs) (returned cs gs)) m
      taken true [] k = omega arith
      taken true (w ∷ ws) k = next k.0 w ws k.1
      taken false ws k = back ws k

  picked : (w : Way) (s t : Spot) (m : ℕ) → Safe s m → Safe t m → Safe (pick w s t) m
  picked on s t m a b = a
  picked aside s t m a b = b

  pub more : (s : Spot) (n m : ℕ) → n ≤ m → Safe s n → Safe s m
  more s n m h a ways k = omega (arith, a ways k)

  -- The same before the op at i of chunk c, with these entries open and these callers behind, where z is what follows the callee's return.
  abbrev pub SafeBefore : ℕ → List Frame → ℕ → ℕ → List Entry → ℕ → Type 0
  SafeBefore c gs z i es m = (d b : ℤ) → Safe (settle cs (placed c i d b es) gs) (m + z)

-- What is asked of the charge, the count and the condition on a path: the op at i costs at most its fee, and where it is a plain op or a Call so does all that comes
-- before the op behind it, a callee that is run included; what is counted has the header test; and a frame that keeps to the condition has passed the header of
-- its innermost loop no more often than counted, where the body can reach its end.
pub record Charged (cs : List Chunk) (run : Bool) (cap : ℕ) (price : Frame → ℕ) (Kept : Frame → Type 0) (c : ℕ) (fee : ℕ → ℕ) (Counted : ℕ → ℕ → Type 0)
    : Type 0 where
  pub own : (i : ℕ) (d b : ℤ) (es : List Entry) → price (placed c i d b es) ≤ fee i
  pub passed : (gs : List Frame) (z i n : ℕ) (es : List Entry) → Safe cs run cap price Kept (returned cs gs) z → Plain (shape_of (op_in cs c i))
      → SafeBefore cs run cap price Kept c gs z (suc i) es n → SafeBefore cs run cap price Kept c gs z i es (fee i + n)
  pub header : (p n : ℕ) → Counted p n → has_header (chunk_at cs c).ops p ≡ true
  pub limit : (i : ℕ) (d b : ℤ) (e : Entry) (es : List Entry) (n : ℕ) → Kept (placed c i d b (e ∷ es)) → CanReachEnd cs c e.loop → Counted e.loop n
      → e.passed ≤ n

-- such a chunk, with callers behind it and what follows its return
pub record Called (cs : List Chunk) (run : Bool) (cap : ℕ) (price : Frame → ℕ) (Kept : Frame → Type 0) (c : ℕ) (fee : ℕ → ℕ) (Counted : ℕ → ℕ → Type 0)
    : Type 0 where
  pub rules : Charged cs run cap price Kept c fee Counted
  pub callers : List Frame
  pub after : ℕ
  pub back : Safe cs run cap price Kept (returned cs callers) after

module _ {cs : List Chunk} {run : Bool} {cap : ℕ} {price : Frame → ℕ} {Kept : Frame → Type 0} {c : ℕ} {fee : ℕ → ℕ} {Counted : ℕ → ℕ → Type 0}
    (given : Called cs run cap price Kept c fee Counted) where
  abbrev pub SafeAt : ℕ → List Entry → ℕ → Type 0
  SafeAt i es m = SafeBefore cs run cap price Kept c given.callers given.after i es m

  abbrev SafeSpot : Spot → ℕ → Type 0
  SafeSpot s m = Safe cs run cap price Kept s (m + given.after)

  pub safe_more : (i : ℕ) (es : List Entry) (n m : ℕ) → n ≤ m → SafeAt i es n → SafeAt i es m
  safe_more i es n m h a d b ways k = omega (arith, a d b ways k)

  -- out of the innermost loop; where none is open the path is over
  abbrev pub Leaves : List Entry → ℕ → Type 0
  Leaves [] m = Unit {0}
  Leaves (e ∷ es) m = SafeAt e.target es m

  pub leaves_more : (es : List Entry) (n m : ℕ) → n ≤ m → Leaves es n → Leaves es m
  leaves_more [] n m h a = tt
  leaves_more (e ∷ es) n m h a = safe_more e.target es n m h a

  goes_back : (m : ℕ) → SafeSpot (returned cs given.callers) m
  goes_back m = more cs run cap price Kept _ given.after _ (omega arith) given.back

  -- behind the range no op of the chunk is taken
  pub behind-range : (i : ℕ) (es : List Entry) (m : ℕ) → (range_at cs c).to ≤ i → SafeAt i es m
  behind-range i es m h d b =
      rw (behind cs run cap price Kept (placed c i d b es) given.callers) (out (leb (range_at cs c).from i) (ltb i (range_at cs c).to) (le-ltb i (range_at cs c).to h))
    where
      out : (x y : Bool) → y ≡ false → SafeSpot (cond (x && y) (here (placed c i d b es) given.callers) (returned cs given.callers)) m
      out true y e = rw e (goes_back m)
      out false y e = goes_back m

  -- nor where the condition is not kept
  pub unkept_safe : (i : ℕ) (es : List Entry) (m : ℕ) → ((d b : ℤ) → Kept (placed c i d b es) → ⊥) → SafeAt i es m
  unkept_safe i es m h d b =
      settled cs run cap price Kept (placed c i d b es) given.callers (m + given.after) (λ kept. absurd (h d b kept)) (goes_back m)

  -- an op of shape s
  pub op_safe : (s : Shape) (i n m : ℕ) (es : List Entry) → shape_of (op_in cs c i) ≡ s → fee i + n ≤ m
      → ((d b : ℤ) (w : Way) → SafeSpot (go_by cs s run (placed c i d b es) given.callers w) n) → SafeAt i es m
  op_safe s i n m es e h next d b =
      settled cs run cap price Kept (placed c i d b es) given.callers (m + given.after)
      (λ kept w ws k. let a : SafeSpot (go cs run (placed c i d b es) given.callers w) n = rw e (next d b w) in
      omega (arith, a ws k, given.rules.own i d b es)) (goes_back m)

  pub plain_safe : (i n m : ℕ) (es : List Entry) → Plain (shape_of (op_in cs c i)) → fee i + n ≤ m → SafeAt (suc i) es n → SafeAt i es m
  plain_safe i n m es p h next = safe_more i es (fee i + n) m h (given.rules.passed given.callers given.after i n es given.back p next)

  pub ending_safe : (i m : ℕ) (es : List Entry) → Ending (shape_of (op_in cs c i)) → fee i ≤ m → SafeAt i es m
  ending_safe i m es p h =
      op_safe (shape_of (op_in cs c i)) i 0 m es refl (omega arith)
      (λ d b w. ending_goes cs run (λ s. SafeSpot s 0) (shape_of (op_in cs c i)) p (placed c i d b es) given.callers w
      (over_safe cs run cap price Kept _) (goes_back 0))

  pub if_safe : (i u n m : ℕ) (es : List Entry) → shape_of (op_in cs c i) ≡ if_to u → fee i + n ≤ m
      → SafeAt (suc i) es n → SafeAt u es n → SafeAt i es m
  if_safe i u n m es s h a b = op_safe (if_to u) i n m es s h (λ d e w. picked cs run cap price Kept w _ _ (n + given.after) (a _ _) (b _ _))

  left : (i n : ℕ) (es : List Entry) (d b : ℤ) → Leaves es n → SafeSpot (leave_loop cs es (placed c i d b es) given.callers) n
  left i n [] d b a = over_safe cs run cap price Kept (n + given.after)
  left i n (e ∷ es) d b a = a _ _

  pub break_safe : (i n m : ℕ) (es : List Entry) → shape_of (op_in cs c i) ≡ breaks → fee i + n ≤ m → Leaves es n → SafeAt i es m
  break_safe i n m es s h a = op_safe breaks i n m es s h (λ d b w. left i n es d b a)

  -- a BreakIf behind which the entries are fs
  pub test_safe : (i n m : ℕ) (es fs : List Entry) → shape_of (op_in cs c i) ≡ breaks_if → fee i + n ≤ m
      → ((d b : ℤ) → pass_header cs es (placed c i d b es) ≡ fs) → SafeAt (suc i) fs n → Leaves es n → SafeAt i es m
  test_safe i n m es fs s h same a b =
      op_safe breaks_if i n m es s h (λ d e w. picked cs run cap price Kept w _ _ (n + given.after) (rw (same d e) (a _ _)) (left i n es d e b))
