-- A test that computes for paths that do as their ops say: each op leaves one memory of those that it may leave, and each counted header's BreakIf goes as its
-- two locals say. Assumes nothing.
use mathlib.Core.Path.{◌≡◌, refl}
use mathlib.Core.Bool.{Bool, true, false, cond, ◌&&◌}
use mathlib.Core.List.{List, [], ◌∷◌}
use Prim.Native.Nat.{ℕ, ◌+◌, ◌^◌}
use native.Mathlib.Omega.{arith}
use borrow.Author.Tests.{eq-eqb, ne_eqb, lt-ltb}
use lib.Dec.{eqb, ltb}
use lib.IntN.{ℤ, pos, ◌+ℤ◌}
use lib.ListN.{length}
use lib.Signed.{mag, le_z}
use Rattle.rules.specs.Outcome.{Found, found, nothing}
use Rattle.rules.specs.Ops.{field_a, op_at}
use Rattle.rules.specs.Form.{Chunk}
use Rattle.rules.specs.Count.{count_at}
use Rattle.rules.specs.Order.{chunk_at}
use Rattle.rules.specs.Paths.{Way, on, aside, Entry, Spot, here, over, go}
use Rattle.rules.specs.Values.{Val, number, array, Memory, Effect, gives, loads, stores, makes, measures, adds, drops, anything, effect_at}
use Rattle.rules.specs.Values.{Stored, Measured, Added, Dropped, Leaves, way_for, AtLeast, WhereCounted, AtHeader, HeaderWay, Valued}
use Rattle.rules.proofs.Flags.{both}

-- these locals and these operands
abbrev pub memory : (ℕ → Val) → List Val → Memory
memory ls xs = record { locals = ls; operands = xs }

-- One memory that an op may leave. SetLocal takes the top, where there is one.
abbrev stored : List Val → ℕ → Memory → Memory
stored [] s m = m
stored (x ∷ xs) s m = memory (λ j. cond (eqb j s) x (m.locals j)) xs

-- an array on top becomes its length
abbrev measured : List Val → List Val
measured [] = []
measured (number z ∷ xs) = []
measured (array k ∷ xs) = number (pos k) ∷ xs

-- a sum that has 64 bits, and 0 for any other
abbrev fitting : Bool → ℤ → ℤ
fitting true z = z
fitting false z = pos 0

-- the sum of the two on top, below them
abbrev added : List Val → List Val
added [] = []
added (array k ∷ xs) = []
added (number k ∷ []) = []
added (number k ∷ array v ∷ xs) = []
added (number k ∷ number v ∷ xs) = number k ∷ number v ∷ number (fitting (ltb (mag (v +ℤ k)) (2 ^ 63)) (v +ℤ k)) ∷ xs

-- the two on top are gone
abbrev dropped : List Val → List Val
dropped [] = []
dropped (a ∷ []) = []
dropped (a ∷ b ∷ xs) = xs

-- by the effect of the op
abbrev done : Effect → Memory → Memory
done (gives z) m = memory m.locals (number z ∷ m.operands)
done (loads s) m = memory m.locals (m.locals s ∷ m.operands)
done (stores s) m = stored m.operands s m
done (makes a) m = memory m.locals (array a ∷ m.operands)
done measures m = memory m.locals (measured m.operands)
done adds m = memory m.locals (added m.operands)
done drops m = memory m.locals (dropped m.operands)
done anything m = memory m.locals []

stored_leaves : (ys : List Val) (s : ℕ) (m : Memory) → Stored ys s m (stored ys s m)
stored_leaves [] s m = λ j ne. refl
stored_leaves (x ∷ xs) s m = (rw (eq-eqb s s refl), (λ j ne. rw (ne_eqb j s ne)), refl)

measured_leaves : (ys : List Val) → Measured ys (measured ys)
measured_leaves [] = tt
measured_leaves (number z ∷ xs) = tt
measured_leaves (array k ∷ xs) = refl

added_leaves : (ys : List Val) → Added ys (added ys)
added_leaves [] = tt
added_leaves (array k ∷ xs) = tt
added_leaves (number k ∷ []) = tt
added_leaves (number k ∷ array v ∷ xs) = tt
added_leaves (number k ∷ number v ∷ xs) = λ fit. (number k, number v, rw (lt-ltb (mag (v +ℤ k)) (2 ^ 63) fit))

dropped_leaves : (ys : List Val) → Dropped ys (dropped ys)
dropped_leaves [] = tt
dropped_leaves (a ∷ []) = tt
dropped_leaves (a ∷ b ∷ xs) = refl

leaves : (e : Effect) (m : Memory) → Leaves e m (done e m)
leaves (gives z) m = ((λ j. refl), refl)
leaves (loads s) m = ((λ j. refl), refl)
leaves (stores s) m = stored_leaves m.operands s m
leaves (makes a) m = ((λ j. refl), m.operands, refl)
leaves measures m = ((λ j. refl), measured_leaves m.operands)
leaves adds m = ((λ j. refl), added_leaves m.operands)
leaves drops m = ((λ j. refl), dropped_leaves m.operands)
leaves anything m = λ j. refl

-- A test that computes: each counted header's BreakIf goes as its two locals say. Two ways are the same:
abbrev same_way : Way → Way → Bool
same_way on on = true
same_way on aside = false
same_way aside on = false
same_way aside aside = true

-- two values and a way agree, where both are numbers
abbrev compared : Val → Val → Way → Bool
compared (number v) (number e) w = same_way w (way_for (le_z e v))
compared (number v) (array e) w = true
compared (array v) e w = true

-- of a loop that has a count
abbrev if_found : Found → Bool → Bool
if_found (found n) b = b
if_found nothing b = true

-- where a position is the header's BreakIf
abbrev if_true : Bool → Bool → Bool
if_true true b = b
if_true false b = true

-- by the innermost open loop
abbrev header_test : Chunk → List Entry → ℕ → Memory → Way → Bool
header_test c [] i m w = true
header_test c (e ∷ es) i m w =
    if_true (eqb i (e.loop + 4)) (if_found (count_at c.constants c.ops e.loop)
    (compared (m.locals (field_a (op_at c.ops (e.loop + 1)))) (m.locals (field_a (op_at c.ops (e.loop + 2)))) w))

ways_agree : (v w : Way) → same_way v w ≡ true → v ≡ w
ways_agree on on h = refl
ways_agree on aside h = absurd (let z : ◌≡◌ {A = ℕ} 0 1 = cc in omega arith)
ways_agree aside on h = absurd (let z : ◌≡◌ {A = ℕ} 0 1 = cc in omega arith)
ways_agree aside aside h = refl

compares : (v e : Val) (w : Way) → compared v e w ≡ true → AtLeast v e w
compares (number v) (number e) w h = ways_agree w (way_for (le_z e v)) h
compares (number v) (array e) w h = tt
compares (array v) e w h = tt

header_way : (c : Chunk) (es : List Entry) (i : ℕ) (m : Memory) (w : Way) → header_test c es i m w ≡ true → HeaderWay c es i m w
header_way c [] i m w h = tt
header_way c (e ∷ es) i m w h = at (eqb i (e.loop + 4)) h
  where
    v : Val
    v = m.locals (field_a (op_at c.ops (e.loop + 1)))

    x : Val
    x = m.locals (field_a (op_at c.ops (e.loop + 2)))

    counted : (f : Found) → if_found f (compared v x w) ≡ true → WhereCounted f (AtLeast v x w)
    counted (found n) h = compares v x w h
    counted nothing h = tt

    at : (b : Bool) → if_true b (if_found (count_at c.constants c.ops e.loop) (compared v x w)) ≡ true
        → AtHeader b (WhereCounted (count_at c.constants c.ops e.loop) (AtLeast v x w))
    at true h = counted (count_at c.constants c.ops e.loop) h
    at false h = tt

-- the memories with that of one frame changed
abbrev changed : (ℕ → Memory) → ℕ → Memory → ℕ → Memory
changed mem n m k = cond (eqb k n) m (mem k)

-- and by all ways of a path, with those memories
unfoldable pub valued_test : List Chunk → Bool → Spot → (ℕ → Memory) → List Way → Bool
valued_test cs run s mem [] = true
valued_test cs run over mem (w ∷ ws) = true
valued_test cs run (here f gs) mem (w ∷ ws) =
    header_test (chunk_at cs f.chunk) f.entries f.at (mem (length gs)) w
    && valued_test cs run (go cs run f gs w) (changed mem (length gs) (done (effect_at (chunk_at cs f.chunk) f.at) (mem (length gs)))) ws

pub valued : (cs : List Chunk) (run : Bool) (s : Spot) (mem : ℕ → Memory) (ways : List Way) → valued_test cs run s mem ways ≡ true → Valued cs run s mem ways
unfolding valued_test Valued
valued cs run s mem [] t = tt
valued cs run over mem (w ∷ ws) t = tt
valued cs run (here f gs) mem (w ∷ ws) t =
    let c = chunk_at cs f.chunk in
    let m = mem (length gs) in
    let after = changed mem (length gs) (done (effect_at c f.at) m) in
    let p = both (header_test c f.entries f.at m w) (valued_test cs run (go cs run f gs w) after ws) t in (
      after,
      own (length gs) (done (effect_at c f.at) m) m (effect_at c f.at) (leaves (effect_at c f.at) m),
      (λ k lt. rw (ne_eqb k (length gs) (λ e. omega (arith, lt, e)))),
      header_way c f.entries f.at m w p.0,
      valued cs run (go cs run f gs w) after ws p.1,
    )
  where
    own : (n : ℕ) (a b : Memory) (e : Effect) → Leaves e b a → Leaves e b (cond (eqb n n) a (mem n))
    own n a b e h = rw (eq-eqb n n refl) h
