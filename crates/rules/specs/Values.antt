-- Request 2.8, "counts that need no trust": what ops do to locals and operands, the paths on which they do so, and what is claimed of such a path's loops.
use Rattle.std.specs.Prelude.{◌≡◌, Bool, true, false, cond, ◌&&◌, List, [], ◌∷◌, ℕ, suc, ◌+◌, ◌-◌, ◌^◌, ◌<◌, ◌≤◌, eqb, ℤ, pos, ◌+ℤ◌, length, get_or}
use Rattle.std.specs.Int.Signed.{mag, le_z}
use Rattle.rules.specs.Kinds as K
use Rattle.rules.specs.Outcome.{ok, Found, found, nothing}
use Rattle.rules.specs.Ops.{kind, field_a, field_b, op_at}
use Rattle.rules.specs.Form.{Constant, integer, other, Chunk}
use Rattle.rules.specs.Rows.{Row, chunk_row}
use Rattle.rules.specs.Count.{count_at}
use Rattle.rules.specs.Sure.{sure_count_of}
use Rattle.rules.specs.Order.{chunk_at}
use Rattle.rules.specs.Paths.{Way, on, aside, Entry, Spot, here, over, go}

-- "Take a local to be a signed 64-bit number or an array of known length." Numbers of any size are let in, which is more than is asked for. An operand is such
-- too.
pub data Val : Type 0 where
  number : ℤ → Val
  array : ℕ → Val

-- what a chunk that is being run holds: its locals, every slot with a value, and its operands, the last one left first
pub record Memory : Type 0 where
  pub locals : ℕ → Val
  pub operands : List Val

-- what an op does, for those that the request names
pub data Effect : Type 0 where
  -- Const of an integer
  gives : ℤ → Effect
  -- GetLocal and SetLocal of a slot
  loads : ℕ → Effect
  stores : ℕ → Effect
  -- NewComposite of kind 1: an array of that length
  makes : ℕ → Effect
  -- Len
  measures : Effect
  -- CheckedAdd and PopN 2 of a pair
  adds : Effect
  drops : Effect
  -- any other op
  anything : Effect

-- a Const of no integer leaves any value
abbrev pub const_effect : Constant → Effect
const_effect (integer z) = gives z
const_effect other = anything

-- PopN 2
abbrev pub is_drop : ℕ → Bool
is_drop w = eqb (kind w) K.pop_n && eqb (field_b w) 2

-- "an integer Const", "GetLocal, SetLocal", "NewComposite of kind 1", "Len", "CheckedAdd followed by PopN 2", "any other op"
abbrev pub effect_at : Chunk → ℕ → Effect
effect_at c i =
    let w = op_at c.ops i in
    cond (eqb (kind w) K.const) (const_effect (get_or c.constants (field_a w) other))
    (cond (eqb (kind w) K.get_local) (loads (field_a w))
    (cond (eqb (kind w) K.set_local) (stores (field_a w))
    (cond (eqb (kind w) K.new_composite && eqb (field_b w) 1) (makes (field_a w))
    (cond (eqb (kind w) K.len) measures
    (cond (eqb (kind w) K.checked_add && is_drop (op_at c.ops (suc i))) adds
    (cond (is_drop w && eqb (kind (op_at c.ops (i - 1))) K.checked_add) drops anything))))))

-- "only SetLocal changes a local"
abbrev pub Same : Memory → Memory → Type 0
Same m n = (j : ℕ) → n.locals j ≡ m.locals j

-- "where it fits": a signed 64-bit number
abbrev pub Fits : ℤ → Type 0
Fits z = mag z < 2 ^ 63

-- what is left of the operands; where too few are known any list may be left
abbrev pub Stored : List Val → ℕ → Memory → Memory → Type 0
Stored [] s m n = (j : ℕ) → (j ≡ s → ⊥) → n.locals j ≡ m.locals j
Stored (x ∷ xs) s m n = (n.locals s ≡ x) × ((j : ℕ) → (j ≡ s → ⊥) → n.locals j ≡ m.locals j) × (n.operands ≡ xs)

-- an array on top becomes its length; of a number nothing is known
abbrev pub Measured : List Val → List Val → Type 0
Measured [] ys = Unit {0}
Measured (number z ∷ xs) ys = Unit {0}
Measured (array k ∷ xs) ys = ys ≡ number (pos k) ∷ xs

-- the sum lies below two more operands, "where it fits"
abbrev pub Added : List Val → List Val → Type 0
Added (number k ∷ number v ∷ xs) ys = Fits (v +ℤ k) → (a : Val) × (b : Val) × (ys ≡ a ∷ b ∷ number (v +ℤ k) ∷ xs)
Added (number k ∷ array v ∷ xs) ys = Unit {0}
Added (number k ∷ []) ys = Unit {0}
Added (array k ∷ xs) ys = Unit {0}
Added [] ys = Unit {0}

-- without the two on top
abbrev pub Dropped : List Val → List Val → Type 0
Dropped (a ∷ b ∷ xs) ys = ys ≡ xs
Dropped (a ∷ []) ys = Unit {0}
Dropped [] ys = Unit {0}

-- memory before an op and behind it
abbrev pub Leaves : Effect → Memory → Memory → Type 0
Leaves (gives z) m n = Same m n × (n.operands ≡ number z ∷ m.operands)
Leaves (loads s) m n = Same m n × (n.operands ≡ m.locals s ∷ m.operands)
Leaves (stores s) m n = Stored m.operands s m n
Leaves (makes a) m n = Same m n × (xs : List Val) × (n.operands ≡ array a ∷ xs)
Leaves measures m n = Same m n × Measured m.operands n.operands
Leaves adds m n = Same m n × Added m.operands n.operands
Leaves drops m n = Same m n × Dropped m.operands n.operands
Leaves anything m n = Same m n

-- which way a test sends its BreakIf
abbrev pub way_for : Bool → Way
way_for true = aside
way_for false = on

-- v, e and the way that BreakIf goes: nothing is asked where one of the two holds an array
abbrev pub AtLeast : Val → Val → Way → Type 0
AtLeast (number v) (number e) w = w ≡ way_for (le_z e v)
AtLeast (number v) (array e) w = Unit {0}
AtLeast (array v) e w = Unit {0}

-- of a loop that has a count, and of no other
abbrev pub WhereCounted : Found → Type 0 → Type 0
WhereCounted (found n) P = P
WhereCounted nothing P = Unit {0}

-- at the BreakIf of a header, and at no other op
abbrev pub AtHeader : Bool → Type 0 → Type 0
AtHeader true P = P
AtHeader false P = Unit {0}

-- "a counted header's BreakIf is taken exactly if v is at least e"
abbrev pub HeaderWay : Chunk → List Entry → ℕ → Memory → Way → Type 0
HeaderWay c [] i m w = Unit {0}
HeaderWay c (e ∷ es) i m w =
    AtHeader (eqb i (e.loop + 4)) (WhereCounted (count_at c.constants c.ops e.loop)
    (AtLeast (m.locals (field_a (op_at c.ops (e.loop + 1)))) (m.locals (field_a (op_at c.ops (e.loop + 2)))) w))

-- A path of these ways that does as its ops say. `mem` has the memory of every frame by the number of its callers: an op changes that of its
-- own frame alone, and those of its callers wait; a callee that is run finds any locals of its own.
unfoldable pub Valued : List Chunk → Bool → Spot → (ℕ → Memory) → List Way → Type 0
Valued cs run s mem [] = Unit {0}
Valued cs run over mem (w ∷ ws) = Unit {0}
Valued cs run (here f gs) mem (w ∷ ws) =
    let c = chunk_at cs f.chunk in
    (next : ℕ → Memory) × Leaves (effect_at c f.at) (mem (length gs)) (next (length gs)) × ((k : ℕ) → k < length gs → next k ≡ mem k)
    × HeaderWay c f.entries f.at (mem (length gs)) w × Valued cs run (go cs run f gs w) next ws

-- every open entry to a loop with a sure count has passed its header no more often than counted
abbrev pub EntriesSure : Chunk → List Entry → Type 0
EntriesSure c [] = Unit {0}
EntriesSure c (e ∷ es) = ((r : Row) (n : ℕ) → chunk_row c ≡ ok r → sure_count_of c r e.loop ≡ ok n → e.passed ≤ n) × EntriesSure c es

-- and so at every op that is taken
unfoldable pub KeepsSure : List Chunk → Bool → Spot → List Way → Type 0
KeepsSure cs run s [] = Unit {0}
KeepsSure cs run over (w ∷ ws) = Unit {0}
KeepsSure cs run (here f gs) (w ∷ ws) = EntriesSure (chunk_at cs f.chunk) f.entries × KeepsSure cs run (go cs run f gs w) ws
