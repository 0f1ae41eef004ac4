-- Request 2.8's condition on rows over positions: whether a SetLocal stands directly in the row of a Loop behind it, told for a whole range by a pass with a
-- depth, and inside a row by two sums, as the code tests it. proofs/Placing says that both say what the tree of the range says (specs/Sure).
use Rattle.std.specs.Prelude.{◌≡◌, Bool, true, false, cond, ◌&&◌, List, [], ◌∷◌, ℕ, zero, suc, ◌+◌, ◌-◌, ◌≤◌, eqb, leb}
use Rattle.rules.specs.Numbers as N
use Rattle.rules.specs.Outcome.{Result, and_then, demand}
use Rattle.rules.specs.Ops.{op_at}
use Rattle.rules.specs.Form.{Chunk}
use Rattle.rules.specs.Rows.{Shape, plain, trap, returns, if_to, else_to, end_if, loop_to, end_loop, breaks, breaks_if, calls, shape_of}
use Rattle.rules.specs.Count.{count_of}
use Rattle.rules.specs.Sure.{loop_stops, sum_fits}

-- One op back, with so many blocks open behind it: EndIf and EndLoop open one, If and Loop close it, and at depth 0 an If, an Else or a Loop leaves the row.
abbrev pub back_by : Shape → ℕ → (ℕ → Bool) → Bool
back_by plain d next = next d
back_by trap d next = next d
back_by returns d next = next d
back_by (if_to t) zero next = false
back_by (if_to t) (suc d) next = next d
back_by (else_to e) zero next = false
back_by (else_to e) (suc d) next = next (suc d)
back_by end_if d next = next (suc d)
back_by (loop_to t) zero next = false
back_by (loop_to t) (suc d) next = next d
back_by end_loop d next = next (suc d)
back_by breaks d next = next d
back_by breaks_if d next = next d
back_by (calls k) d next = next d

-- The pass from position p, of which it looks at the ops before, down to s: it gets there at depth 0.
unfoldable pub back : (ℕ → ℕ) → ℕ → ℕ → ℕ → Bool
back op zero d s = false
back op (suc i) d s = cond (eqb i s) (eqb d 0) (back_by (shape_of (op i)) d (λ e. back op i e s))

-- each position of a list is such
unfoldable pub all_of : (ℕ → Bool) → List ℕ → Bool
all_of f [] = true
all_of f (s ∷ ss) = f s && all_of f ss

-- the count of the loop at p, or 9, or 16 where a SetLocal is not such or the sum does not fit
abbrev pub count_where : (ℕ → Bool) → Chunk → ℕ → Result ℕ
count_where f c p = and_then (count_of c p) (λ n. demand (all_of f (loop_stops c.ops p) && sum_fits c p n) N.unsure_count p n)

-- in the row of the Loop at p, in a range that begins at `start`: the pass from p gets to s
abbrev pub placed : (ℕ → ℕ) → ℕ → ℕ → ℕ → Bool
placed op start p s = leb start s && back op p 0 s

-- the count so placed, or the refusal, of the loop at p
abbrev pub placed_count : Chunk → ℕ → ℕ → Result ℕ
placed_count c start p = count_where (placed (op_at c.ops) start p) c p

-- an op that closes a block
unfoldable pub closing : Shape → Bool
closing plain = false
closing trap = false
closing returns = false
closing (if_to t) = false
closing (else_to e) = false
closing end_if = true
closing (loop_to t) = false
closing end_loop = true
closing breaks = false
closing breaks_if = false
closing (calls k) = false

-- and one that opens it
unfoldable pub opening : Shape → Bool
opening plain = false
opening trap = false
opening returns = false
opening (if_to t) = true
opening (else_to e) = false
opening end_if = false
opening (loop_to t) = true
opening end_loop = false
opening breaks = false
opening breaks_if = false
opening (calls k) = false

-- how many of the n ops from position i on are such
unfoldable pub how_many : (Shape → Bool) → (ℕ → ℕ) → ℕ → ℕ → ℕ
how_many f op zero i = 0
how_many f op (suc n) i = cond (f (shape_of (op i))) 1 0 + how_many f op n (suc i)

-- the ops from i up to `to` close as many blocks as they open
abbrev pub balanced : (ℕ → ℕ) → ℕ → ℕ → Bool
balanced op i to = eqb (how_many closing op (to - i) i) (how_many opening op (to - i) i)

-- the same of a row that begins at `from` and in which the Loop at p stands directly: s is not before the row, and is in no block of it
abbrev pub beside : (ℕ → ℕ) → ℕ → ℕ → ℕ → Bool
beside op from p s = leb from s && balanced op (suc s) p

-- and the count by that
abbrev pub row_count : Chunk → ℕ → ℕ → Result ℕ
row_count c from p = count_where (beside (op_at c.ops) from p) c p

-- What a row begins at, in a range that begins at `start`: there, or right behind the If, the Else or the Loop that opens it.
pub data Begins (op : ℕ → ℕ) (start from : ℕ) : Type 0 where
  range : from ≡ start → Begins op start from
  arm : (i t : ℕ) → start ≤ i → from ≡ suc i → shape_of (op i) ≡ if_to t → Begins op start from
  second : (e t : ℕ) → start ≤ e → from ≡ suc e → shape_of (op e) ≡ else_to t → Begins op start from
  body : (i t : ℕ) → start ≤ i → from ≡ suc i → shape_of (op i) ≡ loop_to t → Begins op start from
