-- What the cycle walk's answers stand for in document 01.
use Rattle.std.specs.Prelude.{List, [], ℕ, Option, Some, None, min}
use Rattle.rules.specs.Outcome.{Result, ok, no}
use Rattle.rules.specs.Ops.{op_at}
use Rattle.rules.specs.Form.{Chunk}
use Rattle.rules.specs.Reading.{extras_of}
use Rattle.rules.specs.Placed.{placed_count}
use Rattle.rules.specs.Cycles as R
use Rattle.rows.specs.Tree.{tree_of}
use Rattle.cycles.specs.declared.region.Cost.{Cost}

-- where the walk of the code stops, 2^64 - 1: above 4,294,967,295, so that the answer's figure and mark are told by it (EntryLaws)
abbrev pub wide_cap : ℕ
wide_cap = 18446744073709551615

-- the breaks met so far: none, or the costliest
abbrev pub breaks_of : Option ℕ → R.Breaks
breaks_of (Some c) = R.costliest c
breaks_of None = R.unbroken

-- a chunk whose charges need these parts alone
abbrev pub charged : List ℕ → List ℕ → Chunk
charged ops extras = record { locals = 0; type = 0; constants = []; ops = ops; extras = extras_of extras }

-- the capped charge of an op, without what a callee adds
abbrev pub cap_charge : Result ℕ → Result ℕ
cap_charge (ok c) = ok (min wide_cap c)
cap_charge (no n p) = no n p

abbrev pub charge_at : List ℕ → List ℕ → ℕ → Result ℕ
charge_at ops extras i = cap_charge (R.charge_of (charged ops extras) [] i)

abbrev pub cost_of : Cost → R.Cost
cost_of c = R.costs c.cycles c.ends (breaks_of c.breaks)

-- the walk of the positions from i up to `to` of a chunk over its callees' whole figures, in a range that begins at `start`, with so many levels left, from a
-- cost and breaks
abbrev pub region_cost : Chunk → List ℕ → ℕ → ℕ → ℕ → ℕ → ℕ → R.Breaks → Result R.Cost
region_cost c wholes start i to left cost breaks =
    R.row_cost (min wide_cap) (R.charge_of c wholes) (placed_count c start) (tree_of (op_at c.ops) i to) left cost breaks

-- the same of a body, one level deeper
abbrev pub part_cost : Chunk → List ℕ → ℕ → ℕ → ℕ → ℕ → R.Breaks → Result R.Cost
part_cost c wholes start i to left breaks = R.inner left (λ l. region_cost c wholes start i to l 0 breaks)
