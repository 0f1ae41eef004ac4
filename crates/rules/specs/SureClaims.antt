-- Request 2.8 as types: no path that does as its ops say passes a header more often than counted, so that the bounds on cycles hold of such paths with no
-- condition on loops; and the two conditions on a count add refusals by 16 and change nothing else. proofs/SureKept, proofs/CountsKept and proofs/UnsureAdded
-- have the proofs.
use Rattle.std.specs.Prelude.{◌≡◌, Bool, true, false, List, [], ◌⊎◌, ℕ, ◌<◌, ◌≤◌, min, length}
use Rattle.rules.specs.Limits.{deepest, cycle_cap}
use Rattle.rules.specs.Numbers as N
use Rattle.rules.specs.Outcome.{Result, ok, no, and_then}
use Rattle.rules.specs.Form.{Chunk, Each, ConstantFits}
use Rattle.rules.specs.Rows.{Row, chunk_row}
use Rattle.rules.specs.Count.{count_of}
use Rattle.rules.specs.Sure.{is_sure}
use Rattle.rules.specs.Cycles.{unbroken, Cost, row_cost, charge_of, exact_cost, Cycles, cycles_of}
use Rattle.rules.specs.Order.{chunk_at}
use Rattle.rules.specs.Sheet.{Sheet}
use Rattle.rules.specs.Paths.{Way, begin, path, path_cycles, KeepsCounts}
use Rattle.rules.specs.Values.{Memory, Valued, KeepsSure}
use Rattle.rules.specs.Claims.{Accepted, line_at}

-- Of chunks that have a row and constants of 64 bits: every path that does as its ops say, from any memory, callees run or not, keeps the sure counts. It asks
-- for no walk, no order and no words.
abbrev pub SureKept : Type 0
SureKept =
    (cs : List Chunk) → ((k : ℕ) → k < length cs → (r : Row) × (chunk_row (chunk_at cs k) ≡ ok r) × Each ConstantFits (chunk_at cs k).constants)
    → (c : ℕ) → c < length cs → (run : Bool) (mem : ℕ → Memory) (ways : List Way) → Valued cs run (begin cs c) mem ways → KeepsSure cs run (begin cs c) ways

-- "Then, without a ring, no path from any starting locals passes the header of a visited loop that needs a count more often than counted between entering that
-- loop and leaving it": of an accepted module, which has no ring. This is the condition on loops of `CyclesBounded` and `WholeBounded`.
abbrev pub CountsKept : Type 0
CountsKept =
    (words : List ℕ) (room : ℕ) (cs : List Chunk) (s : Sheet) → Accepted words room cs s → (c : ℕ) → c < length cs
    → (run : Bool) (mem : ℕ → Memory) (ways : List Way) → Valued cs run (begin cs c) mem ways → KeepsCounts cs run (begin cs c) ways

-- so these two hold of such paths with no condition on loops left: the cycles of a path that runs no callee, counted up to the cap, are at most its sheet's
abbrev pub SureCycles : Type 0
SureCycles =
    (words : List ℕ) (room : ℕ) (cs : List Chunk) (s : Sheet) → Accepted words room cs s → (c : ℕ) → c < length cs
    → (mem : ℕ → Memory) (ways : List Way) → Valued cs false (begin cs c) mem ways
    → min cycle_cap (path_cycles cs (path cs false (begin cs c) ways)) ≤ (line_at s c).cycles

-- and of a path that runs its callees, their ops counted too, at most its whole figure
abbrev pub SureWhole : Type 0
SureWhole =
    (words : List ℕ) (room : ℕ) (cs : List Chunk) (s : Sheet) → Accepted words room cs s → (c : ℕ) → c < length cs
    → (mem : ℕ → Memory) (ways : List Way) → Valued cs true (begin cs c) mem ways
    → min cycle_cap (path_cycles cs (path cs true (begin cs c) ways)) ≤ (line_at s c).whole

-- the walk with every count that there is, sure or not: the one before this request
abbrev pub counted_cost : Chunk → List ℕ → Row → Result Cost
counted_cost c wholes r = row_cost (λ n. n) (charge_of c wholes) (count_of c) r deepest 0 unbroken

abbrev pub counted_cycles : Chunk → Result Cycles
counted_cycles c = and_then (chunk_row c) (λ r. and_then (counted_cost c [] r) (λ k. ok (cycles_of k)))

-- The cycle walk answers and refuses as that one does, or it is refused by 16 at a loop whose count is not sure.
abbrev pub UnsureAdded : Type 0
UnsureAdded =
    (c : Chunk) (wholes : List ℕ) (r : Row)
    → (exact_cost c wholes r ≡ counted_cost c wholes r)
    ⊎ ((p : ℕ) × (n : ℕ) × (count_of c p ≡ ok n) × (is_sure c r p n ≡ false) × (exact_cost c wholes r ≡ no N.unsure_count p))
