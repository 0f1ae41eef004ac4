-- The cycle walk of a chunk from the walk of its row: what the entry point cites.
-- Assumes nothing.
use mathlib.Core.Path.{◌≡◌, ap, ◌∙◌}
use mathlib.Core.Bool.{true}
use mathlib.Core.List.{List}
use Prim.Native.Nat.{ℕ, min}
use native.Mathlib.Omega.{arith}
use Rattle.rules.specs.Outcome as O
use Rattle.rules.specs.Outcome.{ok, and_then}
use Rattle.rules.specs.Ops.{op_at}
use Rattle.rules.specs.Form as F
use Rattle.rules.specs.Limits.{deepest}
use Rattle.rules.specs.Cycles as R
use Rattle.rules.proofs.Capped.{wider_told}
use Rattle.rules.specs.Rows.{IsRow}
use Rattle.rules.proofs.Placing.{placed_walk}
use Rattle.rows.specs.Tree.{HasRow, tree_of}
use Rattle.rows.proofs.TreeLaws.{tree_is}
use Rattle.cycles.specs.Answers.{wide_cap, region_cost}
use Rattle.cycles.specs.Entry.{range_cycles}

-- The walk of a range under the wide cap, cut and marked at the end, is the definition's: counts told by positions from the range's start are its sure counts.
pub region_cut : (c : F.Chunk) (wholes : List ℕ) (from to : ℕ) → HasRow (op_at c.ops) true from to → {x : O.Result R.Cost}
    → x ≡ region_cost c wholes from from to deepest 0 R.unbroken
    → and_then x (λ k. ok (R.cycles_of k)) ≡ range_cycles c wholes from to
region_cut c wholes from to (r, w) e =
    let top = tree_of (op_at c.ops) from to in
    let is : IsRow (op_at c.ops) true from to top = let same = tree_is (op_at c.ops) true from to r w in rw same w in
    ap (λ (x : O.Result R.Cost). and_then x (λ k. ok (R.cycles_of k)))
    (e ∙ placed_walk (min wide_cap) (R.charge_of c wholes) c top true from to is deepest 0 R.unbroken)
    ∙ wider_told wide_cap (omega arith) c wholes top
