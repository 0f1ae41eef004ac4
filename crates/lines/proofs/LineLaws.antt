-- The line of a chunk from its row and the walks of the row.
-- Assumes nothing.
use mathlib.Core.Path.{◌≡◌, refl, sym}
use mathlib.Core.Bool.{Bool, false}
use mathlib.Core.List.{List, []}
use Prim.Native.Nat.{ℕ}
use Rattle.rules.specs.Outcome.{Result, ok, no, and_then}
use Rattle.rules.specs.Form.{Chunk}
use Rattle.rules.specs.Rows.{Range}
use Rattle.rules.specs.Cycles as R
use Rattle.rules.specs.Stack as T
use Rattle.rules.specs.Sheet as S
use Rattle.rules.specs.Sheet.{line_of, chunk_line}
use Rattle.rows.specs.Ranges.{range_row}
use Rattle.rows.proofs.RangeLaws.{range_row_no}
use Rattle.rows.proofs.RowFitting.{row_found}
use Rattle.cycles.specs.Entry.{range_cycles}
use Rattle.stack.specs.Answers.{parts_stack}
use Rattle.lines.specs.declared.costs.Both.{Both}
use Rattle.lines.specs.Costs.{both_of, both_costs}

-- a line from both figures of the cycle walks and the stack walk's; it says nothing of how a walk ends
abbrev figure : ℕ → Bool → R.Cycles
figure c m = record { cycles = c; ends = false; cut = m }

abbrev pub line_with : Both → T.Stack → S.Line
line_with b s = line_of (figure b.cycles b.cut) (figure b.whole false) s

-- the figures are put together first, or all at the end
regroup : (x w : Result R.Cycles) (y : Result T.Stack)
    → and_then (and_then x (λ k. and_then w (λ f. ok (both_of k f)))) (λ b. and_then y (λ s. ok (line_with b s)))
    ≡ and_then x (λ k. and_then w (λ f. and_then y (λ s. ok (line_of k f s))))
regroup (ok k) (ok f) y = refl
regroup (ok k) (no n p) y = refl
regroup (no n p) w y = refl

module _ (c : Chunk) (callees wholes : List ℕ) where
  -- a refusal of the tests is the line's
  pub row_told : {n q : ℕ} → no n q ≡ range_row c.type c.ops → no n q ≡ chunk_line c callees wholes
  row_told {n} {q} e = rw (range_row_no c n q (sym e))

  -- the line is made of what the walks gave, and a refusal of one is the line's
  pub line_told : {g : Range} → ok g ≡ range_row c.type c.ops
      → {x : Result Both} → x ≡ both_costs c wholes g.from g.to → {y : Result T.Stack} → y ≡ parts_stack c callees g.from g.to
      → and_then x (λ b. and_then y (λ s. ok (line_with b s))) ≡ chunk_line c callees wholes
  line_told {g} row {x} e {y} f =
      rw (row_found c row, sym f, e) (regroup (range_cycles c [] g.from g.to) (range_cycles c wholes g.from g.to) y)
