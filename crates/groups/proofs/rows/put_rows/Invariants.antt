-- `put_rows` puts a row a turn: after k turns those of the first k kinds stand there. Assumes nothing.
use Prim.Native.Nat.{◌+◌, ◌*◌, ◌≤◌}
use mathlib.Core.Path.{◌≡◌}
use mathlib.Core.List.{◌++◌}
use Rattle.arrayvec.specs.ArrayVec.{array_vec_len}
use Rattle.groups.specs.Rows.{figures_at, row_most}
use Rattle.groups.proofs.PrintLaws.{rows_from}
use Rattle.groups.proofs.rows.put_rows.Given as goal

abbrev pub invariant-loop-k : goal.invariant-loop-k
invariant-loop-k g l =
    record {
      written : l.out.items ≡ l.initial.out.items ++ rows_from (λ j. figures_at l.table j) 0 l.k;
      short : array_vec_len l.out ≤ array_vec_len l.initial.out + row_most * l.k;
    }
