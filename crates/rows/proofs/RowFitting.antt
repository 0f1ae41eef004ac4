-- A chunk that passes the tests before a walk has a row inside its ops: what the crates above cite.
-- Assumes nothing.
use mathlib.Core.Path.{◌≡◌, sym}
use mathlib.Core.Bool.{false}
use Prim.Native.Nat.{◌≤◌}
use lib.ListN.{length}
use Rattle.rules.specs.Limits.{most_words}
use Rattle.rules.specs.Outcome.{ok}
use Rattle.rules.specs.Ops.{op_at}
use Rattle.rules.specs.Form.{Chunk}
use Rattle.rules.specs.Rows.{Range, chunk_row}
use Rattle.rows.specs.Tree.{tree_of}
use Rattle.rows.specs.Opens.{RowFits}
use Rattle.rows.specs.Ranges.{range_row}
use Rattle.rows.proofs.TreeLaws.{with_loop}
use Rattle.rows.proofs.RangeLaws.{range_row_ok}

module _ (c : Chunk) {g : Range} (row : ok g ≡ range_row c.type c.ops) where
  -- the tree of its row
  pub row_found : chunk_row c ≡ ok (tree_of (op_at c.ops) g.from g.to)
  row_found = (range_row_ok c g (sym row)).0

  -- the row is one for a walk
  pub row_fits : length c.ops ≤ most_words → RowFits c.ops g.from g.to
  row_fits short =
      let (_, (r, is_row), _, within) = range_row_ok c g (sym row) in
      record { within = within; short = short; has_row = (r, with_loop (op_at c.ops) false g.from g.to r is_row) }
