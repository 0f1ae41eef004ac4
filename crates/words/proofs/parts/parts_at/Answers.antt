-- `parts_at` passes the constants, the ops and the extras, each run from where the one before it ends.
-- Assumes nothing.
use Prim.Native.Nat.{◌+◌}
use native.Mathlib.Omega.{arith}
use Rattle.words.proofs.RunLaws.{run_within}
use Rattle.words.proofs.parts.parts_at.Goals as goal

pub behind_run-extras-requires : goal.behind_run-extras-requires
behind_run-extras-requires c = let a = c.args in
    rw c.behind_run-ops.ensures (run_within 202 203 a.words.now (a.at + 1) (omega arith))

pub behind_run-end-requires : goal.behind_run-end-requires
behind_run-end-requires c = let a = c.args in
    let h = run_within 202 203 a.words.now (a.at + 1) (omega arith) in
    rw c.behind_run-extras.ensures (run_within 0 65 a.words.now c.behind_run-ops.result (rw c.behind_run-ops.ensures h))
