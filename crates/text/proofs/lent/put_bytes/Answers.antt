-- `put_bytes` copies the bytes to their place. Assumes nothing.
use native.Mathlib.Omega.{arith}
use Rattle.text.proofs.PasteLaws.{mid_pasted}
use Rattle.text.proofs.lent.put_bytes.Goals as goal

pub returns-clause-written : goal.returns-clause-written
returns-clause-written c =
    rw c.copy_from_slice.ensures.after
    (mid_pasted c.args.at _ c.args.bytes.now c.args.out.now (omega arith))
