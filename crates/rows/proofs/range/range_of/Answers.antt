-- `range_of` is `range_by`: the searches for Stream and Reset decide, and what they find lies in the list. Assumes nothing.
use mathlib.Core.Path.{◌≡◌, sym}
use native.Mathlib.Omega.{arith}
use Rattle.std.specs.Prelude.{Some}
use Rattle.rules.specs.Kinds as K
use Rattle.rows.proofs.SearchLaws.{first_within}
use Rattle.rows.proofs.range.range_of.Goals as goal

-- the first Stream lies in the list
pub overflow_add-from : goal.overflow_add-from
overflow_add-from c =
    let first : c.first_of.result ≡ Some c.in_ok-stream.stream = grind arith in
    omega (arith, first_within K.stream c.args.ops.now 0 _ (sym (rw first at c.first_of.ensures)))
