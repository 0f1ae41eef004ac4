-- `module_size` goes from chunk to chunk. Invariant: behind the words counted, what is left has the size of all. Assumes nothing.
use mathlib.Core.Path.{◌≡◌}
use Prim.Native.Nat.{◌*◌, ◌≤◌}
use lib.ListN.{drop}
use Rattle.rules.specs.Limits.{most_words}
use Rattle.rules.specs.Writing.{held}
use Rattle.writer.specs.Size.{size_from}
use Rattle.writer.proofs.size.module_size.Given as goal

abbrev pub invariant-loop-five : goal.invariant-loop-five
invariant-loop-five l =
    (l.total ≤ most_words)
    × (size_from 1 (held l.chunks l.lent.constants.now l.lent.ops.now l.lent.extras.now)
    ≡ size_from l.total (held (drop (l.five-index * 5) l.chunks) l.rest.constants.now l.rest.ops.now l.rest.extras.now))
