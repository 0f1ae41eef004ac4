-- `put_chunks` writes chunk after chunk. Invariant: what is left fits, and written where the last one ends it gives all. Assumes nothing.
use mathlib.Core.Path.{◌≡◌}
use mathlib.Core.Bool.{true}
use Prim.Native.Nat.{◌*◌}
use lib.ListN.{drop}
use Rattle.rules.specs.Writing.{held}
use Rattle.writer.specs.Size.{all_fit, all_words}
use Rattle.writer.proofs.PutLaws.{Left}
use Rattle.writer.proofs.put.put_chunks.Given as goal

abbrev pub invariant-loop-five : goal.invariant-loop-five
invariant-loop-five l =
    let left = held (drop (l.five-index * 5) l.chunks) l.rest.constants.now l.rest.ops.now l.rest.extras.now in
    (all_fit left ≡ true)
    × Left 1 (all_words (held l.chunks l.lent.constants.now l.lent.ops.now l.lent.extras.now)) l.initial.tray l.at (all_words left) l.tray
