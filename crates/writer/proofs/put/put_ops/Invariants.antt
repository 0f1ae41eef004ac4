-- `put_ops` writes op after op. Invariant: what is left fits, and written where the last one ends it gives all. Measure: the numbers left. Assumes nothing.
use mathlib.Core.Path.{◌≡◌}
use mathlib.Core.Bool.{true}
use mathlib.Core.List.{map}
use lib.ListN.{length}
use Rattle.rules.specs.Writing.{op_word, every, op_fits, held_ops}
use Rattle.writer.proofs.PutLaws.{Left}
use Rattle.writer.proofs.put.put_ops.Given as goal

abbrev pub invariant-loop-rest : goal.invariant-loop-rest
invariant-loop-rest l =
    (every op_fits (held_ops l.rest) ≡ true) × Left l.at (map op_word (held_ops l.ops)) l.initial.tray l.next (map op_word (held_ops l.rest)) l.tray

abbrev pub decreases-loop-rest : goal.decreases-loop-rest
decreases-loop-rest l = length l.rest
