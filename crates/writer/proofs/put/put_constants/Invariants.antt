-- `put_constants` writes constant after constant. Invariant: what is left fits, and written where the last one ends it gives all. Assumes nothing.
use mathlib.Core.Path.{◌≡◌}
use mathlib.Core.Bool.{true}
use Prim.Native.Nat.{◌*◌}
use lib.ListN.{drop}
use Rattle.rules.specs.Writing.{held_constants}
use Rattle.writer.specs.Size.{constants_fit, constants_words}
use Rattle.writer.proofs.PutLaws.{Left}
use Rattle.writer.proofs.put.put_constants.Given as goal

abbrev pub invariant-loop-t : goal.invariant-loop-t
invariant-loop-t l =
    let left = held_constants (drop (l.t-index * 3) l.constants) in
    (constants_fit left ≡ true) × Left l.at (constants_words (held_constants l.constants)) l.initial.tray l.next (constants_words left) l.tray
