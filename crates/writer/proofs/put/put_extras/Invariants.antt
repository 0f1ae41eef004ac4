-- `put_extras` writes extra after extra. Invariant: what is left, written where the last one ends, gives all. Assumes nothing.
use mathlib.Core.List.{flat_map}
use lib.ListN.{drop}
use Rattle.rules.specs.Form.{extra_words}
use Rattle.writer.proofs.PutLaws.{Left}
use Rattle.writer.proofs.put.put_extras.Given as goal

abbrev pub invariant-loop-x : goal.invariant-loop-x
invariant-loop-x l = Left l.at (flat_map extra_words l.extras) l.initial.tray l.next (flat_map extra_words (drop l.x-index l.extras)) l.tray
