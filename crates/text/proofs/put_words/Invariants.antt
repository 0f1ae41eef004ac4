-- `put_words` puts the bytes of a block behind those of the other: those that are there and those of the rest are all. Assumes nothing.
use Rattle.std.proofs.Common.{◌≡◌, ◌++◌, length}
use Rattle.rules.specs.Text.{bytes_in}
use Rattle.text.proofs.put_words.Given as goal

abbrev pub invariant-loop-rest : goal.invariant-loop-rest
invariant-loop-rest g l = l.out.items ++ bytes_in l.rest ≡ l.initial.out.items ++ bytes_in l.words

abbrev pub decreases-loop-rest : goal.decreases-loop-rest
decreases-loop-rest g l = length l.rest
