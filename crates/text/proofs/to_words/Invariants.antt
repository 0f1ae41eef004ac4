-- `to_words` puts the words of a block behind those of the other: those that are there and those of the rest are all. Assumes nothing.
use Rattle.std.proofs.Common.{◌≡◌, ◌++◌, length}
use Rattle.rules.specs.Text.{words_of}
use Rattle.text.proofs.to_words.Given as goal

abbrev pub invariant-loop-rest : goal.invariant-loop-rest
invariant-loop-rest g l = l.words.items ++ words_of l.rest ≡ l.initial.words.items ++ words_of l.bytes

abbrev pub decreases-loop-rest : goal.decreases-loop-rest
decreases-loop-rest g l = length l.rest
