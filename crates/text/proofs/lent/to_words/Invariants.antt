-- `to_words` writes the words one after the other: after i turns the first i of them stand in front. Assumes nothing.
use Rattle.std.proofs.Common.{◌≡◌, take}
use Rattle.rules.specs.Text.{words_of}
use Rattle.text.specs.Paste.{pasted}
use Rattle.text.proofs.lent.to_words.Given as goal

abbrev pub invariant-loop-i : goal.invariant-loop-i
invariant-loop-i l = l.words ≡ pasted 0 (take l.i (words_of l.bytes)) l.initial.words
