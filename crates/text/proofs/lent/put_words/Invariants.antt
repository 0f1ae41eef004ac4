-- `put_words` writes the bytes of one word after those of the other: after each turn those of the words so far stand there. Assumes nothing.
use lib.ListN.{take}
use Rattle.rules.specs.Text.{bytes_in}
use Rattle.text.specs.Paste.{Put}
use Rattle.text.proofs.lent.put_words.Given as goal

abbrev pub invariant-loop-w : goal.invariant-loop-w
invariant-loop-w l = Put l.at (bytes_in (take l.w-index l.words)) l.initial.out l.out l.next
