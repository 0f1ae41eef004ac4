-- `number_of` reads a digit a turn: what the field is from the digit's place on, with the digits before as a number, it is as a whole. Assumes nothing.
use Rattle.groups.proofs.NumberLaws.{Digits}
use Rattle.groups.proofs.line.number_of.Given as goal

abbrev pub invariant-loop-digit : goal.invariant-loop-digit
invariant-loop-digit l = Digits l.field l.value l.digit-index
