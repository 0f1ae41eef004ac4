-- `group_of` reads a field a turn: after some of them their numbers stand in front, and the fields behind are left. Assumes nothing.
use Rattle.groups.proofs.GroupLaws.{Read}
use Rattle.groups.proofs.line.group_of.Given as goal

abbrev pub invariant-loop-number : goal.invariant-loop-number
invariant-loop-number l = Read (goal.iterator-loop-number).next_gives l.line l.number-items l.number-index l.fields
