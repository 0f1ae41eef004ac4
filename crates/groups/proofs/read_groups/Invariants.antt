-- `read_groups` reads a line a turn: the table is that of the groups of the lines before. Assumes nothing.
use lib.ListN.{length}
use Rattle.groups.proofs.ReadLaws.{Lined}
use Rattle.groups.proofs.read_groups.Given as goal

abbrev pub invariant-loop-rest : goal.invariant-loop-rest
invariant-loop-rest l = Lined l.bytes l.table l.rest l.lines

abbrev pub decreases-loop-rest : goal.decreases-loop-rest
decreases-loop-rest l = length l.rest
