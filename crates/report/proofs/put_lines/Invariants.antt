-- `put_lines` puts a line a turn: after each turn the lines so far stand there. Assumes nothing.
use Rattle.report.proofs.LinesLaws.{Written}
use Rattle.report.proofs.put_lines.Given as goal

abbrev pub invariant-loop-c : goal.invariant-loop-c
invariant-loop-c g l = Written l.order l.numbers l.initial.out.items l.c-index l.out.items
