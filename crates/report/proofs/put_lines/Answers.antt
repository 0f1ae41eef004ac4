-- `put_lines` puts a line a turn: after each turn the lines so far stand there. Assumes nothing.
use native.Mathlib.Nat.{add-sub_cancel_left}
use Rattle.report.proofs.LinesLaws.{written_none, written_more}
use Rattle.report.proofs.put_lines.Goals as goal

pub loop-c-init : goal.loop-c-init
loop-c-init g c = let a = c.args in written_none a.order.now a.numbers.now a.out.now.items

pub loop-c-preserved : goal.loop-c-preserved
loop-c-preserved g c =
    let a = c.args in
    let line = c.put_line.ensures in
    written_more a.order.now a.numbers.now a.out.now.items c.requires.0 c.loop-c.invariant c.loop-c-test.true (rw add-sub_cancel_left at line.written) line.short
