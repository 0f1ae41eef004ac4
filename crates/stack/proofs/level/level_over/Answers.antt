-- `level_over` gives the level behind an op.
-- Assumes nothing.
use Rattle.std.proofs.Common.{rules, tests}
use Rattle.stack.proofs.LevelLaws.{offset_over, during_over}
use Rattle.stack.proofs.level.level_over.Goals as goal

pub returns : goal.returns
returns c =
    let (small, effect) = c.requires in
    let o = offset_over c.args.l c.args.e small effect in
    let d = during_over c.args.l c.args.e small effect c.max.result c.max.ensures.value in
    rw (o, ← d) (search (rules, tests))
