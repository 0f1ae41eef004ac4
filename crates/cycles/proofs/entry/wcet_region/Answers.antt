-- `wcet_region` answers the figure of a row, cut and marked once behind the walk, or refusal 7, 8, 9 or 16.
-- Assumes nothing.
use mathlib.Core.Path.{refl, ap, ◌∙◌}
use Rattle.std.proofs.lemmas.Result.{err_from_is_err_and}
use Rattle.rules.specs.Outcome.{ok}
use Rattle.rules.specs.Cycles.{Cycles}
use Rattle.rules.specs.Placed.{range}
use Rattle.words.specs.Chunks.{chunk_of}
use Rattle.cycles.proofs.EntryLaws.{region_cut}
use Rattle.cycles.proofs.entry.wcet_region.Goals as goal

pub returns-in_err-cost : goal.returns-in_err-cost
returns-in_err-cost c =
    let a = c.args in
    let p = err_from_is_err_and c.from_residual.result c.from_residual.ensures.1 in
    rw (p.1, p.2) (region_cut (chunk_of a.chunk.now) a.wholes.now a.row.from a.row.to c.requires.has_row (c.in_err-cost.ensures a.row.from (range refl)))

pub returns : goal.returns
returns c =
    let a = c.args in
    ap (λ (x : Cycles). ok x) c.from.ensures ∙ region_cut (chunk_of a.chunk.now) a.wholes.now a.row.from a.row.to c.requires.has_row (c.in_ok-cost.ensures a.row.from (range refl))
