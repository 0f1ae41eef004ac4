-- `chunk_costs` answers a row's cycles without its callees, marked, and with them, or the first refusal of the walks.
-- Assumes nothing.
use mathlib.Core.Path.{sym, ◌∙◌}
use Rattle.std.proofs.lemmas.Result.{err_from_is_err_and}
use Rattle.words.specs.Chunks.{chunk_of}
use Rattle.lines.proofs.CostLaws.{first_refused, walked_once, walked_twice}
use Rattle.lines.proofs.costs.chunk_costs.Goals as goal

pub returns-in_err-own : goal.returns-in_err-own
returns-in_err-own c =
    let a = c.args in
    let p = err_from_is_err_and c.from_residual.result c.from_residual.ensures.1 in
    rw (p.1, p.2) (first_refused (chunk_of a.chunk.now) a.wholes.now a.row.from a.row.to c.in_err-own.ensures)

pub returns-in_err-both : goal.returns-in_err-both
returns-in_err-both c =
    let a = c.args in
    let p = err_from_is_err_and c.from_residual-in_err-both.result c.from_residual-in_err-both.ensures.1 in
    rw (p.1, p.2) (walked_twice (chunk_of a.chunk.now) a.wholes.now a.row.from a.row.to c.in_ok-own.ensures c.in_err-both.ensures)

pub returns-in_ok-both : goal.returns-in_ok-both
returns-in_ok-both c =
    let a = c.args in walked_twice (chunk_of a.chunk.now) a.wholes.now a.row.from a.row.to c.in_ok-own.ensures c.in_ok-both.ensures

pub returns-else-not-calls_none : goal.returns-else-not-calls_none
returns-else-not-calls_none c =
    let a = c.args in
    walked_once (chunk_of a.chunk.now) a.wholes.now a.row.from a.row.to c.in_ok-own.ensures (sym c.calls_none.ensures ∙ c.if-not-calls_none.false)
