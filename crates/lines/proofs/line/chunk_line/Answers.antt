-- `chunk_line` answers a chunk's line, or the first of refusals 3 to 9, 11, 15 and 16.
-- Assumes nothing.
use mathlib.Core.Path.{refl}
use Rattle.std.proofs.lemmas.Result.{err_from_is_err_and}
use Rattle.words.specs.Chunks.{chunk_of}
use Rattle.rows.proofs.RowFitting.{row_fits}
use Rattle.lines.proofs.LineLaws.{row_told, line_told}
use Rattle.lines.proofs.line.chunk_line.Goals as goal

pub returns-in_err-row : goal.returns-in_err-row
returns-in_err-row c =
    let p = err_from_is_err_and c.from_residual.result c.from_residual.ensures.1 in
    rw (p.1, p.2) (row_told (chunk_of c.args.chunk.now) c.args.callees.now c.args.wholes.now c.in_err-row.ensures)

pub chunk_costs-requires : goal.chunk_costs-requires
chunk_costs-requires c = row_fits (chunk_of c.args.chunk.now) c.in_ok-row.ensures c.args.chunk.now.short

pub returns-in_err-both : goal.returns-in_err-both
returns-in_err-both c =
    let p = err_from_is_err_and c.from_residual-in_err-both.result c.from_residual-in_err-both.ensures.1 in
    rw (p.1, p.2) (line_told (chunk_of c.args.chunk.now) c.args.callees.now c.args.wholes.now c.in_ok-row.ensures c.in_err-both.ensures refl)

pub compute_chunk_wcmu-requires : goal.compute_chunk_wcmu-requires
compute_chunk_wcmu-requires c = row_fits (chunk_of c.args.chunk.now) c.in_ok-row.ensures c.args.chunk.now.short

pub returns-in_err-stack : goal.returns-in_err-stack
returns-in_err-stack c =
    let p = err_from_is_err_and c.from_residual-in_err-stack.result c.from_residual-in_err-stack.ensures.1 in
    rw (p.1, p.2) (line_told (chunk_of c.args.chunk.now) c.args.callees.now c.args.wholes.now c.in_ok-row.ensures c.in_ok-both.ensures c.in_err-stack.ensures)

pub returns : goal.returns
returns c =
    line_told (chunk_of c.args.chunk.now) c.args.callees.now c.args.wholes.now c.in_ok-row.ensures c.in_ok-both.ensures c.in_ok-stack.ensures
