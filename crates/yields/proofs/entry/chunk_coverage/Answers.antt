-- `chunk_coverage` hands on a row of the chunk, and its answer is the chunk's.
-- Assumes nothing.
use Rattle.words.specs.Chunks.{chunk_of}
use Rattle.rows.proofs.RowFitting.{row_found, row_fits}
use Rattle.yields.proofs.entry.chunk_coverage.Goals as goal

pub analyze_yield_coverage-requires : goal.analyze_yield_coverage-requires
analyze_yield_coverage-requires c = row_fits (chunk_of c.args.chunk.now) c.in_ok-row.ensures c.args.chunk.now.short

pub returns : goal.returns
returns c = rw (row_found (chunk_of c.args.chunk.now) c.in_ok-row.ensures, c.analyze_yield_coverage.ensures)
