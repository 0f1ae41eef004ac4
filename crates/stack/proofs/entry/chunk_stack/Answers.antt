-- `chunk_stack` hands on a row of the chunk, and its walk is the chunk's.
-- Assumes nothing.
use Rattle.words.specs.Chunks.{chunk_of}
use Rattle.rows.proofs.RowFitting.{row_found, row_fits}
use Rattle.stack.proofs.entry.chunk_stack.Goals as goal

pub compute_chunk_wcmu-requires : goal.compute_chunk_wcmu-requires
compute_chunk_wcmu-requires c = row_fits (chunk_of c.args.chunk.now) c.in_ok-row.ensures c.args.chunk.now.short

pub returns : goal.returns
returns c = rw (row_found (chunk_of c.args.chunk.now) c.in_ok-row.ensures) c.compute_chunk_wcmu.ensures
