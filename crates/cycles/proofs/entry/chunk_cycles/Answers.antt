-- `chunk_cycles` hands on a row of the chunk, and its walk is the chunk's.
-- Assumes nothing.
use Rattle.words.specs.Chunks.{chunk_of}
use Rattle.rows.proofs.RowFitting.{row_found, row_fits}
use Rattle.cycles.proofs.entry.chunk_cycles.Goals as goal

pub wcet_region-requires : goal.wcet_region-requires
wcet_region-requires c = row_fits (chunk_of c.args.chunk.now) c.in_ok-row.ensures c.args.chunk.now.short

pub returns : goal.returns
returns c = rw (row_found (chunk_of c.args.chunk.now) c.in_ok-row.ensures) c.wcet_region.ensures
