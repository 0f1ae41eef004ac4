-- `sheet_lines` works out the lines of the chunks in call order: the turns from one on give the whole.
-- Assumes nothing.
use lib.ListN.{length}
use Rattle.words.specs.Parts.{chunks_in}
use Rattle.sheets.proofs.TurnLaws.{Lined}
use Rattle.sheets.proofs.module.sheet_lines.Given as goal

abbrev pub invariant-loop-chunk_index : goal.invariant-loop-chunk_index
invariant-loop-chunk_index l = Lined (chunks_in l.calls.words.now) l.order (length l.calls.places.now) l.chunk_index-index l.numbers l.bytes l.wholes
