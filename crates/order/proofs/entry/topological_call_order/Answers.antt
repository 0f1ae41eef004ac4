-- `topological_call_order` answers document 01's outcome, and writes the tray where all chunks are listed.
-- Assumes nothing.
use Rattle.std.proofs.Common.{◌≡◌, length, sym, ap, arith, ◌∙◌}
use Rattle.words.proofs.LookupLaws.{accepted}
use Rattle.order.specs.Search.{Readable}
use Rattle.order.proofs.AnswerLaws.{every_chunk, all_listed}
use Rattle.order.proofs.entry.topological_call_order.Goals as goal
use Rattle.order.proofs.entry.topological_call_order.Goals.{After-deref}

-- there is a place for each of the chunks
places : (c : After-deref) → length c.deref.result.now ≡ c.in_ok-chunks.chunks
places c = ap length c.deref.ensures.0 ∙ c.chunk_places-places.ensures.count

-- the reader accepted the words
reads : (c : After-deref) → Readable c.args.words.now (length c.deref.result.now)
reads c =
    let a = accepted c.args.words.now _ c.in_ok-chunks.ensures in
    record { reads = a.0; chunks = places c ∙ sym a.1 }

pub fill_tray-requires : goal.fill_tray-requires
fill_tray-requires c =
    let at = (goal.at.fill_tray-requires c).After-deref in
    omega (arith, places at, (every_chunk (reads at) _ c.in_ok-search.ensures).2, ap length c.deref-2.ensures.0)

pub returns-clause-answer : goal.returns-clause-answer
returns-clause-answer c =
    let at = (goal.at.returns-clause-answer c).After-deref in
    let found = c.in_ok-search.ensures in
    rw (all_listed (reads at) _ found (length c.args.tray.now) (omega (arith, places at)), (every_chunk (reads at) _ found).2, places at)
