-- `chunk_at` answers the chunk of an index, or the first of refusals 1, 2 and 12.
-- Assumes nothing.
use mathlib.Core.Path.{sym, ap, ◌∙◌}
use Rattle.rules.specs.Outcome.{answer}
use Rattle.words.proofs.LookupLaws.{Chunked, lookup_found, same_chunk}
use Rattle.words.proofs.lookup.chunk_at.Goals as goal
use Rattle.words.proofs.lookup.chunk_at.Goals.{In_ok-parts}

-- what a lookup that answers says of the chunk
there : (c : In_ok-parts) → Chunked c.args.words.now c.args.c c.in_ok-parts.parts
there c = lookup_found _ _ _ c.in_ok-parts.ensures

pub chunk_with-requires : goal.chunk_with-requires
chunk_with-requires c =
    let h = there (goal.at.chunk_with-requires c).In_ok-parts in record { chunk = h.chunk; parts = h.parts; fits = h.fits; short = h.short }

pub returns : goal.returns
returns c =
    let h = there (goal.at.returns c).In_ok-parts in
    let k = c.chunk_with.ensures in
    ap answer (same_chunk h c.chunk_with.result k.fields k.constants k.ops k.extras) ∙ sym h.outcome
