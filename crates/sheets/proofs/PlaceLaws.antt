-- The chunk whose turn it is, by its place: its head stands in the words, and its parts are the definition's chunk. Assumes nothing.
use mathlib.Core.Path.{◌≡◌, refl}
use mathlib.Core.List.{List}
use Prim.Native.Nat.{ℕ, ◌<◌}
use native.Mathlib.Omega.{arith}
use lib.ListN.{length, get_or}
use Rattle.rules.specs.Order.{chunk_at}
use Rattle.rules.proofs.ReadingAgrees.{read_words}
use Rattle.words.specs.declared.parts.Parts.{Parts}
use Rattle.words.specs.declared.heads.ChunkPlace.{ChunkPlace}
use Rattle.words.specs.declared.chunk.Chunk.{Chunk}
use Rattle.words.specs.Chunks.{chunk_of}
use Rattle.words.specs.Parts.{part_of, parts_from, chunks_in, PartsOf, PartsFit}
use Rattle.words.specs.Places.{nowhere}
use Rattle.words.proofs.PartLaws.{chunk_fits, at_within, chunk_parts}
use Rattle.order.specs.declared.visit.Calls.{Calls}
use Rattle.sheets.specs.Module.{Ordering}

module _ {calls : Calls} {order : List ℕ} (o : Ordering calls order) (j : ℕ) (more : j < length order) where
  -- it is a chunk of the module
  below : get_or order j 0 < length (chunks_in calls.words.now)
  below = omega (arith, o.chunks j more, o.located.words.chunks)

  -- where it stands
  abbrev place : ChunkPlace
  place = get_or calls.places.now (get_or order j 0) nowhere

  -- its head stands in the words
  pub turn_head : place.head < length calls.words.now
  turn_head =
      rw (o.placed (get_or order j 0) (o.chunks j more))
      (at_within calls.words.now (chunks_in calls.words.now) o.located.words.reads (get_or order j 0) below _ refl)

  -- its parts are at the places that were kept
  abbrev pub turn_parts : Parts
  turn_parts = parts_from calls.words.now place.head place.ops place.extras place.end

  module _ {p : Parts} (is : p ≡ turn_parts) where
    -- they are the parts of the definition's chunk
    parts : PartsOf calls.words.now p (chunk_at (chunks_in calls.words.now) (get_or order j 0))
    parts =
        rw (is, o.placed (get_or order j 0) (o.chunks j more))
        (chunk_parts calls.words.now (chunks_in calls.words.now) o.located.words.reads (get_or order j 0) below)

    -- so the walks may have them
    pub turn_fits : PartsFit calls.words.now p
    turn_fits =
        record {
          chunk = chunk_at (chunks_in calls.words.now) (get_or order j 0);
          parts = parts;
          fits = chunk_fits calls.words.now (chunks_in calls.words.now) o.located.words.reads (get_or order j 0) below;
          short = (read_words calls.words.now (chunks_in calls.words.now) o.located.words.reads).0;
        }

    -- and the chunk with them is the definition's
    pub turn_chunk : (k : Chunk) → (k.locals ≡ p.locals) × (k.mode ≡ p.mode) → k.constants.now ≡ part_of p.constants p.ops calls.words.now
        → k.ops.now ≡ part_of p.ops p.extras calls.words.now → k.extras.now ≡ part_of p.extras p.end calls.words.now
        → chunk_of k ≡ chunk_at (chunks_in calls.words.now) (get_or order j 0)
    turn_chunk k fields constants ops extras =
        rw (fields.0, fields.1, constants, ops, extras, parts.locals, parts.mode, parts.constants, parts.ops, parts.extras)
