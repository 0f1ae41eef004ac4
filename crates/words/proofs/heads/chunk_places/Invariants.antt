-- `chunk_places` keeps each chunk's place at its index: the loop has those of the chunks passed, and stands at the next head.
-- Assumes nothing.
use Prim.Native.Nat.{ℕ, ◌<◌}
use mathlib.Core.Path.{◌≡◌}
use lib.ListN.{length}
use Rattle.words.specs.Parts.{chunks_in, head_at}
use Rattle.words.specs.Places.{PlacedAt}
use Rattle.words.proofs.heads.chunk_places.Given as goal

abbrev pub invariant-loop : goal.invariant-loop
invariant-loop l =
    (length l.places.items ≡ l.counter) × (l.at ≡ head_at (chunks_in l.words) l.counter) × ((k : ℕ) → k < l.counter → PlacedAt l.words l.places.items k)
