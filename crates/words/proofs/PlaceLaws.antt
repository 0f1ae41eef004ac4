-- One chunk's place more, and that places fit 16 bits.
-- Assumes nothing.
use mathlib.Core.Path.{◌≡◌, ◌∙◌}
use mathlib.Core.List.{List, [], ◌∷◌, ◌++◌}
use Prim.Native.Nat.{ℕ, ◌+◌, ◌<◌}
use native.Mathlib.Omega.{arith}
use lib.ListN.{length, get_or-append}
use Rattle.std.proofs.lemmas.List.{get_or_push}
use Rattle.rules.specs.Outcome.{ok}
use Rattle.rules.specs.Reading.{read}
use Rattle.rules.proofs.ReadingAgrees.{read_words}
use Rattle.words.specs.declared.heads.ChunkPlace.{ChunkPlace}
use Rattle.words.specs.declared.parts.Parts.{Parts}
use Rattle.words.specs.Parts.{parts_at, chunks_in, head_at}
use Rattle.words.specs.Places.{PlacedAt, nowhere}
use Rattle.words.proofs.Cases.{split}
use Rattle.words.proofs.PartLaws.{chunk-head, chunk_parts}

-- a module has at most 16,384 words, so its places fit 16 bits
pub places_fit : (ws : List ℕ) → read ws ≡ ok (chunks_in ws) → (i : ℕ) → i < length (chunks_in ws) → (at : ℕ) (p : Parts) → at ≡ head_at (chunks_in ws) i
    → p ≡ parts_at ws at → (at < 65536) × (p.ops < 65536) × (p.extras < 65536) × (p.end < 65536)
places_fit ws reads i lt at p is-head is-parts =
    let q = chunk_parts ws (chunks_in ws) reads i lt in
    let long = (read_words ws (chunks_in ws) reads).0 in
    let head = chunk-head ws (chunks_in ws) reads i lt in
    rw (is-parts, is-head) (omega arith, omega (arith, q.ops_next, q.extras-last, q.within), omega (arith, q.extras-last, q.within), omega (arith, q.within))

-- with the place of chunk i behind those before it, the list has the places up to i
pub places_more : (ws : List ℕ) (places : List ChunkPlace) (i at : ℕ) (p : Parts) → length places ≡ i → at ≡ head_at (chunks_in ws) i → p ≡ parts_at ws at
    → ((k : ℕ) → k < i → PlacedAt ws places k) → (k : ℕ) → k < i + 1
    → PlacedAt ws (places ++ record { head = at; ops = p.ops; extras = p.extras; end = p.end } ∷ []) k
places_more ws places i at p size is-head is-parts before k h =
    split k i (λ e. rw (e, get_or_push places _ nowhere i size, is-parts, is-head)) (λ o. get_or-append places _ nowhere k (omega arith) ∙ before k (omega arith))
