-- Where the chunks of a module stand, by index.
use Rattle.std.specs.Prelude.{◌≡◌, List, ℕ, get_or}
use Rattle.words.specs.Parts.{parts_at, chunks_in, head_at}
use Rattle.words.specs.declared.heads.ChunkPlace.{ChunkPlace}

-- where the chunk whose head stands at a position stands
abbrev pub place_at : List ℕ → ℕ → ChunkPlace
place_at ws at =
    record { head = at; ops = (parts_at ws at).ops; extras = (parts_at ws at).extras; end = (parts_at ws at).end }

-- what is read past the list's end: no chunk stands there
abbrev pub nowhere : ChunkPlace
nowhere = record { head = 0; ops = 0; extras = 0; end = 0 }

-- the list has the place of chunk k at k
abbrev pub PlacedAt : List ℕ → List ChunkPlace → ℕ → Type 0
PlacedAt ws places k = get_or places k nowhere ≡ place_at ws (head_at (chunks_in ws) k)
