-- `find_chunk` answers where the chunk's parts stand, or the first of refusals 1, 2 and 12.
-- Assumes nothing.
use mathlib.Core.Path.{◌≡◌}
use Prim.Native.Nat.{◌<◌}
use native.Mathlib.Omega.{arith}
use lib.ListN.{length}
use Rattle.rules.specs.Outcome.{ok}
use Rattle.rules.specs.Reading.{read}
use Rattle.words.specs.Parts.{chunks_in}
use Rattle.words.proofs.PartLaws.{chunk-head}
use Rattle.words.proofs.LookupLaws.{accepted}
use Rattle.words.proofs.lookup.find_chunk.Goals as goal
use Rattle.words.proofs.lookup.find_chunk.Goals.{Else-n-c}

-- the words are a module that has the chunk
there : (c : Else-n-c) → let a = c.args in (read a.words.now ≡ ok (chunks_in a.words.now)) × (a.c < length (chunks_in a.words.now))
there c =
    let ws = c.args.words.now in
    let a = accepted ws _ (rw c.in_ok-n.was at c.read_module.ensures) in
    (a.0, omega (arith, a.1))

pub parts_at-requires : goal.parts_at-requires
parts_at-requires c = let ws = c.args.words.now in
    rw c.head_of.ensures (chunk-head ws (chunks_in ws) (there (goal.at.parts_at-requires c).Else-n-c).0 _ (there (goal.at.parts_at-requires c).Else-n-c).1)
