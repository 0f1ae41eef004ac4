-- `chunk_places` keeps each chunk's place at its index: the loop has those of the chunks passed, and stands at the next head.
-- Assumes nothing.
use Prim.Native.Nat.{◌<◌}
use mathlib.Core.Path.{ap}
use native.Mathlib.Omega.{arith}
use lib.ListN.{length}
use Rattle.rules.proofs.ReadingAgrees.{read_words}
use Rattle.words.specs.Parts.{chunks_in}
use Rattle.words.proofs.PartLaws.{first_head, at_within, next_at}
use Rattle.words.proofs.PlaceLaws.{places_fit, places_more}
use Rattle.words.proofs.heads.chunk_places.Goals as goal
use Rattle.words.proofs.heads.chunk_places.Goals.{After-parts_at-p}

-- the places of the chunk fit 16 bits
fit : (c : After-parts_at-p) → let p = c.parts_at-p.result in (c.loop.at < 65536) × (p.ops < 65536) × (p.extras < 65536) × (p.end < 65536)
fit c = places_fit c.args.words.now c.requires.0 c.loop.counter (omega arith) c.loop.at _ c.loop.invariant.1 c.parts_at-p.ensures

pub loop-init : goal.loop-init
loop-init c = (ap length c.new-places.ensures, first_head (chunks_in c.args.words.now), λ k h. absurd (omega arith))

pub parts_at-p-requires : goal.parts_at-p-requires
parts_at-p-requires c = at_within c.args.words.now (chunks_in c.args.words.now) c.requires.0 c.loop.counter (omega arith) c.loop.at c.loop.invariant.1

pub overflow_cast-at : goal.overflow_cast-at
overflow_cast-at c = omega (arith, (fit (goal.at.overflow_cast-at c).After-parts_at-p).0)

pub overflow_cast-p : goal.overflow_cast-p
overflow_cast-p c = omega (arith, (fit (goal.at.overflow_cast-p c).After-parts_at-p).1)

pub overflow_cast-p-in-loop : goal.overflow_cast-p-in-loop
overflow_cast-p-in-loop c = omega (arith, (fit (goal.at.overflow_cast-p-in-loop c).After-parts_at-p).2)

pub overflow_cast-p-in-loop-2 : goal.overflow_cast-p-in-loop-2
overflow_cast-p-in-loop-2 c = omega (arith, (fit (goal.at.overflow_cast-p-in-loop-2 c).After-parts_at-p).3)

-- there are at most 256 chunks
pub push-requires : goal.push-requires
push-requires c = (omega arith, omega (arith, (read_words c.args.words.now (chunks_in c.args.words.now) c.requires.0).1.most))

pub loop-preserved : goal.loop-preserved
loop-preserved c =
    let ws = c.args.words.now in
    let i = c.loop.invariant in
    let parts = c.parts_at-p.ensures in (
      omega (arith, c.push.ensures.len),
      next_at ws (chunks_in ws) c.requires.0 c.loop.counter (omega arith) c.loop.at _ i.1 parts,
      rw c.push.ensures.items (places_more ws c.loop.places.items c.loop.counter c.loop.at _ i.0 i.1 parts i.2),
    )
