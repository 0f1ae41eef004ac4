-- `sheet_of` refuses a ring, and else gives the lines of all chunks in call order.
-- Assumes nothing.
use mathlib.Core.Path.{◌≡◌, ap, ◌∙◌}
use Prim.Native.Nat.{ℕ, ◌<◌}
use native.Mathlib.Omega.{arith}
use lib.ListN.{length}
use Rattle.words.specs.Places.{PlacedAt}
use Rattle.order.specs.declared.visit.Calls.{Calls}
use Rattle.order.specs.Search.{Readable}
use Rattle.sheets.proofs.SheetLaws.{ordering}
use Rattle.sheets.proofs.module.sheet_of.Goals as goal
use Rattle.sheets.proofs.module.sheet_of.Goals.{After-deref}

-- there is a place for each of the chunks
size : (c : After-deref) → length c.deref.result.now ≡ c.args.n
size c = ap length c.deref.ensures.0 ∙ c.chunk_places-places.ensures.count

words : (c : After-deref) → Readable c.args.words.now (length c.deref.result.now)
words c = rw (size c) c.requires.0

placed : (c : After-deref) → (k : ℕ) → k < length c.deref.result.now → PlacedAt c.args.words.now c.deref.result.now k
placed c k lt = rw c.deref.ensures.0 (c.chunk_places-places.ensures.placed k (omega (arith, size c)))

pub sheet_lines-requires : goal.sheet_lines-requires
sheet_lines-requires c =
    let at = (goal.at.sheet_lines-requires c).After-deref in
    let calls : Calls = record { words = c.args.words; places = c.deref.result } in
    (rw c.deref-2.ensures.0 (ordering calls (words at) (placed at) c.in_ok-order.field-0 c.in_ok-order.ensures), rw (size at) c.requires.1)
