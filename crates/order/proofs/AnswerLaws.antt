-- What the search over all chunks answers: all chunks listed, and what the order's entry point is then to answer; or a ring.
-- Assumes nothing.
use mathlib.Core.Path.{◌≡◌, ap}
use mathlib.Core.List.{List, []}
use Prim.Native.Nat.{ℕ, ◌<◌, ◌≤◌}
use native.Mathlib.Omega.{arith}
use borrow.Author.Tests.{le-leb}
use lib.ListN.{length}
use Rattle.std.specs.Prelude.{Ok, Err}
use Rattle.rules.specs.Outcome.{answer}
use Rattle.rules.specs.Order.{listed, ring, call_order}
use Rattle.rules.specs.Sheet.{ring_outcome, order_outcome}
use Rattle.rules.proofs.Members.{pigeonhole}
use Rattle.rules.proofs.CallOrder.{order_sound}
use Rattle.words.specs.Parts.{chunks_in}
use Rattle.order.specs.declared.visit.Calls.{Calls}
use Rattle.order.specs.declared.visit.Ring.{Ring}
use Rattle.order.specs.declared.visit.Search.{Search}
use Rattle.order.specs.Search.{Readable, Located, Shows, Shown}
use Rattle.order.proofs.MarkLaws as marks
use Rattle.order.proofs.CoverLaws.{covers}

module _ {ws : List ℕ} {n : ℕ} (words : Readable ws n) (s : Search) (shown : Shown (Ok s) n [] (call_order (chunks_in ws))) where
  -- every chunk is listed once, so there are n of them
  pub every_chunk : Shows s n [] s.order.items × (call_order (chunks_in ws) ≡ listed s.order.items) × (length s.order.items ≡ n)
  every_chunk =
      let d = s.order.items in
      let (h, is) = marks.told_listed n [] s (call_order (chunks_in ws)) shown in
      let most = pigeonhole n d h.once h.chunks in
      let least = covers n d (λ k lt. (order_sound (chunks_in ws) d is).every k (omega (arith, words.chunks))) in
      (h, is, omega arith)

  -- where there is room for them, their list is the answer
  pub all_listed : (room : ℕ) → n ≤ room → order_outcome ws room ≡ answer s.order.items
  all_listed room fits = rw (words.reads, le-leb (length (chunks_in ws)) room (omega (arith, words.chunks))) (ap ring_outcome every_chunk.1)

-- what the answer of a search over located chunks tells
module _ {calls : Calls} (located : Located calls) where
  -- the order is a list of every chunk
  pub all_chunks : {s : Search} → Shown (Ok s) (length calls.places.now) [] (call_order (chunks_in calls.words.now))
      → Shows s (length calls.places.now) [] s.order.items × (call_order (chunks_in calls.words.now) ≡ listed s.order.items)
      × (length s.order.items ≡ length calls.places.now)
  all_chunks {s} shown = every_chunk located.words s shown

  -- a ring is the definition's, and its chunk is one of the chunks
  pub told_ring : {r : Ring} → Shown (Err r) (length calls.places.now) [] (call_order (chunks_in calls.words.now))
      → (call_order (chunks_in calls.words.now) ≡ ring r.chunk) × (r.chunk < length calls.places.now)
  told_ring {r} shown =
      let t = marks.told_ring (length calls.places.now) [] r (call_order (chunks_in calls.words.now)) shown in
      (t.1, t.0)
