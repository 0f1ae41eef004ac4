-- The search over all chunks from 0 up: the visits of the chunks from c on give the whole.
-- Assumes nothing.
use mathlib.Core.Path.{◌≡◌, refl, ap, ◌∙◌}
use mathlib.Core.Bool.{true, false}
use mathlib.Core.List.{List, []}
use Prim.Native.Nat.{ℕ, suc, ◌+◌, ◌-◌, ◌<◌, ◌≤◌}
use native.Mathlib.Numerals.{add-one}
use native.Mathlib.Omega.{arith}
use borrow.Author.Tests.{lt-ltb}
use lib.ListN.{length, get_or}
use Rattle.std.specs.Prelude.{Ok, Err}
use Rattle.rules.specs.Order.{Listing, on_listed, visit_each, visit, up_from, call_order}
use Rattle.words.specs.Parts.{chunks_in}
use Rattle.order.specs.declared.visit.Calls.{Calls}
use Rattle.order.specs.declared.visit.Ring.{Ring}
use Rattle.order.specs.declared.visit.Search.{Search}
use Rattle.order.specs.Search.{Readable, Searchable, Shows, Shown}
use Rattle.order.proofs.MarkLaws.{shows_own, told_listed, told_ring}
use Rattle.order.proofs.ScanLaws.{Visited}
use Rattle.order.proofs.VisitLaws.{visited_listed}

-- the visits of the chunks from c on
abbrev visits : Calls → ℕ → List ℕ → Listing
visits calls c d =
    let n = length calls.places.now in
    visit_each (λ k e. visit (chunks_in calls.words.now) (n + 1) [] k e) n (up_from c (n - c)) d

-- The state shows a list from which the visits of the chunks from c on give the whole.
pub record Walk (calls : Calls) (c : ℕ) (s : Search) : Type 0 where
  pub shows : Shows s (length calls.places.now) [] s.order.items
  pub gives : call_order (chunks_in calls.words.now) ≡ visits calls c s.order.items

-- before any chunk is visited all the visits are to come
pub walk_begins : {calls : Calls} {s : Search} → Readable calls.words.now (length calls.places.now) → Shows s (length calls.places.now) [] []
    → Walk calls 0 s
walk_begins {calls} {s} words h =
    let e : length calls.places.now - 0 ≡ length calls.places.now = omega arith in
    record { shows = shows_own h; gives = rw (h.order, e, words.chunks, add-one (length (chunks_in calls.words.now))) }

-- the visit of chunk c comes first
visits_next : (calls : Calls) (c : ℕ) (d : List ℕ) → c < length calls.places.now
    → visits calls c d ≡ on_listed (visit (chunks_in calls.words.now) (length calls.places.now + 1) [] c d) (λ e. visits calls (c + 1) e)
unfolding visit_each up_from
visits_next calls c d h =
    let e : length calls.places.now - c ≡ suc (length calls.places.now - (c + 1)) = omega arith in
    rw e (simp (lt-ltb c (length calls.places.now) h, add-one c))

module _ {calls : Calls} {c : ℕ} {s : Search} (w : Walk calls c s) where
  module _ (more : c < length calls.places.now) where
    -- after a visit that gives a list, those of the chunks behind it are to come
    pub walk_on : {r : Search} → Visited calls (length calls.places.now + 1) c s (Ok r) → Walk calls (c + 1) r
    walk_on {r} visited =
        let v = told_listed (length calls.places.now) [] r (visit (chunks_in calls.words.now) (length calls.places.now + 1) [] c s.order.items)
        (visited [] s.order.items w.shows) in
        record {
          shows = v.0;
          gives = w.gives ∙ visits_next calls c s.order.items more ∙ ap (λ (l : Listing). on_listed l (λ d. visits calls (c + 1) d)) v.1;
        }

    -- a visit that meets a ring is the last
    pub walk_ring : (r : Ring) → Visited calls (length calls.places.now + 1) c s (Err r)
        → Shown (Err r) (length calls.places.now) [] (call_order (chunks_in calls.words.now))
    walk_ring r visited =
        let v = told_ring (length calls.places.now) [] r (visit (chunks_in calls.words.now) (length calls.places.now + 1) [] c s.order.items)
        (visited [] s.order.items w.shows) in
        rw (w.gives ∙ visits_next calls c s.order.items more, v.1) (refl, v.0)

  -- a chunk that is listed already needs no visit
  pub walk_past : Searchable calls c s → get_or s.seen c false ≡ true → Walk calls (c + 1) s
  walk_past p e = walk_on p.chunk (visited_listed p (length calls.places.now + 1) (λ z. omega arith) e)

  -- where all chunks are visited, the state shows the whole
  pub walk_end : length calls.places.now ≤ c → Shown (Ok s) (length calls.places.now) [] (call_order (chunks_in calls.words.now))
  unfolding visit_each up_from
  walk_end over =
      let e : length calls.places.now - c ≡ 0 = omega arith in
      rw (w.gives, e) w.shows
