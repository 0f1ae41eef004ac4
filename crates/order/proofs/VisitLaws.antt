-- What each way out of a chunk's visit shows: no number left, an open chunk, a listed one, a ring inside, and the chunk listed.
-- Assumes nothing.
use mathlib.Core.Path.{◌≡◌, refl, sym, ◌∙◌}
use mathlib.Core.Bool.{true, false}
use mathlib.Core.List.{List, [], ◌∷◌, ◌++◌}
use Prim.Native.Nat.{ℕ, zero, suc, ◌+◌, ◌-◌, ◌<◌, ◌≤◌}
use native.Mathlib.Numerals.{sub-one}
use native.Mathlib.Omega.{arith}
use lib.ListN.{length, get_or}
use Rattle.std.specs.Prelude.{Ok, Err}
use Rattle.rules.specs.Ops.{kind, field_a}
use Rattle.rules.specs.Form.{Chunk}
use Rattle.rules.specs.Order.{listed, on_listed, member, chunk_at, callees_of, visit_each, by_marks, visit}
use Rattle.rules.proofs.Members.{none, apart}
use Rattle.rules.proofs.ReadingAgrees.{read_words}
use Rattle.words.specs.Parts.{parts_at, part_of, chunks_in, head_at, PartsOf}
use Rattle.words.proofs.PartLaws.{chunk_parts}
use Rattle.words.specs.Places.{nowhere}
use Rattle.words.specs.declared.heads.ChunkPlace.{ChunkPlace}
use Rattle.arrayvec.specs.ArrayVec.{ArrayVec}
use Rattle.order.specs.declared.visit.Calls.{Calls}
use Rattle.order.specs.declared.visit.Ring.{Ring}
use Rattle.order.specs.declared.visit.Search.{Search}
use Rattle.order.specs.Search.{Readable, Located, Searchable, Shows}
use Rattle.order.proofs.MarkLaws.{opening, listing, has_room, shows_opening, shows_listing}
use Rattle.order.proofs.ScanLaws.{Visited, scan, Rest, rest_visits, rest_ring, rest_end}

-- what a visit comes to by the marks, where a number is left
visit_some : (cs : List Chunk) (opened : List ℕ) (c : ℕ) (done : List ℕ) (left : ℕ) → (left ≡ 0 → ⊥)
    → visit cs left opened c done
    ≡ by_marks (member c opened) (member c done) c done
    (λ k. on_listed (visit_each (λ e d. visit cs (left - 1) (k ∷ opened) e d) (length cs) (callees_of cs k) done) (λ d. listed (d ++ (k ∷ []))))
unfolding visit
visit_some cs opened c done zero some = absurd (some refl)
visit_some cs opened c done (suc l) some = rw sub-one

-- there are at most 256 chunks
pub few-chunks : {ws : List ℕ} {n : ℕ} → Readable ws n → n ≤ 256
few-chunks {ws} words = omega (arith, (read_words ws (chunks_in ws) words.reads).1.most, words.chunks)

-- where a chunk stands, by the table, and its ops by that place
abbrev pub place_of : Calls → ℕ → ChunkPlace
place_of calls c = get_or calls.places.now c nowhere

abbrev pub ops_of : Calls → ℕ → List ℕ
ops_of calls c = part_of (place_of calls c).ops (place_of calls c).extras calls.words.now

module _ {calls : Calls} (p : Located calls) (c : ℕ) (lt : c < length calls.places.now) where
  -- the parts at its place are those of the definition's chunk
  parts : PartsOf calls.words.now (parts_at calls.words.now (head_at (chunks_in calls.words.now) c)) (chunk_at (chunks_in calls.words.now) c)
  parts = chunk_parts calls.words.now (chunks_in calls.words.now) p.words.reads c (rw p.words.chunks at lt)

  -- its ops end where its extras begin, within the words
  pub ops_within : ((place_of calls c).ops ≤ (place_of calls c).extras) × ((place_of calls c).extras ≤ length calls.words.now)
  ops_within = rw (p.ops_at c lt, p.extras_at c lt) (parts.ops_next, omega (arith, parts.extras-last, parts.within))

  -- its ops are the definition's
  ops_there : ops_of calls c ≡ (chunk_at (chunks_in calls.words.now) c).ops
  ops_there = rw (p.ops_at c lt, p.extras_at c lt) parts.ops

module _ {calls : Calls} {c : ℕ} {s : Search} (p : Searchable calls c s) (left : ℕ) where
  -- a visit with no number left is a ring
  pub visited_none : left ≡ 0 → Visited calls left c s (Err (record { chunk = c }))
  unfolding visit
  visited_none e opened done h = rw e (refl, p.chunk)

  -- the visit of a chunk that is open already is a ring
  pub visited_open : (left ≡ 0 → ⊥) → get_or s.active c false ≡ true → Visited calls left c s (Err (record { chunk = c }))
  visited_open some e opened done h =
      rw (visit_some (chunks_in calls.words.now) opened c done left some, sym (h.active c p.chunk) ∙ e) (refl, p.chunk)

  -- a listed chunk is not open, so its visit leaves the state
  pub visited_listed : (left ≡ 0 → ⊥) → get_or s.seen c false ≡ true → Visited calls left c s (Ok s)
  visited_listed some e opened done h =
      let there : member c done ≡ true = sym (h.seen c p.chunk) ∙ e in
      let shut = none c opened (λ i. apart c done (h.apart c i) there) in
      rw (visit_some (chunks_in calls.words.now) opened c done left some, shut, there) h

-- what is known where the visit of chunk c is opened
pub record Opens (calls : Calls) (left c : ℕ) (s : Search) : Type 0 where
  pub asked : Searchable calls c s
  pub some : left ≡ 0 → ⊥
  pub shut : get_or s.active c false ≡ false
  pub new : get_or s.seen c false ≡ false

module _ {calls : Calls} {left c : ℕ} {s : Search} (o : Opens calls left c s) where
  -- it is one of the chunks
  below : c < length calls.places.now
  below = o.asked.chunk

  -- of which there are at most 256
  few : length calls.places.now ≤ 256
  few = few-chunks o.asked.places.words

  -- where its calls begin to be scanned, the state shows it among the open chunks
  starts : (opened done : List ℕ) → Shows s (length calls.places.now) opened done → Shows (opening c s) (length calls.places.now) (c ∷ opened) done
  starts opened done h = shows_opening (length calls.places.now) c few s opened done below (sym (h.seen c below) ∙ o.new) h

  -- its visit scans its calls, and then lists it
  whole : (opened done : List ℕ) → Shows s (length calls.places.now) opened done
      → visit (chunks_in calls.words.now) left opened c done
      ≡ on_listed (scan calls (left - 1) (c ∷ opened) (ops_of calls c) done) (λ d. listed (d ++ (c ∷ [])))
  whole opened done h =
      rw (ops_there o.asked.places c below, o.asked.places.words.chunks)
      (visit_some (chunks_in calls.words.now) opened c done left o.some ∙ rw (sym (h.active c below) ∙ o.shut, sym (h.seen c below) ∙ o.new))

  module _ {i : ℕ} {t : Search} (rest : Rest calls (left - 1) c (opening c s) (ops_of calls c) i t) where
    -- while the calls are scanned the state shows the open visits
    shown : Shows t (length calls.places.now) (c ∷ o.asked.opened) t.order.items
    shown = (rest.gives o.asked.opened o.asked.done (starts o.asked.opened o.asked.done o.asked.shows)).0

    -- so the callees can be visited
    pub inside : (k : ℕ) → k < length calls.places.now → Searchable calls k t
    inside k lt = record { places = o.asked.places; chunk = lt; opened = c ∷ o.asked.opened; done = t.order.items; shows = shown }

    -- and there is room for the chunk
    pub room : length t.order.items < 256
    room = has_room (length calls.places.now) c few t o.asked.opened t.order.items shown

    module _ (more : i < length (ops_of calls c)) (call : kind (get_or (ops_of calls c) i 0) ≡ 30)
        (lt : field_a (get_or (ops_of calls c) i 0) < length calls.places.now) where
      -- a call of a chunk that is listed already
      pub passes : (left - 1 ≡ 0 → ⊥) → get_or t.seen (field_a (get_or (ops_of calls c) i 0)) false ≡ true
          → Rest calls (left - 1) c (opening c s) (ops_of calls c) (i + 1) t
      passes some e = rest_visits rest more call lt (visited_listed (inside _ lt) (left - 1) some e)

      -- a call that meets a ring
      pub visited_ring : (r : Ring) → Visited calls (left - 1) (field_a (get_or (ops_of calls c) i 0)) t (Err r) → Visited calls left c s (Err r)
      visited_ring r visited opened done h =
          let m = rest_ring rest more call lt visited opened done (starts opened done h) in
          rw (whole opened done h, m.1) (refl, m.0)

    -- all calls are visited: the chunk is listed
    pub visited_end : length (ops_of calls c) ≤ i → (order : ArrayVec ℕ) → order.items ≡ t.order.items ++ (c ∷ [])
        → Visited calls left c s (Ok (listing c t order))
    visited_end over order e opened done h =
        let r = rest_end rest over opened done (starts opened done h) in
        rw (whole opened done h, r.1)
        (shows_listing (length calls.places.now) c few t opened t.order.items r.0 order e (sym (h.active c below) ∙ o.shut))
