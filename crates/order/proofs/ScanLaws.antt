-- The scan of a chunk's ops for calls, said of the state that shows the lists: one op more, a visit that meets a ring, and the end.
-- Assumes nothing.
use mathlib.Core.Path.{◌≡◌, ap, ◌∙◌}
use mathlib.Core.List.{List, ◌∷◌}
use Prim.Native.Nat.{ℕ, ◌+◌, ◌<◌, ◌≤◌}
use native.Mathlib.Numerals.{add-one}
use borrow.Author.Tests.{eq-eqb, ne_eqb, lt-ltb, le-ltb}
use lib.ListN.{length, get_or, drop}
use lib.Seq.{drop-cons}
use Rattle.std.specs.Prelude.{Result, Ok, Err}
use Rattle.std.proofs.lemmas.List.{drop_all}
use Rattle.rules.specs.Ops.{kind, field_a}
use Rattle.rules.specs.Order.{Listing, listed, ring, on_listed, callees_in, visit_each, visit}
use Rattle.words.specs.Parts.{chunks_in}
use Rattle.words.proofs.Cases.{split}
use Rattle.order.specs.declared.visit.Calls.{Calls}
use Rattle.order.specs.declared.visit.Ring.{Ring}
use Rattle.order.specs.declared.visit.Search.{Search}
use Rattle.order.specs.Search.{Shows, Shown}
use Rattle.order.proofs.MarkLaws.{shows_own, told_listed, told_ring}

-- the visits that the ops ask for, with one op more in front
module _ (v : ℕ → List ℕ → Listing) (n w : ℕ) (ws d : List ℕ) where
  -- no call, or a call of no chunk: the visits are those behind it
  skip_op : (kind w ≡ 30 → n ≤ field_a w) → visit_each v n (callees_in (w ∷ ws)) d ≡ visit_each v n (callees_in ws) d
  unfolding visit_each callees_in
  skip_op h = split (kind w) 30 (λ e. simp (eq-eqb (kind w) 30 e, le-ltb (field_a w) n (h e))) (λ o. simp (ne_eqb (kind w) 30 o))

  -- a call: its callee's visit comes first
  call_op : kind w ≡ 30 → field_a w < n → visit_each v n (callees_in (w ∷ ws)) d ≡ on_listed (v (field_a w) d) (λ e. visit_each v n (callees_in ws) e)
  unfolding visit_each callees_in
  call_op e lt = simp (eq-eqb (kind w) 30 e, lt-ltb (field_a w) n lt)

-- What a visit of chunk c gives, by its contract.
abbrev pub Visited : Calls → ℕ → ℕ → Search → Result Search Ring → Type 0
Visited calls left c s r =
    (opened done : List ℕ) → Shows s (length calls.places.now) opened done
    → Shown r (length calls.places.now) opened (visit (chunks_in calls.words.now) left opened c done)

-- the visits of the chunks that these ops call
abbrev pub scan : Calls → ℕ → List ℕ → List ℕ → List ℕ → Listing
scan calls left opened ops d = visit_each (λ e d. visit (chunks_in calls.words.now) left opened e d) (length calls.places.now) (callees_in ops) d

-- The scan inside the visit of chunk c: what is left of it behind i ops, from the list that the state shows, gives the whole.
pub record Rest (calls : Calls) (left c : ℕ) (t₀ : Search) (ops : List ℕ) (i : ℕ) (t : Search) : Type 0 where
  pub gives : (opened done : List ℕ) → Shows t₀ (length calls.places.now) (c ∷ opened) done
      → Shows t (length calls.places.now) (c ∷ opened) t.order.items
      × (scan calls left (c ∷ opened) ops done ≡ scan calls left (c ∷ opened) (drop i ops) t.order.items)

module _ {calls : Calls} {left c : ℕ} {t₀ : Search} {ops : List ℕ} where
  -- no op is scanned yet
  pub rest_begins : Rest calls left c t₀ ops 0 t₀
  rest_begins = record { gives = λ opened done s. (shows_own s, rw (← s.order)) }

  module _ {i : ℕ} {t : Search} (rest : Rest calls left c t₀ ops i t) where
    -- an op that calls no chunk of the module
    pub rest_skips : i < length ops → (kind (get_or ops i 0) ≡ 30 → length calls.places.now ≤ field_a (get_or ops i 0))
        → Rest calls left c t₀ ops (i + 1) t
    rest_skips more h =
        record {
          gives = λ opened done s.
              let r = rest.gives opened done s in
              (r.0, r.1 ∙ rw (drop-cons ops i 0 more, add-one i) (skip_op _ (length calls.places.now) (get_or ops i 0) _ t.order.items h));
        }

    module _ (more : i < length ops) (call : kind (get_or ops i 0) ≡ 30) (below : field_a (get_or ops i 0) < length calls.places.now) where
      -- the callee's visit, and the scan of what is behind the call
      called : (r : Result Search Ring) → Visited calls left (field_a (get_or ops i 0)) t r → (opened done : List ℕ)
          → Shows t₀ (length calls.places.now) (c ∷ opened) done
          → (l : Listing) × Shown r (length calls.places.now) (c ∷ opened) l
          × (scan calls left (c ∷ opened) ops done ≡ on_listed l (λ d. scan calls left (c ∷ opened) (drop (i + 1) ops) d))
      called r visited opened done s =
          let g = rest.gives opened done s in (
            visit (chunks_in calls.words.now) left (c ∷ opened) (field_a (get_or ops i 0)) t.order.items,
            visited (c ∷ opened) t.order.items g.0,
            g.1 ∙ rw (drop-cons ops i 0 more, add-one i) (call_op _ (length calls.places.now) (get_or ops i 0) _ t.order.items call below),
          )

      -- a call whose visit gives a list
      pub rest_visits : {u : Search} → Visited calls left (field_a (get_or ops i 0)) t (Ok u) → Rest calls left c t₀ ops (i + 1) u
      rest_visits {u} visited =
          record {
            gives = λ opened done s.
                let v = called (Ok u) visited opened done s in
                let r = told_listed (length calls.places.now) (c ∷ opened) u v.0 v.1 in
                (r.0, v.2 ∙ ap (λ (l : Listing). on_listed l (λ d. scan calls left (c ∷ opened) (drop (i + 1) ops) d)) r.1);
          }

      -- a ring ends the scan
      pub rest_ring : {r : Ring} → Visited calls left (field_a (get_or ops i 0)) t (Err r) → (opened done : List ℕ)
          → Shows t₀ (length calls.places.now) (c ∷ opened) done
          → (r.chunk < length calls.places.now) × (scan calls left (c ∷ opened) ops done ≡ ring r.chunk)
      rest_ring {r} visited opened done s =
          let v = called (Err r) visited opened done s in
          let e = told_ring (length calls.places.now) (c ∷ opened) r v.0 v.1 in
          (e.0, v.2 ∙ rw e.1)

    -- no op is left
    pub rest_end : length ops ≤ i → (opened done : List ℕ) → Shows t₀ (length calls.places.now) (c ∷ opened) done
        → Shows t (length calls.places.now) (c ∷ opened) t.order.items × (scan calls left (c ∷ opened) ops done ≡ listed t.order.items)
    unfolding visit_each callees_in
    rest_end over opened done s =
        let r = rest.gives opened done s in
        (r.0, r.1 ∙ rw (drop_all i ops over))
