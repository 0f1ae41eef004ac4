-- How the search's state shows its lists: before any visit, where a visit is opened, where its chunk is listed; and what a visit's answer tells.
-- Assumes nothing.
use mathlib.Core.Path.{◌≡◌, refl, sym, ap, ◌∙◌}
use mathlib.Core.Bool.{true, false}
use mathlib.Core.List.{List, [], ◌∷◌, ◌++◌}
use mathlib.Core.Logic.{⊎_elim}
use Prim.Native.Nat.{ℕ, ◌<◌, ◌≤◌}
use native.Mathlib.Omega.{arith}
use borrow.Author.Tests.{ne_eqb}
use lib.ListN.{length, get_or, set, replicate, length-append, length-set, get_or-replicate}
use Rattle.std.specs.Prelude.{Ok, Err}
use Rattle.arrayvec.specs.ArrayVec.{ArrayVec}
use Rattle.rules.specs.Order.{Listing, listed, ring, member}
use Rattle.rules.proofs.Members.{none, apart, not-nil, in_cons, in_head, in_tail, in_behind, in_more, distinct_more, pigeonhole}
use Rattle.words.proofs.Cases.{set_shows}
use Rattle.order.specs.declared.visit.Ring.{Ring}
use Rattle.order.specs.declared.visit.Search.{Search}
use Rattle.order.specs.Search.{Shows, Shown}

-- another number than the one in front is a member where it was one before
member-cons : (k c : ℕ) (xs : List ℕ) → (k ≡ c → ⊥) → member k (c ∷ xs) ≡ member k xs
unfolding member
member-cons k c xs h = simp (ne_eqb k c h)

-- the same of another number than the one at the end
member_more : (k c : ℕ) (xs : List ℕ) → (k ≡ c → ⊥) → member k (xs ++ (c ∷ [])) ≡ member k xs
unfolding member
member_more k c [] h = member-cons k c [] h
member_more k c (x ∷ xs) h = rw (member_more k c xs h)

-- before any chunk is visited
abbrev pub begun : ArrayVec ℕ → Search
begun order = record { seen = replicate 256 false; active = replicate 256 false; order = order }

-- with an empty list, it shows no open visit and no listed chunk
pub shows_begun : (order : ArrayVec ℕ) → order.items ≡ [] → (n : ℕ) → n ≤ 256 → Shows (begun order) n [] []
shows_begun order none_yet n few =
    let blank : (k : ℕ) → k < n → get_or (replicate 256 false) k false ≡ member k [] =
    λ k lt. get_or-replicate 256 k false false (omega arith) ∙ sym (none k [] (not-nil k)) in
    record {
      seen = blank;
      active = blank;
      order = none_yet;
      once = tt;
      chunks = λ k h. absurd (not-nil k h);
      open_chunks = λ k h. absurd (not-nil k h);
      apart = λ k h. absurd (not-nil k h);
      sized = record { seen = refl; active = refl };
    }

-- the visit of chunk c is opened
abbrev pub opening : ℕ → Search → Search
opening c s = record { seen = s.seen; active = set s.active c true; order = s.order }

-- the visit of chunk c is closed, and c is listed
abbrev pub listing : ℕ → Search → ArrayVec ℕ → Search
listing c t order = record { seen = set t.seen c true; active = set t.active c false; order = order }

module _ (n c : ℕ) (few : n ≤ 256) (s : Search) (opened done : List ℕ) where
  -- a chunk that is not listed is opened
  pub shows_opening : c < n → member c done ≡ false → Shows s n opened done → Shows (opening c s) n (c ∷ opened) done
  shows_opening lt new h =
      let a = h.sized.active in
      record {
        seen = h.seen;
        active = λ k m. set_shows (λ j. member j (c ∷ opened)) s.active c _ _ (omega arith) (sym (in_head c c opened refl)) k
            (λ o. h.active k m ∙ sym (member-cons k c opened o));
        order = h.order;
        once = h.once;
        chunks = h.chunks;
        open_chunks = λ k m. ⊎_elim (λ e. rw e lt) (h.open_chunks k) (in_cons k c opened m);
        apart = λ k m. ⊎_elim (λ e. rw e new) (h.apart k) (in_cons k c opened m);
        sized = record { seen = h.sized.seen; active = length-set s.active c true ∙ a };
      }

  module _ (h : Shows s n (c ∷ opened) done) where
    -- the open chunk is not listed
    new : member c done ≡ false
    new = h.apart c (in_head c c opened refl)

    -- with it the list has chunks of the module alone
    below : (k : ℕ) → member k (done ++ (c ∷ [])) ≡ true → k < n
    below k m = ⊎_elim (h.chunks k) (λ e. rw e (h.open_chunks c (in_head c c opened refl))) (in_more k c done m)

    -- so there is room for it
    pub has_room : length s.order.items < 256
    has_room =
        let p = pigeonhole n (done ++ (c ∷ [])) (distinct_more done c h.once new) below in
        rw h.order (omega (arith, length-append done (c ∷ [])))

    -- an open chunk is listed
    pub shows_listing : (order : ArrayVec ℕ) → order.items ≡ s.order.items ++ (c ∷ []) → member c opened ≡ false
        → Shows (listing c s order) n opened (done ++ (c ∷ []))
    shows_listing order e shut =
        let a = h.sized.seen in
        let b = h.sized.active in
        let lt = h.open_chunks c (in_head c c opened refl) in
        let last = in_behind c done (c ∷ []) (in_head c c [] refl) in
        record {
          seen = λ k m. set_shows (λ j. member j (done ++ (c ∷ []))) s.seen c _ _ (omega arith) (sym last) k (λ e. h.seen k m ∙ sym (member_more k c done e));
          active = λ k m. set_shows (λ j. member j opened) s.active c _ _ (omega arith) (sym shut) k (λ e. h.active k m ∙ member-cons k c opened e);
          order = e ∙ rw h.order;
          once = distinct_more done c h.once new;
          chunks = below;
          open_chunks = λ k m. h.open_chunks k (in_tail k c opened m);
          apart = λ k m. none k (done ++ (c ∷ []))
              (λ i. ⊎_elim (apart k done (h.apart k (in_tail k c opened m))) (λ e. apart c opened shut (rw (← e) m)) (in_more k c done i));
          sized = record { seen = length-set s.seen c true ∙ a; active = length-set s.active c false ∙ b };
        }

-- a state that shows a list shows its own
pub shows_own : {s : Search} {n : ℕ} {opened done : List ℕ} → Shows s n opened done → Shows s n opened s.order.items
shows_own {s} {n} {opened} h = rw (← h.order) at h

-- what a visit's answer tells of the listing that it shows
module _ (n : ℕ) (opened : List ℕ) where
  -- a state tells its own list
  pub told_listed : (s : Search) (l : Listing) → Shown (Ok s) n opened l → Shows s n opened s.order.items × (l ≡ listed s.order.items)
  told_listed s (listed d) h = (shows_own h, ap listed (sym h.order))
  told_listed s (ring c) h = absurd h

  -- a ring tells its chunk
  pub told_ring : (r : Ring) (l : Listing) → Shown (Err r) n opened l → (r.chunk < n) × (l ≡ ring r.chunk)
  told_ring r (listed d) h = absurd h
  told_ring r (ring c) h = (omega arith, ap ring (sym h.0))
