-- An answered order has every chunk once, behind the chunks that it calls; an answered ring is a chain of calls from a chunk to itself.
-- Assumes nothing.
use mathlib.Core.Path.{◌≡◌, refl}
use mathlib.Core.Bool.{Bool, true, false}
use mathlib.Core.List.{List, [], ◌∷◌, ◌++◌}
use mathlib.Core.Logic.{◌⊎◌, inl, inr, ⊎_elim}
use Prim.Native.Nat.{ℕ, zero, suc, ◌+◌, ◌<◌}
use native.Mathlib.Omega.{arith}
use borrow.Author.Tests.{ltb-true, ltb-false}
use lib.Dec.{ltb}
use lib.ListN.{length}
use Rattle.rules.specs.Form.{Chunk}
use Rattle.rules.specs.Order.{Listing, listed, ring, on_listed, member, callees_of, visit_if, visit_each, by_marks, visit, up_from, call_order}
use Rattle.rules.specs.Order.{Calls, Chain, link, onward, Distinct, Ordered}
use Rattle.rules.proofs.Members.{In, none, apart, not-nil, in_cons, in_head, in_tail, in_front, in_behind, in_more}
use Rattle.rules.proofs.Members.{distinct_more, last-or-before, in_up_from, pigeonhole}

abbrev Visit : Type 0
Visit = ℕ → List ℕ → Listing

-- what a list that was answered tells
from_listed : (p : Listing) (next : List ℕ → Listing) {d : List ℕ} → on_listed p next ≡ listed d → (m : List ℕ) × (p ≡ listed m) × (next m ≡ listed d)
from_listed (listed m) next e = (m, refl, e)
from_listed (ring c) next e = absurd (let z : ◌≡◌ {A = ℕ} 0 1 = cc in omega arith)

from_marks : (a b : Bool) (c : ℕ) (done : List ℕ) (walk : ℕ → Listing) {d : List ℕ} → by_marks a b c done walk ≡ listed d
    → (a ≡ false) × (((b ≡ true) × (d ≡ done)) ⊎ ((b ≡ false) × (walk c ≡ listed d)))
from_marks true b c done walk e = absurd (let z : ◌≡◌ {A = ℕ} 0 1 = cc in omega arith)
from_marks false true c done walk e = (refl, inl (refl, cc))
from_marks false false c done walk e = (refl, inr (refl, e))

-- what holds of the chunks listed while the visits of `opened` are open
record Good (cs : List Chunk) (opened done : List ℕ) : Type 0 where
  only : (c : ℕ) → In c done → c < length cs
  once : Distinct done
  behind : (xs ys : List ℕ) (c k : ℕ) → done ≡ xs ++ (c ∷ ys) → Calls cs c k → In k xs
  closed : (c : ℕ) → In c opened → In c done → ⊥

-- a longer list of which the same holds
record Grown (cs : List Chunk) (opened done d : List ℕ) : Type 0 where
  good : Good cs opened d
  kept : (c : ℕ) → In c done → In c d

-- a chunk all of whose callees are listed may be listed
list_one : (cs : List Chunk) (opened d : List ℕ) (c : ℕ) → c < length cs → (In c opened → ⊥) → Good cs (c ∷ opened) d
    → ((k : ℕ) → Calls cs c k → In k d) → Good cs opened (d ++ (c ∷ []))
list_one cs opened d c lt shut g callees =
    let missing = none c d (λ h. g.closed c (in_head c c opened refl) h) in
    record {
      only = λ e h. ⊎_elim (g.only e) (λ same. rw same lt) (in_more e c d h);
      once = distinct_more d c g.once missing;
      behind = λ xs ys e k split calls.
          ⊎_elim (λ a. rw a.0 (callees k (rw (← a.1) calls))) (λ b. g.behind xs b.0 e k b.1 calls) (last-or-before d xs ys c e split);
      closed = λ e o h. ⊎_elim (g.closed e (in_tail e c opened o)) (λ same. shut (rw (← same) o)) (in_more e c d h);
    }

module _ (cs : List Chunk) where
  same : (opened done d : List ℕ) → d ≡ done → Good cs opened done → Grown cs opened done d
  same opened done d e g = record { good = rw e g; kept = λ c h. rw e h }

  -- a visit that lists its chunk and keeps what holds
  abbrev Works : List ℕ → Visit → Type 0
  Works opened v = (c : ℕ) (done d : List ℕ) → c < length cs → Good cs opened done → v c done ≡ listed d → Grown cs opened done d × In c d

  each_works : (opened : List ℕ) (v : Visit) → Works opened v → (ks done d : List ℕ) → Good cs opened done → visit_each v (length cs) ks done ≡ listed d
      → Grown cs opened done d × ((k : ℕ) → k < length cs → In k ks → In k d)
  unfolding visit_each
  each_works opened v works [] done d g e = (same opened done d (cc) g, λ k lt h. absurd (not-nil k h))
  each_works opened v works (k ∷ ks) done d g e =
      let a = from_listed (visit_if (ltb k (length cs)) v k done) _ e in
      let first = go a.0 (ltb k (length cs)) refl a.1 in
      let more = each_works opened v works ks a.0 d first.0.good a.2 in (
        record { good = more.0.good; kept = λ c h. more.0.kept c (first.0.kept c h) },
        λ c lt h. ⊎_elim (λ e. more.0.kept c (rw e (first.1 (omega arith)))) (more.1 c lt) (in_cons c k ks h),
      )
    where
      go : (m : List ℕ) (b : Bool) → ltb k (length cs) ≡ b → visit_if b v k done ≡ listed m → Grown cs opened done m × (k < length cs → In k m)
      go m true lt w =
          let r = works k done m (ltb-true k (length cs) lt) g w in
          (r.0, λ h. r.1)
      go m false lt w = (same opened done m (cc) g, λ h. absurd (omega (arith, ltb-false k (length cs) lt)))

  -- the callees' visits, and then the chunk itself
  open_works : (opened : List ℕ) (c : ℕ) (v : Visit) → Works (c ∷ opened) v → (done d : List ℕ) → c < length cs → Good cs opened done
      → member c opened ≡ false → member c done ≡ false → on_listed (visit_each v (length cs) (callees_of cs c) done) (λ d. listed (d ++ (c ∷ []))) ≡ listed d
      → Grown cs opened done d × In c d
  open_works opened c v works done d lt g o m e =
      let start : Good cs (c ∷ opened) done =
      record {
        only = g.only;
        once = g.once;
        behind = g.behind;
        closed = λ k h. ⊎_elim (λ s. rw s (apart c done m)) (g.closed k) (in_cons k c opened h);
      } in
      let a = from_listed (visit_each v (length cs) (callees_of cs c) done) _ e in
      let r = each_works (c ∷ opened) v works (callees_of cs c) done a.0 start a.1 in
      let more : d ≡ a.0 ++ (c ∷ []) = cc in
      rw more (
        record {
          good = list_one cs opened a.0 c lt (apart c opened o) r.0.good (λ k calls. r.1 k calls.0 calls.1);
          kept = λ k h. in_front k a.0 (c ∷ []) (r.0.kept k h);
        },
        in_behind c a.0 (c ∷ []) (in_head c c [] refl),
      )

  visit_works : (f : ℕ) (opened : List ℕ) → Works opened (λ c done. visit cs f opened c done)
  unfolding visit
  visit_works zero opened c done d lt g e = absurd (let z : ◌≡◌ {A = ℕ} 0 1 = cc in omega arith)
  visit_works (suc f) opened c done d lt g e =
      let a = from_marks (member c opened) (member c done) c done _ e in
      let works = visit_works f (c ∷ opened) in
      ⊎_elim (λ s. (same opened done d s.1 g, rw s.1 s.0)) (λ s. open_works opened c _ works done d lt g a.0 s.0 s.1) a.1

pub order_sound : (cs : List Chunk) (order : List ℕ) → call_order cs ≡ listed order → Ordered cs order
order_sound cs order e =
    let start : Good cs [] [] =
    record {
      only = λ c h. absurd (not-nil c h);
      once = tt;
      behind = λ xs ys c k split calls. absurd (no_split xs ys c split);
      closed = λ c o h. not-nil c h;
    } in
    let r = each_works cs [] _ (visit_works cs (suc (length cs)) []) (up_from 0 (length cs)) [] order start e in
    record {
      every = λ c lt. r.1 c lt (in_up_from 0 (length cs) c (omega arith) (omega arith));
      only = r.0.good.only;
      once = r.0.good.once;
      behind = r.0.good.behind;
    }
  where
    no_split : (xs ys : List ℕ) (c : ℕ) → [] ≡ xs ++ (c ∷ ys) → ⊥
    no_split [] ys c e = let z : ◌≡◌ {A = ℕ} 0 1 = cc in omega arith
    no_split (x ∷ xs) ys c e = let z : ◌≡◌ {A = ℕ} 0 1 = cc in omega arith

-- The chunks whose visits are open call one another down to the chunk that is visited.
abbrev Trail : List Chunk → List ℕ → ℕ → Type 0
Trail cs [] c = Unit {0}
Trail cs (o ∷ opened) c = Calls cs o c × Trail cs opened o

further : (cs : List Chunk) {c k : ℕ} → Chain cs c k → (e : ℕ) → Calls cs k e → Chain cs c e
further cs (link a) e h = onward a (link h)
further cs (onward a b) e h = onward a (further cs b e h)

trail_chain : (cs : List Chunk) (opened : List ℕ) (c x : ℕ) → Trail cs opened c → In x opened → Chain cs x c
trail_chain cs [] c x t h = absurd (not-nil x h)
trail_chain cs (o ∷ opened) c x t h =
    ⊎_elim (λ e. rw e (link t.0)) (λ a. further cs (trail_chain cs opened o x t.1 a) c t.0) (in_cons x o opened h)

-- a ring is met in some visit
each_ring : (P : Type 0) (v : Visit) (n : ℕ) (ks done : List ℕ) (x : ℕ) → ((k : ℕ) (d : List ℕ) → k < n → In k ks → v k d ≡ ring x → P)
    → visit_each v n ks done ≡ ring x → P
unfolding visit_each
each_ring P v n [] done x met e = absurd (let z : ◌≡◌ {A = ℕ} 0 1 = cc in omega arith)
each_ring P v n (k ∷ ks) done x met e =
    go (visit_if (ltb k n) v k done) refl (λ m. each_ring P v n ks m x (λ j d lt h. met j d lt (in_tail j k ks h))) e
  where
    here : (b : Bool) → ltb k n ≡ b → visit_if b v k done ≡ ring x → P
    here true lt w = met k done (ltb-true k n lt) (in_head k k ks refl) w
    here false lt w = absurd (let z : ◌≡◌ {A = ℕ} 0 1 = cc in omega arith)

    go : (p : Listing) → visit_if (ltb k n) v k done ≡ p → ((m : List ℕ) → visit_each v n ks m ≡ ring x → P) → on_listed p (λ d. visit_each v n ks d) ≡ ring x → P
    go (listed m) a rest w = rest m w
    go (ring y) a rest w = here (ltb k n) refl (cc)

-- what a ring that was answered tells
marks_ring : (a b : Bool) (c : ℕ) (done : List ℕ) (walk : ℕ → Listing) {x : ℕ} → by_marks a b c done walk ≡ ring x
    → ((a ≡ true) × (x ≡ c)) ⊎ ((a ≡ false) × (walk c ≡ ring x))
marks_ring true b c done walk e = inl (refl, cc)
marks_ring false true c done walk e = absurd (let z : ◌≡◌ {A = ℕ} 0 1 = cc in omega arith)
marks_ring false false c done walk e = inr (refl, e)

ring-before : (p : Listing) (next : List ℕ → List ℕ) {x : ℕ} → on_listed p (λ d. listed (next d)) ≡ ring x → p ≡ ring x
ring-before (listed m) next e = absurd (let z : ◌≡◌ {A = ℕ} 0 1 = cc in omega arith)
ring-before (ring y) next e = e

-- The number that falls does not run out: there would be more open visits than chunks.
visit-ring : (cs : List Chunk) (f : ℕ) (opened : List ℕ) (c : ℕ) (done : List ℕ) (x : ℕ) → f + length opened ≡ suc (length cs) → Distinct opened
    → ((o : ℕ) → In o opened → o < length cs) → c < length cs → Trail cs opened c → visit cs f opened c done ≡ ring x → (x < length cs) × Chain cs x x
unfolding visit
visit-ring cs zero opened c done x size once below lt t e = absurd (omega (arith, pigeonhole (length cs) opened once below))
visit-ring cs (suc f) opened c done x size once below lt t e =
    ⊎_elim (λ s. rw s.1 (lt, trail_chain cs opened c c t s.0))
    (λ s. each_ring ((x < length cs) × Chain cs x x) _ (length cs) (callees_of cs c) done x
    (λ k d h calls. visit-ring cs f (c ∷ opened) k d x (omega arith) (s.0, once)
    (λ o m. ⊎_elim (λ same. rw same lt) (below o) (in_cons o c opened m)) h ((h, calls), t))
    (ring-before (visit_each (λ k d. visit cs f (c ∷ opened) k d) (length cs) (callees_of cs c) done) _ s.1))
    (marks_ring (member c opened) (member c done) c done _ e)

pub ring_sound : (cs : List Chunk) (c : ℕ) → call_order cs ≡ ring c → (c < length cs) × Chain cs c c
ring_sound cs c e =
    each_ring ((c < length cs) × Chain cs c c) _ (length cs) (up_from 0 (length cs)) [] c
    (λ k d h m. visit-ring cs (suc (length cs)) [] k d c (omega arith) tt (λ o a. absurd (not-nil o a)) h tt) e
