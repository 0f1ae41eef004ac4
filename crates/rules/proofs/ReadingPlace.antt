-- The place of a refusal is right: the words before it begin some module, and with the word at it they begin none.
-- Assumes nothing.
use mathlib.Core.Path.{◌≡◌, refl, sym, ap, ◌∙◌}
use mathlib.Core.Logic.{◌⊎◌, inl, inr}
use mathlib.Core.Bool.{Bool, true, false, cond}
use mathlib.Core.List.{List, [], ◌∷◌, ◌++◌, append_assoc}
use Prim.Native.Nat.{ℕ, suc, ◌+◌, ◌<◌, ◌≤◌}
use native.Mathlib.Omega.{arith}
use borrow.Author.Tests.{ltb-true, ltb-false}
use lib.Dec.{ltb}
use lib.ListN.{length, take, drop, take-append-drop}
use Rattle.rules.specs.Outcome.{Result, ok, no, Found, found, nothing}
use Rattle.rules.specs.Ops.{field_a, word}
use Rattle.rules.specs.Form.{Chunk, CanGoOn}
use Rattle.rules.specs.Reading.{Stage, before_chunk, Next, goes, stuck, is_head, step, may_end, on_next, broken_at, chunks_of, unless_broken, read_any}
use Rattle.rules.proofs.WordFields.{head_parts, head-word}
use Rattle.rules.proofs.ReadingAgrees.{Reading, empty, headless, broken, whole, reading, read_sound, read_complete}
use Rattle.rules.proofs.ReadingFinishes.{Good, GoodNext, good_next, finish}

-- Words that are broken at p, the first being at q: so many in front can be finished, and one more cannot.
record Broken (s : Stage) (ws : List ℕ) (q p : ℕ) : Type 0 where
  front : ℕ
  place : p ≡ front + q
  within : front ≤ length ws
  ending : List ℕ
  ends : broken_at s (take front ws ++ ending) q ≡ nothing
  sticks : front < length ws → (e : List ℕ) → broken_at s (take (suc front) ws ++ e) q ≡ found p

splits : (s : Stage) → Good s → (ws : List ℕ) (q p : ℕ) → broken_at s ws q ≡ found p → Broken s ws q p
unfolding broken_at
splits s g [] q p e = go (may_end s) e
  where
    go : (b : Bool) → cond b nothing (found q) ≡ found p → Broken s [] q p
    go true f = absurd (let z : ◌≡◌ {A = ℕ} 0 1 = cc in omega arith)
    go false f =
        let z : q ≡ p = cc in
        record { front = 0; place = omega arith; within = omega arith; ending = (finish s g).0; ends = (finish s g).1 q; sticks = λ l e. absurd (omega arith) }
splits s g (w ∷ ws) q p e = go (step s w) refl (good_next s w g) (λ t h f. splits t h ws (suc q) p f) e
  where
    go : (m : Next) → step s w ≡ m → GoodNext m → ((t : Stage) → Good t → broken_at t ws (suc q) ≡ found p → Broken t ws (suc q) p)
        → on_next m (λ t. broken_at t ws (suc q)) q ≡ found p → Broken s (w ∷ ws) q p
    go (goes t) m h ih f =
        let r = ih t h f in
        record {
          front = suc r.front;
          place = omega (arith, r.place);
          within = omega (arith, r.within);
          ending = r.ending;
          ends = rw m r.ends;
          sticks = λ l e. rw m (r.sticks (omega arith) e);
        }
    go stuck m h ih f =
        let z : q ≡ p = cc in
        record { front = 0; place = omega arith; within = omega arith; ending = (finish s g).0; ends = (finish s g).1 q; sticks = λ l e. rw m f }

pub refusal_number : (ws : List ℕ) (n p : ℕ) → read_any ws ≡ no n p → ((n ≡ 1) × (p ≡ 0)) ⊎ (n ≡ 2)
refusal_number ws n p e = go (reading ws) e
  where
    go : {vs : List ℕ} {r : Result (List Chunk)} → Reading vs r → r ≡ no n p → ((n ≡ 1) × (p ≡ 0)) ⊎ (n ≡ 2)
    go empty q = inl (cc, cc)
    go (headless f) q = inl (cc, cc)
    go (broken f g) q = inr (cc)
    go (whole f g) q = absurd (let z : ◌≡◌ {A = ℕ} 0 1 = cc in omega arith)

pub head_wrong : (w : ℕ) (ws : List ℕ) (p : ℕ) → read_any (w ∷ ws) ≡ no 1 p → CanGoOn (w ∷ []) → ⊥
head_wrong w ws p e c =
    let (ending, cs, fits, words) = c in
    let is : word 199 0 (length cs) ≡ w = cc in
    go (broken_at (before_chunk (field_a w)) ws 1) (rw (rw is at (head-word (length cs) fits.some fits.most)) at e)
  where
    go : (f : Found) → unless_broken f (λ u. chunks_of (field_a w) ws) ≡ no 1 p → ⊥
    go (found q) g = let z : ◌≡◌ {A = ℕ} 2 1 = cc in omega arith
    go nothing g = let z : ◌≡◌ {A = ℕ} 0 1 = cc in omega arith

-- of a whole reading
abbrev Placed : List ℕ → ℕ → Type 0
Placed ws p = (p ≤ length ws) × CanGoOn (take p ws) × (p < length ws → CanGoOn (take (suc p) ws) → ⊥) × (1 ≤ p)

module _ (h : ℕ) (ws : List ℕ) (p : ℕ) (head : is_head h ≡ true) (b : Broken (before_chunk (field_a h)) ws 1 p) where
  goes_on : CanGoOn (h ∷ take b.front ws)
  goes_on =
      let us = take b.front ws ++ b.ending in
      let r : read_any (h ∷ us) ≡ ok (chunks_of (field_a h) us) = rw (head, b.ends) in
      let (fits, words) = read_sound (h ∷ us) (chunks_of (field_a h) us) r in
      (b.ending, chunks_of (field_a h) us, fits, words)

  goes_nowhere : b.front < length ws → CanGoOn (h ∷ take (suc b.front) ws) → ⊥
  goes_nowhere l c =
      let (ending, cs, fits, words) = c in
      let r : read_any (h ∷ (take (suc b.front) ws ++ ending)) ≡ no 2 p = rw (head, b.sticks l ending) in
      let t : ok cs ≡ no 2 p = sym (read_complete cs fits) ∙ ap read_any words ∙ r in
      let z : ◌≡◌ {A = ℕ} 0 1 = cc in
      omega arith

  placed : Placed (h ∷ ws) p
  placed =
      let e : p ≡ suc b.front = omega (arith, b.place) in
      rw e (omega (arith, b.within), goes_on, λ l c. goes_nowhere (omega arith) c, omega arith)

place : (ws : List ℕ) (p : ℕ) → read_any ws ≡ no 2 p → Placed ws p
place ws p e = go (reading ws) e
  where
    go : {vs : List ℕ} {r : Result (List Chunk)} → Reading vs r → r ≡ no 2 p → Placed vs p
    go empty q = absurd (let z : ◌≡◌ {A = ℕ} 1 2 = cc in omega arith)
    go (headless f) q = absurd (let z : ◌≡◌ {A = ℕ} 1 2 = cc in omega arith)
    go (broken {h} {ws = vs} f g) q = placed h vs p f (splits (before_chunk (field_a h)) (head_parts h f).1 vs 1 p (cc))
    go (whole f g) q = absurd (let z : ◌≡◌ {A = ℕ} 0 1 = cc in omega arith)

pub place_some : (ws : List ℕ) (p : ℕ) → read_any ws ≡ no 2 p → (p ≤ length ws) × CanGoOn (take p ws)
place_some ws p e = ((place ws p e).0, (place ws p e).1)

pub place_none : (ws : List ℕ) (p : ℕ) → read_any ws ≡ no 2 p → p < length ws → CanGoOn (take (suc p) ws) → ⊥
place_none ws p e = (place ws p e).2

-- a first word that is wrong is refusal 1, never 2
pub place_behind-head : (ws : List ℕ) (p : ℕ) → read_any ws ≡ no 2 p → 1 ≤ p
place_behind-head ws p e = (place ws p e).3

front_goes_on : (n : ℕ) (ws : List ℕ) → CanGoOn ws → CanGoOn (take n ws)
front_goes_on n ws g =
    let (ending, cs, fits, words) = g in
    (drop n ws ++ ending, cs, fits, words ∙ ap (λ (v : List ℕ). v ++ ending) (sym (take-append-drop n ws)) ∙ append_assoc (take n ws) (drop n ws) ending)

-- "the length if it stops short": where some ending would make the whole list a module
pub stops_short : (ws : List ℕ) (p : ℕ) → read_any ws ≡ no 2 p → CanGoOn ws → p ≡ length ws
stops_short ws p e g = go (ltb p (length ws)) refl
  where
    go : (b : Bool) → ltb p (length ws) ≡ b → p ≡ length ws
    go true t = absurd (place_none ws p e (ltb-true p (length ws) t) (front_goes_on (suc p) ws g))
    go false t = omega (arith, (place_some ws p e).0, ltb-false p (length ws) t)
