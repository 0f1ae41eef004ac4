-- Which kinds are in groups: the tests of groups that overlap and of kinds left out, and what they say.
-- Assumes nothing.
use mathlib.Core.Path.{◌≡◌, refl}
use mathlib.Core.Bool.{true, or-true}
use mathlib.Core.List.{List, [], ◌∷◌}
use mathlib.Core.Logic.{inl, inr, ⊎_elim}
use Prim.Native.Nat.{ℕ, zero, suc, ◌≤◌, ◌<◌, max}
use native.Mathlib.Decide.{dec_lt}
use native.Mathlib.Omega.{arith}
use borrow.Author.Tests.{leb-true, le-leb}
use lib.Dec.{leb}
use Rattle.rules.specs.Form.{Each}
use Rattle.rules.specs.Ops.{Group, between}
use Rattle.rules.specs.Table.{overlaps, overlaps_any, in_some, all_kinds}
use Rattle.rules.specs.TableClaims.{Holds, SomeHolds}
use Rattle.rules.proofs.Flags.{both, either}
use Rattle.rules.proofs.Between.{within, is_within}

in_head : (g : Group) (gs : List Group) (k : ℕ) → Holds g k → in_some (g ∷ gs) k ≡ true
unfolding in_some
in_head g gs k h = rw (is_within g.first g.last k h.0 h.1)

in_tail : (g : Group) (gs : List Group) (k : ℕ) → in_some gs k ≡ true → in_some (g ∷ gs) k ≡ true
unfolding in_some
in_tail g gs k e = rw e (or-true (between g.first g.last k))

-- the test of a kind that is in a group
pub some_holds : (gs : List Group) (k : ℕ) → in_some gs k ≡ true → SomeHolds gs k
unfolding in_some
some_holds [] k e = let z : ◌≡◌ {A = ℕ} 0 1 = cc in omega arith
some_holds (g ∷ gs) k e =
    ⊎_elim (λ t. inl (within g.first g.last k t)) (λ t. inr (some_holds gs k t)) (either (between g.first g.last k) (in_some gs k) e)

pub holds_some : (gs : List Group) (k : ℕ) → SomeHolds gs k → in_some gs k ≡ true
holds_some [] k h = absurd h
holds_some (g ∷ gs) k h = ⊎_elim (in_head g gs k) (λ t. in_tail g gs k (holds_some gs k t)) h

-- the test of kinds that are all in a group
pub all_hold : (gs : List Group) (n : ℕ) → all_kinds gs n ≡ true → (k : ℕ) → k < n → SomeHolds gs k
unfolding all_kinds
all_hold gs zero e k h = absurd (omega arith)
all_hold gs (suc n) e k h =
    let t = both (in_some gs n) (all_kinds gs n) e in
    elim (dec_lt k n) [ yes l ↦ all_hold gs n t.1 k l | no l ↦ let last : n ≡ k = omega arith in rw last at (some_holds gs n t.0) ]

pub hold_all : (gs : List Group) (n : ℕ) → ((k : ℕ) → k < n → SomeHolds gs k) → all_kinds gs n ≡ true
unfolding all_kinds
hold_all gs zero h = refl
hold_all gs (suc n) h = rw (holds_some gs n (h n (omega arith))) (hold_all gs n (λ k l. h k (omega arith)))

-- groups that overlap have a kind in common, and the other way
pub overlap_some : (g : Group) (gs : List Group) → overlaps_any g gs ≡ true → g.first ≤ g.last → Each (λ h. h.first ≤ h.last) gs
    → (k : ℕ) × (g.first ≤ k) × (k ≤ g.last) × (in_some gs k ≡ true)
unfolding overlaps_any
overlap_some g [] e up ups = absurd (let z : ◌≡◌ {A = ℕ} 0 1 = cc in omega arith)
overlap_some g (h ∷ hs) e up ups =
    ⊎_elim (λ t. here (both (leb g.first h.last) (leb h.first g.last) t))
    (λ t. let (k, low, high, some) = overlap_some g hs t up ups.1 in (k, low, high, in_tail h hs k some))
    (either (overlaps g h) (overlaps_any g hs) e)
  where
    here : (leb g.first h.last ≡ true) × (leb h.first g.last ≡ true)
        → (k : ℕ) × (g.first ≤ k) × (k ≤ g.last) × (in_some (h ∷ hs) k ≡ true)
    here t =
        let a = leb-true g.first h.last t.0 in
        let b = leb-true h.first g.last t.1 in
        let k = max g.first h.first in
        (k, omega arith, omega arith, in_head h hs k (omega arith, omega arith))

pub some_overlap : (g : Group) (gs : List Group) (k : ℕ) → Holds g k → SomeHolds gs k → overlaps_any g gs ≡ true
unfolding overlaps_any
some_overlap g [] k a h = absurd h
some_overlap g (h ∷ hs) k a s =
    ⊎_elim (λ b. rw (le-leb g.first h.last (omega arith), le-leb h.first g.last (omega arith)))
    (λ b. rw (some_overlap g hs k a b) (or-true (overlaps g h)))
    s
