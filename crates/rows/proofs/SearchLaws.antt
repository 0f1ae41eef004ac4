-- The two searches of document 01 as the code makes them: the first op of a kind, and the first target that is not forward.
-- Assumes nothing.
use mathlib.Core.Path.{◌≡◌, refl}
use mathlib.Core.Bool.{Bool, true, false, cond}
use mathlib.Core.List.{List, [], ◌∷◌}
use Prim.Native.Nat.{ℕ, suc, ◌+◌, ◌<◌, ◌≤◌}
use native.Mathlib.Numerals.{add-one}
use native.Mathlib.Omega.{arith}
use lib.Dec.{eqb}
use lib.ListN.{length, get_or, drop, drop_of_length-le}
use lib.Seq.{drop-cons}
use Rattle.std.specs.Prelude.{Some}
use Rattle.std.specs.List.{position_from}
use Rattle.rules.specs.Outcome.{found, nothing}
use Rattle.rules.specs.Ops.{kind}
use Rattle.rules.specs.Rows.{first_of, is_backward, first_backward}
use Rattle.words.specs.Found.{found_of}

-- the index that is found is the place of the first op of the kind
pub first_found : (k : ℕ) (ops : List ℕ) (i : ℕ) → found_of (position_from (λ w. eqb (kind w) k) i ops) ≡ first_of k ops i
unfolding first_of
first_found k [] i = refl
first_found k (w ∷ ws) i =
    elim (eqb (kind w) k) as (λ b. found_of (cond b (Some i) (position_from (λ w. eqb (kind w) k) (i + 1) ws)) ≡ cond b (found i) (first_of k ws (suc i)))
    [ true ↦ refl | false ↦ rw (add-one i) (first_found k ws (suc i)) ]

module _ (n : ℕ) (ops : List ℕ) (i : ℕ) where
  -- the search of what is left finds the op at i, or goes on behind it
  pub backward_turn : i < length ops → {b : Bool} → is_backward n i (get_or ops i 0) ≡ b
      → first_backward n i (drop i ops) ≡ cond b (found i) (first_backward n (i + 1) (drop (i + 1) ops))
  unfolding first_backward
  backward_turn h e = rw (add-one i, drop-cons ops i 0, e)

  -- where no op is left it finds none
  pub backward_none : length ops ≤ i → first_backward n i (drop i ops) ≡ nothing
  unfolding first_backward
  backward_none h = rw (drop_of_length-le ops h)

-- the op that is found lies in the list
pub first_within : (k : ℕ) (ops : List ℕ) (i j : ℕ) → first_of k ops i ≡ found j → j < i + length ops
unfolding first_of
first_within k [] i j e = absurd (let z : ◌≡◌ {A = ℕ} 0 1 = cc in omega arith)
first_within k (w ∷ ws) i j e =
    (elim (eqb (kind w) k) as (λ b. cond b (found i) (first_of k ws (suc i)) ≡ found j → j < i + suc (length ws))
    [ true ↦ λ f. let z : i ≡ j = cc in omega arith | false ↦ λ f. omega (arith, first_within k ws (suc i) j f) ]) e
