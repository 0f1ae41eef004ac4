-- The table by kind: a kind that is taken among those of a group, or none, and the table with the group's figures filled in.
-- Assumes nothing.
use mathlib.Core.Path.{◌≡◌, refl}
use mathlib.Core.Bool.{Bool, true, false, not, cond, ◌||◌}
use mathlib.Core.List.{List}
use Prim.Native.Nat.{ℕ, ◌-◌, ◌+◌, ◌<◌, ◌≤◌}
use native.Mathlib.Decide.{dec_lt}
use native.Mathlib.Omega.{arith}
use borrow.Rule.Slice.PartMut.{put_mid}
use borrow.Author.Rules.{rules}
use lib.ListN.{length, get_or, replicate}
use Rattle.std.specs.Prelude.{Option, Some, None}
use Rattle.std.specs.Bool.{MatchBool}
use Rattle.std.specs.Option.{is_some}
use Rattle.std.specs.List.{between, HoldsAt, AllWithin}
use Rattle.std.proofs.lemmas.List.{places}
use Rattle.std.proofs.lemmas.List.Edits.{length-between, get_or-between}
use Rattle.rules.specs.Ops as Ops
use Rattle.rules.proofs.Between.{is_within, outside}
use Rattle.groups.specs.declared.line.Figures.{Figures}
use Rattle.groups.specs.Rows.{figures_of, row_figures}

-- what a group makes of whether a kind has a row
pub row_taken : (b : Bool) (f : Figures) (row : Option Figures) → is_some (cond b (Some f) row) ≡ (b || is_some row)
row_taken true f row = refl
row_taken false f row = refl

-- and of its figures
pub row_cost : (b : Bool) (f : Figures) (row : Option Figures) → row_figures (cond b (Some f) row) ≡ cond b (figures_of f) (row_figures row)
row_cost true f row = refl
row_cost false f row = refl

-- what `any` says of rows when it is asked for one that is there, or that is not, as b says
abbrev pub Asked : Bool → Bool → List (Option Figures) → Type 0
Asked b answer rows =
    MatchBool answer ((k : ℕ) × (k < length rows) × HoldsAt (λ row. is_some row ≡ b) rows k) (AllWithin (λ row. is_some row ≡ not b) rows 0 (length rows))

module _ (t : List (Option Figures)) (first last : ℕ) (up : first ≤ last) (room : last < length t) where
  -- as many rows as kinds
  size : length (between first (last + 1) t) ≡ last + 1 - first
  size = length-between t first (last + 1) (omega arith)

  -- one of the kinds has a row
  pub found_one : Asked true true (between first (last + 1) t) → (k : ℕ) × (first ≤ k) × (k ≤ last) × (is_some (get_or t k None) ≡ true)
  found_one (k, within, h) =
      (first + k, omega arith, omega (arith, size), rw (get_or-between t first (last + 1) k None (omega (arith, size))) at (h None))

  -- or none has
  pub found_none : Asked true false (between first (last + 1) t) → (k : ℕ) → first ≤ k → k ≤ last → is_some (get_or t k None) ≡ false
  found_none none k a b =
      let same : first + (k - first) ≡ k = omega arith in
      rw (get_or-between t first (last + 1) (k - first) None (omega arith), same) at (none (k - first) None (omega arith) (omega (arith, size)))

  -- figures filled in for these kinds
  module _ (f : Figures) (xs : List (Option Figures)) (is : xs ≡ replicate (length (between first (last + 1) t)) (Some f)) where
    -- as many times as there are kinds
    times : xs ≡ replicate (last + 1 - first) (Some f)
    times = rw size at is

    -- the table is as long as before
    pub filled_length : length (put_mid first (last + 1 - first) t xs) ≡ length t
    filled_length = rw times (search (rules, places))

    -- these kinds have the figures, and the others what they had
    pub filled_row : (k : ℕ) → get_or (put_mid first (last + 1 - first) t xs) k None ≡ cond (Ops.between first last k) (Some f) (get_or t k None)
    filled_row k =
        elim (dec_lt k first) [
          | yes l ↦ let out = outside first last k (λ a b. absurd (omega arith)) in rw (times, out) (search (rules, places))
          | no l ↦ elim (dec_lt last k) [
            | yes m ↦ let out = outside first last k (λ a b. absurd (omega arith)) in rw (times, out) (search (rules, places))
            | no m ↦ let inside = is_within first last k (omega arith) (omega arith) in rw (times, inside) (search (rules, places))
          ]
        ]
