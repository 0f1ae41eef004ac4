-- The constant and the extra of an index, read from their words.
-- Assumes nothing.
use mathlib.Core.Path.{◌≡◌, refl}
use mathlib.Core.Bool.{true, false}
use mathlib.Core.List.{List, [], ◌∷◌}
use Prim.Native.Nat.{ℕ, zero, suc, ◌+◌, ◌*◌, ◌/◌, ◌<◌, ◌≤◌}
use native.Mathlib.Nat.{mul-suc}
use native.Mathlib.Numerals.{towards_suc}
use native.Mathlib.Omega.{arith}
use lib.Dec.{eqb}
use lib.IntN.{ℤ}
use lib.ListN.{length, get_or}
use Rattle.rules.specs.Ops.{kind, field_a}
use Rattle.rules.specs.Form.{integer, other}
use Rattle.rules.specs.Reading.{signed_of, constant_of, constants_of, extras_of}

-- a constant is read from its four words, and there is none behind them
constant_cases : (ws : List ℕ) (i : ℕ)
    → (i < length ws / 4
    → get_or (constants_of ws) i other ≡ constant_of (get_or ws (4 * i) 0) (get_or ws (4 * i + 1) 0) (get_or ws (4 * i + 2) 0) (get_or ws (4 * i + 3) 0))
    × (length ws / 4 ≤ i → get_or (constants_of ws) i other ≡ other)
unfolding constants_of
constant_cases [] i = (λ h. absurd (omega arith), λ h. refl)
constant_cases (s ∷ []) i = (λ h. absurd (omega arith), λ h. refl)
constant_cases (s ∷ t ∷ []) i = (λ h. absurd (omega arith), λ h. refl)
constant_cases (s ∷ t ∷ u ∷ []) i = (λ h. absurd (omega arith), λ h. refl)
constant_cases (s ∷ t ∷ u ∷ v ∷ ws) zero = (λ h. refl, λ h. absurd (omega arith))
constant_cases (s ∷ t ∷ u ∷ v ∷ ws) (suc i) =
    let r = constant_cases ws i in
    (λ h. simp (mul-suc, towards_suc) (simp towards_suc at (r.0 (omega arith))), λ h. r.1 (omega arith))

-- behind the last constant there is none
pub constant_none : (ws : List ℕ) (i : ℕ) → length ws / 4 ≤ i → get_or (constants_of ws) i other ≡ other
constant_none ws i = (constant_cases ws i).1

-- by what its first word says
module _ (ws : List ℕ) (i : ℕ) (h : i < length ws / 4) where
  -- of another kind
  pub constant_other : eqb (kind (get_or ws (4 * i) 0)) 202 ≡ false → get_or (constants_of ws) i other ≡ other
  constant_other g = rw ((constant_cases ws i).0 h, g)

  -- of the kind of integers: the number of its four words
  pub constant_integer : eqb (kind (get_or ws (4 * i) 0)) 202 ≡ true → {a b c d : ℕ} {z : ℤ}
      → a ≡ field_a (get_or ws (4 * i) 0) → b ≡ field_a (get_or ws (4 * i + 1) 0) → c ≡ field_a (get_or ws (4 * i + 2) 0) → d ≡ field_a (get_or ws (4 * i + 3) 0)
      → z ≡ signed_of (a + 65536 * (b + 65536 * (c + 65536 * d))) → get_or (constants_of ws) i other ≡ integer z
  constant_integer k ea eb ec ed ez = rw ((constant_cases ws i).0 h, k, ez, ea, eb, ec, ed)

-- an extra from its two
pub extra_read : (ws : List ℕ) (i : ℕ) → i < length ws / 2
    → get_or (extras_of ws) i 0 ≡ field_a (get_or ws (2 * i) 0) + 65536 * field_a (get_or ws (2 * i + 1) 0)
unfolding extras_of
extra_read [] i h = absurd (omega arith)
extra_read (s ∷ []) i h = absurd (omega arith)
extra_read (s ∷ t ∷ ws) zero h = refl
extra_read (s ∷ t ∷ ws) (suc i) h = simp (mul-suc, towards_suc) (simp towards_suc at (extra_read ws i (omega arith)))

-- behind the last extra there is none
pub extra_none : (ws : List ℕ) (i : ℕ) → length ws / 2 ≤ i → get_or (extras_of ws) i 0 ≡ 0
unfolding extras_of
extra_none [] i h = refl
extra_none (s ∷ []) i h = refl
extra_none (s ∷ t ∷ ws) zero h = absurd (omega arith)
extra_none (s ∷ t ∷ ws) (suc i) h = extra_none ws i (omega arith)
