-- Rows of a table are the same where the figures are, for every kind that has a row.
-- Assumes nothing.
use mathlib.Core.Path.{◌≡◌, refl}
use mathlib.Core.List.{flat_map}
use Prim.Native.Nat.{ℕ, zero, suc, ◌+◌, ◌<◌}
use native.Mathlib.Omega.{arith}
use Rattle.rules.specs.Ops.{Figures}
use Rattle.rules.specs.Order.{up_from}
use Rattle.rules.specs.Table.{kind_count, table_line, table_rows}

from : (f h : ℕ → Figures) (i n : ℕ) → ((k : ℕ) → k < i + n → f k ≡ h k)
    → flat_map (λ k. table_line k (f k)) (up_from i n) ≡ flat_map (λ k. table_line k (h k)) (up_from i n)
unfolding flat_map up_from
from f h i zero same = refl
from f h i (suc n) same = rw (same i (omega arith), from f h (suc i) n (λ k l. same k (omega arith)))

pub rows_same : (f h : ℕ → Figures) → ((k : ℕ) → k < kind_count → f k ≡ h k) → table_rows f ≡ table_rows h
rows_same f h same = from f h 0 kind_count same
