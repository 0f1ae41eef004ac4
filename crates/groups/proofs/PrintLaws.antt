-- Rows as text: how long a kind's field is, a row by its fields, and one row more behind those before. Assumes nothing.
use mathlib.Core.Path.{◌≡◌, sym, ap}
use mathlib.Core.List.{List, ◌++◌, flat_map, append_assoc, append-nil}
use Prim.Native.Nat.{ℕ, zero, suc, ◌+◌, ◌<◌, ◌≤◌}
use native.Mathlib.Nat.{add-zero, zero-add}
use native.Mathlib.Numerals.{add-one}
use native.Mathlib.Omega.{arith}
use lib.ListN.{length}
use Rattle.rules.specs.Ops as Ops
use Rattle.rules.specs.Order.{up_from}
use Rattle.rules.specs.Text.{space, newline}
use Rattle.rules.specs.Table.{kind_count, table_line}
use Rattle.rules.proofs.DecimalLaws.{decimal-length}
use Rattle.text.specs.Field.{field_text}
use Rattle.text.proofs.FieldLaws.{field_length}

-- a row's fields, put one behind the other
pub row_fields : (before : List ℕ) (k c g s : ℕ)
    → (((before ++ field_text k space) ++ field_text c space) ++ field_text g space) ++ field_text s newline ≡ before ++ table_line k (Ops.figures c g s)
unfolding field_text
row_fields before k c g s = simp append_assoc

-- a kind has two digits at most
pub kind_field : (k end : ℕ) → k < kind_count → length (field_text k end) ≤ 3
kind_field k end h = omega (arith, field_length k end, decimal-length 1 k (omega arith))

-- the rows of n kinds from i on
abbrev pub rows_from : (ℕ → Ops.Figures) → ℕ → ℕ → List ℕ
rows_from f i n = flat_map (λ k. table_line k (f k)) (up_from i n)

-- one row more
pub one_more : (f : ℕ → Ops.Figures) (i n : ℕ) → rows_from f i (suc n) ≡ rows_from f i n ++ table_line (i + n) (f (i + n))
unfolding flat_map up_from
one_more f i zero = rw (add-zero i) (append-nil (table_line i (f i)))
one_more f i (suc n) =
    let e : i + suc n ≡ suc i + n = omega arith in
    rw (one_more f (suc i) n, e) (sym (append_assoc (table_line i (f i)) (rows_from f (suc i) n) _))

-- the rows of the first kinds, with the next one put behind them
pub row_more : (f : ℕ → Ops.Figures) (before now : List ℕ) (k : ℕ) (row : Ops.Figures) → now ≡ before ++ rows_from f 0 k → row ≡ f k
    → now ++ table_line k row ≡ before ++ rows_from f 0 (k + 1)
row_more f before now k row e is =
    rw (e, append_assoc, add-one k, one_more f 0 k, zero-add k) (ap (λ (r : Ops.Figures). before ++ (rows_from f 0 k ++ table_line k r)) is)
