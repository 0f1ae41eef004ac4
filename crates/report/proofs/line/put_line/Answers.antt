-- `put_line` puts a field for the chunk, the cycles with their mark, and a field for each other number of the row. Assumes nothing.
use Prim.Native.Nat.{ℕ, ◌^◌, ◌<◌, ◌≤◌}
use mathlib.Core.List.{List}
use mathlib.Core.Path.{ap}
use native.Mathlib.Omega.{arith}
use lib.ListN.{length, get_or, length-append}
use mir.Syntax.{w32}
use mir.Val.{Fits}
use Rattle.text.specs.Field.{field_text}
use Rattle.text.proofs.FieldLaws.{short_field}
use Rattle.report.proofs.LinesLaws.{row_line, row_mark}
use Rattle.report.proofs.line.put_line.Goals as goal

-- how long the fields are
record Sizes (c : ℕ) (row : List ℕ) : Type 0 where
  chunk : length (field_text c 32) ≤ 11
  peak : length (field_text (get_or row 2 0) 32) ≤ 11
  bytes : length (field_text (get_or row 3 0) 32) ≤ 11
  whole : length (field_text (get_or row 4 0) 10) ≤ 11

-- they are short, since the numbers have 32 bits
sizes : (c : ℕ) (row : List ℕ) → c < 2 ^ 32 → ((i : ℕ) → Fits w32 (get_or row i 0)) → Sizes c row
sizes c row h known =
    record {
      chunk = short_field c 32 h;
      peak = short_field (get_or row 2 0) 32 (omega (arith, known 2));
      bytes = short_field (get_or row 3 0) 32 (omega (arith, known 3));
      whole = short_field (get_or row 4 0) 10 (omega (arith, known 4));
    }

pub put_field-requires : goal.put_field-requires
put_field-requires g c = (omega arith, omega (arith, sizes c.args.c c.args.row.now (omega arith) c.type_inv.row))

pub put_cycles-requires : goal.put_cycles-requires
put_cycles-requires g c =
    (omega arith, omega (arith, length-append {A = ℕ}, sizes c.args.c c.args.row.now (omega arith) c.type_inv.row, ap length c.put_field.ensures))

pub put_field-requires-2 : goal.put_field-requires-2
put_field-requires-2 g c = (
  omega arith,
  omega (
    arith,
    length-append {A = ℕ},
    sizes c.args.c c.args.row.now (omega arith) c.type_inv.row,
    ap length c.put_field.ensures,
    c.put_cycles.ensures.short,
  ),
)

pub put_field-requires-3 : goal.put_field-requires-3
put_field-requires-3 g c = (
  omega arith,
  omega (
    arith,
    length-append {A = ℕ},
    sizes c.args.c c.args.row.now (omega arith) c.type_inv.row,
    ap length c.put_field.ensures,
    c.put_cycles.ensures.short,
    ap length c.put_field-2.ensures,
  ),
)

pub put_field-requires-4 : goal.put_field-requires-4
put_field-requires-4 g c = (
  omega arith,
  omega (
    arith,
    length-append {A = ℕ},
    sizes c.args.c c.args.row.now (omega arith) c.type_inv.row,
    ap length c.put_field.ensures,
    c.put_cycles.ensures.short,
    ap length c.put_field-2.ensures,
    ap length c.put_field-3.ensures,
  ),
)

pub returns-clause-written : goal.returns-clause-written
returns-clause-written g c = λ l is.
    rw (
      c.put_field-4.ensures,
      c.put_field-3.ensures,
      c.put_field-2.ensures,
      c.put_cycles.ensures.written l.cut (row_mark l is),
      c.put_field.ensures,
    )
    (row_line c.args.out.now.items c.args.c l is)

pub returns-clause-short : goal.returns-clause-short
returns-clause-short g c =
    omega (
      arith,
      length-append {A = ℕ},
      sizes c.args.c c.args.row.now (omega arith) c.type_inv.row,
      ap length c.put_field.ensures,
      c.put_cycles.ensures.short,
      ap length c.put_field-2.ensures,
      ap length c.put_field-3.ensures,
      ap length c.put_field-4.ensures,
    )
