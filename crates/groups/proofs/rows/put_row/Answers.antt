-- `put_row` puts a field for the kind and one for each figure. Assumes nothing.
use mathlib.Core.Path.{ap}
use Prim.Native.Nat.{ℕ}
use native.Mathlib.Omega.{arith}
use lib.ListN.{length, length-append}
use Rattle.text.proofs.FieldLaws.{short_field}
use Rattle.groups.proofs.PrintLaws.{kind_field, row_fields}
use Rattle.groups.proofs.rows.put_row.Goals as goal

pub put_field-requires : goal.put_field-requires
put_field-requires g c = (omega arith, omega (arith, kind_field))

pub put_field-requires-2 : goal.put_field-requires-2
put_field-requires-2 g c = (omega arith, omega (arith, kind_field, short_field, length-append {A = ℕ}, ap length c.put_field.ensures))

pub put_field-requires-3 : goal.put_field-requires-3
put_field-requires-3 g c = (omega arith, omega (arith, kind_field, short_field, length-append {A = ℕ}, ap length c.put_field.ensures, ap length c.put_field-2.ensures))

pub put_field-requires-4 : goal.put_field-requires-4
put_field-requires-4 g c = (
  omega arith,
  omega (
    arith,
    kind_field,
    short_field,
    length-append {A = ℕ},
    ap length c.put_field.ensures,
    ap length c.put_field-2.ensures,
    ap length c.put_field-3.ensures,
  ),
)

pub returns-clause-written : goal.returns-clause-written
returns-clause-written g c =
    let f = c.args.figures in
    rw (c.put_field-4.ensures, c.put_field-3.ensures, c.put_field-2.ensures, c.put_field.ensures)
    (row_fields c.args.out.now.items c.args.k f.cycles f.growth f.shrink)

pub returns-clause-short : goal.returns-clause-short
returns-clause-short g c =
    omega (
      arith,
      kind_field,
      short_field,
      length-append {A = ℕ},
      ap length c.put_field.ensures,
      ap length c.put_field-2.ensures,
      ap length c.put_field-3.ensures,
      ap length c.put_field-4.ensures,
    )
