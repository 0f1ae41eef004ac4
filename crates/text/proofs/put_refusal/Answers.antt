-- `put_refusal` puts a word and three fields, one of eleven bytes at most and two of 21. Assumes nothing.
use mathlib.Core.Path.{ap}
use Prim.Native.Nat.{ℕ, ◌≤◌, ◌<◌, ◌^◌}
use native.Mathlib.Omega.{arith}
use lib.ListN.{length, length-append}
use Rattle.text.specs.Field.{field_text}
use Rattle.text.proofs.FieldLaws.{short_field, long_field, refused_line}
use Rattle.text.proofs.put_refusal.Goals as goal

-- how long the fields are
sizes : (number chunk place : ℕ) → number < 2 ^ 32 → chunk < 2 ^ 64 → place < 2 ^ 64
    → (length (field_text number 32) ≤ 11) × (length (field_text chunk 32) ≤ 21) × (length (field_text place 10) ≤ 21)
sizes number chunk place n c p = (short_field _ _ n, long_field _ _ c, long_field _ _ p)

pub put_field-requires : goal.put_field-requires
put_field-requires g c =
    let s = sizes c.from.result c.args.chunk c.args.place (omega arith) (omega arith) (omega arith) in
    (omega arith, omega (arith, length-append {A = ℕ}, ap length c.put_bytes.ensures))

pub put_field-requires-2 : goal.put_field-requires-2
put_field-requires-2 g c =
    let s = sizes c.from.result c.args.chunk c.args.place (omega arith) (omega arith) (omega arith) in
    (omega arith, omega (arith, length-append {A = ℕ}, ap length c.put_bytes.ensures, ap length c.put_field.ensures))

pub put_field-requires-3 : goal.put_field-requires-3
put_field-requires-3 g c =
    let s = sizes c.from.result c.args.chunk c.args.place (omega arith) (omega arith) (omega arith) in
    (omega arith, omega (arith, length-append {A = ℕ}, ap length c.put_bytes.ensures, ap length c.put_field.ensures, ap length c.put_field-2.ensures))

pub returns : goal.returns
returns g c =
    rw (c.put_field-3.ensures, c.put_field-2.ensures, c.put_field.ensures, c.put_bytes.ensures, c.from.ensures)
    (refused_line c.args.out.now.items c.args.number c.args.chunk c.args.place)
