-- `put_field` has room for the field of any number. Assumes nothing.
use mathlib.Core.Path.{ap}
use native.Mathlib.Omega.{arith}
use lib.ListN.{length}
use Rattle.text.proofs.FieldLaws.{long_field}
use Rattle.text.proofs.lent.put_field.Goals as goal

pub put_field-requires : goal.put_field-requires
put_field-requires c = (omega arith, omega (arith, ap length c.new-field.ensures, long_field c.args.n c.args.end (omega arith)))
