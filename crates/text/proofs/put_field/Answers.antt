-- `put_field` puts the digits of a number and the byte behind them. Assumes nothing.
use mathlib.Core.Path.{◌≡◌, ap, ◌∙◌}
use mathlib.Core.List.{append_assoc}
use native.Mathlib.Omega.{arith}
use lib.ListN.{length, length-append}
use Rattle.rules.specs.Text.{decimal}
use Rattle.text.specs.Field.{field_text}
use Rattle.text.proofs.FieldLaws.{same_decimal, field_length}
use Rattle.text.proofs.put_field.Given as given
use Rattle.text.proofs.put_field.Goals as goal
use Rattle.text.proofs.put_field.Goals.{After-as_bytes}

-- what is put first are the digits
digits : (g : given.Over) (c : After-as_bytes g) → c.as_bytes.result.now ≡ decimal c.args.n
digits g c = c.as_bytes.ensures.value ∙ c.format.ensures.text ∙ same_decimal c.args.n (omega arith)

pub put_bytes-requires : goal.put_bytes-requires
put_bytes-requires g c =
    let d = digits g (goal.at.put_bytes-requires g c).After-as_bytes in
    (omega arith, omega (arith, ap length d, field_length c.args.n c.args.end))

pub push-requires : goal.push-requires
push-requires g c =
    let d = digits g (goal.at.push-requires g c).After-as_bytes in
    (omega arith, omega (arith, simp length-append at (ap length c.put_bytes.ensures), ap length d, field_length c.args.n c.args.end))

pub returns : goal.returns
unfolding field_text
returns g c = rw (c.push.ensures.items, c.put_bytes.ensures, digits g (goal.at.returns g c).After-as_bytes, append_assoc)
