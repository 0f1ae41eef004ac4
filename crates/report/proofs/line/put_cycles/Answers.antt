-- `put_cycles` puts the cycles and a space, a plus sign between them where the mark is not 0. Assumes nothing.
use mathlib.Core.Path.{ap}
use mathlib.Core.List.{append_assoc}
use native.Mathlib.Omega.{arith}
use lib.ListN.{length, length-append}
use Rattle.text.proofs.FieldLaws.{short_field}
use Rattle.report.proofs.LinesLaws.{cycles_exact, cycles-cut}
use Rattle.report.proofs.line.put_cycles.Goals as goal

pub put_field-requires : goal.put_field-requires
put_field-requires g c = (omega arith, omega (arith, short_field c.args.cycles 32 (omega arith)))

pub returns-then-mark-eq0-clause-written : goal.returns-then-mark-eq0-clause-written
returns-then-mark-eq0-clause-written g c = λ cut is. rw (c.put_field.ensures, cycles_exact c.args.cycles c.args.mark c.if-mark-eq0.true cut is)

pub returns-then-mark-eq0-clause-short : goal.returns-then-mark-eq0-clause-short
returns-then-mark-eq0-clause-short g c =
    omega (arith, short_field c.args.cycles 32 (omega arith), simp length-append at (ap length c.put_field.ensures))

pub put_field-requires-else-mark-eq0 : goal.put_field-requires-else-mark-eq0
put_field-requires-else-mark-eq0 g c = (omega arith, omega (arith, short_field c.args.cycles 43 (omega arith)))

pub put_bytes-requires : goal.put_bytes-requires
put_bytes-requires g c =
    (omega arith, omega (arith, short_field c.args.cycles 43 (omega arith), simp length-append at (ap length c.put_field-else-mark-eq0.ensures)))

pub returns-else-mark-eq0-clause-written : goal.returns-else-mark-eq0-clause-written
returns-else-mark-eq0-clause-written g c = λ cut is.
    rw (c.put_bytes.ensures, c.put_field-else-mark-eq0.ensures, append_assoc, cycles-cut c.args.cycles c.args.mark c.if-mark-eq0.false cut is)

pub returns-else-mark-eq0-clause-short : goal.returns-else-mark-eq0-clause-short
returns-else-mark-eq0-clause-short g c =
    omega (
      arith,
      short_field c.args.cycles 43 (omega arith),
      simp length-append at (ap length c.put_field-else-mark-eq0.ensures),
      simp length-append at (ap length c.put_bytes.ensures),
    )
