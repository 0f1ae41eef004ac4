-- `put_rows` puts a row a turn: after k turns those of the first k kinds stand there. Assumes nothing.
use mathlib.Core.Path.{◌≡◌, ◌∙◌}
use mathlib.Core.List.{append-nil, flat_map}
use native.Mathlib.Omega.{arith}
use Rattle.std.proofs.lemmas.Grind.{common_steps}
use Rattle.rules.specs.Order.{up_from}
use Rattle.groups.specs.Rows.{figures_of, figures_at}
use Rattle.groups.proofs.PrintLaws.{row_more}
use Rattle.groups.proofs.rows.put_rows.Goals as goal

pub loop-k-init : goal.loop-k-init
unfolding flat_map up_from
loop-k-init g c = record { written = rw append-nil; short = omega arith }

pub put_row-requires : goal.put_row-requires
put_row-requires g c = (omega arith, (omega arith, omega arith))

pub loop-k-preserved : goal.loop-k-preserved
loop-k-preserved g c =
    let k = c.loop-k.k in
    let same : figures_of c.unwrap_or_default.result ≡ figures_at c.args.table.now k = grind (arith, common_steps) in
    record {
      written = c.put_row.ensures.written ∙ row_more _ _ _ k _ c.loop-k.invariant.written same;
      short = omega (arith, c.put_row.ensures.short);
    }
