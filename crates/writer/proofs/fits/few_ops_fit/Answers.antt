-- `few_ops_fit` looks at op after op. Invariant: what is left fits if and only if all does. Assumes nothing.
use mathlib.Core.Path.{sym, ◌∙◌}
use Rattle.writer.proofs.FitLaws.{op_first, ops-end}
use Rattle.writer.proofs.fits.few_ops_fit.Goals as goal

pub returns-then-not-op_fits : goal.returns-then-not-op_fits
returns-then-not-op_fits c =
    let not = sym c.op_fits.ensures ∙ c.if-not-op_fits.true in
    sym (c.loop-rest.invariant ∙ op_first _ c.in-len3-up.len_at_least ∙ rw not)

pub loop-rest-preserved : goal.loop-rest-preserved
loop-rest-preserved c =
    let is = sym c.op_fits.ensures ∙ c.if-not-op_fits.false in
    c.loop-rest.invariant ∙ op_first _ c.in-len3-up.len_at_least ∙ rw is

pub returns : goal.returns
returns c = sym (c.loop-rest.invariant ∙ ops-end _ c.in_default.len_below)
