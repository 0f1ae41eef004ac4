-- `constants_fit` looks at constant after constant. Invariant: what is left fits if and only if all does. Assumes nothing.
use mathlib.Core.Path.{sym, ◌∙◌}
use Rattle.writer.proofs.FitLaws.{constant_first, constants-end}
use Rattle.writer.proofs.fits.constants_fit.Goals as goal

pub returns-then-not-is_constant : goal.returns-then-not-is_constant
returns-then-not-is_constant c =
    let not = sym c.is_constant.ensures ∙ c.if-not-is_constant.true in
    sym (c.loop-rest.invariant ∙ constant_first _ c.in-len3-up.len_at_least ∙ rw not)

pub loop-rest-preserved : goal.loop-rest-preserved
loop-rest-preserved c =
    let is = sym c.is_constant.ensures ∙ c.if-not-is_constant.false in
    c.loop-rest.invariant ∙ constant_first _ c.in-len3-up.len_at_least ∙ rw is

pub returns : goal.returns
returns c = c.is_empty.ensures ∙ sym (c.loop-rest.invariant ∙ constants-end _ c.in_default.len_below)
