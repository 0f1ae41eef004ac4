-- `value_at` answers what a SetLocal gives its slot, told by what stands right before it.
-- Assumes nothing.
use mathlib.Core.Path.{sym, ap, ◌∙◌}
use Rattle.rules.specs.Count.{constant_value}
use Rattle.count.proofs.SearchLaws.{value_told, value_constant, value_no_get, value_length}
use Rattle.count.proofs.search.value_at.Goals as goal

pub returns-then-is : goal.returns-then-is
returns-then-is c =
    value_told _ ∙ ap constant_value c.constant_at.ensures ∙ sym (value_constant _ _ _ c.if-at-eq0.false c.requires (sym c.is.ensures ∙ c.if-is.true))

pub returns-then-not-is-2 : goal.returns-then-not-is-2
returns-then-not-is-2 c =
    sym (value_no_get _ _ _ c.if-at-eq0.false c.requires (sym c.is.ensures ∙ c.if-is.false) c.if-at-eq1.false
    (sym c.is-else-at-eq1.ensures ∙ c.if-not-is.false) (sym c.is-2.ensures ∙ c.if-not-is-2.true))

pub returns : goal.returns
returns c =
    c.trace_literal_array_length.ensures
    ∙ sym (value_length _ _ _ c.if-at-eq0.false c.requires (sym c.is.ensures ∙ c.if-is.false) c.if-at-eq1.false
    (sym c.is-else-at-eq1.ensures ∙ c.if-not-is.false) (sym c.is-2.ensures ∙ c.if-not-is-2.false))
