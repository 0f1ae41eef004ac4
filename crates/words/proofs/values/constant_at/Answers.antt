-- `constant_at` meets its contract: one law each for no constant, for another than an integer, and for an integer. Assumes nothing.
use mathlib.Core.Path.{sym, ◌∙◌}
use mir.Syntax.{w64}
use mir.ValLaws.{to_z-of_z}
use Rattle.words.proofs.ValueLaws.{constant_none, constant_other, constant_integer}
use Rattle.words.proofs.values.constant_at.Goals as goal

pub returns-then-constants-i : goal.returns-then-constants-i
returns-then-constants-i c = sym (constant_none _ _ c.if-constants-i.true)

pub returns-then-not-is : goal.returns-then-not-is
returns-then-not-is c = sym (constant_other _ _ c.if-constants-i.false (sym c.is.ensures ∙ c.if-not-is.true))

pub returns : goal.returns
returns c = let words = constant_integer _ _ c.if-constants-i.false (sym c.is.ensures ∙ c.if-not-is.false) in
    rw (to_z-of_z w64 c.cast_signed.result (record { sfits = c.cast_signed.type_inv }))
    (sym (words c.low-3.ensures c.low-4.ensures c.low.ensures c.low-2.ensures c.cast_signed.ensures))
