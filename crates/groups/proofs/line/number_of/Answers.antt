-- `number_of` reads a digit a turn: what the field is from the digit's place on, with the digits before as a number, it is as a whole. Assumes nothing.
use mathlib.Core.Path.{◌≡◌, sym, ◌∙◌}
use Prim.Native.Nat.{◌+◌, ◌-◌, ◌*◌}
use native.Mathlib.Omega.{arith}
use lib.ListN.{get_or}
use Rattle.groups.proofs.NumberLaws.{number_digit, number_great, number_other, number_end}
use Rattle.groups.proofs.line.number_of.Goals as goal

pub returns-then-not-is_ascii_digit : goal.returns-then-not-is_ascii_digit
returns-then-not-is_ascii_digit c =
    number_other c.loop-digit.invariant c.loop-digit-test.true (sym c.is_ascii_digit.ensures.value ∙ c.if-not-is_ascii_digit.true)

pub returns-in_err-checked_mul : goal.returns-in_err-checked_mul
returns-in_err-checked_mul c =
    let digit = sym c.is_ascii_digit.ensures.value ∙ c.if-not-is_ascii_digit.false in
    rw c.from_residual.ensures (number_great c.loop-digit.invariant c.loop-digit-test.true digit (omega (arith, c.in_err-checked_mul.ensures)))

pub returns-in_err-value : goal.returns-in_err-value
returns-in_err-value c =
    let digit = sym c.is_ascii_digit.ensures.value ∙ c.if-not-is_ascii_digit.false in
    rw c.from_residual-in_err-value.ensures
    (number_great c.loop-digit.invariant c.loop-digit-test.true digit (omega (arith, c.in_err-value.ensures, c.in_ok-checked_mul.ensures)))

pub loop-digit-preserved : goal.loop-digit-preserved
loop-digit-preserved c =
    let digit = sym c.is_ascii_digit.ensures.value ∙ c.if-not-is_ascii_digit.false in
    let value : c.in_ok-value.value ≡ 10 * c.loop-digit.value + (get_or c.args.field.now c.loop-digit.digit-index 0 - 48) =
    omega (arith, c.in_ok-value.ensures, c.in_ok-checked_mul.ensures) in
    rw value (number_digit c.loop-digit.invariant c.loop-digit-test.true digit (omega (arith, c.in_ok-value.ensures)))

pub returns : goal.returns
returns c = number_end c.loop-digit.invariant c.loop-digit-test.false
