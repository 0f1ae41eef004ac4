-- `group_of` reads a field a turn: after some of them their numbers stand in front, and the fields behind are left. Assumes nothing.
use mathlib.Core.Path.{◌≡◌, refl, sym, ◌∙◌}
use native.Mathlib.Omega.{arith}
use borrow.Author.Rules.{rules}
use borrow.Author.Tests.{tests}
use lib.Dec.{eqb}
use Rattle.std.proofs.lemmas.Iterator.Splits.{YieldsList-from_slice_split}
use Rattle.groups.proofs.SplitLaws.{fields_parts}
use Rattle.groups.proofs.GroupLaws.{read_none, read_few, read_broken, read_more, read_many, read_below, read_past, read_group}
use Rattle.groups.proofs.line.group_of.Goals as goal
use Rattle.groups.proofs.line.group_of.Goals.{then-is_some-via-then-is_some, then-is_some-via-else-is_some+then-last-first, then-is_some-via-else-is_some+else-last-first+then-last}

pub loop-number-init : goal.loop-number-init
loop-number-init c =
    let line = c.args.line.now in
    let split = c.split-fields.ensures in
    read_none line _ refl (rw (fields_parts line)
    (YieldsList-from_slice_split _ (λ x. eqb x 32) line split.rest split.done split.closure (λ x b q k. search (rules, tests))))

pub returns-in_err-next : goal.returns-in_err-next
returns-in_err-next c = rw c.from_residual.ensures (read_few _ c.loop-number.invariant c.loop-number-test.true c.in_err-next.ensures.steps)

pub returns-in_err-number : goal.returns-in_err-number
returns-in_err-number c =
    let field = c.in_ok-next in
    rw c.from_residual-in_err-number.ensures
    (read_broken _ c.loop-number.invariant field.field-0 c.next.new.self field.ensures.steps (sym c.in_err-number.ensures))

pub loop-number-preserved : goal.loop-number-preserved
loop-number-preserved c =
    let field = c.in_ok-next in
    read_more _ c.loop-number.invariant field.field-0 c.next.new.self field.ensures.steps _ c.loop-number-test.true (sym c.in_ok-number.ensures)

pub returns-then-is_some : goal.returns-then-is_some
returns-then-is_some c =
    let l = c.loop-number in
    let n = c.next-2 in
    let five : l.number-index ≡ 5 = omega arith in
    let more = sym c.is_some.ensures in
    elim c.then-is_some.branch [
      | then-is_some-via-then-is_some w ↦ read_many _ l.invariant five n.result n.new.self n.ensures.steps (more ∙ w.if-is_some.true)
      | then-is_some-via-else-is_some+then-last-first w ↦
          read_below _ l.invariant five n.result n.new.self n.ensures.steps (more ∙ w.if-is_some.false) w.if-last-first.true
      | then-is_some-via-else-is_some+else-last-first+then-last w ↦
          read_past _ l.invariant five n.result n.new.self n.ensures.steps (more ∙ w.if-is_some.false) w.if-last-first.false w.if-last.true
    ]

pub returns : goal.returns
returns c =
    let l = c.loop-number in
    let n = c.next-2 in
    let five : l.number-index ≡ 5 = omega arith in
    let none = sym c.is_some.ensures ∙ c.if-is_some.false in
    read_group _ l.invariant five n.result n.new.self n.ensures.steps none c.if-last-first.false c.if-last.false
