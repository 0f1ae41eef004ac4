-- `read_groups` reads a line a turn: the table is that of the groups of the lines before. Assumes nothing.
use mathlib.Core.Path.{◌≡◌, sym, ap, ◌∙◌}
use mathlib.Core.Bool.{true, false}
use Prim.Native.Nat.{◌+◌, ◌<◌}
use native.Mathlib.Omega.{arith}
use borrow.Author.Rules.{rules}
use borrow.Author.Tests.{tests}
use lib.ListN.{length}
use Rattle.std.specs.List.{between}
use Rattle.std.specs.Option.{is_some}
use Rattle.std.proofs.lemmas.Iterator.{YieldsList-from_slice, cases_from_any}
use Rattle.std.proofs.lemmas.Grind.{common_steps}
use Rattle.std.proofs.lemmas.Result.{err_from_is_err_and}
use Rattle.rules.specs.Table.{is_group, group_of}
use Rattle.groups.specs.Line.{group_is, line_is}
use Rattle.groups.proofs.RowsLaws.{Asked, found_one, found_none, filled_length, filled_row}
use Rattle.groups.proofs.ReadLaws.{lined_none, lined_bad, lined_overlap, lined_more, left_out, whole, read_fits}
use Rattle.groups.proofs.read_groups.Goals as goal
use Rattle.groups.proofs.read_groups.Goals.{In_ok-group, After-any, After-any-2}

-- the line's group
one : (c : In_ok-group) → is_group (group_is c.in_ok-group.group) ≡ group_of c.cut_at.result.0.now
one c = sym (ap line_is c.in_ok-group.ensures.ok_part) ∙ c.group_of.ensures

-- what is said of the rows of its kinds
asked : (c : After-any) → Asked true c.any.result (between c.in_ok-group.group.first (c.in_ok-group.group.last + 1) c.loop-rest.table)
asked c =
    let kinds = between c.in_ok-group.group.first (c.in_ok-group.group.last + 1) c.loop-rest.table in
    cases_from_any _ _ c.any.result (λ row. is_some row ≡ true) (λ row. is_some row ≡ false) c.any.ensures.ran
    (YieldsList-from_slice kinds c.iter.ensures.rest) (λ x q k. search (rules, tests)) (λ x q k. search (rules, tests))

-- and of all rows behind the last line
asked_all : (c : After-any-2) → Asked false c.any-2.result c.loop-rest.table
asked_all c =
    let table = c.loop-rest.table in
    cases_from_any _ _ c.any-2.result (λ row. is_some row ≡ false) (λ row. is_some row ≡ true) c.any-2.ensures.ran
    (YieldsList-from_slice table c.iter-2.ensures.rest) (λ x q k. search (rules, tests)) (λ x q k. search (rules, tests))

pub loop-rest-init : goal.loop-rest-init
loop-rest-init c = lined_none _

pub returns-in_err-group : goal.returns-in_err-group
returns-in_err-group c =
    let l = c.loop-rest in
    let p = err_from_is_err_and c.from_residual.result c.from_residual.ensures.1 in
    let lines : c.in_err-group.field-0.0 ≡ l.lines = let v = rw c.in_err-group.ensures.ok_part at c.in_err-group.ensures.value in cc in
    rw (p.1, p.2, lines) (lined_bad l.invariant c.loop-rest-test.ensures _ _ c.cut_at.ensures.front c.cut_at.ensures.behind
    (sym (ap line_is c.in_err-group.ensures.ok_part) ∙ c.group_of.ensures))

pub returns-then-any : goal.returns-then-any
returns-then-any c =
    let l = c.loop-rest in
    let g = c.in_ok-group.group in
    let is = one (goal.at.returns-then-any c).In_ok-group in
    let fits = read_fits _ g is in
    let answer : Asked true true (between g.first (g.last + 1) l.table) = rw c.if-any.true at (asked (goal.at.returns-then-any c).After-any) in
    lined_overlap l.invariant c.loop-rest-test.ensures _ _ c.cut_at.ensures.front c.cut_at.ensures.behind g is
    (found_one l.table g.first g.last fits.upward (omega (arith, fits.kinds, l.invariant.room)) answer)

pub loop-rest-preserved : goal.loop-rest-preserved
loop-rest-preserved c =
    let l = c.loop-rest in
    let g = c.in_ok-group.group in
    let is = one (goal.at.loop-rest-preserved c).In_ok-group in
    let fits = read_fits _ g is in
    let within : g.last < length l.table = omega (arith, fits.kinds, l.invariant.room) in
    let answer : Asked true false (between g.first (g.last + 1) l.table) = rw c.if-any.false at (asked (goal.at.loop-rest-preserved c).After-any) in
    let rows = c.fill.ensures.after (λ y e. grind (arith, common_steps)) in
    lined_more l.invariant c.loop-rest-test.ensures _ _ c.cut_at.ensures.front c.cut_at.ensures.behind g is
    (found_none l.table g.first g.last fits.upward within answer)
    (filled_length l.table g.first g.last fits.upward within g.figures c.fill.new.self rows ∙ l.invariant.room)
    (filled_row l.table g.first g.last fits.upward within g.figures c.fill.new.self rows)

pub returns-then-any-2 : goal.returns-then-any-2
returns-then-any-2 c =
    left_out c.loop-rest.invariant c.loop-rest-test.ensures (rw c.if-any-2.true at (asked_all (goal.at.returns-then-any-2 c).After-any-2))

pub returns : goal.returns
returns c = whole c.loop-rest.invariant c.loop-rest-test.ensures (rw c.if-any-2.false at (asked_all (goal.at.returns c).After-any-2))
