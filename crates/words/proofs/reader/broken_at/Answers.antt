-- `broken_at` finds the place at which the form is broken. Invariant: the rest, read from the stage at hand, is broken where the whole is,
-- and the stage's counter is at most the position. Measure: the words left. Assumes nothing.
use mathlib.Core.Path.{◌≡◌, sym, ◌∙◌}
use Prim.Native.Nat.{◌+◌, ◌≤◌}
use lib.ListN.{length, drop}
use Rattle.rules.specs.Reading.{broken_at}
use Rattle.words.specs.Reader.{stage_of, counter}
use Rattle.words.proofs.ReaderLaws.{goes_on, sticks, ends}
use Rattle.words.proofs.reader.broken_at.Goals as goal
use Rattle.words.proofs.reader.broken_at.Goals.{In-Some}

-- the word at hand moves the reader on by one
onward : (c : In-Some) → let ws = c.args.words.now in let t = stage_of c.in-Some.t in let i = c.loop-i.i in
    (i + 1 ≤ length ws) × (counter t ≤ i + 1) × (broken_at (stage_of c.loop-i.s) (drop i ws) i ≡ broken_at t (drop (i + 1) ws) (i + 1))
onward c =
    let e = rw c.in-Some.is at c.step_on-next.ensures in
    goes_on _ _ _ _ c.loop-i-test.true e c.loop-i.invariant.1

pub returns-in_default : goal.returns-in_default
returns-in_default c = let e = rw c.in_default.is at c.step_on-next.ensures in
    sym (c.loop-i.invariant.2 ∙ sticks _ _ _ c.loop-i-test.true e)

pub run_on-p-requires : goal.run_on-p-requires
run_on-p-requires c = let o = onward (goal.at.run_on-p-requires c).In-Some in
    (o.0, c.requires.1, o.1)

pub loop-i-preserved : goal.loop-i-preserved
loop-i-preserved c =
    let r = c.run_on-p.ensures in
    (r.within.1, r.within.2, c.loop-i.invariant.2 ∙ (onward (goal.at.loop-i-preserved c).In-Some).2 ∙ r.same)

pub returns-then-may_end : goal.returns-then-may_end
returns-then-may_end c = sym (c.loop-i.invariant.2 ∙ ends _ _ _ c.loop-i-test.false ∙ rw (← c.may_end.ensures, c.if-may_end.true))

pub returns-else-may_end : goal.returns-else-may_end
returns-else-may_end c = sym (c.loop-i.invariant.2 ∙ ends _ _ _ c.loop-i-test.false ∙ rw (← c.may_end.ensures, c.if-may_end.false))
