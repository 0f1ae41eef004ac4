-- `module_size` goes from chunk to chunk. Invariant: behind the words counted, what is left has the size of all. Assumes nothing.
use mathlib.Core.Path.{◌≡◌, sym, ap, ◌∙◌}
use mathlib.Core.Bool.{false≢true}
use mathlib.Core.List.{List}
use Prim.Native.Nat.{◌+◌, ◌*◌}
use native.Mathlib.Omega.{arith}
use lib.ListN.{length, drop}
use Rattle.rules.specs.Outcome.{found}
use Rattle.rules.specs.Writing.{Draft, Held, held_first, held}
use Rattle.words.specs.Found.{found_of}
use Rattle.writer.specs.Size.{one_fits, one_words, one_size, size_from}
use Rattle.writer.specs.Lent.{own_of}
use Rattle.writer.proofs.HeldLaws.{first_left, first_own, not_own}
use Rattle.writer.proofs.SizeLaws.{one_most, size_told, size_on, size_over, size_none, size_end}
use Rattle.writer.proofs.size.module_size.Goals as goal
use Rattle.writer.proofs.size.module_size.Goals.{In_ok-own, In_ok-total}

-- the chunk at hand, and those behind it
abbrev front : In_ok-own → Held Draft
front c = own_of c.from-h.result c.in_ok-own.own

abbrev rest : In_ok-own → Held (List Draft)
rest c =
    let more = c.in_ok-own.behind in
    held (drop ((c.loop-five.five-index + 1) * 5) c.args.chunks.now) more.constants.now more.ops.now more.extras.now

first : (c : In_ok-own) → let a = c.args in
    size_from 1 (held a.chunks.now a.lent.constants.now a.lent.ops.now a.lent.extras.now) ≡ size_from c.loop-five.total (held_first (front c) (rest c))
first c =
    let l = c.loop-five in
    let fives = c.as_chunks.ensures in
    let chunk = first_left c.args.chunks.now fives.front fives.front_len c.loop-five-test.true c.from-h.ensures in
    l.invariant.1 ∙ ap (size_from l.total) (first_own chunk l.rest c.in_ok-own.own c.in_ok-own.behind c.in_ok-own.ensures.parts)

-- a size that is told
told : (c : In_ok-total) → one_size (own_of c.from-h.result c.in_ok-own.own) ≡ found c.in_ok-total.field-0
told c = sym c.in_ok-total.ensures

pub returns-in_err-own : goal.returns-in_err-own
returns-in_err-own c =
    let l = c.loop-five in
    let r = l.rest in
    let fives = c.as_chunks.ensures in
    let chunk = first_left c.args.chunks.now fives.front fives.front_len c.loop-five-test.true c.from-h.ensures in
    let none = not_own chunk r.constants.now r.ops.now r.extras.now (λ h. false≢true (c.in_err-own.ensures.enough.1 h)) in
    ap found_of c.from_residual.ensures ∙ sym (l.invariant.1 ∙ ap (size_from l.total) none)

pub returns-in_err-total : goal.returns-in_err-total
returns-in_err-total c =
    let b = (goal.at.returns-in_err-total c).In_ok-own in
    ap found_of c.from_residual-in_err-total.ensures ∙ sym (first b ∙ size_none c.loop-five.total (front b) (rest b) (sym c.in_err-total.ensures))

pub overflow_add-total : goal.overflow_add-total
overflow_add-total c =
    let b = (goal.at.overflow_add-total c).In_ok-own in
    let (fits, long) = size_told (one_fits (front b)) (length (one_words (front b))) c.in_ok-total.field-0 (told (goal.at.overflow_add-total c).In_ok-total) in
    omega (arith, c.loop-five.invariant.0, long, one_most c.in_ok-own.ensures.parts fits)

pub returns-then-total-gt-WORDS : goal.returns-then-total-gt-WORDS
returns-then-total-gt-WORDS c =
    let b = (goal.at.returns-then-total-gt-WORDS c).In_ok-own in
    let t = told (goal.at.returns-then-total-gt-WORDS c).In_ok-total in
    sym (first b ∙ size_over c.loop-five.total (front b) (rest b) c.in_ok-total.field-0 t c.if-total-gt-WORDS.true)

pub loop-five-preserved : goal.loop-five-preserved
loop-five-preserved c =
    let b = (goal.at.loop-five-preserved c).In_ok-own in
    let t = told (goal.at.loop-five-preserved c).In_ok-total in
    (c.if-total-gt-WORDS.false, first b ∙ size_on c.loop-five.total (front b) (rest b) c.in_ok-total.field-0 t)

pub returns-then-is_empty : goal.returns-then-is_empty
returns-then-is_empty c =
    let l = c.loop-five in
    let r = l.rest in
    let fives = c.as_chunks.ensures in
    let end = size_end l.total l.five-index c.args.chunks.now c.as_chunks.result.1.now r.constants.now r.ops.now r.extras.now (omega (arith, fives.front_len)) fives.back l.invariant.0 in
    rw (l.invariant.1, end, ← c.is_empty.ensures, ← c.is_empty-2.ensures, ← c.is_empty-3.ensures, ← c.is_empty-4.ensures, c.if-is_empty.true)

pub returns : goal.returns
returns c =
    let l = c.loop-five in
    let r = l.rest in
    let fives = c.as_chunks.ensures in
    let end = size_end l.total l.five-index c.args.chunks.now c.as_chunks.result.1.now r.constants.now r.ops.now r.extras.now (omega (arith, fives.front_len)) fives.back l.invariant.0 in
    rw (l.invariant.1, end, ← c.is_empty.ensures, ← c.is_empty-2.ensures, ← c.is_empty-3.ensures, ← c.is_empty-4.ensures, c.if-is_empty.false)
