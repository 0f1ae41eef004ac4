-- `put_chunks` writes chunk after chunk. Invariant: what is left fits, and written where the last one ends it gives all. Assumes nothing.
use mathlib.Core.Path.{◌≡◌, sym, ap, subst, ◌∙◌}
use mathlib.Core.Bool.{true}
use mathlib.Core.List.{List, ◌++◌}
use Prim.Native.Nat.{◌+◌, ◌*◌, ◌<◌}
use native.Mathlib.Omega.{arith}
use lib.ListN.{length, drop, length-append, length-drop}
use Rattle.std.specs.Prelude.{Option, IfSome}
use Rattle.rules.specs.Writing.{Draft, Held, held_first, held}
use Rattle.writer.specs.declared.lent.Lent.{Lent}
use Rattle.writer.specs.Size.{one_fits, one_words, all_fit, all_words}
use Rattle.writer.specs.Lent.{Splits, own_of}
use Rattle.writer.proofs.HeldLaws.{first_left, first_own, has_own}
use Rattle.writer.proofs.PutLaws.{Left, left_more, left_none, first_fits, chunks_none}
use Rattle.writer.proofs.put.put_chunks.Goals as goal
use Rattle.writer.proofs.put.put_chunks.Goals.{After-unwrap}

pub unwrap-requires : goal.unwrap-requires
unwrap-requires c =
    let r = c.loop-five.rest in
    let fives = c.as_chunks.ensures in
    let chunk = first_left c.args.chunks.now fives.front fives.front_len c.loop-five-test.true c.from-h.ensures in
    c.split.ensures.enough.1 (has_own chunk r.constants.now r.ops.now r.extras.now c.loop-five.invariant.0)

-- the chunk at hand, and those behind it
abbrev front : After-unwrap → Held Draft
front c = own_of c.from-h.result c.unwrap.result.0

abbrev rest : After-unwrap → Held (List Draft)
rest c =
    let more = c.unwrap.result.1 in
    held (drop ((c.loop-five.five-index + 1) * 5) c.args.chunks.now) more.constants.now more.ops.now more.extras.now

first : (c : After-unwrap) → let l = c.loop-five in
    held (drop (l.five-index * 5) c.args.chunks.now) l.rest.constants.now l.rest.ops.now l.rest.extras.now ≡ held_first (front c) (rest c)
first c =
    let fives = c.as_chunks.ensures in
    let chunk = first_left c.args.chunks.now fives.front fives.front_len c.loop-five-test.true c.from-h.ensures in
    let parts = subst (λ (o : Option (Lent × Lent)). IfSome o (λ p. Splits c.from-h.result c.loop-five.rest p.0 p.1)) c.unwrap.ensures c.split.ensures.parts in
    first_own chunk c.loop-five.rest c.unwrap.result.0 c.unwrap.result.1 parts

-- they fit, and their words are left
fits : (c : After-unwrap) → (one_fits (front c) ≡ true) × (all_fit (rest c) ≡ true) × (all_words (held_first (front c) (rest c)) ≡ one_words (front c) ++ all_words (rest c))
fits c = first_fits (front c) (rest c) (ap all_fit (sym (first c)) ∙ c.loop-five.invariant.0)

left : (c : After-unwrap) → let l = c.loop-five in let a = c.args in
    Left 1 (all_words (held a.chunks.now a.lent.constants.now a.lent.ops.now a.lent.extras.now)) a.tray.now l.at (one_words (front c) ++ all_words (rest c)) l.tray
left c = rw (← (fits c).2, ← first c) c.loop-five.invariant.1

pub put_chunk-at-requires : goal.put_chunk-at-requires
put_chunk-at-requires c =
    let b = (goal.at.put_chunk-at-requires c).After-unwrap in
    ((fits b).0, omega (arith, (left b).room, length-append (one_words (front b)) (all_words (rest b))))

pub loop-five-preserved : goal.loop-five-preserved
loop-five-preserved c =
    let b = (goal.at.loop-five-preserved c).After-unwrap in
    ((fits b).1, left_more (one_words (front b)) (all_words (rest b)) (left b) c.put_chunk-at.ensures)

pub returns : goal.returns
returns c =
    let l = c.loop-five in
    let chunks = drop (l.five-index * 5) c.args.chunks.now in
    let few : length chunks < 5 = omega (arith, length-drop (l.five-index * 5) c.args.chunks.now, c.as_chunks.ensures.front_len) in
    let none = chunks_none chunks l.rest.constants.now l.rest.ops.now l.rest.extras.now few in
    (left_none (rw none at l.invariant.1)).0
