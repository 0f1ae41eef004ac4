-- `put_constants` writes constant after constant. Invariant: what is left fits, and written where the last one ends it gives all. Assumes nothing.
use mathlib.Core.Path.{refl, ap}
use mathlib.Core.List.{[]}
use Prim.Native.Nat.{◌+◌, ◌*◌, ◌<◌}
use native.Mathlib.Omega.{arith}
use lib.ListN.{length, get_or, drop, length-append, length-drop}
use Rattle.rules.specs.Writing.{held_constants}
use Rattle.writer.specs.Size.{four_words, constants_words}
use Rattle.writer.proofs.PutLaws.{left_more, left_none, constant_left, constants_none}
use Rattle.writer.proofs.put.put_constants.Goals as goal

pub overflow_add-t : goal.overflow_add-t
overflow_add-t c =
    let threes = c.as_chunks.ensures in
    let one = constant_left c.args.constants.now threes.front threes.front_len c.loop-t-test.true c.loop-t.invariant.0 in
    omega (arith, one.0)

pub put_constant-requires : goal.put_constant-requires
put_constant-requires c =
    let threes = c.as_chunks.ensures in
    let three = get_or c.as_chunks.result.0.now c.loop-t.t-index [] in
    let four = four_words (202 + get_or three 0 0) (get_or three 1 0) (get_or three 2 0) in
    let more = constants_words (held_constants (drop ((c.loop-t.t-index + 1) * 3) c.args.constants.now)) in
    let one = constant_left c.args.constants.now threes.front threes.front_len c.loop-t-test.true c.loop-t.invariant.0 in
    (omega (arith, one.0), omega (arith, c.loop-t.invariant.1.room, ap length (one.2 (omega arith) (omega arith)), length-append four more))

pub loop-t-preserved : goal.loop-t-preserved
loop-t-preserved c =
    let threes = c.as_chunks.ensures in
    let three = get_or c.as_chunks.result.0.now c.loop-t.t-index [] in
    let four = four_words (202 + get_or three 0 0) (get_or three 1 0) (get_or three 2 0) in
    let more = constants_words (held_constants (drop ((c.loop-t.t-index + 1) * 3) c.args.constants.now)) in
    let one = constant_left c.args.constants.now threes.front threes.front_len c.loop-t-test.true c.loop-t.invariant.0 in
    (one.1, left_more four more (rw (one.2 (omega arith) (omega arith)) at c.loop-t.invariant.1) (c.put_constant.ensures, refl))

pub returns : goal.returns
returns c =
    let l = drop (c.loop-t.t-index * 3) c.args.constants.now in
    let few : length l < 3 = omega (arith, length-drop (c.loop-t.t-index * 3) c.args.constants.now, c.as_chunks.ensures.front_len) in
    left_none (rw (constants_none l few) at c.loop-t.invariant.1)
