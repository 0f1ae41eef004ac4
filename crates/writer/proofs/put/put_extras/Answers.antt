-- `put_extras` writes extra after extra. Invariant: what is left, written where the last one ends, gives all. Assumes nothing.
use mathlib.Core.Path.{refl, ap}
use mathlib.Core.List.{[], ◌∷◌, flat_map}
use Prim.Native.Nat.{ℕ, ◌+◌, ◌/◌, ◌%◌, ◌≤◌}
use native.Mathlib.Omega.{arith}
use lib.ListN.{length, drop, get_or, length-set}
use Rattle.rules.specs.Ops.{word}
use Rattle.rules.specs.Form.{extra_words}
use Rattle.writer.proofs.PutLaws.{left_more, left_none, two_stores, extra_left, extras_none}
use Rattle.writer.proofs.put.put_extras.Goals as goal

pub bounds-tray-next : goal.bounds-tray-next
bounds-tray-next c =
    let l = c.loop-x in
    omega (arith, l.invariant.room, ap length (extra_left c.args.extras.now l.x-index c.loop-x-test.true (omega (arith, c.type_inv.extras l.x-index))))

pub bounds-tray-next-in-loop-x : goal.bounds-tray-next-in-loop-x
bounds-tray-next-in-loop-x c =
    let l = c.loop-x in
    omega (arith, length-set {A = ℕ}, l.invariant.room, ap length (extra_left c.args.extras.now l.x-index c.loop-x-test.true (omega (arith, c.type_inv.extras l.x-index))))

pub loop-x-preserved : goal.loop-x-preserved
loop-x-preserved c =
    let l = c.loop-x in
    let xs = c.args.extras.now in
    let here = extra_left xs l.x-index c.loop-x-test.true (omega (arith, c.type_inv.extras l.x-index)) in
    let low = word 204 0 (get_or xs l.x-index 0 % 65536) in
    let high = word 204 1 (get_or xs l.x-index 0 / 65536) in
    let room : l.next + 2 ≤ length l.tray = omega (arith, l.invariant.room, ap length here) in
    left_more (low ∷ high ∷ []) (flat_map extra_words (drop (l.x-index + 1) xs)) (rw here at l.invariant) (two_stores l.next low high l.tray room, refl)

pub returns : goal.returns
returns c = let l = c.loop-x in left_none (rw (extras_none c.args.extras.now l.x-index c.loop-x-test.false) at l.invariant)
