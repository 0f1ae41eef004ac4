-- `put_ops` writes op after op. Invariant: what is left fits, and written where the last one ends it gives all. Assumes nothing.
use mathlib.Core.Path.{◌≡◌, refl, ap}
use mathlib.Core.Bool.{true}
use mathlib.Core.List.{[], ◌∷◌, ◌++◌, map}
use Prim.Native.Nat.{◌<◌, ◌≤◌}
use native.Mathlib.Omega.{arith}
use lib.ListN.{length, get_or}
use Rattle.rules.specs.Ops.{word}
use Rattle.rules.specs.Writing.{op_word, every, op_fits, held_ops}
use Rattle.text.proofs.PasteLaws.{pasted-one}
use Rattle.writer.proofs.HeldLaws.{behind}
use Rattle.writer.proofs.PutLaws.{left_more, left_none, op_left, ops_none}
use Rattle.writer.proofs.put.put_ops.Goals as goal
use Rattle.writer.proofs.put.put_ops.Goals.{In-len3-up}

-- the first op of what is left fits, and its word stands in front of those behind it
here : (c : In-len3-up) → let l = c.loop-rest.rest.now in
    (get_or l 0 0 ≤ 65) × (get_or l 1 0 < 65536) × (get_or l 2 0 < 256) × (every op_fits (held_ops (behind 3 l)) ≡ true)
    × (map op_word (held_ops l) ≡ (word (get_or l 0 0) (get_or l 2 0) (get_or l 1 0) ∷ []) ++ map op_word (held_ops (behind 3 l)))
here c = op_left c.loop-rest.rest.now c.in-len3-up.len_at_least c.loop-rest.invariant.0

pub overflow_mul-tray : goal.overflow_mul-tray
overflow_mul-tray c = omega (arith, here (goal.at.overflow_mul-tray c).In-len3-up)

pub overflow_mul-tray-in-len3-up : goal.overflow_mul-tray-in-len3-up
overflow_mul-tray-in-len3-up c = omega (arith, here (goal.at.overflow_mul-tray-in-len3-up c).In-len3-up)

pub overflow_add-tray : goal.overflow_add-tray
overflow_add-tray c = omega (arith, here (goal.at.overflow_add-tray c).In-len3-up)

pub overflow_add-tray-in-len3-up : goal.overflow_add-tray-in-len3-up
overflow_add-tray-in-len3-up c = omega (arith, here (goal.at.overflow_add-tray-in-len3-up c).In-len3-up)

pub bounds-tray-next : goal.bounds-tray-next
bounds-tray-next c = omega (arith, c.loop-rest.invariant.1.room, ap length (here (goal.at.bounds-tray-next c).In-len3-up).4)

pub loop-rest-preserved : goal.loop-rest-preserved
loop-rest-preserved c =
    let l = c.loop-rest.rest.now in
    let h = here (goal.at.loop-rest-preserved c).In-len3-up in
    let w = word (get_or l 0 0) (get_or l 2 0) (get_or l 1 0) in
    let room : c.loop-rest.next < length c.loop-rest.tray = omega (arith, c.loop-rest.invariant.1.room, ap length h.4) in
    (h.3, left_more (w ∷ []) (map op_word (held_ops (behind 3 l))) (rw h.4 at c.loop-rest.invariant.1) (pasted-one c.loop-rest.next w c.loop-rest.tray room, refl))

pub returns : goal.returns
returns c = left_none (rw (ops_none c.loop-rest.rest.now c.in_default.len_below) at c.loop-rest.invariant.1)
