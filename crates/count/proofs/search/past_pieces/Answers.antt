-- `past_pieces` passes over pieces that do not set the slot. The loop's invariant: what is left gives the whole.
-- Assumes nothing.
use Rattle.std.proofs.Common.{◌≡◌, ◌-◌, ◌≤◌, ◌++◌, take, length, append_assoc, arith, sym, ◌∙◌}
use Rattle.rules.proofs.Flags.{both}
use Rattle.rules.specs.Count.{never_sets, last_set}
use Rattle.count.proofs.NeverLaws.{piece_past}
use Rattle.count.proofs.search.past_pieces.Goals as goal
use Rattle.count.proofs.search.past_pieces.Goals.{Else-not-never_sets}

pub never_sets-requires : goal.never_sets-requires
never_sets-requires c = let s = c.in-Some.ensures.steps in omega arith

-- the piece ends what is left, and does not set the slot
past : (c : Else-not-never_sets) → let a = c.args in let i = c.loop-piece.i in let t = c.next.new.self in
    (64 ≤ i) × (t.rem.now ++ t.rest.now ≡ take (i - 64) a.ops.now) × (last_set a.ops.now i a.slot ≡ last_set a.ops.now (i - 64) a.slot)
past c =
    let s = c.in-Some.ensures.steps in
    let t = c.next.new.self in
    let w = c.in-Some.piece.now in
    let v = c.loop-piece.invariant in
    let e : (t.rem.now ++ t.rest.now) ++ w ≡ take c.loop-piece.i c.args.ops.now = append_assoc t.rem.now t.rest.now w ∙ rw (s.1, ← s.2.0) v.3 in
    let l : length w ≡ 64 = omega arith in
    let k = both (never_sets w c.args.slot 64 0) (never_sets w c.args.slot 64 0) (sym c.never_sets.ensures ∙ c.if-not-never_sets.false) in
    piece_past c.args.ops.now (t.rem.now ++ t.rest.now) w c.args.slot c.loop-piece.i 64 (omega arith) e l k.0

pub overflow_sub-i : goal.overflow_sub-i
overflow_sub-i c = (past (goal.at.overflow_sub-i c).Else-not-never_sets).0

pub loop-piece-preserved : goal.loop-piece-preserved
loop-piece-preserved c =
    let p = past (goal.at.loop-piece-preserved c).Else-not-never_sets in
    let v = c.loop-piece.invariant in
    let s = c.in-Some.ensures.steps in
    (omega arith, v.1 ∙ p.2, s.0 ∙ v.2, p.1)
