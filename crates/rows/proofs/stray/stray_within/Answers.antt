-- `stray_within` is `stray_break` on the tree of the range. The loop's invariant: what is left to be searched, with the targets of the open Loops in
-- the list, finds what the whole search finds. Assumes nothing.
use mathlib.Core.Path.{sym, ◌∙◌}
use native.Mathlib.Omega.{arith}
use lib.ListN.{get_or}
use Rattle.rules.specs.Ops.{op_at}
use Rattle.rules.specs.Rows.{stray_break}
use Rattle.words.proofs.OpLaws.{read_op}
use Rattle.rows.specs.Tree.{tree_of}
use Rattle.rows.proofs.OpenLoops.{tree_left, none_left}
use Rattle.rows.proofs.LoopTurns.{SearchAt, same_copied, other_copied, open_room, open_next, close_next, own_next, stray_found, other_next}
use Rattle.rows.proofs.stray.stray_within.Goals as goal
use Rattle.rows.proofs.stray.stray_within.Given as given
use Rattle.rows.proofs.stray.stray_within.Goals.{In-loop-i}
use Rattle.rows.proofs.stray.stray_within.Goals.{then-k+then-k-2+then-k-3, then-k+then-k-2+else-k-3+then-k-4, then-k+then-k-2+else-k-3+else-k-4+else-ne}
use Rattle.rows.proofs.stray.stray_within.Goals.{else-k, else-k-via-then-k+else-k-2, else-k-via-else-k}

-- the search at the op that was read
at_op : (g : given.Over) (c : In-loop-i g) → SearchAt (op_at c.args.chunk.now.ops.now) c.args.row.from c.args.row.to
    (stray_break (op_at c.args.chunk.now.ops.now) 0 (tree_of (op_at c.args.chunk.now.ops.now) c.args.row.from c.args.row.to)) c.loop-i.targets.items c.loop-i.i
    (get_or c.args.chunk.now.ops.now c.loop-i.i 0)
at_op g c = record { stage = c.loop-i.invariant; lt = c.loop-i-test.true; here = read_op c.args.chunk.now.ops.now c.loop-i.i (omega arith) }

pub loop-i-init : goal.loop-i-init
loop-i-init g c =
    let op = op_at c.args.chunk.now.ops.now in
    rw c.new-targets.ensures (record { low = omega arith; left = tree_left op c.args.row.to c.args.row.from c.requires.4 })

pub push-requires : goal.push-requires
push-requires g c = omega (arith, open_room (at_op g (goal.at.push-requires g c).In-loop-i) (omega arith))

pub returns-then-ne : goal.returns-then-ne
returns-then-ne g c =
    let last = rw c.deref.ensures.0 at c.last.ensures.value in
    sym (stray_found (at_op g (goal.at.returns-then-ne g c).In-loop-i) (omega arith) (λ e. other_copied c.last.result _ c.if-ne.ensures (last ∙ e)))

pub loop-i-preserved : goal.loop-i-preserved
loop-i-preserved g c =
    let a = at_op g (goal.at.loop-i-preserved g c).In-loop-i in
    elim c.if-k.branch [
      | then-k+then-k-2+then-k-3 w ↦ rw (w.targets-is, w.push.ensures.items) (open_next a (omega arith))
      | then-k+then-k-2+else-k-3+then-k-4 w ↦ rw w.targets-is (close_next a (omega arith) _ _ w.pop.ensures.items w.pop.ensures.variant)
      | then-k+then-k-2+else-k-3+else-k-4+else-ne w ↦
          let last = rw w.deref.ensures.0 at w.last.ensures.value in
          rw w.targets-is (own_next a (omega arith) (sym last ∙ same_copied w.last.result _ w.if-ne.ensures))
      | else-k w ↦ rw w.targets-is (other_next a (λ low high.
          elim w.else-k.branch [ else-k-via-then-k+else-k-2 v ↦ omega arith | else-k-via-else-k v ↦ omega arith ]))
    ]

pub returns : goal.returns
returns g c = sym (none_left _ _ _ c.loop-i.i _ c.loop-i-test.false c.loop-i.invariant.left)
