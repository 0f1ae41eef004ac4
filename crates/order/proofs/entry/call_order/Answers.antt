-- `call_order` shows what the visits of all chunks from 0 up come to: the loop's invariant is that the visits from c on give the whole.
-- Assumes nothing.
use Rattle.std.proofs.Common.{[], arith}
use Rattle.std.proofs.lemmas.Result.{err_from_is_err_and}
use Rattle.order.specs.Search.{Searchable}
use Rattle.order.proofs.VisitLaws.{few-chunks}
use Rattle.order.proofs.OrderLaws.{walk_begins, walk_on, walk_past, walk_ring, walk_end}
use Rattle.order.proofs.entry.call_order.Goals as goal
use Rattle.order.proofs.entry.call_order.Goals.{In-loop-c, then-not-s-c+in_ok-topo_visit, else-not-s-c}

-- a chunk below n can be visited
asked : (c : In-loop-c) → Searchable c.args.calls.now c.loop-c.c c.loop-c.s
asked c =
    record { places = c.requires; chunk = c.loop-c-test.true; opened = []; done = c.loop-c.s.order.items; shows = c.loop-c.invariant.shows }

pub loop-c-init : goal.loop-c-init
loop-c-init c = walk_begins c.requires.words (c.begun-s.ensures _ (few-chunks c.requires.words))

pub bounds-s-c : goal.bounds-s-c
bounds-s-c c = omega (arith, few-chunks c.requires.words)

pub topo_visit-requires : goal.topo_visit-requires
topo_visit-requires c = asked (goal.at.topo_visit-requires c).In-loop-c

pub returns-in_err-topo_visit : goal.returns-in_err-topo_visit
returns-in_err-topo_visit c =
    let p = err_from_is_err_and c.from_residual.result c.from_residual.ensures.1 in
    rw (p.1, p.2) (walk_ring c.loop-c.invariant c.loop-c-test.true _ c.in_err-topo_visit.ensures)

pub loop-c-preserved : goal.loop-c-preserved
loop-c-preserved c =
    elim c.if-not-s-c.branch [
      | then-not-s-c+in_ok-topo_visit w ↦ rw w.s-is (walk_on c.loop-c.invariant c.loop-c-test.true w.in_ok-topo_visit.ensures)
      | else-not-s-c w ↦ rw w.s-is (walk_past c.loop-c.invariant (asked (goal.at.loop-c-preserved c).In-loop-c) w.if-not-s-c.false)
    ]

pub returns : goal.returns
returns c = walk_end c.loop-c.invariant c.loop-c-test.false
