-- `topo_visit` shows what the definition's visit comes to: the loop's invariant is that the rest of the scan, from the list that the state
-- shows, gives the whole. Assumes nothing.
use Rattle.std.proofs.Common.{ℕ, ◌<◌, sym, ◌∙◌, arith}
use borrow.Author.Tests.{eqb-true, eqb-false, not-false}
use Rattle.std.proofs.lemmas.Result.{err_from_is_err_and}
use Rattle.order.proofs.ScanLaws.{rest_begins, rest_skips, rest_visits}
use Rattle.order.proofs.VisitLaws.{few-chunks, ops_within, Opens, inside, passes, room}
use Rattle.order.proofs.VisitLaws.{visited_none, visited_open, visited_listed, visited_ring, visited_end}
use Rattle.order.proofs.visit.+topo_visit.Goals as goal
use Rattle.order.proofs.visit.+topo_visit.Goals.{Else-s-c-2, Start, then-left-eq0-via-then-left-eq0, then-left-eq0-via-else-left-eq0+then-s-c}
use Rattle.order.proofs.visit.+topo_visit.Goals.{then-is_call+then-callee-calls+then-not-s-callee+in_ok-topo_visit, then-left-eq1, else-left-eq1, else-is_call}
use Rattle.order.proofs.visit.+topo_visit.Goals.{else-is_call-via-then-is_call+then-callee-calls+else-not-s-callee, else-is_call-via-then-is_call+else-callee-calls, else-is_call-via-else-is_call}

-- the marks have a place for the chunk
small : (t : ℕ) (c : Start t) → c.args.c < 256
small t c = omega (arith, few-chunks c.requires.places.words)

-- the chunk's visit is opened
opens : (t : ℕ) (c : Else-s-c-2 t) → Opens c.args.calls.now c.args.left c.args.c c.args.s.now
opens t c = record { asked = c.requires; some = c.if-left-eq0.false; shut = c.if-s-c.false; new = c.if-s-c-2.false }

pub bounds-s-c : goal.bounds-s-c
bounds-s-c t c = small t (goal.at.bounds-s-c t c).Start

pub returns-then-left-eq0 : goal.returns-then-left-eq0
returns-then-left-eq0 t c =
    elim c.then-left-eq0.branch [
      | then-left-eq0-via-then-left-eq0 w ↦ visited_none c.requires _ w.if-left-eq0.true
      | then-left-eq0-via-else-left-eq0+then-s-c w ↦ visited_open c.requires _ w.if-left-eq0.false w.if-s-c.true
    ]

pub bounds-s-c-2 : goal.bounds-s-c-2
bounds-s-c-2 t c = small t (goal.at.bounds-s-c-2 t c).Start

pub returns-then-s-c-2 : goal.returns-then-s-c-2
returns-then-s-c-2 t c = visited_listed c.requires _ c.if-left-eq0.false c.if-s-c-2.true

pub bounds-s-c-3 : goal.bounds-s-c-3
bounds-s-c-3 t c = small t (goal.at.bounds-s-c-3 t c).Start

pub slice_bounds-w-items-end : goal.slice_bounds-w-items-end
slice_bounds-w-items-end t c = (ops_within c.requires.places _ c.requires.chunk).1

pub loop-w-init : goal.loop-w-init
loop-w-init t c = rest_begins

pub bounds-s-callee : goal.bounds-s-callee
bounds-s-callee t c = omega (arith, few-chunks c.requires.places.words)

pub topo_visit-requires : goal.topo_visit-requires
topo_visit-requires t c = (omega arith, inside (opens t (goal.at.topo_visit-requires t c).Else-s-c-2) c.loop-w.invariant _ c.if-callee-calls.true)

pub returns-in_err-topo_visit : goal.returns-in_err-topo_visit
returns-in_err-topo_visit t c =
    let p = err_from_is_err_and c.from_residual.result c.from_residual.ensures.1 in
    let call = eqb-true _ _ (sym c.is-is_call.ensures ∙ c.if-is_call.true) in
    rw (p.1, p.2)
    (visited_ring (opens t (goal.at.returns-in_err-topo_visit t c).Else-s-c-2) c.loop-w.invariant c.loop-w-test.true call c.if-callee-calls.true _ c.in_err-topo_visit.ensures)

pub loop-w-preserved : goal.loop-w-preserved
loop-w-preserved t c =
    let more = c.loop-w-test.true in
    let rest = c.loop-w.invariant in
    elim c.if-is_call.branch [
      | then-is_call+then-callee-calls+then-not-s-callee+in_ok-topo_visit w ↦
          rw w.s-is (rest_visits rest more (eqb-true _ _ (sym c.is-is_call.ensures ∙ w.if-is_call.true)) w.if-callee-calls.true w.in_ok-topo_visit.ensures)
      | else-is_call w ↦
          rw w.s-is
          (elim w.else-is_call.branch [
            | else-is_call-via-then-is_call+then-callee-calls+else-not-s-callee v ↦
                elim v.if-left-eq1.branch [
                  | then-left-eq1 u ↦ absurd (eqb-false _ _ (sym u.value-is ∙ v.if-not-s-callee.false) u.if-left-eq1.true)
                  | else-left-eq1 u ↦
                      passes (opens t (goal.at.loop-w-preserved t c).Else-s-c-2) rest more (eqb-true _ _ (sym c.is-is_call.ensures ∙ v.if-is_call.true))
                      v.if-callee-calls.true (λ z. omega arith) (not-false _ (sym u.value-is ∙ v.if-not-s-callee.false))
                ]
            | else-is_call-via-then-is_call+else-callee-calls v ↦ rest_skips rest more (λ h. v.if-callee-calls.false)
            | else-is_call-via-else-is_call v ↦ rest_skips rest more (λ h. absurd (eqb-false _ _ (sym c.is-is_call.ensures ∙ v.if-is_call.false) h))
          ])
    ]

pub bounds-s-c-4 : goal.bounds-s-c-4
bounds-s-c-4 t c = small t (goal.at.bounds-s-c-4 t c).Start

pub bounds-s-c-5 : goal.bounds-s-c-5
bounds-s-c-5 t c = small t (goal.at.bounds-s-c-5 t c).Start

pub overflow_cast-c : goal.overflow_cast-c
overflow_cast-c t c = omega (arith, small t (goal.at.overflow_cast-c t c).Start)

pub push-requires : goal.push-requires
push-requires t c = (omega arith, room (opens t (goal.at.push-requires t c).Else-s-c-2) c.loop-w.invariant)

pub returns : goal.returns
returns t c = visited_end (opens t (goal.at.returns t c).Else-s-c-2) c.loop-w.invariant c.loop-w-test.false _ c.push.ensures.items
