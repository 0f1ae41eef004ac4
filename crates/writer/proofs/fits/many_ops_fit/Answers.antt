-- `many_ops_fit` holds op after op against the greatest fields of its kind. Invariant: what is left fits if and only if all does. Assumes nothing.
use mathlib.Core.Path.{◌≡◌, sym, ap, ◌∙◌}
use mathlib.Core.Bool.{false}
use lib.ListN.{get_or}
use Rattle.rules.specs.Writing.{every, op_fits, held_ops}
use Rattle.writer.specs.declared.fits.Greatest.{Greatest}
use Rattle.writer.proofs.FitLaws.{op_first, ops-end, no_op_lem, over_a, over_b, within}
use Rattle.writer.proofs.fits.many_ops_fit.Goals as goal
use Rattle.writer.proofs.fits.many_ops_fit.Goals.{In-len3-up, then-greatest-a-via-then-greatest-a, then-greatest-a-via-else-greatest-a+then-greatest-b}

-- an op that does not fit makes all unfit
unfit : (c : In-len3-up) → let l = c.loop-rest.rest.now in op_fits (record { kind = get_or l 0 0; a = get_or l 1 0; b = get_or l 2 0 }) ≡ false
    → false ≡ every op_fits (held_ops c.args.ops.now)
unfit c not = sym (c.loop-rest.invariant ∙ op_first _ c.in-len3-up.len_at_least ∙ rw not)

pub returns-then-k : goal.returns-then-k
returns-then-k c =
    let l = c.loop-rest.rest.now in
    unfit (goal.at.returns-then-k c).In-len3-up (no_op_lem (get_or l 0 0) (get_or l 1 0) (get_or l 2 0) c.if-k.true)

pub returns-then-greatest-a : goal.returns-then-greatest-a
returns-then-greatest-a c =
    let l = c.loop-rest.rest.now in
    let b = (goal.at.returns-then-greatest-a c).In-len3-up in
    let most = c.greatest_fields-most.ensures (get_or l 0 0) c.if-k.false in
    elim c.then-greatest-a.branch [
      | then-greatest-a-via-then-greatest-a w ↦ unfit b (over_a (get_or l 0 0) (get_or l 1 0) (get_or l 2 0) (rw (← ap (λ (g : Greatest). g.a) most) w.if-greatest-a.true))
      | then-greatest-a-via-else-greatest-a+then-greatest-b w ↦ unfit b (over_b (get_or l 0 0) (get_or l 1 0) (get_or l 2 0) (rw (← ap (λ (g : Greatest). g.b) most) w.if-greatest-b.true))
    ]

pub loop-rest-preserved : goal.loop-rest-preserved
loop-rest-preserved c =
    let l = c.loop-rest.rest.now in
    let most = c.greatest_fields-most.ensures (get_or l 0 0) c.if-k.false in
    let fits = within (get_or l 0 0) (get_or l 1 0) (get_or l 2 0) c.if-k.false (rw (← ap (λ (g : Greatest). g.a) most) c.if-greatest-a.false) (rw (← ap (λ (g : Greatest). g.b) most) c.if-greatest-b.false) in
    c.loop-rest.invariant ∙ op_first _ c.in-len3-up.len_at_least ∙ rw fits

pub returns : goal.returns
returns c = sym (c.loop-rest.invariant ∙ ops-end _ c.in_default.len_below)
