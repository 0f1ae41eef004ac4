-- `trimmed` goes back over the zeros at the end. Invariant: what is kept is no longer, and is trimmed to the same. Assumes nothing.
use mathlib.Core.Path.{◌≡◌, sym, ap, ◌∙◌}
use Prim.Native.Nat.{◌-◌}
use native.Mathlib.Omega.{arith}
use lib.ListN.{length, get_or}
use lib.Seq.{length-take-le}
use Rattle.rules.specs.Writing.{every, extra_fits}
use Rattle.writer.proofs.FitLaws.{zero_last, last_kept, none_kept, extras_fit}
use Rattle.writer.proofs.fits.trimmed.Goals as goal

pub loop-kept-preserved : goal.loop-kept-preserved
loop-kept-preserved c =
    let l = c.loop-kept in
    let kept = l.kept.now in
    let zero : get_or kept (length kept - 1) 0 ≡ 0 = omega arith in (
      omega (arith, l.invariant.0, length-take-le (length kept - 1) kept (omega arith)),
      l.invariant.1 ∙ zero_last kept c.in-0.len_at_least zero,
    )

pub returns-in_default : goal.returns-in_default
returns-in_default c =
    let l = c.loop-kept in
    let is = l.invariant.1 ∙ none_kept l.kept.now c.in_default.len_below in
    record { kept = sym is; fit = ap (every extra_fits) (sym is) ∙ extras_fit c.args.extras.now (λ i h. omega (arith, c.type_inv.extras i)) }

pub returns-in_default-2 : goal.returns-in_default-2
returns-in_default-2 c =
    let l = c.loop-kept in
    let is = l.invariant.1 ∙ last_kept l.kept.now c.in_default.len_at_least (λ z. omega arith) in
    record { kept = sym is; fit = ap (every extra_fits) (sym is) ∙ extras_fit c.args.extras.now (λ i h. omega (arith, c.type_inv.extras i)) }
