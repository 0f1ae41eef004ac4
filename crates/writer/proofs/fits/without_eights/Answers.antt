-- `without_eights` goes back over the zeros at the end, eight at a time. Invariant: what is kept is no longer, and is trimmed to the same. Assumes nothing.
use mathlib.Core.Path.{sym, ◌∙◌}
use native.Mathlib.Omega.{arith}
use lib.ListN.{length}
use lib.Seq.{length-take-le}
use Prim.Native.Nat.{◌-◌}
use Rattle.rules.proofs.Flags.{both}
use Rattle.writer.proofs.FitLaws.{eight_zeros}
use Rattle.writer.proofs.fits.without_eights.Goals as goal

pub loop-kept-preserved : goal.loop-kept-preserved
loop-kept-preserved c =
    let l = c.loop-kept in
    let kept = l.kept.now in
    let (p, q) = both c.are_zero-first.result c.are_zero-second.result c.if-not-first-second.false in (
      omega (arith, l.invariant.0, length-take-le (length kept - 8) kept (omega arith)),
      l.invariant.1 ∙ eight_zeros kept c.in-len8-up.len_at_least (sym c.are_zero-first.ensures ∙ p) (sym c.are_zero-second.ensures ∙ q),
    )
