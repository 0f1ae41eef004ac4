-- `all_passes` answers the step behind a Loop whose body reaches its end, or refusal 9 or 8.
-- Assumes nothing.
use Prim.Native.Nat.{◌+◌, ◌*◌}
use native.Mathlib.Numerals.{add-one}
use Rattle.cycles.proofs.CycleLaws.{break_is, saturated}
use Rattle.cycles.proofs.region.CycleWalk.all_passes.Goals as goal

pub returns : goal.returns
returns c =
    let a = c.args in
    let pass = saturated (a.body.cycles + c.in_ok-close.close) c.saturating_add.result c.saturating_add.ensures in
    let all = saturated (c.saturating_add.result * c.in_ok-n.n) c.saturating_mul-passes.result c.saturating_mul-passes.ensures in
    let last = break_is a.body.breaks in
    let sum = saturated (c.saturating_mul-passes.result + c.unwrap_or-last.result) c.saturating_add-2.result c.saturating_add-2.ensures in
    let total = saturated (a.cost + c.saturating_add-2.result) c.saturating_add-total.result c.saturating_add-total.ensures in
    rw (add-one a.e, ← c.in_ok-n.ensures, ← c.in_ok-close.ensures, total, sum, c.unwrap_or-last.ensures, last, all, pass)
