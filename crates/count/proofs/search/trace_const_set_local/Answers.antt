-- `trace_const_set_local` answers the value that the last SetLocal of a slot gives, and where that stands.
-- Assumes nothing.
use Rattle.std.proofs.Common.{◌≡◌, ℕ, sym, arith}
use Rattle.count.proofs.SearchLaws.{below_start, set_at}
use Rattle.count.proofs.search.trace_const_set_local.Goals as goal

pub value_at-given-requires : goal.value_at-given-requires
value_at-given-requires c = omega (arith, c.requires, below_start c.args.ops.now c.args.slot c.args.before c.in-Some.at (sym c.in-Some.ensures))

pub returns-clause-stop : goal.returns-clause-stop
returns-clause-stop c =
    let later : c.in-Some.at ≡ 0 → ⊥ = λ e. let z = rw e at c.in-Some-given.ensures in let o : ◌≡◌ {A = ℕ} 0 1 = cc in omega arith in
    set_at _ _ _ _ c.in-Some.ensures later c.requires
