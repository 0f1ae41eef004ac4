-- `past_ops` counts the ops at the front, and read from behind them the form is broken where it was. Assumes nothing.
use mathlib.Core.Path.{◌≡◌, ap, ◌∙◌}
use Prim.Native.Nat.{◌+◌, ◌-◌}
use native.Mathlib.Omega.{arith}
use borrow.Author.Rules.{rules}
use borrow.Author.Tests.{tests}
use lib.ListN.{drop}
use lib.Seq.{drop-drop}
use Rattle.std.specs.List.{prefix_len}
use Rattle.std.specs.Slice.Iter.{iter_rest}
use Rattle.rules.specs.Ops.{is_op}
use Rattle.words.proofs.ReaderLaws.{past_run}
use Rattle.words.proofs.RunLaws.{counted}
use Rattle.words.proofs.whole.past_ops.Goals as goal

pub returns-clause-same : goal.returns-clause-same
returns-clause-same c = λ k n.
    let ws = c.args.words.now in
    let from = c.args.from in
    let run = c.take_while in
    let ops =
    counted is_op ws from run.result c.count.result (ap iter_rest run.ensures.source ∙ c.iter.ensures.rest) run.ensures.closure run.ensures.done
    (λ x b q k. search (rules, tests)) c.count.ensures.ran in
    let passed : from + c.count.result - from ≡ c.count.result = omega arith in
    rw (passed, ops, ← drop-drop (prefix_len is_op (drop from ws)) from ws) (past_run (drop from ws) from k n)
