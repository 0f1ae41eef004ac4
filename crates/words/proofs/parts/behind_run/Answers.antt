-- `behind_run` counts the words at the front whose kinds are in the range. Assumes nothing.
use mathlib.Core.Path.{sym, ap, ◌∙◌}
use Prim.Native.Nat.{◌+◌}
use borrow.Author.Rules.{rules}
use borrow.Author.Tests.{tests}
use lib.ListN.{drop}
use Rattle.std.specs.Slice.Iter.{iter_rest}
use Rattle.words.specs.Parts.{of_kinds}
use Rattle.words.proofs.RunLaws.{run_count, counted}
use Rattle.words.proofs.parts.behind_run.Goals as goal

pub returns : goal.returns
returns c =
    ap (λ n. c.args.from + n)
    (counted (of_kinds c.args.low c.args.high) c.args.words.now c.args.from c.take_while-run.result c.count.result
    (ap iter_rest c.take_while-run.ensures.source ∙ c.iter.ensures.rest) c.take_while-run.ensures.closure c.take_while-run.ensures.done
    (λ x b q k. search (rules, tests)) c.count.ensures.ran
    ∙ sym (run_count (of_kinds c.args.low c.args.high) (drop c.args.from c.args.words.now)))
