-- `past_extras` counts the whole extras at the front, and read from behind them, with the extras left, the form is broken where it was.
-- Assumes nothing.
use mathlib.Core.Path.{◌≡◌, ◌∙◌}
use mathlib.Core.List.{List}
use Prim.Native.Nat.{ℕ, ◌+◌, ◌-◌, ◌*◌, ◌/◌}
use native.Mathlib.Omega.{arith}
use borrow.Author.Rules.{rules}
use borrow.Author.Tests.{tests}
use lib.ListN.{length, take, drop}
use lib.Seq.{drop-drop}
use Rattle.std.specs.Iterator.Adapters.{take_source, take_count, take_while_source}
use Rattle.std.specs.List.{prefix_len}
use Rattle.std.specs.Simd.{first_chunks}
use Rattle.std.specs.Slice.Iter.{iter_rest}
use Rattle.std.proofs.lemmas.Iterator.{YieldsList-from_slice, YieldsList-from_take}
use Rattle.std.proofs.lemmas.List.{take_rest}
use Rattle.words.proofs.ReaderLaws.{whole_extra, past_extras}
use Rattle.words.proofs.RunLaws.{counted_of}
use Rattle.words.proofs.whole.past_extras.Goals as goal
use Rattle.words.proofs.whole.past_extras.Goals.{After-count-extras}

-- the words two by two
abbrev pairs : List ℕ → List (List ℕ)
pairs ws = first_chunks 2 (length ws / 2) ws

-- the pairs of words from `from` on, no more than `most`, are counted while they are extras
extras : (c : After-count-extras) → c.count-extras.result ≡ prefix_len whole_extra (take c.args.most (pairs (drop c.args.from c.args.words.now)))
extras c =
    let run = c.take_while in
    let all = pairs (drop c.args.from c.args.words.now) in
    let rest : iter_rest (take_source (take_while_source run.result)) ≡ all =
    rw (run.ensures.source, c.take.ensures.source) (c.iter.ensures.rest ∙ (rw (take_rest c.args.words.now c.args.from) at c.as_chunks.ensures.front)) in
    let most : take_count (take_while_source run.result) ≡ c.args.most = rw run.ensures.source c.take.ensures.count in
    counted_of whole_extra (take c.args.most all) run.result c.count-extras.result (YieldsList-from_take c.args.most (YieldsList-from_slice all rest) most) run.ensures.closure run.ensures.done
    (λ x b q k. search (rules, tests)) c.count-extras.ensures.ran

pub returns-clause-same : goal.returns-clause-same
returns-clause-same c = λ n.
    let from = c.args.from in
    let ws = drop from c.args.words.now in
    let passed : (from + 2 * c.count-extras.result - from) / 2 ≡ c.count-extras.result = omega arith in
    rw (passed, extras c, ← drop-drop (2 * prefix_len whole_extra (take c.args.most (pairs ws))) from c.args.words.now)
    (past_extras c.args.most (length ws / 2) ws from n (omega arith))
