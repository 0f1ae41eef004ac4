-- `cut_at` looks for the first stop, and cuts there. Assumes nothing.
use mathlib.Core.Path.{◌≡◌, sym, ◌∙◌}
use Prim.Native.Nat.{◌+◌}
use borrow.Author.Rules.{rules}
use borrow.Author.Tests.{tests}
use lib.Dec.{eqb}
use Rattle.std.specs.List.{position}
use Rattle.std.proofs.lemmas.Iterator.{YieldsList-from_slice}
use Rattle.std.proofs.lemmas.Iterator.Search.{position_from_yields_List}
use Rattle.std.proofs.lemmas.List.{take_rest}
use Rattle.groups.proofs.SplitLaws.{cut_found, cut_none}
use Rattle.groups.proofs.line.cut_at.Goals as goal
use Rattle.groups.proofs.line.cut_at.Goals.{After-position-place}

-- the place that std finds
found : (c : After-position-place) → c.position-place.result ≡ position (λ x. eqb x c.args.stop) c.args.bytes.now
found c =
    let bytes = c.args.bytes.now in
    position_from_yields_List (λ x. eqb x c.args.stop) _ _ c.position-place.result c.position-place.ensures.ran (YieldsList-from_slice bytes c.iter.ensures.rest)
    (λ x b q k. search (rules, tests))

pub returns-in-Some : goal.returns-in-Some
returns-in-Some c =
    let cut = cut_found c.args.stop c.args.bytes.now c.in-Some.at (sym (found (goal.at.returns-in-Some c).After-position-place) ∙ c.in-Some.is) in
    record { front = cut.0; behind = take_rest c.args.bytes.now (c.in-Some.at + 1) ∙ cut.1 }

pub returns-in-None : goal.returns-in-None
returns-in-None c =
    let cut = cut_none c.args.stop c.args.bytes.now (sym (found (goal.at.returns-in-None c).After-position-place) ∙ c.in-None.is) in
    record { front = cut.0; behind = cut.1 }
