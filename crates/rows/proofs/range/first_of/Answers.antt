-- `first_of` is `first_of`: the index that `position` gives is the place that is found. Assumes nothing.
use mathlib.Core.Path.{◌≡◌, ap, ◌∙◌}
use lib.Dec.{eqb}
use Rattle.std.proofs.Common.{rules, tests}
use Rattle.std.proofs.lemmas.Iterator.{YieldsList-from_slice}
use Rattle.std.proofs.lemmas.Iterator.Adapters.{position_from-zero}
use Rattle.std.proofs.lemmas.Iterator.Search.{position_from_yields_List}
use Rattle.std.specs.List.{position_from}
use Rattle.rules.specs.Ops.{kind}
use Rattle.words.specs.Found.{found_of}
use Rattle.words.specs.Kinds.{kind_number}
use Rattle.rows.proofs.SearchLaws.{first_found}
use Rattle.rows.proofs.range.first_of.Goals as goal

pub returns : goal.returns
returns c =
    let k = kind_number c.args.k in
    let ops = c.args.ops.now in
    let found : c.position.result ≡ position_from (λ w. eqb (kind w) k) 0 ops =
    position_from_yields_List (λ w. eqb (kind w) k) _ _ c.position.result c.position.ensures.ran (YieldsList-from_slice ops cc) (λ x b q h. search (rules, tests))
    ∙ position_from-zero (λ w. eqb (kind w) k) ops in
    ap found_of found ∙ first_found k ops 0
