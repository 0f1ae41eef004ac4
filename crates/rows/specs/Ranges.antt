-- What the ranges of the code stand for in document 01.
use Rattle.std.specs.Prelude.{List, ℕ}
use Rattle.rules.specs.Outcome as O
use Rattle.rules.specs.Rows as R
use Rattle.rows.specs.declared.range.Range.{Range}

-- a range, by its two ends
abbrev pub range_is : Range → R.Range
range_is g = record { from = g.from; to = g.to }

-- the range of what may be walked, in a chunk of that type
abbrev pub range_row : ℕ → List ℕ → O.Result R.Range
range_row mode ops = O.and_then (R.walkable mode ops) (λ w. O.ok w.range)
