-- What the coverage walk's answers stand for in the rules.
use Rattle.std.specs.Prelude.{Bool, ◌&&◌, List, ℕ, Option, Some, None}
use Rattle.rules.specs.Ops.{op_at}
use Rattle.rules.specs.Yields as R
use Rattle.rows.specs.Tree.{tree_of}
use Rattle.yields.specs.declared.region.Cover.{Cover}

-- the breaks met so far: none, or whether all of them had yielded
abbrev pub noted_of : Option Bool → R.Noted
noted_of (Some a) = R.all_yielded a
noted_of None = R.no_break

abbrev pub reached_of : Option Bool → R.Coverage
reached_of (Some y) = R.reached y
reached_of None = R.never

abbrev pub cover_of : Cover → R.Cover
cover_of c = R.cover (reached_of c.coverage) (noted_of c.breaks)

-- the flag behind both arms, where one of them reaches its end
abbrev pub behind_arms : Option Bool → Option Bool → Option Bool
behind_arms (Some a) (Some b) = Some (a && b)
behind_arms (Some a) None = Some a
behind_arms None (Some b) = Some b
behind_arms None None = None

-- the walk of the positions from i up to `to` of some ops over a list, with so many levels left, from a flag and breaks
abbrev pub region_cover : List ℕ → List ℕ → ℕ → ℕ → ℕ → Bool → R.Noted → R.Cover
region_cover ops lent i to left y b = R.row_cover (λ j. R.gives_turn lent (op_at ops j)) (tree_of (op_at ops) i to) left y b

-- the same of a body, one level deeper
abbrev pub part_cover : List ℕ → List ℕ → ℕ → ℕ → ℕ → Bool → R.Noted → R.Cover
part_cover ops lent i to left y b = R.inner_cover left b (λ l. region_cover ops lent i to l y b)
