-- What a search's answer stands for in document 01.
use Rattle.std.specs.Prelude.{ℕ, Option, Some, None}
use Rattle.rules.specs.Outcome as O

abbrev pub found_of : Option ℕ → O.Found
found_of (Some i) = O.found i
found_of None = O.nothing
