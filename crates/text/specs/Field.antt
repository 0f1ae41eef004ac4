-- A field of a line: a number, and the byte that ends it.
use Rattle.std.specs.Prelude.{List, [], ◌∷◌, ◌++◌, ℕ}
use Rattle.rules.specs.Text.{decimal}

unfoldable pub field_text : ℕ → ℕ → List ℕ
field_text n end = decimal n ++ (end ∷ [])

-- the most bytes of a refusal's line: a word of seven letters and a space, and three numbers of at most 10, 20 and 20 digits, each with a byte behind it
abbrev pub refused_most : ℕ
refused_most = 61
