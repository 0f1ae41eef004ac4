-- What a lookup's answer stands for in document 01: 1, 2, then "12 no such chunk".
use Rattle.std.specs.Prelude.{List, ℕ}
use Rattle.rules.specs.Outcome.{Outcome}
use Rattle.rules.specs.Sheet.{looked_up}
use Rattle.words.specs.Parts.{parts_at, head_at}
use Rattle.words.specs.declared.parts.Parts.{Parts}

-- the parts of chunk c
abbrev pub parts_outcome : List ℕ → ℕ → Outcome Parts
parts_outcome ws c = looked_up ws c (λ cs. parts_at ws (head_at cs c))
