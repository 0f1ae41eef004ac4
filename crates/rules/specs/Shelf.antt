-- 2.2: what the program `shelf` writes, from the bytes that it read: the words of a lent module as bytes, or a refusal's line.
use Rattle.std.specs.Prelude.{cond, ◌&&◌, List, [], ◌∷◌, ℕ, ◌+◌, ◌*◌, ◌%◌, eqb, leb, length, take, drop}
use Rattle.rules.specs.Limits.{most_words}
use Rattle.rules.specs.Numbers as N
use Rattle.rules.specs.Outcome.{Outcome, answer, refused}
use Rattle.rules.specs.Text.{words_of, bytes_in, outcome_text}
use Rattle.rules.specs.Writing.{write_outcome}

-- the most numbers that are read; a module that fits and has no more extras than ops never takes more than 65,793
abbrev pub most_numbers : ℕ
most_numbers = 66000

-- the four lists one behind the other; the tray is the program's own, and large enough for every module
abbrev pub lists_outcome : ℕ → ℕ → ℕ → List ℕ → Outcome (List ℕ)
lists_outcome c k o ns = write_outcome (take c ns) (take k (drop c ns)) (take o (drop (c + k) ns)) (drop (c + k + o) ns) most_words

-- The numbers: "b 0" of the head, the lengths of the four lists, the lists, and nothing else. Numbers that are not of this form hold no module.
abbrev pub numbers_outcome : List ℕ → Outcome (List ℕ)
numbers_outcome [] = refused N.unfit_part 0 0
numbers_outcome (h ∷ []) = refused N.unfit_part 0 0
numbers_outcome (h ∷ c ∷ []) = refused N.unfit_part 0 0
numbers_outcome (h ∷ c ∷ k ∷ []) = refused N.unfit_part 0 0
numbers_outcome (h ∷ c ∷ k ∷ o ∷ []) = refused N.unfit_part 0 0
numbers_outcome (h ∷ c ∷ k ∷ o ∷ x ∷ ns) =
    cond (eqb h 0 && eqb (c + k + o + x) (length ns)) (lists_outcome c k o ns) (refused N.unfit_part 0 0)

abbrev pub shelf_outcome : List ℕ → Outcome (List ℕ)
shelf_outcome bytes =
    cond (eqb (length bytes % 4) 0 && leb (length bytes) (4 * most_numbers)) (numbers_outcome (words_of bytes)) (refused N.unfit_part 0 0)

-- A refusal is told as `sheet` tells it. The fourth byte is 199 or that of `u`.
abbrev pub filed_bytes : Outcome (List ℕ) → List ℕ
filed_bytes (answer ws) = bytes_in ws
filed_bytes (refused n c p) = outcome_text (refused n c p)

abbrev pub shelf_bytes : List ℕ → List ℕ
shelf_bytes bytes = filed_bytes (shelf_outcome bytes)
