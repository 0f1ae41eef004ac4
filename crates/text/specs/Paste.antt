-- A list with another one written over it.
use Rattle.std.specs.Prelude.{◌≡◌, List, ◌++◌, ℕ, ◌+◌, length, take, drop}

-- l with xs in it from place at on; what lies before and beyond is left
unfoldable pub pasted : ℕ → List ℕ → List ℕ → List ℕ
pasted at xs l = take at l ++ (xs ++ drop (at + length xs) l)

-- l has become m by writing xs at place at, and r is the place behind
abbrev pub Put : ℕ → List ℕ → List ℕ → List ℕ → ℕ → Type 0
Put at xs l m r = (m ≡ pasted at xs l) × (r ≡ at + length xs)
