-- Whether what the lists hold fits, its words, and how many they are.
use Rattle.std.specs.Prelude.{Bool, true, false, ◌&&◌, ℕ, ◌+◌, ◌/◌, ◌%◌, leb, length}
use mathlib.Core.List.{List, [], ◌∷◌, flat_map}
use Rattle.rules.specs.Limits.{b_unit, most_words}
use Rattle.rules.specs.Ops.{word}
use Rattle.rules.specs.Outcome.{Found, found, nothing}
use Rattle.rules.specs.Form.{Constant, constant_words, chunk_words}
use Rattle.rules.specs.Writing.{Draft, Held, holds, hold_none, filed, every, constant_fits, draft_fits}

-- a test of what is held, and its words; where nothing is held it fails, and there are none
module _ {A : Type 0} where
  abbrev pub held_fits : (A → Bool) → Held A → Bool
  held_fits f (holds x) = f x
  held_fits f hold_none = false

  abbrev pub held_words : (A → List ℕ) → Held A → List ℕ
  held_words f (holds x) = f x
  held_words f hold_none = []

-- the four words of a constant, from its halves of 32 bits
abbrev pub four_words : ℕ → ℕ → ℕ → List ℕ
four_words kind low high = word kind 0 (low % b_unit) ∷ word kind 1 (low / b_unit) ∷ word kind 2 (high % b_unit) ∷ word kind 3 (high / b_unit) ∷ []

-- constants that fit
abbrev pub constants_fit : Held (List Constant) → Bool
constants_fit ks = held_fits (every constant_fits) ks

-- the words of constants
abbrev pub constants_words : Held (List Constant) → List ℕ
constants_words ks = held_words (flat_map constant_words) ks

-- the words of a chunk that is filed
abbrev pub filed_words : Draft → List ℕ
filed_words d = chunk_words (filed d)

-- one chunk fits
abbrev pub one_fits : Held Draft → Bool
one_fits d = held_fits draft_fits d

-- its words
abbrev pub one_words : Held Draft → List ℕ
one_words d = held_words filed_words d

-- all chunks fit
abbrev pub all_fit : Held (List Draft) → Bool
all_fit ds = held_fits (every draft_fits) ds

-- the words of all chunks, the module's head aside
abbrev pub all_words : Held (List Draft) → List ℕ
all_words ds = held_words (flat_map filed_words) ds

-- a size that is told only where all fits
abbrev pub size_if : Bool → ℕ → Found
size_if true n = found n
size_if false n = nothing

-- the words of one chunk, how many they are, if it fits
abbrev pub one_size : Held Draft → Found
one_size d = size_if (one_fits d) (length (one_words d))

-- the words of all chunks behind w words, how many they are, if all fit and they are within the limit
abbrev pub size_from : ℕ → Held (List Draft) → Found
size_from w ds = size_if (all_fit ds && leb (w + length (all_words ds)) most_words) (w + length (all_words ds))
