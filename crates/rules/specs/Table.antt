-- 2.6: what the program `optable` prints, from the bytes that it read: "the constant table of 66 rows by kind", or a refusal.
use Rattle.std.specs.Prelude.{Bool, true, false, cond, ◌&&◌, ◌||◌, ℕ, zero, suc, ◌+◌, ◌-◌, ◌*◌, eqb, leb}
use mathlib.Core.List.{List, [], ◌∷◌, ◌++◌, flat_map}
use Rattle.rules.specs.Kinds as K
use Rattle.rules.specs.Numbers as N
use Rattle.rules.specs.Outcome.{Result, ok, no, Found, found, nothing, refused, demand}
use Rattle.rules.specs.Ops.{Figures, Group, group, between, in_groups}
use Rattle.rules.specs.Order.{up_from}
use Rattle.rules.specs.Text.{decimal, space, newline, outcome_text}

-- "66 rows by kind"
abbrev pub kind_count : ℕ
kind_count = 66

-- "five decimal numbers up to 4,294,967,295"
abbrev pub most_number : ℕ
most_number = 4294967295

-- a byte more in front of the first piece
abbrev pub head_onto : ℕ → List (List ℕ) → List (List ℕ)
head_onto x [] = (x ∷ []) ∷ []
head_onto x (l ∷ ls) = (x ∷ l) ∷ ls

-- "a newline behind each (the last may lack it)": no other byte ends a line; bytes behind the last newline are a line, no bytes are none
unfoldable pub lines_of : List ℕ → List (List ℕ)
lines_of [] = []
lines_of (x ∷ xs) = cond (eqb x newline) ([] ∷ lines_of xs) (head_onto x (lines_of xs))

-- "with one space between": a field before the first space, one behind each
unfoldable pub fields_of : List ℕ → List (List ℕ)
fields_of [] = [] ∷ []
fields_of (x ∷ xs) = cond (eqb x space) ([] ∷ fields_of xs) (head_onto x (fields_of xs))

-- "decimal numbers up to 4,294,967,295": the digits are the bytes 48 to 57; n is what the digits before these make
unfoldable pub number_from : ℕ → List ℕ → Found
number_from n [] = cond (leb n most_number) (found n) nothing
number_from n (x ∷ xs) = cond (between 48 57 x) (number_from (10 * n + (x - 48)) xs) nothing

-- "numbers without leading zeros": no digit is no number, and a 0 stands alone
abbrev pub number_of : List ℕ → Found
number_of [] = nothing
number_of (x ∷ []) = number_from 0 (x ∷ [])
number_of (x ∷ y ∷ ys) = cond (eqb x 48) nothing (number_from 0 (x ∷ y ∷ ys))

-- the numbers of fields, if each of them is one
pub data FieldNumbers : Type 0 where
  all_numbers : List ℕ → FieldNumbers
  broken : FieldNumbers

abbrev pub one_more : Found → FieldNumbers → FieldNumbers
one_more (found n) (all_numbers ns) = all_numbers (n ∷ ns)
one_more (found n) broken = broken
one_more nothing ns = broken

unfoldable pub numbers_of : List (List ℕ) → FieldNumbers
numbers_of [] = all_numbers []
numbers_of (f ∷ fs) = one_more (number_of f) (numbers_of fs)

-- what a line is: a group, or one of the faults that a line has alone
pub data LineGroup : Type 0 where
  is_group : Group → LineGroup
  no_group : LineGroup

abbrev pub group_if : Bool → Group → LineGroup
group_if true g = is_group g
group_if false g = no_group

-- "first kind, last kind, cycles, growth, shrink"; "end below their first kind or pass kind 65", "a line that isn't five decimal numbers"
abbrev pub five : List ℕ → LineGroup
five [] = no_group
five (k ∷ []) = no_group
five (k ∷ l ∷ []) = no_group
five (k ∷ l ∷ c ∷ []) = no_group
five (k ∷ l ∷ c ∷ g ∷ []) = no_group
five (k ∷ l ∷ c ∷ g ∷ s ∷ []) = group_if (leb k l && leb l K.call_external_native) (group k l c g s)
five (k ∷ l ∷ c ∷ g ∷ s ∷ x ∷ xs) = no_group

abbrev pub group_from : FieldNumbers → LineGroup
group_from (all_numbers ns) = five ns
group_from broken = no_group

abbrev pub group_of : List ℕ → LineGroup
group_of line = group_from (numbers_of (fields_of line))

-- "overlap": they have a kind in common
abbrev pub overlaps : Group → Group → Bool
overlaps g h = leb g.first h.last && leb h.first g.last

unfoldable pub overlaps_any : Group → List Group → Bool
overlaps_any g [] = false
overlaps_any g (h ∷ hs) = overlaps g h || overlaps_any g hs

-- a kind is in a group
unfoldable pub in_some : List Group → ℕ → Bool
in_some [] k = false
in_some (g ∷ gs) k = between g.first g.last k || in_some gs k

-- "leave a kind out": every kind below n is in a group, or some is left out
unfoldable pub all_kinds : List Group → ℕ → Bool
all_kinds gs zero = true
all_kinds gs (suc n) = in_some gs n && all_kinds gs n

-- a line that is no group, or overlaps one before it, is refused by its number i
abbrev pub unless_overlap : Bool → ℕ → (ℕ → Result (List Group)) → Result (List Group)
unless_overlap true i next = no N.bad_word i
unless_overlap false i next = next (suc i)

abbrev pub on_group : LineGroup → ℕ → List Group → (ℕ → List Group → Result (List Group)) → Result (List Group)
on_group (is_group g) i gs next = unless_overlap (overlaps_any g gs) i (λ j. next j (g ∷ gs))
on_group no_group i gs next = no N.bad_word i

-- The groups of the lines from number i on behind those of the lines before, the last first: "`refused 2 0 P`, P being the first such line from 0
-- (the later of two that overlap), or the number of lines where only a kind is left out".
unfoldable pub groups_from : List (List ℕ) → ℕ → List Group → Result (List Group)
groups_from [] i gs = demand (all_kinds gs kind_count) N.bad_word i gs
groups_from (l ∷ ls) i gs = on_group (group_of l) i gs (λ j hs. groups_from ls j hs)

-- "A row is printed as kind, cycles, growth and shrink in decimal with one space between, a line each."
abbrev pub table_line : ℕ → Figures → List ℕ
table_line k f =
    decimal k ++ (space ∷ decimal f.cycles ++ (space ∷ decimal f.growth ++ (space ∷ decimal f.shrink ++ (newline ∷ []))))

abbrev pub table_rows : (ℕ → Figures) → List ℕ
table_rows f = flat_map (λ k. table_line k (f k)) (up_from 0 kind_count)

-- the rows of the groups, or the line of the refusal
abbrev pub groups_text : Result (List Group) → List ℕ
groups_text (ok gs) = table_rows (in_groups gs)
groups_text (no n p) = outcome_text (refused n 0 p)

abbrev pub table_text : List ℕ → List ℕ
table_text bytes = groups_text (groups_from (lines_of bytes) 0 [])
