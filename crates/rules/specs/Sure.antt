-- Request 2.8, "counts that need no trust": which counts are sure. For those specs/SureClaims says that no path passes a header more often than counted, and
-- the cycle walk refuses the others by 16.
use Rattle.std.specs.Prelude.{Bool, true, false, cond, ◌&&◌, ◌||◌, List, [], ◌∷◌, ◌++◌, ℕ, zero, suc, ◌+◌, ◌-◌, ◌^◌, eqb, pos, ◌+ℤ◌, ◌-ℤ◌}
use Rattle.std.specs.Int.Signed.{le_z}
use Rattle.rules.specs.Kinds as K
use Rattle.rules.specs.Numbers as N
use Rattle.rules.specs.Outcome.{Result, Found, found, nothing, and_then, demand}
use Rattle.rules.specs.Ops.{kind, field_a, op_at}
use Rattle.rules.specs.Form.{Chunk}
use Rattle.rules.specs.Rows.{Row, end, step, stop, leave, leave_if, if_then, if_else, loop}
use Rattle.rules.specs.Count.{Value, is, unknown, is_set_local, last_set, value_of, step_at, count_of}

-- the row holds the op at s directly, and not inside one of its blocks. An If or a Loop is an op of the row that it stands in; Else, EndIf and EndLoop are of
-- none.
unfoldable pub holds : Row → ℕ → Bool
holds end s = false
holds (step i r) s = eqb i s || holds r s
holds (stop i r) s = eqb i s || holds r s
holds (leave i r) s = eqb i s || holds r s
holds (leave_if i r) s = eqb i s || holds r s
holds (if_then i t p r) s = eqb i s || holds r s
holds (if_else i e t p q r) s = eqb i s || holds r s
holds (loop i e b r) s = eqb i s || holds r s

-- a row inside one of the blocks holds both directly
unfoldable pub in_part : Row → ℕ → ℕ → Bool
in_part end s p = false
in_part (step i r) s p = in_part r s p
in_part (stop i r) s p = in_part r s p
in_part (leave i r) s p = in_part r s p
in_part (leave_if i r) s p = in_part r s p
in_part (if_then i t a r) s p = (holds a s && holds a p) || in_part a s p || in_part r s p
in_part (if_else i e t a b r) s p = (holds a s && holds a p) || in_part a s p || ((holds b s && holds b p) || in_part b s p) || in_part r s p
in_part (loop i e b r) s p = (holds b s && holds b p) || in_part b s p || in_part r s p

-- "stand directly in the row that holds the Loop": the SetLocal at s, the Loop at p, and r the tree of the range, so that s is "inside the walked range" too
abbrev pub same_row : Row → ℕ → ℕ → Bool
same_row r s p = (holds r s && holds r p) || in_part r s p

-- behind an array's SetLocal: those of the local that it was copied from, if w, the op right before it, is a GetLocal
abbrev pub copy_stops : Bool → (ℕ → List ℕ) → ℕ → List ℕ
copy_stops true next w = next (field_a w)
copy_stops false next w = []

-- at position `at`, where the search stops or goes on down; w is the op right before
abbrev pub at_stop : Bool → (ℕ → List ℕ) → (ℕ → List ℕ) → ℕ → ℕ → ℕ → List ℕ
at_stop true copy down at w slot = at ∷ copy_stops (eqb (kind w) K.get_local) copy w
at_stop false copy down at w slot = down slot

-- where the search of `array_length` stops: at the array's SetLocal, and at those of the locals that it was copied from
unfoldable pub array_stops : List ℕ → ℕ → ℕ → List ℕ
array_stops ops zero slot = []
array_stops ops (suc zero) slot = []
array_stops ops (suc (suc i)) slot =
    at_stop (is_set_local slot (op_at ops (suc i))) (λ s. array_stops ops i s) (λ s. array_stops ops (suc i) s) (suc i) (op_at ops i) slot

-- those of a length, with its Len at i
abbrev pub len_stops : List ℕ → ℕ → List ℕ
len_stops ops zero = []
len_stops ops (suc i) =
    cond (eqb (kind (op_at ops (suc i))) K.len && eqb (kind (op_at ops i)) K.get_local) (array_stops ops i (field_a (op_at ops i))) []

-- of a value that was found at its SetLocal
abbrev pub stops_at : List ℕ → Found → List ℕ
stops_at ops nothing = []
stops_at ops (found zero) = []
stops_at ops (found (suc i)) = suc i ∷ len_stops ops i

-- "every SetLocal that the search stopped at": the search of `value_of` from p
abbrev pub stops_of : List ℕ → ℕ → ℕ → List ℕ
stops_of ops p slot = stops_at ops (last_set ops p slot)

-- for v and for e of the loop at p
abbrev pub loop_stops : List ℕ → ℕ → List ℕ
loop_stops ops p = stops_of ops p (field_a (op_at ops (p + 1))) ++ stops_of ops p (field_a (op_at ops (p + 2)))

-- the row that holds the Loop at p holds all of them
unfoldable pub all_in_row : Row → ℕ → List ℕ → Bool
all_in_row r p [] = true
all_in_row r p (s ∷ ss) = same_row r s p && all_in_row r p ss

-- "end - 1 + step must not exceed 2^63-1", in whole numbers: k is the step
abbrev pub fits_sum : Value → ℕ → Bool
fits_sum (is e) k = le_z ((e -ℤ pos 1) +ℤ pos k) (pos (2 ^ 63 - 1))
fits_sum unknown k = false

-- "Where the count is above 0": n is the count of the loop at p
abbrev pub sum_fits : Chunk → ℕ → ℕ → Bool
sum_fits c p n = eqb n 0 || fits_sum (value_of c.constants c.ops p (field_a (op_at c.ops (p + 2)))) (step_at c.constants c.ops p)

-- the two conditions; r is the tree of the chunk's range
abbrev pub is_sure : Chunk → Row → ℕ → ℕ → Bool
is_sure c r p n = all_in_row r p (loop_stops c.ops p) && sum_fits c p n

-- "16 unsure count, place the Loop, tested right after 9 in the cycle walk"
abbrev pub sure_count_of : Chunk → Row → ℕ → Result ℕ
sure_count_of c r p = and_then (count_of c p) (λ n. demand (is_sure c r p n) N.unsure_count p n)
