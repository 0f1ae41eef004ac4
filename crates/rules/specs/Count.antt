-- "Count (`extract_loop_iteration_bound`)": the passes of a counted loop.
use Rattle.std.specs.Prelude.{Bool, true, false, cond, not, ◌&&◌, List, ℕ, zero, suc, ◌+◌, ◌-◌, ◌/◌, ◌^◌, eqb, leb, ltb, ℤ, pos, negsuc, ◌-ℤ◌, get_or}
use Rattle.std.specs.Int.Signed.{lt_z}
use Rattle.rules.specs.Kinds as K
use Rattle.rules.specs.Limits.{most_passes}
use Rattle.rules.specs.Numbers as N
use Rattle.rules.specs.Outcome.{Result, ok, no, Found, found, nothing}
use Rattle.rules.specs.Ops.{kind, field_a, field_b, op_at}
use Rattle.rules.specs.Form.{Constant, integer, other, Chunk}

-- a value that a search may find
pub data Value : Type 0 where
  is : ℤ → Value
  unknown : Value

abbrev pub is_get_local : ℕ → ℕ → Bool
is_get_local slot w = eqb (kind w) K.get_local && eqb (field_a w) slot

abbrev pub is_set_local : ℕ → ℕ → Bool
is_set_local slot w = eqb (kind w) K.set_local && eqb (field_a w) slot

-- "The search runs backward and ends at the first SetLocal of that slot": below position n
unfoldable pub last_set : List ℕ → ℕ → ℕ → Found
last_set ops zero slot = nothing
last_set ops (suc i) slot = cond (is_set_local slot (op_at ops i)) (found i) (last_set ops i slot)

abbrev pub array_copy : Bool → (ℕ → Value) → ℕ → Value
array_copy true next w = next (field_a w)
array_copy false next w = unknown

abbrev pub array_literal : Bool → (ℕ → Value) → ℕ → Value
array_literal true next w = is (pos (field_a w))
array_literal false next w = array_copy (eqb (kind w) K.get_local) next w

-- What stands right before an array's SetLocal: "NewComposite of kind 1 right before it, whose a is the length; an array copied from
-- another local is followed to its literal"; `next` follows the local that is copied.
abbrev pub array_source : ℕ → (ℕ → Value) → Value
array_source w next = array_literal (eqb (kind w) K.new_composite && eqb (field_b w) 1) next w

abbrev pub at_array_set : Bool → (ℕ → Value) → (ℕ → Value) → ℕ → ℕ → Value
at_array_set true copy down w slot = array_source w copy
at_array_set false copy down w slot = down slot

-- The length of the array in a slot, its SetLocal searched below position n ("searched from the GetLocal", "from the copying GetLocal").
-- A SetLocal at position 0 has nothing before it.
unfoldable pub array_length : List ℕ → ℕ → ℕ → Value
array_length ops zero slot = unknown
array_length ops (suc zero) slot = unknown
array_length ops (suc (suc i)) slot =
    at_array_set (is_set_local slot (op_at ops (suc i))) (λ s. array_length ops i s) (λ s. array_length ops (suc i) s) (op_at ops i) slot

abbrev pub constant_value : Constant → Value
constant_value (integer z) = is z
constant_value other = unknown

abbrev pub length_before : Bool → List ℕ → ℕ → Value
length_before true ops i = array_length ops i (field_a (op_at ops i))
length_before false ops i = unknown

-- "GetLocal of an array and then Len": the GetLocal at i, Len right behind it
abbrev pub len_source : List ℕ → ℕ → Value
len_source ops zero = unknown
len_source ops (suc i) = length_before (eqb (kind (op_at ops (suc i))) K.len && eqb (kind (op_at ops i)) K.get_local) ops i

abbrev pub value_before : Bool → List Constant → List ℕ → ℕ → Value
value_before true constants ops i = constant_value (get_or constants (field_a (op_at ops i)) other)
value_before false constants ops i = len_source ops i

-- "right before it stands Const of an integer, or GetLocal of an array and then Len; else there is none"
abbrev pub value_at : List Constant → List ℕ → Found → Value
value_at constants ops nothing = unknown
value_at constants ops (found zero) = unknown
value_at constants ops (found (suc i)) = value_before (eqb (kind (op_at ops i)) K.const) constants ops i

-- "A value is searched from p."
abbrev pub value_of : List Constant → List ℕ → ℕ → ℕ → Value
value_of constants ops p slot = value_at constants ops (last_set ops p slot)

-- "behind Loop at p stand GetLocal v, GetLocal e, CmpGe, BreakIf: the header test"
abbrev pub has_header : List ℕ → ℕ → Bool
has_header ops p =
    eqb (kind (op_at ops p)) K.loop && eqb (kind (op_at ops (p + 1))) K.get_local && eqb (kind (op_at ops (p + 2))) K.get_local
    && eqb (kind (op_at ops (p + 3))) K.cmp_ge && eqb (kind (op_at ops (p + 4))) K.break_if

-- none of the n ops from position i on is a SetLocal of the slot
unfoldable pub never_sets : List ℕ → ℕ → ℕ → ℕ → Bool
never_sets ops slot zero i = true
never_sets ops slot (suc n) i = not (is_set_local slot (op_at ops i)) && never_sets ops slot n (suc i)

abbrev pub is_positive : Constant → Bool
is_positive (integer z) = lt_z (pos 0) z
is_positive other = false

-- the constant that the tail adds to v: EndLoop is at n
abbrev pub tail_constant : List Constant → List ℕ → ℕ → Constant
tail_constant constants ops n = get_or constants (field_a (op_at ops (n - 4))) other

-- "right behind GetLocal v, Const of an integer over 0, CheckedAdd, PopN 2, SetLocal v": EndLoop is at n
abbrev pub has_increment : List Constant → List ℕ → ℕ → ℕ → Bool
has_increment constants ops n v =
    is_get_local v (op_at ops (n - 5)) && eqb (kind (op_at ops (n - 4))) K.const
    && is_positive (tail_constant constants ops n) && eqb (kind (op_at ops (n - 3))) K.checked_add
    && eqb (kind (op_at ops (n - 2))) K.pop_n && eqb (field_b (op_at ops (n - 2))) 2 && is_set_local v (op_at ops (n - 1))

-- "EndLoop, right before Loop's target, is at p + 10 or later, right behind [the increment]; from p + 5 to it there is no SetLocal e and no
-- other SetLocal v" (`loop_body_advances_induction`). EndLoop is at n.
abbrev pub has_tail : List Constant → List ℕ → ℕ → ℕ → ℕ → ℕ → Bool
has_tail constants ops p n v e =
    leb (p + 10) n && eqb (kind (op_at ops n)) K.end_loop && has_increment constants ops n v
    && never_sets ops e (n - (p + 5)) (p + 5) && never_sets ops v (n - (p + 6)) (p + 5)

-- 2.7: "the distance divided by the step, rounded up"
abbrev pub rounded_up : ℕ → ℕ → ℕ
rounded_up d step = (d + (step - 1)) / step

-- 2.7: "with the 32-bit limit on that quotient. The distance itself must still fit a signed 64-bit number."
abbrev pub quotient : ℤ → ℕ → Found
quotient (pos d) step = cond (ltb d (2 ^ 63) && leb (rounded_up d step) most_passes) (found (rounded_up d step)) nothing
quotient (negsuc d) step = nothing

-- "The count is 0 if e's value is below v's", whatever the step, else 2.7's quotient of their distance
abbrev pub passes : ℤ → ℤ → ℕ → Found
passes start stop step = cond (lt_z stop start) (found 0) (quotient (stop -ℤ start) step)

abbrev pub count_up : Value → Value → ℕ → Found
count_up (is start) (is stop) step = passes start stop step
count_up (is start) unknown step = nothing
count_up unknown (is stop) step = nothing
count_up unknown unknown step = nothing

abbrev pub count_if : Bool → List Constant → List ℕ → ℕ → ℕ → ℕ → ℕ → Found
count_if true constants ops p v e step = count_up (value_of constants ops p v) (value_of constants ops p e) step
count_if false constants ops p v e step = nothing

-- The count of the loop at p for a given step: v and e are the slots of the header's two GetLocals.
abbrev pub count_by : ℕ → List Constant → List ℕ → ℕ → Found
count_by step constants ops p =
    let v = field_a (op_at ops (p + 1)) in
    let e = field_a (op_at ops (p + 2)) in
    count_if (has_header ops p && has_tail constants ops p (field_a (op_at ops p) - 1) v e) constants ops p v e step

-- The step is the tail's integer over 0; where there is none, there is no count either.
abbrev pub step_of : Constant → ℕ
step_of (integer (pos n)) = n
step_of (integer (negsuc n)) = 0
step_of other = 0

abbrev pub step_at : List Constant → List ℕ → ℕ → ℕ
step_at constants ops p = step_of (tail_constant constants ops (field_a (op_at ops p) - 1))

-- The count of the loop at p.
abbrev pub count_at : List Constant → List ℕ → ℕ → Found
count_at constants ops p = count_by (step_at constants ops p) constants ops p

abbrev pub or_no_count : Found → ℕ → Result ℕ
or_no_count (found n) p = ok n
or_no_count nothing p = no N.no_count p

-- "9 no count: visited loop needs one and has none, place Loop"
abbrev pub count_of : Chunk → ℕ → Result ℕ
count_of c p = or_no_count (count_at c.constants c.ops p) p
