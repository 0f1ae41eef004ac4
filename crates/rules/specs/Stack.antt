-- "Stack (`wcmu_region`, heap left out)": the operand-stack walk over the tree of a row, for any effect of an op and any count.
use Rattle.std.specs.Prelude.{Bool, true, false, cond, List, ℕ, ◌+◌, ◌*◌, ◌/◌, max, eqb, leb, ℤ, pos, negsuc, ◌+ℤ◌, ◌-ℤ◌, get_or}
use Rattle.std.specs.Int.Signed.{lt_z}
use Rattle.rules.specs.Kinds as K
use Rattle.rules.specs.Limits.{deepest, most_slots}
use Rattle.rules.specs.Numbers as N
use Rattle.rules.specs.Outcome.{Result, ok, no, and_then}
use Rattle.rules.specs.Ops.{kind, field_a, field_b, figures_of, op_at}
use Rattle.rules.specs.Form.{Chunk}
use Rattle.rules.specs.Rows.{Row, end, step, stop, leave, leave_if, if_then, if_else, loop, chunk_row}
use Rattle.rules.specs.Count.{count_of}
use Rattle.rules.specs.Cycles.{inner}

-- "Delta is the offset at the range's end, signed, or the mark "ends"."
pub data Delta : Type 0 where
  offset : ℤ → Delta
  ends : Delta

-- what the walk of a row gives: peak in slots and delta, both from the row's start, and whether a break out of the loop around it was met
pub record Height : Type 0 where
  pub peak : ℕ
  pub delta : Delta
  pub broken : Bool

abbrev pub height : ℕ → Delta → Bool → Height
height p d b = record { peak = p; delta = d; broken = b }

abbrev pub max_z : ℤ → ℤ → ℤ
max_z a b = cond (lt_z a b) b a

-- a signed number, or 0 where it is below
abbrev pub at_least_zero : ℤ → ℕ
at_least_zero (pos n) = n
at_least_zero (negsuc n) = 0

-- "A part begun at offset d adds max(0, d) to its peak and d to its delta."
abbrev pub part_peak : ℕ → ℤ → Height → ℕ
part_peak peak d part = max peak (at_least_zero d + part.peak)

abbrev pub part_delta : ℤ → Delta → Delta
part_delta d (offset x) = offset (d +ℤ x)
part_delta d ends = ends

-- "Arms give the greater delta of those that go on"
abbrev pub greater_delta : Delta → Delta → Delta
greater_delta (offset x) (offset y) = offset (max_z x y)
greater_delta (offset x) ends = offset x
greater_delta ends (offset y) = offset y
greater_delta ends ends = ends

abbrev pub unless_ended : Delta → ℕ → Bool → (ℤ → ℕ → Bool → Result Height) → Result Height
unless_ended (offset d) peak broken rest = rest d peak broken
unless_ended ends peak broken rest = ok (height peak ends broken)

-- `rise` is what an op adds to the offset while it runs, `move` what it leaves behind, both by position.
module _ (rise move : ℕ → ℤ) (count : ℕ → Result ℕ) where
  -- "during is offset plus growth .. peak is the greatest, at least 0"
  abbrev pub during : ℕ → ℤ → ℕ → ℕ
  during peak d i = max peak (at_least_zero (d +ℤ rise i))

  -- "then offset moves by growth less shrink"
  abbrev pub behind : ℤ → ℕ → ℤ
  behind d i = d +ℤ move i

  -- "After a loop the offset is that before its body." A body that goes on needs a count; one that ends without a break ends the row.
  abbrev pub after_body : Delta → Bool → ℕ → ℤ → ℕ → Bool → (ℤ → ℕ → Bool → Result Height) → Result Height
  after_body (offset x) met i d peak broken rest = and_then (count i) (λ n. rest d peak broken)
  after_body ends true i d peak broken rest = rest d peak broken
  after_body ends false i d peak broken rest = ok (height peak ends broken)

  -- A row with `left` levels of nesting left inside it, from the offset since its start, the peak so far and whether a break was met. Else,
  -- EndIf and EndLoop grow by nothing, and the offset at them is not above the peak.
  unfoldable pub row_height : Row → ℕ → ℤ → ℕ → Bool → Result Height
  row_height end left d peak broken = ok (height peak (offset d) broken)
  row_height (step i r) left d peak broken = row_height r left (behind d i) (during peak d i) broken
  row_height (stop i r) left d peak broken = ok (height (during peak d i) ends broken)
  row_height (leave i r) left d peak broken = ok (height (during peak d i) ends true)
  row_height (leave_if i r) left d peak broken = row_height r left (behind d i) (during peak d i) true
  -- "If alone the greater of arm and before"
  row_height (if_then i t p r) left d peak broken =
      and_then (inner left (λ l. row_height p l (pos 0) 0 broken))
      (λ arm. unless_ended (greater_delta (offset (behind d i)) (part_delta (behind d i) arm.delta))
      (part_peak (during peak d i) (behind d i) arm) arm.broken (λ d' peak' broken'. row_height r left d' peak' broken'))
  row_height (if_else i e t p q r) left d peak broken =
      and_then (inner left (λ l. row_height p l (pos 0) 0 broken))
      (λ arm. and_then (inner left (λ l. row_height q l (pos 0) 0 arm.broken))
      (λ other. unless_ended (greater_delta (part_delta (behind d i) arm.delta) (part_delta (behind d i) other.delta))
      (part_peak (part_peak (during peak d i) (behind d i) arm) (behind d i) other) other.broken
      (λ d' peak' broken'. row_height r left d' peak' broken')))
  row_height (loop i e b r) left d peak broken =
      and_then (inner left (λ l. row_height b l (pos 0) 0 false))
      (λ body. after_body body.delta body.broken i (behind d i) (part_peak (during peak d i) (behind d i) body) broken
      (λ d' peak' broken'. row_height r left d' peak' broken'))

-- "A figure in slots never stands for one in bytes": 32 bytes to a slot.
abbrev pub bytes_of : ℕ → ℕ
bytes_of slots = 32 * slots

-- "callee bytes from the lent list by chunk index, 0 past its end", in slots
abbrev pub callee_slots : List ℕ → ℕ → ℕ
callee_slots callees k = get_or callees k 0 / 32

-- "Call ..: during is the greater of offset + callee bytes / 32 - arguments and offset + 1."
abbrev pub call_rise : List ℕ → ℕ → ℤ
call_rise callees w = max_z (pos (callee_slots callees (field_a w)) -ℤ pos (field_b w)) (pos 1)

abbrev pub rise_of : Chunk → List ℕ → ℕ → ℤ
rise_of c callees i =
    cond (eqb (kind (op_at c.ops i)) K.call) (call_rise callees (op_at c.ops i)) (pos (figures_of (op_at c.ops i)).growth)

-- growth less shrink
abbrev pub move_of : Chunk → ℕ → ℤ
move_of c i = pos (figures_of (op_at c.ops i)).growth -ℤ pos (figures_of (op_at c.ops i)).shrink

-- the answer of the stack walk: peak in slots, delta or "ends", and stack bytes
pub record Stack : Type 0 where
  pub peak : ℕ
  pub delta : Delta
  pub bytes : ℕ

abbrev pub unless_tall : Bool → ℕ → Height → Result Stack
unless_tall true locals h = ok (record { peak = h.peak; delta = h.delta; bytes = bytes_of (locals + h.peak) })
unless_tall false locals h = no N.too_tall 0

-- "11 too tall: locals + peak over 134,217,727"; "Bytes are 32 times (locals + peak) (`compute_chunk_wcmu`)."
abbrev pub stack_of : ℕ → Height → Result Stack
stack_of locals h = unless_tall (leb (locals + h.peak) most_slots) locals h

abbrev pub row_stack : Chunk → List ℕ → Row → Result Stack
row_stack c callees r =
    and_then (row_height (rise_of c callees) (move_of c) (count_of c) r deepest (pos 0) 0 false) (λ h. stack_of c.locals h)

-- the stack walk of a chunk: 3, 4, 5, 6, 15, then 7 and 9 as the walk meets them, then 11
abbrev pub chunk_stack : Chunk → List ℕ → Result Stack
chunk_stack c callees = and_then (chunk_row c) (λ r. row_stack c callees r)
