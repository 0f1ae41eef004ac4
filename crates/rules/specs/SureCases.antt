-- Worked cases of request 2.8: which counts are sure, from filed words to the sheet, the walks' answers and the count; what ops do, and which way a header
-- goes. proofs/Checked proves the list by computation.
use Rattle.std.specs.Prelude.{◌≡◌, true, false, cond, List, [], ◌∷◌, ◌++◌, map, ℕ, ◌+◌, ◌-◌, ◌*◌, ◌^◌, eqb, ℤ, pos, negsuc, length, replicate}
use Rattle.rules.specs.Kinds as K
use Rattle.rules.specs.Limits as M
use Rattle.rules.specs.Outcome.{ok, refused, answer}
use Rattle.rules.specs.Ops.{word}
use Rattle.rules.specs.Form.{Chunk, integer, other, module_words}
use Rattle.rules.specs.Stack.{offset, ends}
use Rattle.rules.specs.Order.{up_from}
use Rattle.rules.specs.Sheet.{count_outcome, stack_outcome, order_outcome, line_width, sheet_outcome}
use Rattle.rules.specs.Cases.{Case, op, func, chunk_l, alone, one, cycles, stack, sheet, caller}
use Rattle.rules.specs.MarkCases.{with_extras, walk}
use Rattle.rules.specs.StepCases.{count_l, sheet_l, greatest}
use Rattle.rules.specs.SureClaims.{counted_cycles}
use Rattle.rules.specs.Paths.{Way, on, aside}
use Rattle.rules.specs.Values.{Val, number, array, Effect, gives, loads, stores, makes, measures, adds, drops, anything, effect_at, HeaderWay}

-- chunk L with its three constants, whose sums do not fit: its sheet and its cycle walk are refused, its count is n and its stack walk that of chunk L
abbrev pub too_great : ℤ → ℤ → ℤ → ℕ → Type 0
too_great start stop step n =
    let c = chunk_l start stop step in
    (sheet c ≡ refused 16 0 4) × (walk c ≡ refused 16 0 4) × (count_l start stop step ≡ answer n) × (stack_outcome (alone c) 0 [] ≡ stack 3 ends 160)

-- The loop H at position p: `Loop, GetLocal 0, GetLocal 1, CmpGe, BreakIf`, some ops, `GetLocal 0, Const 2, CheckedAdd, PopN 2, SetLocal 0, EndLoop`. It counts
-- local 0 up to local 1 by constant 2.
abbrev pub loop_with : ℕ → List ℕ → ℕ → List ℕ
loop_with p more target =
    op K.loop target ∷ op K.get_local 0 ∷ op K.get_local 1 ∷ op K.cmp_ge 0 ∷ op K.break_if target
    ∷ more ++ (op K.get_local 0 ∷ op K.const 2 ∷ op K.checked_add 0 ∷ word K.pop_n 2 0 ∷ op K.set_local 0 ∷ op K.end_loop (p + 1) ∷ [])

-- with no ops in between
abbrev pub loop_h : ℕ → List ℕ
loop_h p = loop_with p [] (p + 11)

-- a chunk of a type over the constants 0, 3, 1
abbrev pub chunk_over : ℕ → List ℕ → Chunk
chunk_over type ops = record { locals = 6; type = type; constants = integer (pos 0) ∷ integer (pos 3) ∷ integer (pos 1) ∷ []; ops = ops; extras = [] }

-- of type Func
abbrev pub func_over : List ℕ → Chunk
func_over ops = chunk_over 0 ops

-- `Const k, SetLocal s`
abbrev pub sets : ℕ → ℕ → List ℕ → List ℕ
sets s k rest = op K.const k ∷ op K.set_local s ∷ rest

-- an array's SetLocal in an If; behind it, with `copies` in between, the length of the array in a slot is taken for the end
abbrev pub array_in_arm : List ℕ → ℕ → ℕ → Chunk
array_in_arm copies slot p =
    func_over
    (op K.if 3 ∷ word K.new_composite 1 2 ∷ op K.set_local 3 ∷ op K.end_if 0
    ∷ copies ++ sets 0 0 (op K.get_local slot ∷ op K.len 0 ∷ op K.set_local 1 ∷ loop_h p))

-- the same with the array set in the loop's row
abbrev pub array_in_row : List ℕ → ℕ → ℕ → Chunk
array_in_row copies slot p =
    func_over (word K.new_composite 1 2 ∷ op K.set_local 3 ∷ copies ++ sets 0 0 (op K.get_local slot ∷ op K.len 0 ∷ op K.set_local 1 ∷ loop_h p))

-- `GetLocal 3, SetLocal 4`
abbrev pub copied : List ℕ
copied = op K.get_local 3 ∷ op K.set_local 4 ∷ []

-- `Const 0, SetLocal 0, If 5, Const k, SetLocal 1, EndIf`, and from position 6 on some ops
abbrev pub arm_then : ℕ → List ℕ → Chunk
arm_then k rest = func_over (sets 0 0 (op K.if 5 ∷ sets 1 k (op K.end_if 0 ∷ rest)))

-- the end set in an arm, and the start
abbrev pub end_in_arm : ℕ → Chunk
end_in_arm k = arm_then k (loop_h 6)

abbrev pub start_in_arm : Chunk
start_in_arm = func_over (sets 1 1 (op K.if 5 ∷ sets 0 0 (op K.end_if 0 ∷ loop_h 6)))

-- the end set in an arm, with the greatest extra on the op at position i
abbrev pub open_at : ℕ → Chunk
open_at i = with_extras (end_in_arm 1) (replicate i 0 ++ (M.open_text ∷ []))

-- the values set outside the If that the loop is in, inside it, and in the other arm
abbrev pub set_around : Chunk
set_around = func_over (sets 0 0 (sets 1 1 (op K.const 0 ∷ op K.if 17 ∷ loop_h 6 ++ (op K.end_if 0 ∷ []))))

abbrev pub set_inside : Chunk
set_inside = func_over (op K.const 0 ∷ op K.if 17 ∷ sets 0 0 (sets 1 1 (loop_h 6 ++ (op K.end_if 0 ∷ []))))

abbrev pub other_arm : Chunk
other_arm = func_over (op K.const 0 ∷ op K.if 7 ∷ sets 0 0 (sets 1 1 (op K.else 18 ∷ loop_h 7 ++ (op K.end_if 0 ∷ []))))

-- the values set in the body of a loop over locals 2 and 3, right before a loop in it
abbrev pub set_in_body : Chunk
set_in_body =
    func_over
    (sets 2 0
    (sets 3 1
    (op K.loop 30 ∷ op K.get_local 2 ∷ op K.get_local 3 ∷ op K.cmp_ge 0 ∷ op K.break_if 30
    ∷ sets 0 0
    (sets 1 1
    (loop_h 13 ++ (op K.get_local 2 ∷ op K.const 2 ∷ op K.checked_add 0 ∷ word K.pop_n 2 0 ∷ op K.set_local 2 ∷ op K.end_loop 5 ∷ []))))))

-- the values set before Stream, and behind it
abbrev pub set_before : Chunk
set_before = chunk_over K.stream_type (sets 0 0 (sets 1 1 (op K.stream 0 ∷ loop_h 5 ++ (op K.reset 0 ∷ []))))

abbrev pub set_behind : Chunk
set_behind = chunk_over K.stream_type (op K.stream 0 ∷ sets 0 0 (sets 1 1 (loop_h 5 ++ (op K.reset 0 ∷ []))))

-- two chunks with an unsure count each, of which the first calls the second
abbrev pub both_unsure : List Chunk
both_unsure = func_over (sets 0 0 (op K.if 5 ∷ sets 1 1 (op K.end_if 0 ∷ op K.call 1 ∷ loop_h 7))) ∷ end_in_arm 1 ∷ []

-- chunk L with no locals
abbrev pub no_locals : Chunk
no_locals = let c = chunk_l (pos 0) (pos 3) (pos 1) in func 0 c.constants c.ops []

-- The inner loop's end is the outer counter: 50 cycles by the counts alone, 62 in a run (proofs/SureWitness).
abbrev pub outer_counter : Chunk
outer_counter =
    func 3 (integer (pos 0) ∷ integer (pos 2) ∷ integer (pos 1) ∷ [])
    (op K.const 0 ∷ op K.set_local 0 ∷ op K.const 1 ∷ op K.set_local 1
    ∷ op K.loop 28 ∷ op K.get_local 0 ∷ op K.get_local 1 ∷ op K.cmp_ge 0 ∷ op K.break_if 28 ∷ op K.const 0 ∷ op K.set_local 2
    ∷ op K.loop 22 ∷ op K.get_local 2 ∷ op K.get_local 0 ∷ op K.cmp_ge 0 ∷ op K.break_if 22
    ∷ op K.get_local 2 ∷ op K.const 2 ∷ op K.checked_add 0 ∷ word K.pop_n 2 0 ∷ op K.set_local 2 ∷ op K.end_loop 12
    ∷ op K.get_local 0 ∷ op K.const 2 ∷ op K.checked_add 0 ∷ word K.pop_n 2 0 ∷ op K.set_local 0 ∷ op K.end_loop 5 ∷ [])
    []

-- ops that are named, with their effects, and like ones that are not
abbrev pub named : List (ℕ × Effect)
named =
    (op K.const 0, gives (pos 5)) ∷ (op K.const 1, anything) ∷ (op K.const 2, anything) ∷ (op K.get_local 65535, loads 65535) ∷ (op K.set_local 65535, stores 65535)
    ∷ (word K.new_composite 1 7, makes 7) ∷ (word K.new_composite 0 7, anything) ∷ (op K.len 0, measures)
    ∷ (op K.checked_add 0, adds) ∷ (word K.pop_n 2 0, drops) ∷ (word K.pop_n 2 0, anything) ∷ (op K.checked_add 0, anything) ∷ (word K.pop_n 1 0, anything)
    ∷ (op K.checked_add 0, anything) ∷ (op K.yield 0, anything) ∷ (word K.pop_n 2 0, anything) ∷ (op K.call 0, anything) ∷ []

-- what each op of a list does in a chunk whose constant 0 is 5 and whose constant 1 is no integer
abbrev pub effects : List (ℕ × Effect) → List Effect
effects xs =
    let c = func 0 (integer (pos 5) ∷ other ∷ []) (map (λ x. x.0) xs) [] in
    map (λ i. effect_at c i) (up_from 0 (length xs))

-- in chunk L with that end: which way the op at i goes, in the loop at 4 and with these values of its two locals
abbrev pub goes_to : ℤ → ℕ → Val → Val → Way → Type 0
goes_to e i start stop w =
    HeaderWay (chunk_l (pos 0) e (pos 1)) (record { loop = 4; target = 15; depth = pos 0; passed = 0 } ∷ []) i
    (record { locals = λ j. cond (eqb j 0) start stop; operands = [] }) w

abbrev pub goes : ℕ → Val → Val → Way → Type 0
goes i start stop w = goes_to (pos 3) i start stop w

-- Request 2.8 row by row (docs/DECISIONS.md has the readings by number)
abbrev pub unsure : List Case
unsure =
    record { name = "reading 71: the end set in an arm"; claim = sheet (end_in_arm 1) ≡ refused 16 0 6 }
    ∷ record { name = "reading 71: the start set in an arm"; claim = sheet start_in_arm ≡ refused 16 0 6 }
    ∷ record { name = "reading 71: an array set in the loop's row"; claim = walk (array_in_row [] 3 7) ≡ cycles 42 false }
    ∷ record { name = "reading 71: and copied"; claim = walk (array_in_row copied 4 9) ≡ cycles 44 false }
    ∷ record { name = "reading 71: an array set in an arm"; claim = sheet (array_in_arm [] 3 9) ≡ refused 16 0 9 }
    ∷ record { name = "reading 71: and copied in the loop's row"; claim = sheet (array_in_arm copied 4 11) ≡ refused 16 0 11 }
    ∷ record {
      name = "reading 71: which has 46 cycles by the counts alone";
      claim = counted_cycles (array_in_arm copied 4 11) ≡ ok (record { cycles = 46; ends = false; cut = false });
    }
    ∷ record { name = "reading 72: a row around is another row"; claim = sheet set_around ≡ refused 16 0 6 }
    ∷ record { name = "reading 72: the arm's own row"; claim = walk set_inside ≡ cycles 49 false }
    ∷ record { name = "reading 72: the body's own row"; claim = walk set_in_body ≡ cycles 184 false }
    ∷ record { name = "reading 72: two arms are two rows"; claim = sheet other_arm ≡ refused 16 0 7 }
    ∷ record { name = "reading 72: an end that is the outer counter"; claim = sheet outer_counter ≡ refused 16 0 11 }
    ∷ record {
      name = "reading 72: which has 50 cycles by the counts alone";
      claim = counted_cycles outer_counter ≡ ok (record { cycles = 50; ends = false; cut = false });
    }
    ∷ record { name = "reading 73: values before Stream"; claim = sheet set_before ≡ refused 16 0 5 }
    ∷ record { name = "reading 73: the cycle walk too"; claim = walk set_before ≡ refused 16 0 5 }
    ∷ record { name = "reading 73: their count alone is 3"; claim = count_outcome (alone set_before) 0 5 ≡ answer 3 }
    ∷ record { name = "reading 73: values behind Stream"; claim = walk set_behind ≡ cycles 46 false }
    ∷ record { name = "reading 74: (0, 1, 2^63-1) has room for its one sum"; claim = sheet_l (pos 0) (pos 1) greatest ≡ one 24 3 160 }
    ∷ record { name = "reading 74: (0, 2, 2^63-1), literally, though its one sum would fit"; claim = sheet_l (pos 0) (pos 2) greatest ≡ refused 16 0 4 }
    ∷ record { name = "reading 74: (2^63-3, 2^63-1, 2), likewise"; claim = sheet_l (pos (2 ^ 63 - 3)) greatest (pos 2) ≡ refused 16 0 4 }
    ∷ record { name = "reading 74: (1, 2, 2^63-1), whose one sum does not"; claim = sheet_l (pos 1) (pos 2) greatest ≡ refused 16 0 4 }
    ∷ record {
      name = "reading 74: which has 24 cycles by the counts alone";
      claim = counted_cycles (chunk_l (pos 1) (pos 2) greatest) ≡ ok (record { cycles = 24; ends = true; cut = false });
    }
    ∷ record { name = "reading 74: (2^63-3, 2^63-1, 1)"; claim = sheet_l (pos (2 ^ 63 - 3)) greatest (pos 1) ≡ one 36 3 160 }
    ∷ record { name = "reading 74: a count of 0 asks for no sum"; claim = sheet_l greatest (pos 0) greatest ≡ one 12 3 160 }
    ∷ record { name = "reading 74: (0, 2^63-1, 2^62)"; claim = too_great (pos 0) greatest (pos (2 ^ 62)) 2 }
    ∷ record { name = "reading 74: (0, 2^63-1, 2^63-1)"; claim = too_great (pos 0) greatest greatest 1 }
    ∷ record { name = "reading 74: (0, 2^63-1, 2^63-2)"; claim = too_great (pos 0) greatest (pos (2 ^ 63 - 2)) 2 }
    ∷ record { name = "reading 74: (0, 2^63-1, 2^31+1)"; claim = too_great (pos 0) greatest (pos (2 ^ 31 + 1)) 4294967295 }
    ∷ record { name = "reading 74: (-1, 2^63-2, 2^63-1)"; claim = too_great (negsuc 0) (pos (2 ^ 63 - 2)) greatest 1 }
    ∷ record { name = "reading 75: a count of 0 is asked for its rows"; claim = sheet (end_in_arm 0) ≡ refused 16 0 6 }
    ∷ record { name = "reading 76: tested before EndLoop's charge"; claim = sheet (open_at 16) ≡ refused 16 0 6 }
    ∷ record { name = "reading 76: and behind the body's"; claim = sheet (open_at 15) ≡ refused 8 0 15 }
    ∷ record { name = "reading 76: and behind 9: a value missing"; claim = sheet (end_in_arm 7) ≡ refused 9 0 6 }
    ∷ record { name = "reading 76: or the step"; claim = sheet (func 6 (integer (pos 0) ∷ integer (pos 3) ∷ []) (end_in_arm 1).ops []) ≡ refused 9 0 6 }
    ∷ record { name = "reading 76: nothing is asked in dead code"; claim = walk (arm_then 1 (op K.return 0 ∷ loop_h 7)) ≡ cycles 8 true }
    ∷ record { name = "reading 76: nor of a body that cannot reach its end"; claim = walk (arm_then 1 (loop_with 6 (op K.return 0 ∷ []) 18)) ≡ cycles 14 false }
    ∷ record { name = "reading 77: the cycle walk tests it"; claim = walk (end_in_arm 1) ≡ refused 16 0 6 }
    ∷ record { name = "reading 77: behind 15"; claim = sheet (arm_then 1 (loop_with 6 (op K.break_if 0 ∷ []) 18)) ≡ refused 15 0 11 }
    ∷ record {
      name = "reading 77: of the second chunk in a module";
      claim = sheet_outcome (module_words (caller (op K.call 1 ∷ []) ∷ end_in_arm 1 ∷ [])) (2 * line_width) ≡ refused 16 1 6;
    }
    ∷ record { name = "reading 77: of two, the first in call order"; claim = sheet_outcome (module_words both_unsure) (2 * line_width) ≡ refused 16 1 6 }
    ∷ record { name = "reading 77: the stack walk asks nothing"; claim = stack_outcome (alone (end_in_arm 1)) 0 [] ≡ stack 3 (offset (negsuc 0)) 288 }
    ∷ record { name = "reading 77: nor does the count alone"; claim = count_outcome (alone (end_in_arm 1)) 0 6 ≡ answer 3 }
    ∷ record { name = "reading 77: nor the order"; claim = order_outcome (alone (end_in_arm 1)) 1 ≡ answer (0 ∷ []) }
    ∷ record { name = "reading 78: every slot is a local"; claim = sheet no_locals ≡ one 48 3 96 }
    ∷ record { name = "reading 79: what is named, and nothing else"; claim = effects named ≡ map (λ x. x.1) named }
    ∷ record { name = "reading 80: taken where v is e"; claim = goes 8 (number (pos 3)) (number (pos 3)) aside }
    ∷ record { name = "reading 80: not taken where v is less"; claim = goes 8 (number (pos 2)) (number (pos 3)) on }
    ∷ record { name = "reading 80: either way where one is an array"; claim = goes 8 (number (pos 3)) (array 3) on × goes 8 (number (pos 3)) (array 3) aside }
    ∷ record {
      name = "reading 80: either way at any other op";
      claim = goes 9 (number (pos 2)) (number (pos 3)) on × goes 9 (number (pos 2)) (number (pos 3)) aside;
    }
    ∷ record {
      name = "reading 80: either way where the loop has no count";
      claim = goes_to greatest 8 (number (pos 3)) (number (pos 3)) on × goes_to greatest 8 (number (pos 3)) (number (pos 3)) aside;
    }
    ∷ []
