-- The claims on paths that do as their ops say do not speak of nothing: such a path through chunk L with 48 cycles and three passes; one through a loop in a
-- loop that counts up to an array's length and runs a callee, whose cycles are the sheet's whole figure; and three that show why an unsure count is refused.
-- Assumes nothing.
use mathlib.Core.Path.{◌≡◌, refl}
use mathlib.Core.Bool.{true, false}
use mathlib.Core.List.{List, [], ◌∷◌, ◌++◌, flat_map}
use Prim.Native.Nat.{ℕ, ◌*◌, ◌≤◌, min}
use native.Mathlib.Omega.{arith}
use lib.IntN.{pos}
use lib.ListN.{replicate}
use Rattle.rules.specs.Kinds as K
use Rattle.rules.specs.Limits.{cycle_cap}
use Rattle.rules.specs.Outcome.{Result, ok, and_then}
use Rattle.rules.specs.Ops.{in_groups, word}
use Rattle.rules.specs.Form.{Chunk, integer, module_words}
use Rattle.rules.specs.Reading.{broken_at, take_while, drop_while, constants_of, extras_of, chunks_of}
use Rattle.rules.specs.Rows.{parse, first_of, first_backward, stray_break, chunk_row}
use Rattle.rules.specs.Count.{last_set, array_length, never_sets}
use Rattle.rules.specs.Sure.{holds, in_part, array_stops, all_in_row, sure_count_of}
use Rattle.rules.specs.Cycles.{row_cost}
use Rattle.rules.specs.Stack.{row_height}
use Rattle.rules.specs.Order.{chunk_at, member, callees_in, visit_each, visit, up_from}
use Rattle.rules.specs.Sheet.{Sheet, line_width, lines_in}
use Rattle.rules.specs.Paths.{Way, on, aside, settle, begin, path, path_cycles}
use Rattle.rules.specs.Values.{number, Memory, Valued}
use Rattle.rules.specs.Claims.{Accepted, line_at}
use Rattle.rules.specs.Cases.{op, func, chunk_l}
use Rattle.rules.specs.StepCases.{greatest}
use Rattle.rules.specs.SureCases.{copied, array_in_arm, outer_counter}
use Rattle.rules.proofs.CountsKept.{sure_whole}
use Rattle.rules.proofs.Witness.{module_l, longest}
use Rattle.rules.proofs.ValuedTest.{memory, valued_test, valued}

-- every local 7 and no operand
abbrev sevens : ℕ → Memory
sevens k = memory (λ j. number (pos 7)) []

-- a run: the path of these ways, with no callee run, does as its ops say and takes so many cycles
pub record RunOf (cs : List Chunk) (ways : List Way) (cycles : ℕ) : Type 0 where
  pub does : Valued cs false (begin cs 0) sevens ways
  pub takes : path_cycles cs (path cs false (begin cs 0) ways) ≡ cycles

run_of : (cs : List Chunk) (ways : List Way) (cycles : ℕ) → valued_test cs false (begin cs 0) sevens ways ≡ true
    → path_cycles cs (path cs false (begin cs 0) ways) ≡ cycles → RunOf cs ways cycles
run_of cs ways cycles tested takes = record { does = valued cs false (begin cs 0) sevens ways tested; takes = takes }

-- chunk L's path with three passes (proofs/Witness)
pub longest_run : RunOf module_l longest 48
unfolding valued_test settle in_groups last_set array_length never_sets path_cycles path
longest_run = run_of module_l longest 48 refl refl

-- NewComposite 3 1, SetLocal 3, Const 0, SetLocal 0, GetLocal 3, Len, SetLocal 1, Loop 34, its header, Const 0, SetLocal 4, Const 1, SetLocal 5, Loop 28, its
-- header, Call 1, the inner tail, EndLoop, the outer tail, EndLoop, Return; and a callee that gets a local and returns
abbrev module_n : List Chunk
module_n =
    func 6 (integer (pos 0) ∷ integer (pos 2) ∷ integer (pos 1) ∷ [])
    (word K.new_composite 1 3 ∷ op K.set_local 3 ∷ op K.const 0 ∷ op K.set_local 0 ∷ op K.get_local 3 ∷ op K.len 0 ∷ op K.set_local 1 ∷ op K.loop 34 ∷ op K.get_local 0 ∷ op K.get_local 1 ∷ op K.cmp_ge 0
    ∷ op K.break_if 34 ∷ op K.const 0 ∷ op K.set_local 4 ∷ op K.const 1 ∷ op K.set_local 5 ∷ op K.loop 28 ∷ op K.get_local 4 ∷ op K.get_local 5 ∷ op K.cmp_ge 0 ∷ op K.break_if 28 ∷ op K.call 1
    ∷ op K.get_local 4 ∷ op K.const 2 ∷ op K.checked_add 0 ∷ word K.pop_n 2 0 ∷ op K.set_local 4 ∷ op K.end_loop 17 ∷ op K.get_local 0 ∷ op K.const 2 ∷ op K.checked_add 0 ∷ word K.pop_n 2 0 ∷ op K.set_local 0
    ∷ op K.end_loop 8 ∷ op K.return 0 ∷ [])
    []
    ∷ func 1 [] (op K.get_local 0 ∷ op K.return 0 ∷ []) [] ∷ []

-- its sheet in numbers
abbrev numbers : Sheet
numbers =
    record {
      order = 1 ∷ 0 ∷ [];
      lines = record { cycles = 218; cut = false; peak = 4; bytes = 320; whole = 236 } ∷ record { cycles = 3; cut = false; peak = 1; bytes = 64; whole = 3 } ∷ [];
    }

pub nested_accepted : Accepted (module_words module_n) (2 * line_width) module_n numbers
unfolding flat_map in_groups broken_at take_while drop_while constants_of extras_of chunks_of parse first_of first_backward stray_break last_set array_length never_sets holds in_part array_stops all_in_row row_cost row_height member callees_in visit_each visit up_from lines_in
nested_accepted = record { reads = refl; answers = refl }

-- both loops have sure counts: three and two
abbrev sure_at : ℕ → Result ℕ
sure_at p = and_then (chunk_row (chunk_at module_n 0)) (λ r. sure_count_of (chunk_at module_n 0) r p)

pub nested_sure : (sure_at 7 ≡ ok 3) × (sure_at 16 ≡ ok 2)
unfolding parse first_of first_backward stray_break last_set array_length never_sets holds in_part array_stops all_in_row
nested_sure = (refl, refl)

-- one outer pass: two inner passes, each with the callee
abbrev once : List Way
once = replicate 38 on ++ (aside ∷ replicate 6 on)

-- the ops up to Loop, three outer passes, the break by the outer header, and Return
abbrev nested : List Way
nested = replicate 8 on ++ (once ++ (once ++ (once ++ (replicate 3 on ++ (aside ∷ on ∷ [])))))

pub nested_valued : Valued module_n true (begin module_n 0) sevens nested
unfolding valued_test settle in_groups last_set array_length never_sets
nested_valued = valued module_n true (begin module_n 0) sevens nested refl

-- its cycles are the line's whole figure
pub nested_whole : (path_cycles module_n (path module_n true (begin module_n 0) nested) ≡ 236) × ((line_at numbers 0).whole ≡ 236)
unfolding path_cycles path settle in_groups
nested_whole = (refl, refl)

pub nested_bounded : min cycle_cap (path_cycles module_n (path module_n true (begin module_n 0) nested)) ≤ (line_at numbers 0).whole
nested_bounded = sure_whole (module_words module_n) (2 * line_width) module_n numbers nested_accepted 0 (omega arith) sevens nested nested_valued

-- Without the conditions the bound would be false. The inner loop of `outer_counter` ends at the outer counter, which is searched where it was first set: the
-- counts alone give 50 cycles (specs/SureCases).
abbrev module_o : List Chunk
module_o = outer_counter ∷ []

-- It passes the inner header not at all in the first outer pass and once in the second.
abbrev beyond : List Way
beyond = replicate 15 on ++ (aside ∷ replicate 26 on ++ (aside ∷ replicate 9 on ++ (aside ∷ [])))

pub outer_run : RunOf module_o beyond 62
unfolding valued_test settle in_groups last_set array_length never_sets path_cycles path
outer_run = run_of module_o beyond 62 refl refl

-- So of the other SetLocals that the search stopped at. An array is set in an arm and copied in the loop's row; the path passes by the arm, and the length of
-- what it copies is any value. It passes the header seven times, and the count is 2.
abbrev module_c : List Chunk
module_c = array_in_arm copied 4 11 ∷ []

abbrev by_the_arm : List Way
by_the_arm = aside ∷ replicate 82 on ++ (aside ∷ [])

pub arm_run : RunOf module_c by_the_arm 100
unfolding valued_test settle in_groups last_set array_length never_sets path_cycles path
arm_run = run_of module_c by_the_arm 100 refl refl

-- And of the sum. Chunk L from 1 to 2 by 2^63-1 has count 1; the sum in its first pass is 2^63, so that it leaves any value, and this path passes again.
abbrev module_s : List Chunk
module_s = chunk_l (pos 1) (pos 2) greatest ∷ []

abbrev once_more : List Way
once_more = replicate 28 on ++ (aside ∷ on ∷ [])

pub sum_run : RunOf module_s once_more 36
unfolding valued_test settle in_groups last_set array_length never_sets path_cycles path
sum_run = run_of module_s once_more 36 refl refl
