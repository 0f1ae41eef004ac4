-- Demand 3 does not speak of nothing for a module with a loop, a branch and a callee: two paths that meet its conditions, and the sheet's figures
-- exactly.
-- Assumes nothing.
use mathlib.Core.Path.{◌≡◌, refl}
use mathlib.Core.Bool.{true, false}
use mathlib.Core.List.{List, [], ◌∷◌, ◌++◌, map, flat_map}
use Prim.Native.Nat.{ℕ, ◌+◌, ◌≤◌, min}
use native.Mathlib.Omega.{arith}
use lib.IntN.{pos}
use lib.ListN.{replicate}
use Rattle.rules.specs.Ops.{word, in_groups}
use Rattle.rules.specs.Form.{integer, Chunk, module_words}
use Rattle.rules.specs.Reading.{broken_at, take_while, drop_while, constants_of, extras_of, chunks_of}
use Rattle.rules.specs.Rows.{parse, first_backward, stray_break}
use Rattle.rules.specs.Count.{last_set, never_sets}
use Rattle.rules.specs.Sure.{holds, in_part, all_in_row}
use Rattle.rules.specs.Limits.{cycle_cap}
use Rattle.rules.specs.Cycles.{row_cost}
use Rattle.rules.specs.Stack.{row_height}
use Rattle.rules.specs.Order.{member, callees_in, visit_each, visit, up_from}
use Rattle.rules.specs.Sheet.{Sheet, lines_in}
use Rattle.rules.specs.Paths.{Way, on, aside, Frame, settle, begin, path, path_cycles, path_depth, path_bytes, KeepsCounts, KeepsDepths}
use Rattle.rules.specs.Claims.{Accepted, line_at}
use Rattle.rules.specs.Cases.{func}
use Rattle.rules.proofs.StackBound.{stack_bounded}
use Rattle.rules.proofs.WholeBound.{whole_bounded}
use Rattle.rules.proofs.Demand.{cycles_bounded}
use Rattle.rules.proofs.Witness.{counts_test, keeps_counts, depths_test, keeps_depths}

-- Chunk 0 counts from 0 to 2. Each pass sets local 2 to PushImmediate's value plus what chunk 1 makes of an argument. The arms of the If choose
-- the argument, and either costs two cycles, Else included: Const 0, SetLocal 0, Const 1, SetLocal 1, Loop 26, GetLocal 0, GetLocal 1, CmpGe,
-- BreakIf 26, PushImmediate, GetLocal 0, If 14, GetLocal 0, Else 16, GetLocal 1, Not, EndIf, Call 1 with one argument, Add, SetLocal 2,
-- GetLocal 0, Const 2, CheckedAdd, PopN 2, SetLocal 0, EndLoop 5, Return.
abbrev caller : Chunk
caller =
    func 3 (integer (pos 0) ∷ integer (pos 2) ∷ integer (pos 1) ∷ [])
    (word 0 0 0 ∷ word 2 0 0 ∷ word 0 0 1 ∷ word 2 0 1 ∷ word 24 0 26 ∷ word 1 0 0 ∷ word 1 0 1 ∷ word 19 0 0 ∷ word 27 0 26
    ∷ word 57 0 0 ∷ word 1 0 0 ∷ word 21 0 14 ∷ word 1 0 0 ∷ word 22 0 16 ∷ word 1 0 1 ∷ word 20 0 0 ∷ word 23 0 0
    ∷ word 30 1 1 ∷ word 8 0 0 ∷ word 2 0 2 ∷ word 1 0 0 ∷ word 0 0 2 ∷ word 51 0 0 ∷ word 58 2 0 ∷ word 2 0 0 ∷ word 25 0 5
    ∷ word 31 0 0 ∷ [])
    []

-- Chunk 1 has its argument in local 0: GetLocal 0, PushImmediate, CheckedMul, PopN 2, SetLocal 1, GetLocal 1, Return.
abbrev callee : Chunk
callee = func 2 [] (word 1 0 0 ∷ word 57 0 0 ∷ word 53 0 0 ∷ word 58 2 0 ∷ word 2 0 1 ∷ word 1 0 1 ∷ word 31 0 0 ∷ []) []

abbrev pair : List Chunk
pair = caller ∷ callee ∷ []

-- its sheet in numbers
abbrev numbers : Sheet
numbers =
    record {
      order = 1 ∷ 0 ∷ [];
      lines = record { cycles = 74; cut = false; peak = 6; bytes = 288; whole = 92 } ∷ record { cycles = 9; cut = false; peak = 3; bytes = 160; whole = 9 }
          ∷ [];
    }

pub witness_accepted : Accepted (module_words pair) 10 pair numbers
unfolding flat_map in_groups broken_at take_while drop_while constants_of extras_of chunks_of parse first_backward stray_break last_set never_sets holds in_part all_in_row row_cost row_height member callees_in visit_each visit up_from lines_in
witness_accepted = record { reads = refl; answers = refl }

-- The ops up to Loop; a pass by the If's arm; a pass by Else's; the break by the header, and Return. In each pass n ops of the callee are run.
abbrev ways : ℕ → List Way
ways n =
    replicate 5 on ++ (replicate (19 + n) on ++ (replicate 6 on ++ (aside ∷ replicate (12 + n) on ++ (on ∷ on ∷ on ∷ aside ∷ on ∷ []))))

-- n ops of chunk k from position i on
abbrev stretch : ℕ → ℕ → ℕ → List (ℕ × ℕ)
stretch k i n = map (λ j. (k, j)) (up_from i n)

abbrev taken : List (ℕ × ℕ) → List (ℕ × ℕ)
taken inside =
    stretch 0 0 14 ++ (stretch 0 16 2 ++ (inside ++ (stretch 0 18 8
    ++ (stretch 0 5 7 ++ (stretch 0 14 4 ++ (inside ++ (stretch 0 18 8
    ++ (stretch 0 5 4 ++ stretch 0 26 1))))))))

abbrev places : List Frame → List (ℕ × ℕ)
places fs = map (λ f. (f.chunk, f.at)) fs

-- the ops that the path takes, by chunk and position: with no callee run, and with the callee run from its start to its Return in both passes
pub witness_places : (places (path pair false (begin pair 0) (ways 0)) ≡ taken [])
    × (places (path pair true (begin pair 0) (ways 7)) ≡ taken (stretch 1 0 7))
unfolding path settle up_from
witness_places = (refl, refl)

-- as a path of claim (a): its counts are kept, and its cycles are the line's
pub witness_keeps_counts : KeepsCounts pair false (begin pair 0) (ways 0)
unfolding counts_test settle last_set never_sets
witness_keeps_counts = keeps_counts pair false (begin pair 0) (ways 0) refl

pub witness_cycles : (path_cycles pair (path pair false (begin pair 0) (ways 0)) ≡ 74) × ((line_at numbers 0).cycles ≡ 74)
unfolding path_cycles path settle in_groups
witness_cycles = (refl, refl)

pub witness_cycles_bounded : min cycle_cap (path_cycles pair (path pair false (begin pair 0) (ways 0))) ≤ (line_at numbers 0).cycles
witness_cycles_bounded = cycles_bounded (module_words pair) 10 pair numbers witness_accepted 0 (omega arith) (ways 0) witness_keeps_counts

-- as a path of claim (b): its depths are kept, and its stack bytes are the line's
pub witness_keeps_depths : KeepsDepths pair true (begin pair 0) (ways 7)
unfolding depths_test settle in_groups
witness_keeps_depths = keeps_depths pair true (begin pair 0) (ways 7) refl

pub witness_bytes : (path_bytes pair 0 (path pair true (begin pair 0) (ways 7)) ≡ 288) × ((line_at numbers 0).bytes ≡ 288)
unfolding path_depth path settle in_groups
witness_bytes = (refl, refl)

-- The deepest op is the callee's CheckedMul, the nineteenth op of the path: with it the bytes are reached, one op before they are not.
pub witness_deepest : (path_bytes pair 0 (path pair true (begin pair 0) (replicate 18 on)) ≡ 256)
    × (path_bytes pair 0 (path pair true (begin pair 0) (replicate 19 on)) ≡ 288)
    × (places (path pair true (begin pair 0) (replicate 19 on)) ≡ stretch 0 0 14 ++ (stretch 0 16 2 ++ stretch 1 0 3))
unfolding path_depth path settle in_groups up_from
witness_deepest = (refl, refl, refl)

pub witness_stack_bounded : path_bytes pair 0 (path pair true (begin pair 0) (ways 7)) ≤ (line_at numbers 0).bytes
witness_stack_bounded = stack_bounded (module_words pair) 10 pair numbers witness_accepted 0 (omega arith) (ways 7) witness_keeps_depths

-- as a path of 2.1's claim: its counts are kept with the callee run, and its cycles are the line's whole figure
pub witness_keeps_counts_run : KeepsCounts pair true (begin pair 0) (ways 7)
unfolding counts_test settle last_set never_sets
witness_keeps_counts_run = keeps_counts pair true (begin pair 0) (ways 7) refl

pub witness_whole : (path_cycles pair (path pair true (begin pair 0) (ways 7)) ≡ 92) × ((line_at numbers 0).whole ≡ 92)
unfolding path_cycles path settle in_groups
witness_whole = (refl, refl)

pub witness_whole_bounded : min cycle_cap (path_cycles pair (path pair true (begin pair 0) (ways 7))) ≤ (line_at numbers 0).whole
witness_whole_bounded = whole_bounded (module_words pair) 10 pair numbers witness_accepted 0 (omega arith) (ways 7) witness_keeps_counts_run
