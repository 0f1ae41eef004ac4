-- Demand 3 does not speak of nothing: concrete paths through chunk L, one of 48 cycles and one of depth 3, that meet its conditions; and with request 2.7's
-- step of 2 one of 36 cycles.
-- Assumes nothing.
use mathlib.Core.Path.{◌≡◌, refl, sym, ap, ◌∙◌}
use mathlib.Core.Bool.{Bool, true, false, ◌&&◌}
use mathlib.Core.List.{List, [], ◌∷◌, ◌++◌}
use Prim.Native.Nat.{ℕ}
use borrow.Author.Tests.{leb-true}
use lib.Dec.{leb}
use lib.IntN.{pos}
use lib.ListN.{replicate}
use Rattle.rules.specs.Outcome.{Found, found, nothing}
use Rattle.rules.specs.Ops.{in_groups}
use Rattle.rules.specs.Form.{Chunk}
use Rattle.rules.specs.Rows.{shape_of}
use Rattle.rules.specs.Count.{count_at, last_set, array_length, never_sets}
use Rattle.rules.specs.Order.{chunk_at}
use Rattle.rules.specs.Paths.{Way, on, aside, Entry, Spot, here, over, go, settle, begin, path, path_cycles, path_depth, op_of, EntryKept, KeepsCounts, depth_kept, KeepsDepths}
use Rattle.rules.specs.Cases.{chunk_l}
use Rattle.rules.proofs.Flags.{both}

-- a test that computes: each op is taken with its innermost entry's passes at most the count, if there is one
abbrev within : ℕ → Found → Bool
within n (found m) = leb n m
within n nothing = true

abbrev entry_test : Chunk → List Entry → Bool
entry_test c [] = true
entry_test c (e ∷ es) = within e.passed (count_at c.constants c.ops e.loop)

unfoldable pub counts_test : List Chunk → Bool → Spot → List Way → Bool
counts_test cs run s [] = true
counts_test cs run over (w ∷ ws) = true
counts_test cs run (here f gs) (w ∷ ws) = entry_test (chunk_at cs f.chunk) f.entries && counts_test cs run (go cs run f gs w) ws

entry_kept : (cs : List Chunk) (c : Chunk) (k : ℕ) (es : List Entry) → entry_test c es ≡ true → EntryKept cs c k es
entry_kept cs c k [] t = tt
entry_kept cs c k (e ∷ es) t = λ reach n is. leb-true e.passed n (sym (ap (within e.passed) is) ∙ t)

pub keeps_counts : (cs : List Chunk) (run : Bool) (s : Spot) (ways : List Way) → counts_test cs run s ways ≡ true → KeepsCounts cs run s ways
unfolding counts_test KeepsCounts
keeps_counts cs run s [] t = tt
keeps_counts cs run over (w ∷ ws) t = tt
keeps_counts cs run (here f gs) (w ∷ ws) t =
    let p = both (entry_test (chunk_at cs f.chunk) f.entries) _ t in
    (entry_kept cs (chunk_at cs f.chunk) f.chunk f.entries p.0, keeps_counts cs run (go cs run f gs w) ws p.1)

-- the same for the depths: each whole pass and break on the way leaves at most the depth at its entry
unfoldable pub depths_test : List Chunk → Bool → Spot → List Way → Bool
depths_test cs run s [] = true
depths_test cs run over (w ∷ ws) = true
depths_test cs run (here f gs) (w ∷ ws) = depth_kept cs (shape_of (op_of cs f)) f w && depths_test cs run (go cs run f gs w) ws

pub keeps_depths : (cs : List Chunk) (run : Bool) (s : Spot) (ways : List Way) → depths_test cs run s ways ≡ true → KeepsDepths cs run s ways
unfolding depths_test KeepsDepths
keeps_depths cs run s [] t = tt
keeps_depths cs run over (w ∷ ws) t = tt
keeps_depths cs run (here f gs) (w ∷ []) t = tt
keeps_depths cs run (here f gs) (w ∷ v ∷ ws) t =
    let p = both (depth_kept cs (shape_of (op_of cs f)) f w) _ t in
    (p.0, keeps_depths cs run (go cs run f gs w) (v ∷ ws) p.1)

-- chunk L alone as a module
abbrev pub module_l : List Chunk
module_l = chunk_l (pos 0) (pos 3) (pos 1) ∷ []

-- three whole passes, the break by the header, Return
abbrev pub longest : List Way
longest = replicate 38 on ++ (aside ∷ on ∷ [])

-- as a path of claim (a): 48 cycles, with its counts kept
pub longest-cycles : path_cycles module_l (path module_l false (begin module_l 0) longest) ≡ 48
unfolding path_cycles path settle in_groups
longest-cycles = refl

pub longest_keeps_counts : KeepsCounts module_l false (begin module_l 0) longest
unfolding counts_test settle in_groups last_set array_length never_sets
longest_keeps_counts = keeps_counts module_l false (begin module_l 0) longest refl

-- as a path of claim (b): depth 3, with its depths kept
pub longest_depth : path_depth module_l (path module_l true (begin module_l 0) longest) ≡ 3
unfolding path_depth path settle in_groups
longest_depth = refl

pub longest_keeps_depths : KeepsDepths module_l true (begin module_l 0) longest
unfolding depths_test settle in_groups
longest_keeps_depths = keeps_depths module_l true (begin module_l 0) longest refl

-- with a step of 2 the count is 2: two whole passes, the break by the header, Return, for the line's 36 cycles
abbrev module_twos : List Chunk
module_twos = chunk_l (pos 0) (pos 3) (pos 2) ∷ []

abbrev by_twos : List Way
by_twos = replicate 28 on ++ (aside ∷ on ∷ [])

pub twos_cycles : path_cycles module_twos (path module_twos false (begin module_twos 0) by_twos) ≡ 36
unfolding path_cycles path settle in_groups
twos_cycles = refl

pub twos_keep_counts : KeepsCounts module_twos false (begin module_twos 0) by_twos
unfolding counts_test settle in_groups last_set array_length never_sets
twos_keep_counts = keeps_counts module_twos false (begin module_twos 0) by_twos refl
