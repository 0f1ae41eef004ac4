-- The claims of request 2.9 do not speak of nothing: a chunk with a loop and an arm that is yes, and a path of two passes through it to its end; one that is
-- never; and one that is no, with a path to the end that does not give up its turn. And their limit is exact: with 257 blocks in one another such a path
-- belies a yes, and a path to the end a never. Assumes nothing.
use mathlib.Core.Path.{◌≡◌, refl, sym, ap, ◌∙◌}
use mathlib.Core.Bool.{true, false≢true}
use mathlib.Core.List.{List, [], ◌∷◌, flat_map}
use Prim.Native.Nat.{ℕ, suc, ◌≤◌}
use native.Mathlib.Omega.{arith}
use lib.ListN.{replicate}
use Rattle.rules.specs.Kinds as K
use Rattle.rules.specs.Limits.{deepest}
use Rattle.rules.specs.Outcome.{ok, answer}
use Rattle.rules.specs.Ops.{in_groups}
use Rattle.rules.specs.Reading.{broken_at, take_while, drop_while, constants_of, extras_of, chunks_of}
use Rattle.rules.specs.Rows.{Row, parse, first_backward, stray_break, chunk_row}
use Rattle.rules.specs.Sheet.{read_module}
use Rattle.rules.specs.Paths.{Way, on, aside, settle, path}
use Rattle.rules.specs.Yields.{Coverage, reached, never, row_cover, coverage_of, yield_outcome, depth_of, ends_at, gives_up}
use Rattle.rules.specs.YieldClaims.{YesWithin, NeverWithin, LimitExact, Shallow}
use Rattle.rules.specs.Cases.{op, alone, caller}
use Rattle.rules.specs.YieldCases.{IsNo, Ends, Gives, GivesNot, measured, around, armed, served, twice}
use Rattle.rules.proofs.Answers.{from_ok}
use Rattle.rules.proofs.YieldHolds.{yes_told, never_told}

same_value : {A : Type 0} (x y : A) → ok x ≡ ok y → x ≡ y
same_value x y e = cc

-- what is measured of a chunk is so of its row
measured_row : (ops : List ℕ) (k : Coverage) (n : ℕ) → measured ops ≡ ok (k, n)
    → (r : Row) × (chunk_row (caller ops) ≡ ok r) × (coverage_of (caller ops) [] r ≡ k) × (depth_of r ≡ n)
measured_row ops k n e =
    let (r, is, found) = from_ok (chunk_row (caller ops)) _ e in
    let same = same_value (coverage_of (caller ops) [] r, depth_of r) (k, n) found in
    (r, is, ap (λ (x : Coverage × ℕ). x.0) same, ap (λ (x : Coverage × ℕ). x.1) same)

shallow : (ops : List ℕ) (k : Coverage) (n : ℕ) → measured ops ≡ ok (k, n) → n ≤ deepest → Shallow (caller ops)
shallow ops k n e le r is =
    let (s, other, _, deep) = measured_row ops k n e in
    let same = same_value s r (sym other ∙ is) in
    omega (arith, rw same at deep)

-- `Loop 7, Yield, If 4, Break 7, EndIf, BreakIf 7, EndLoop`, and a path past its arm, one whole pass, and out by the arm's Break
pub served_yes : yield_outcome (alone (caller served)) 0 [] ≡ answer (reached true)
unfolding flat_map in_groups broken_at take_while drop_while constants_of extras_of chunks_of parse first_backward stray_break row_cover
served_yes = refl

pub served_ends : Ends served twice
unfolding settle ends_at
served_ends = refl

served_measured : measured served ≡ ok (reached true, 2)
unfolding parse first_backward stray_break row_cover depth_of
served_measured = refl

served_reads : read_module (alone (caller served)) ≡ answer (caller served ∷ [])
unfolding flat_map in_groups broken_at take_while drop_while constants_of extras_of chunks_of
served_reads = refl

pub served_gives : Gives served twice
served_gives =
    yes_told (alone (caller served)) 0 [] (caller served ∷ []) served_reads (shallow served (reached true) 2 served_measured (omega arith)) served_yes twice
    served_ends

-- `Loop 5, If 3, Yield, EndIf, EndLoop`
abbrev kept : List ℕ
kept = op K.loop 5 ∷ op K.if 3 ∷ op K.yield 0 ∷ op K.end_if 0 ∷ op K.end_loop 0 ∷ []

pub kept_never : yield_outcome (alone (caller kept)) 0 [] ≡ answer never
unfolding flat_map in_groups broken_at take_while drop_while constants_of extras_of chunks_of parse first_backward stray_break row_cover
kept_never = refl

kept_measured : measured kept ≡ ok (never, 2)
unfolding parse first_backward stray_break row_cover depth_of
kept_measured = refl

kept_reads : read_module (alone (caller kept)) ≡ answer (caller kept ∷ [])
unfolding flat_map in_groups broken_at take_while drop_while constants_of extras_of chunks_of
kept_reads = refl

-- so whichever way it goes, it stays
pub kept_stays : (ways : List Way) → Ends kept ways → ⊥
kept_stays ways e =
    never_told (alone (caller kept)) 0 [] (caller kept ∷ []) kept_reads (shallow kept never 2 kept_measured (omega arith)) kept_never ways e

-- `If 2, Yield, EndIf`, past its arm
abbrev passed : List ℕ
passed = op K.if 2 ∷ op K.yield 0 ∷ op K.end_if 0 ∷ []

pub passed_no : IsNo passed × Ends passed (aside ∷ on ∷ []) × GivesNot passed (aside ∷ on ∷ [])
unfolding flat_map in_groups broken_at take_while drop_while constants_of extras_of chunks_of parse first_backward stray_break row_cover settle ends_at path gives_up
passed_no = (refl, refl, refl)

-- Of 517 ops: past the Yield, into the Loop and every If, and out by the Break, a path gives up nothing.
abbrev past_it : List Way
past_it = aside ∷ replicate 258 on

armed_measured : measured (armed 255) ≡ ok (reached true, suc deepest)
unfolding parse first_backward stray_break row_cover depth_of
armed_measured = refl

pub armed_path : Ends (armed 255) past_it × GivesNot (armed 255) past_it
unfolding settle ends_at path gives_up
armed_path = (refl, refl)

yes_belied : YesWithin (suc deepest) → ⊥
yes_belied holds =
    let (r, is, said, deep) = measured_row (armed 255) (reached true) (suc deepest) armed_measured in
    let gives = holds (caller (armed 255) ∷ []) 0 [] r is (omega arith) said past_it armed_path.0 in
    false≢true (sym armed_path.1 ∙ gives)

-- Of 515: such a Loop alone, and the same way.
around_measured : measured (around 0 256 []) ≡ ok (never, suc deepest)
unfolding parse first_backward stray_break row_cover depth_of
around_measured = refl

pub around_ends : Ends (around 0 256 []) (replicate 258 on)
unfolding settle ends_at
around_ends = refl

never_belied : NeverWithin (suc deepest) → ⊥
never_belied holds =
    let (r, is, said, deep) = measured_row (around 0 256 []) never (suc deepest) around_measured in
    holds (caller (around 0 256 []) ∷ []) 0 [] r is (omega arith) said (replicate 258 on) around_ends

pub limit_exact : LimitExact
limit_exact = (yes_belied, never_belied)
