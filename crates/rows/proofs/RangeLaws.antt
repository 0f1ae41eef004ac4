-- The range of a chunk by its cases, and what the answer of the row check says of the chunk's row: what the crates above cite.
-- Assumes nothing.
use mathlib.Core.Path.{◌≡◌, refl, sym, subst, ap, ◌∙◌}
use mathlib.Core.Bool.{Bool, true, false, true≢false}
use mathlib.Core.List.{List}
use Prim.Native.Nat.{ℕ, suc, ◌-◌, ◌≤◌, max}
use native.Mathlib.Omega.{arith}
use lib.Dec.{eqb}
use lib.ListN.{length}
use Rattle.rules.specs.Kinds as K
use Rattle.rules.specs.Numbers as N
use Rattle.rules.specs.Outcome.{ok, no, Found, found, nothing, and_then}
use Rattle.rules.specs.Ops.{op_at}
use Rattle.rules.specs.Form.{Chunk}
use Rattle.rules.specs.Rows.{Parsed, row, crossed, parse, Range, first_of, or_refuse, range_if, range_by}
use Rattle.rules.specs.Rows.{first_backward, row_of, unless_found, stray_break, Walkable, walkable, chunk_row}
use Rattle.rules.proofs.Answers.{from_ok}
use Rattle.rules.proofs.RowTree.{parse_sound, parse_complete, row_some, walked_row}
use Rattle.rows.specs.Tree.{HasRow, tree_of, is_row}
use Rattle.rows.specs.Ranges.{range_row}
use Rattle.rows.proofs.TreeLaws.{tree_is}
use Rattle.rows.proofs.SearchLaws.{first_within}

-- the range lies in the list
range_within : (stream : Bool) (ops : List ℕ) (g : Range) → range_if stream ops ≡ ok g → (g.from ≤ g.to) × (g.to ≤ length ops)
range_within true ops g e =
    let (s, a, f) = from_ok (or_refuse (first_of K.stream ops 0) N.no_stream) _ e in
    let (r, b, is) = from_ok (or_refuse (first_of K.reset ops 0) N.no_reset) _ f in
    let y : g.from ≡ suc s = cc in
    let z : g.to ≡ max (suc s) r = cc in
    omega (arith, first_within K.stream ops 0 s (found_at _ _ a), first_within K.reset ops 0 r (found_at _ _ b))
  where
    -- a search that is not refused has found a place
    found_at : (f : Found) (n : ℕ) {i : ℕ} → or_refuse f n ≡ ok i → f ≡ found i
    found_at (found j) n e = cc
    found_at nothing n e = absurd (let z : ◌≡◌ {A = ℕ} 0 1 = cc in omega arith)
range_within false ops g e = let y : g.from ≡ 0 = cc in let z : g.to ≡ length ops = cc in omega arith

-- a chunk that passes 3, 4 and 5, with its range
pub record Ahead (mode : ℕ) (ops : List ℕ) (g : Range) : Type 0 where
  pub range : ok g ≡ range_by mode ops
  pub forward : nothing ≡ first_backward (length ops) 0 ops

-- what the parse of a range finds
abbrev parsed : List ℕ → Range → Parsed
parsed ops g = parse (g.to - g.from) (op_at ops) false g.from g.to

module _ {mode : ℕ} {ops : List ℕ} {g : Range} (a : Ahead mode ops g) where
  -- its range lies in the list
  pub range_inside : (g.from ≤ g.to) × (g.to ≤ length ops)
  range_inside = range_within (eqb mode K.stream_type) ops g (sym a.range)

  -- where the row check says so it has a row
  pub range_has_row : true ≡ is_row (parsed ops g) → HasRow (op_at ops) false g.from g.to
  range_has_row e = some (parsed ops g) refl e
    where
      -- the parse has found a tree
      some : (p : Parsed) → parsed ops g ≡ p → true ≡ is_row p → HasRow (op_at ops) false g.from g.to
      some (row r) is k = (r, parse_sound (g.to - g.from) (op_at ops) false g.from g.to r range_inside.0 is)
      some crossed is k = absurd (true≢false k)

  -- 15 at the first stray break, or the range
  pub range_decided : HasRow (op_at ops) false g.from g.to → (f : Found) → f ≡ stray_break (op_at ops) 0 (tree_of (op_at ops) g.from g.to)
      → and_then (unless_found f N.stray_break) (λ u. ok g) ≡ range_row mode ops
  range_decided (r, is) f e =
      let first : f ≡ stray_break (op_at ops) 0 r = e ∙ rw (tree_is (op_at ops) false g.from g.to r is) in
      let p = parse_complete (g.to - g.from) (op_at ops) false g.from g.to r (omega arith) is in
      rw (← a.range, ← a.forward, p) (rw (← first) (elim f as (λ f. and_then (unless_found f N.stray_break) (λ u. ok g)
      ≡ and_then {A = Walkable} (and_then (and_then (unless_found f N.stray_break) (λ u. ok r)) (λ own. ok (record { range = g; tree = own }))) (λ w. ok w.range))
      [ found i ↦ refl | nothing ↦ refl ]))

-- the chunk's row, where the tests hold
pub range_row_ok : (c : Chunk) (g : Range) → range_row c.type c.ops ≡ ok g
    → (chunk_row c ≡ ok (tree_of (op_at c.ops) g.from g.to)) × HasRow (op_at c.ops) false g.from g.to
    × (g.from ≤ g.to) × (g.to ≤ length c.ops)
range_row_ok c g e =
    let (w, walks, is) = from_ok (walkable c.type c.ops) _ e in
    let (range, tree) = walked_row c.type c.ops w walks in
    let same : w.range ≡ g = cc is in
    let fits = range_within (eqb c.type K.stream_type) c.ops g (range ∙ ap ok same) in
    let row = row_some c.ops g w.tree fits.0 (subst (λ (x : Range). row_of c.ops x ≡ ok w.tree) same tree) in
    (rw (walks, tree_is (op_at c.ops) false g.from g.to w.tree row), (w.tree, row), fits.0, fits.1)

-- a refusal of the range is one of the chunk
pub range_row_no : (c : Chunk) (n p : ℕ) → range_row c.type c.ops ≡ no n p → chunk_row c ≡ no n p
range_row_no c n p e =
    (elim (walkable c.type c.ops) as (λ r. and_then r (λ w. ok w.range) ≡ no n p → and_then r (λ w. ok w.tree) ≡ no n p)
    [ ok w ↦ λ e. absurd (let z : ◌≡◌ {A = ℕ} 0 1 = cc in omega arith) | no m q ↦ λ e. cc ]) e
