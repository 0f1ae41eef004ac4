-- The pass that looks for Calls, and the second walk: what it gives where none is found.
-- Assumes nothing.
use mathlib.Core.Path.{◌≡◌, refl, sym}
use mathlib.Core.Bool.{Bool, true, not, ◌&&◌, and-true, and_assoc}
use mathlib.Core.List.{List, [], ◌∷◌}
use Prim.Native.Nat.{ℕ, zero, suc, ◌+◌, ◌≤◌, ◌<◌}
use native.Mathlib.Numerals.{add-one}
use borrow.Author.Tests.{not-true, eqb-false}
use lib.Dec.{eqb}
use lib.ListN.{length, get_or, drop, drop_of_length-le}
use lib.Seq.{drop-cons}
use Rattle.rules.specs.Kinds as K
use Rattle.rules.specs.Outcome.{Result, ok, no, and_then}
use Rattle.rules.specs.Ops.{kind, op_at}
use Rattle.rules.specs.Form.{Chunk}
use Rattle.rules.specs.Cycles as R
use Rattle.rules.specs.Cycles.{callee_whole}
use Rattle.rules.proofs.Flags.{both}
use Rattle.rules.proofs.Callees.{other_charged, callees_free}
use Rattle.rows.specs.Tree.{tree_of}
use Rattle.cycles.specs.Entry.{range_cycles}
use Rattle.lines.specs.Costs.{both_of, calls_none, both_costs}

-- the ops from i on, behind others of which `none` tells whether one is a Call
module _ (ops : List ℕ) (i : ℕ) (none : Bool) where
  pub none_left : length ops ≤ i → (none && calls_none (drop i ops)) ≡ none
  unfolding calls_none
  none_left h = rw (drop_of_length-le ops h) (and-true none)

  pub none_next : i < length ops → (none && calls_none (drop i ops)) ≡ ((none && not (eqb (kind (get_or ops i 0)) K.call)) && calls_none (drop (i + 1) ops))
  unfolding calls_none
  none_next lt = rw (drop-cons ops i 0 lt, add-one i) (sym (and_assoc none (not (eqb (kind (get_or ops i 0)) K.call)) (calls_none (drop (suc i) ops))))

-- ops none of which is a Call are charged for no callee
free_ops : (wholes ops : List ℕ) → calls_none ops ≡ true → (i : ℕ) → callee_whole wholes (op_at ops i) ≡ 0
unfolding calls_none
free_ops wholes [] h i = refl
free_ops wholes (w ∷ ops) h zero =
    other_charged wholes w (eqb-false (kind w) K.call (not-true (eqb (kind w) K.call) (both (not (eqb (kind w) K.call)) (calls_none ops) h).0))
free_ops wholes (w ∷ ops) h (suc i) = free_ops wholes ops (both (not (eqb (kind w) K.call)) (calls_none ops) h).1 i

module _ (c : Chunk) (wholes : List ℕ) (from to : ℕ) where
  -- a refusal of the first walk is the refusal of both
  pub first_refused : {n p : ℕ} → no n p ≡ range_cycles c [] from to → no n p ≡ both_costs c wholes from to
  first_refused e = rw (← e)

  module _ {k : R.Cycles} (walked : ok k ≡ range_cycles c [] from to) where
    -- where no op is a Call, the second walk would give the same as the first
    pub walked_once : calls_none c.ops ≡ true → ok (both_of k k) ≡ both_costs c wholes from to
    walked_once h =
        let same = callees_free c wholes (free_ops wholes c.ops h) (tree_of (op_at c.ops) from to) in
        rw (same, ← walked)

    -- what both walks come to, from what the second gives
    pub walked_twice : {x : Result R.Cycles} → x ≡ range_cycles c wholes from to → and_then x (λ w. ok (both_of k w)) ≡ both_costs c wholes from to
    walked_twice e = rw (← walked, e)
