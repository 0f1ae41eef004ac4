-- The condition of request 2.8 on rows, told by positions: the backward pass from a Loop says what the tree of the range says, and the walk with counts so
-- told is the walk with sure counts; and in the row that the Loop stands in, the row's start and the two sums say it too. Assumes nothing.
use mathlib.Core.Path.{◌≡◌, refl, sym, ◌∙◌}
use mathlib.Core.Bool.{Bool, true, false, cond, ◌&&◌}
use mathlib.Core.List.{List, [], ◌∷◌, ◌++◌}
use Prim.Native.Nat.{ℕ, zero, suc, ◌+◌, ◌≤◌, ◌<◌}
use native.Mathlib.Omega.{arith}
use borrow.Author.Tests.{leb-true, leb-false}
use lib.Dec.{eqb, leb}
use Rattle.rules.specs.Kinds as K
use Rattle.rules.specs.Outcome.{Result, Found, found, nothing}
use Rattle.rules.specs.Ops.{kind, field_a, op_at}
use Rattle.rules.specs.Form.{Chunk}
use Rattle.rules.specs.Rows.{Row, plain, loop_to, shape_of, IsRow}
use Rattle.rules.specs.Count.{is_set_local, last_set}
use Rattle.rules.specs.Sure.{same_row, copy_stops, at_stop, array_stops, len_stops, stops_at, stops_of, all_in_row, sure_count_of, loop_stops}
use Rattle.rules.specs.Cycles.{Breaks, row_cost}
use Rattle.rules.specs.Placed.{back, all_of, count_where, placed, placed_count, beside, row_count, Begins}
use Rattle.rules.proofs.Effects.{set_tells}
use Rattle.rules.proofs.Searches.{found_is}
use Rattle.rules.proofs.Counting.{set_shape}
use Rattle.rules.proofs.SameRow.{same_row_back, row_before}
use Rattle.rules.proofs.RowSums.{row_stop}
use Rattle.rules.proofs.CountUsed.{count_used}

-- of one list after another
pub all_behind : (f : ℕ → Bool) (xs ys : List ℕ) → all_of f (xs ++ ys) ≡ (all_of f xs && all_of f ys)
unfolding all_of
all_behind f [] ys = refl
all_behind f (x ∷ xs) ys = go (f x) (all_behind f xs ys)
  where
    go : (b : Bool) → all_of f (xs ++ ys) ≡ (all_of f xs && all_of f ys) → (b && all_of f (xs ++ ys)) ≡ ((b && all_of f xs) && all_of f ys)
    go true h = h
    go false h = refl

-- Two tests that agree on SetLocals below p agree on all that the searches from p stopped at.
module _ (ops : List ℕ) (p : ℕ) (f g : ℕ → Bool) (same : (s : ℕ) → s < p → kind (op_at ops s) ≡ K.set_local → f s ≡ g s) where
  -- of these positions the two say the same
  abbrev Alike : List ℕ → Type 0
  Alike ss = all_of f ss ≡ all_of g ss

  one_more : (x s : ℕ) (ss : List ℕ) → is_set_local x (op_at ops s) ≡ true → s < p → Alike ss → Alike (s ∷ ss)
  unfolding all_of
  one_more x s ss set lt h = rw (same s lt (set_tells x (op_at ops s) set).0, h)

  pub arrays_alike : (n x : ℕ) → n ≤ p → Alike (array_stops ops n x)
  unfolding array_stops all_of
  arrays_alike zero x le = refl
  arrays_alike (suc zero) x le = refl
  arrays_alike (suc (suc i)) x le =
      by (is_set_local x (op_at ops (suc i))) refl (λ y. arrays_alike i y (omega arith)) (arrays_alike (suc i) x (omega arith))
    where
      copies : (b : Bool) → ((y : ℕ) → Alike (array_stops ops i y)) → Alike (copy_stops b (λ y. array_stops ops i y) (op_at ops i))
      copies true copy = copy (field_a (op_at ops i))
      copies false copy = refl

      by : (b : Bool) → is_set_local x (op_at ops (suc i)) ≡ b → ((y : ℕ) → Alike (array_stops ops i y)) → Alike (array_stops ops (suc i) x)
          → Alike (at_stop b (λ y. array_stops ops i y) (λ y. array_stops ops (suc i) y) (suc i) (op_at ops i) x)
      by true e copy down = one_more x (suc i) _ e (omega arith) (copies (eqb (kind (op_at ops i)) K.get_local) copy)
      by false e copy down = down

  lengths_alike : (i : ℕ) → i < p → Alike (len_stops ops i)
  unfolding all_of
  lengths_alike zero lt = refl
  lengths_alike (suc i) lt = by (eqb (kind (op_at ops (suc i))) K.len && eqb (kind (op_at ops i)) K.get_local)
    where
      by : (b : Bool) → Alike (cond b (array_stops ops i (field_a (op_at ops i))) [])
      by true = arrays_alike i (field_a (op_at ops i)) (omega arith)
      by false = refl

  stops_alike : (x : ℕ) → Alike (stops_of ops p x)
  unfolding all_of
  stops_alike x = by (last_set ops p x) refl
    where
      by : (y : Found) → last_set ops p x ≡ y → Alike (stops_at ops y)
      by nothing e = refl
      by (found zero) e = refl
      by (found (suc i)) e = let a = found_is ops p x (suc i) e in one_more x (suc i) _ a.0 a.1 (lengths_alike i (omega (arith, a.1)))

  loop_alike : Alike (loop_stops ops p)
  loop_alike =
      let v = stops_alike (field_a (op_at ops (p + 1))) in
      let e = stops_alike (field_a (op_at ops (p + 2))) in
      all_behind f (stops_of ops p (field_a (op_at ops (p + 1)))) (stops_of ops p (field_a (op_at ops (p + 2))))
      ∙ rw (v, e) (sym (all_behind g (stops_of ops p (field_a (op_at ops (p + 1)))) (stops_of ops p (field_a (op_at ops (p + 2))))))

-- and give the same count
counts_alike : (c : Chunk) (p : ℕ) (f g : ℕ → Bool) → ((s : ℕ) → s < p → kind (op_at c.ops s) ≡ K.set_local → f s ≡ g s)
    → count_where f c p ≡ count_where g c p
counts_alike c p f g same = rw (loop_alike c.ops p f g same) refl

-- the tree's test, over the list of stops
tree_test : (r : Row) (p : ℕ) (ss : List ℕ) → all_in_row r p ss ≡ all_of (λ s. same_row r s p) ss
unfolding all_in_row all_of
tree_test r p [] = refl
tree_test r p (s ∷ ss) = rw (tree_test r p ss) refl

-- the tree of the range says what the pass from the Loop says
in_tree : (op : ℕ → ℕ) (top : Row) (l : Bool) (start last p t : ℕ) → IsRow op l start last top → p < last → shape_of (op p) ≡ loop_to t
    → (s : ℕ) → s < p → shape_of (op s) ≡ plain → same_row top s p ≡ placed op start p s
in_tree op top l start last p t w lt opens s below set = go (leb start s) refl
  where
    go : (b : Bool) → leb start s ≡ b → same_row top s p ≡ (b && back op p 0 s)
    go true e = same_row_back op top l start last s p t w (leb-true start s e) below lt opens set
    go false e = row_before op top l start last s p w (leb-false start s e)

-- So a loop of the range has the same sure count by positions.
placed_sure : (c : Chunk) (top : Row) (l : Bool) (start last p t : ℕ) → IsRow (op_at c.ops) l start last top → p < last → shape_of (op_at c.ops p) ≡ loop_to t
    → sure_count_of c top p ≡ placed_count c start p
placed_sure c top l start last p t w lt opens =
    rw (tree_test top p (loop_stops c.ops p))
    (counts_alike c p (λ s. same_row top s p) (placed (op_at c.ops) start p)
    (λ s below set. in_tree (op_at c.ops) top l start last p t w lt opens s below (set_shape (op_at c.ops s) set)))

-- and the walk of the range with counts by positions is the walk with sure counts
pub placed_walk : (cut : ℕ → ℕ) (charge : ℕ → Result ℕ) (c : Chunk) (top : Row) (l : Bool) (start last : ℕ) → IsRow (op_at c.ops) l start last top
    → (left cost : ℕ) (b : Breaks) → row_cost cut charge (placed_count c start) top left cost b ≡ row_cost cut charge (sure_count_of c top) top left cost b
placed_walk cut charge c top l start last w left cost b =
    count_used (op_at c.ops) cut charge (placed_count c start) (sure_count_of c top) top l start last w
    (λ p t le lt opens. sym (placed_sure c top l start last p t w lt opens)) left cost b

-- In a row of the range, with the Loop at its end, the row's start and the sums say it.
pub row_placed : (c : Chunk) (r : Row) (l : Bool) (start from p : ℕ) → Begins (op_at c.ops) start from → IsRow (op_at c.ops) l from p r
    → row_count c from p ≡ placed_count c start p
row_placed c r l start from p begins w =
    counts_alike c p (beside (op_at c.ops) from p) (placed (op_at c.ops) start p)
    (λ s below set. sym (row_stop (op_at c.ops) r l start from p s w begins below (set_shape (op_at c.ops s) set)))
