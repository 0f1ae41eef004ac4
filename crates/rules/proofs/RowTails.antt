-- What `same_row` of a whole range says of the row at hand: of what is left of it, and of the rows inside its blocks. Assumes nothing.
use mathlib.Core.Path.{◌≡◌, refl}
use mathlib.Core.Bool.{Bool, true, false, ◌&&◌, ◌||◌, or-false}
use Prim.Native.Nat.{ℕ, suc, ◌≤◌, ◌<◌}
use native.Mathlib.Omega.{arith}
use borrow.Author.Tests.{ne_eqb}
use lib.Dec.{eqb}
use Rattle.rules.specs.Rows.{Row, step, leave_if, if_then, if_else, loop, IsRow}
use Rattle.rules.specs.Sure.{holds, in_part, same_row}
use Rattle.std.proofs.lemmas.Bool.{false_from_ne_true}
use Rattle.rules.proofs.HeldRows.{Between, Hides, held_range, held_out, part_out, same_out}

-- Of a row and its rest r: the row holds s and the rest p, or a row inside the rest both.
abbrev pub row_from : Row → Row → ℕ → ℕ → Bool
row_from full r s p = (holds full s && holds r p) || in_part r s p

-- The row `full` of the range's tree `top` has r left from i up to `to`: what the tree has in one row with a position of the rest, `full` holds or a row
-- inside the rest, and what `full` holds from i on the rest holds.
pub record Tail (top full r : Row) (i to : ℕ) : Type 0 where
  pub same : (s p : ℕ) → Between i to p → same_row top s p ≡ true → row_from full r s p ≡ true
  pub rest : (s : ℕ) → i ≤ s → holds full s ≡ true → holds r s ≡ true

pub whole_tail : (top : Row) (i to : ℕ) → Tail top top top i to
whole_tail top i to = record { same = λ s p b h. h; rest = λ s le h. h }

-- what is left where the other tests fail
last_of : (a x : Bool) → ((a && false) || (x || false)) ≡ true → x ≡ true
last_of a true h = refl
last_of true false h = h
last_of false false h = h

first_holds : (a b : Bool) → ((a && b) || (false || false)) ≡ true → a ≡ true
first_holds true b h = refl
first_holds false b h = h

module _ (op : ℕ → ℕ) (top full : Row) (l : Bool) (i to : ℕ) where
  -- What is left of the row begins with an op at j, which is i, and has r behind it or behind its block: what `full` holds from i on, and what `full` and the
  -- rows inside hold with a position from i on, x being what the rows of the first op's block say.
  abbrev FirstHeld : ℕ → Row → Type 0
  FirstHeld j r = (s : ℕ) → i ≤ s → holds full s ≡ true → (eqb j s || holds r s) ≡ true

  abbrev FirstSame : ℕ → Row → (ℕ → ℕ → Bool) → Type 0
  FirstSame j r x =
      (s p : ℕ) → Between i to p → same_row top s p ≡ true → ((holds full s && (eqb j p || holds r p)) || (x s p || in_part r s p)) ≡ true

  -- behind the op or its block, up to m
  behind : (j m : ℕ) (r : Row) (x : ℕ → ℕ → Bool) → j ≡ i → i < m → ((s p : ℕ) → m ≤ p → x s p ≡ false) → FirstSame j r x → FirstHeld j r → Tail top full r m to
  behind j m r x e lt out same rest =
      record {
        same = λ s p b h. rw (ne_eqb j p (λ k. omega arith), out s p b.0) at (same s p (omega arith) h);
        rest = λ s le h. rw (ne_eqb j s (λ k. omega arith)) at (rest s (omega arith) h);
      }

  -- inside the block, which is closed at u, the row holds none
  hides : (j u : ℕ) (r : Row) → j ≡ i → IsRow op l (suc u) to r → FirstHeld j r → Hides full (suc i) u
  hides j u r e w rest s le le' =
      false_from_ne_true (holds full s)
      (λ h. let k = held_range op r l (suc u) to s w (rw (ne_eqb j s (λ k. omega arith)) at (rest s (omega arith) h)) in omega arith)

  -- into a row q of the block, from a up to m
  into : (j u a m : ℕ) (q r : Row) (x : ℕ → ℕ → Bool) → j ≡ i → i < a → m ≤ u → u < to → IsRow op l (suc u) to r
      → ((s p : ℕ) → Between a m p → x s p ≡ true → same_row q s p ≡ true) → FirstSame j r x → Tail top q q a m
  into j u a m q r x e lt le lt' w narrow same =
      record {
        same = λ s p h k.
            narrow s p h
            (last_of (holds full s) (x s p)
            (rw (ne_eqb j p (λ k. omega arith), held_out op r l (suc u) to p w (λ k. omega arith), part_out op r l (suc u) to s p w (λ k. omega arith)) at (same s p (omega arith) k)));
        rest = λ s le h. h;
      }

  -- behind one op
  pub tail_next : (j : ℕ) (r : Row) → j ≡ i → Tail top full (step j r) i to → Tail top full r (suc i) to
  unfolding holds in_part
  tail_next j r e t = behind j (suc i) r (λ s p. false) e (omega arith) (λ s p le. refl) t.same t.rest

  pub tail_test : (j : ℕ) (r : Row) → j ≡ i → Tail top full (leave_if j r) i to → Tail top full r (suc i) to
  unfolding holds in_part
  tail_test j r e t = behind j (suc i) r (λ s p. false) e (omega arith) (λ s p le. refl) t.same t.rest

  -- a loop: its body, what is behind it, and the row's own places of its Loop's row
  pub tail_body : (j e : ℕ) (b r : Row) → IsRow op l i to (loop j e b r) → Tail top full (loop j e b r) i to → Tail top b b (suc i) e
  unfolding holds in_part
  tail_body j e b r w t = into j e (suc i) e b r (λ s p. same_row b s p) w.0 (omega arith) (omega arith) w.3 w.6 (λ s p h k. k) t.same

  pub tail_behind : (j e : ℕ) (b r : Row) → IsRow op l i to (loop j e b r) → Tail top full (loop j e b r) i to
      → Tail top full r (suc e) to × Hides full (suc i) e
  unfolding holds in_part
  tail_behind j e b r w t = (
    behind j (suc e) r (λ s p. same_row b s p) w.0 (omega (arith, w.2)) (λ s p le. same_out op b true (suc i) e s p w.5 (λ k. omega arith)) t.same t.rest,
    hides j e r w.0 w.6 t.rest,
  )

  pub tail_held : (j e : ℕ) (b r : Row) → IsRow op l i to (loop j e b r) → Tail top full (loop j e b r) i to → (s : ℕ) → same_row top s i ≡ true
      → holds full s ≡ true
  unfolding holds in_part
  tail_held j e b r w t s h =
      first_holds (holds full s) (eqb j i || holds r i)
      (rw (same_out op b true (suc i) e s i w.5 (λ k. omega arith), part_out op r l (suc e) to s i w.6 (λ k. omega arith)) at (t.same s i (omega arith) h))

  -- an If alone
  pub tail_arm : (j u : ℕ) (a r : Row) → IsRow op l i to (if_then j u a r) → Tail top full (if_then j u a r) i to → Tail top a a (suc i) u
  unfolding holds in_part
  tail_arm j u a r w t = into j u (suc i) u a r (λ s p. same_row a s p) w.0 (omega arith) (omega arith) w.3 w.6 (λ s p h k. k) t.same

  pub tail_behind_if : (j u : ℕ) (a r : Row) → IsRow op l i to (if_then j u a r) → Tail top full (if_then j u a r) i to
      → Tail top full r (suc u) to × Hides full (suc i) u
  unfolding holds in_part
  tail_behind_if j u a r w t = (
    behind j (suc u) r (λ s p. same_row a s p) w.0 (omega (arith, w.2)) (λ s p le. same_out op a l (suc i) u s p w.5 (λ k. omega arith)) t.same t.rest,
    hides j u r w.0 w.6 t.rest,
  )

  -- an If with Else
  module _ (j e u : ℕ) (a b r : Row) (w : IsRow op l i to (if_else j e u a b r)) (t : Tail top full (if_else j e u a b r) i to) where
    pub tail_first : Tail top a a (suc i) e
    unfolding holds in_part
    tail_first =
        into j u (suc i) e a r (λ s p. same_row a s p || same_row b s p) w.0 (omega arith) (omega (arith, w.3)) w.4 w.9
        (λ s p h k. rw (same_out op b l (suc e) u s p w.8 (λ m. omega arith), or-false (same_row a s p)) at k) t.same

    pub tail_second : Tail top b b (suc e) u
    unfolding holds in_part
    tail_second =
        into j u (suc e) u b r (λ s p. same_row a s p || same_row b s p) w.0 (omega (arith, w.2)) (omega arith) w.4 w.9
        (λ s p h k. rw (same_out op a l (suc i) e s p w.7 (λ m. omega arith)) at k) t.same

    pub tail_behind_else : Tail top full r (suc u) to × Hides full (suc i) u
    unfolding holds in_part
    tail_behind_else = (
      behind j (suc u) r (λ s p. same_row a s p || same_row b s p) w.0 (omega (arith, w.2, w.3))
          (λ s p le. rw (same_out op a l (suc i) e s p w.7 (λ k. omega (arith, w.3)), same_out op b l (suc e) u s p w.8 (λ k. omega arith)) refl) t.same t.rest,
      hides j u r w.0 w.9 t.rest,
    )
