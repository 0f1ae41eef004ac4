-- The stack walk covers its row: below the walk's peak, from the depth that the walk began at, whichever way each op goes, for any rise, move
-- and count. Assumes nothing.
use mathlib.Core.Path.{◌≡◌, refl}
use mathlib.Core.Bool.{Bool, true, false}
use mathlib.Core.Logic.{⊎_elim}
use Prim.Native.Nat.{ℕ, ◌+◌, ◌≤◌, max}
use native.Mathlib.Omega.{arith}
use lib.IntN.{ℤ, pos, ◌+ℤ◌}
use Rattle.rules.specs.Outcome.{Result, ok}
use Rattle.rules.specs.Rows.{Row, end, step, stop, leave, leave_if, if_then, if_else, loop}
use Rattle.rules.specs.Cycles.{inner}
use Rattle.rules.specs.Stack.{Delta, offset, ends, Height, height, at_least_zero, part_peak, part_delta, greater_delta, unless_ended}
use Rattle.rules.specs.Stack.{after_body, row_height}
use Rattle.rules.proofs.Answers.{from_ok}
use Rattle.rules.proofs.HeightJoins.{Low, LeadsTo, from_inner, if_joins, else_joins, loop_joins}
use Rattle.rules.proofs.SignedOrder.{AtMost, sum_parts, at_most_above, sum_above}
use Rattle.rules.proofs.Covered.{Downward, Covered, covered_down}

-- where a row begun at depth x goes on, K holds
abbrev Onward : (ℤ → Type 0) → ℤ → Delta → Type 0
Onward K x (offset z) = K (x +ℤ z)
Onward K x ends = Unit {0}

-- what holds of every depth
nothing_asked : (x : ℤ) (δ : Delta) → Onward (λ y. Unit {0}) x δ
nothing_asked x (offset z) = tt
nothing_asked x ends = tt

-- an op leaves no more than it adds while it runs
module _ (rise move : ℕ → ℤ) (count : ℕ → Result ℕ) (falls : (i : ℕ) → AtMost (move i) (rise i)) where
  -- What an answered walk tells. The row may begin at any depth x that is at most a base and the walk's offset.
  record Walked (r : Row) (d : ℤ) (peak : ℕ) (broken : Bool) (h : Height) : Type 1 where
    risen : peak ≤ h.peak
    low : Low h.peak h.delta
    still : broken ≡ true → h.broken ≡ true
    covers : (top : ℕ) (base x : ℤ) → AtMost x (base +ℤ d) → at_least_zero base + h.peak ≤ top → (K : ℤ → Type 0) (B : Type 0) → Downward K
        → Onward K base h.delta → (h.broken ≡ true → B) → Covered top rise move K B r x

  -- the rest of a row, walked from any offset
  abbrev Rest : Row → ℕ → Height → Type 1
  Rest r left h =
      (d : ℤ) (peak : ℕ) (broken : Bool) → at_least_zero d ≤ peak → row_height rise move count r left d peak broken ≡ ok h → Walked r d peak broken h

  -- behind an op the offset is below what it was during it
  behind_low : (d : ℤ) (peak i : ℕ) → at_least_zero (d +ℤ move i) ≤ max peak (at_least_zero (d +ℤ rise i))
  behind_low d peak i =
      let h : AtMost (d +ℤ move i) (d +ℤ rise i) = omega (arith, falls i, sum_parts d (move i), sum_parts d (rise i)) in
      omega (arith, at_most_above (d +ℤ move i) (d +ℤ rise i) h)

  -- an op begun at depth x
  op_fits : (top : ℕ) (base x d : ℤ) (i p : ℕ) → AtMost x (base +ℤ d) → at_least_zero base + p ≤ top → at_least_zero (d +ℤ rise i) ≤ p
      → at_least_zero (x +ℤ rise i) ≤ top
  op_fits top base x d i p h fits k =
      let m : AtMost (x +ℤ rise i) (base +ℤ (d +ℤ rise i)) =
      omega (arith, sum_parts x (rise i), sum_parts base d, sum_parts base (d +ℤ rise i), sum_parts d (rise i)) in
      omega (arith, at_most_above (x +ℤ rise i) (base +ℤ (d +ℤ rise i)) m, sum_above base (d +ℤ rise i))

  -- and behind it
  op_behind : (base x d : ℤ) (i : ℕ) → AtMost x (base +ℤ d) → AtMost (x +ℤ move i) (base +ℤ (d +ℤ move i))
  op_behind base x d i h = omega (arith, sum_parts x (move i), sum_parts base d, sum_parts base (d +ℤ move i), sum_parts d (move i))

  -- a part begun behind it
  part_covers : {p : Row} {broken : Bool} {part : Height} → Walked p (pos 0) 0 broken part → (top : ℕ) (base x b : ℤ) → AtMost x (base +ℤ b)
      → at_least_zero base + (at_least_zero b + part.peak) ≤ top → (K : ℤ → Type 0) (B : Type 0) → Downward K → Onward K (base +ℤ b) part.delta
      → (part.broken ≡ true → B) → Covered top rise move K B p x
  part_covers w top base x b h fits K B down on out =
      w.covers top (base +ℤ b) x (omega (arith, sum_parts (base +ℤ b) (pos 0))) (omega (arith, sum_above base b)) K B down on out

  end-walked : (d : ℤ) (peak : ℕ) (broken : Bool) → at_least_zero d ≤ peak → Walked end d peak broken (height peak (offset d) broken)
  end-walked d peak broken low =
      record {
        risen = omega arith;
        low = low;
        still = λ e. e;
        covers = λ top base x h fits K B down on out.
            (omega (arith, at_most_above x (base +ℤ d) h, sum_above base d), down (base +ℤ d) x h on);
      }

  step-walked : (i : ℕ) (r : Row) (d : ℤ) (peak : ℕ) (broken : Bool) (h : Height)
      → Walked r (d +ℤ move i) (max peak (at_least_zero (d +ℤ rise i))) broken h → Walked (step i r) d peak broken h
  step-walked i r d peak broken h w =
      record {
        risen = omega (arith, w.risen);
        low = w.low;
        still = w.still;
        covers = λ top base x m fits K B down on out. (
          op_fits top base x d i h.peak m fits (omega (arith, w.risen)),
          w.covers top base (x +ℤ move i) (op_behind base x d i m) fits K B down on out,
        );
      }

  stop_walked : (i : ℕ) (r : Row) (d : ℤ) (peak : ℕ) (broken : Bool)
      → Walked (stop i r) d peak broken (height (max peak (at_least_zero (d +ℤ rise i))) ends broken)
  stop_walked i r d peak broken =
      record {
        risen = omega arith;
        low = tt;
        still = λ e. e;
        covers = λ top base x m fits K B down on out. op_fits top base x d i (max peak (at_least_zero (d +ℤ rise i))) m fits (omega arith);
      }

  leave_walked : (i : ℕ) (r : Row) (d : ℤ) (peak : ℕ) (broken : Bool)
      → Walked (leave i r) d peak broken (height (max peak (at_least_zero (d +ℤ rise i))) ends true)
  leave_walked i r d peak broken =
      record {
        risen = omega arith;
        low = tt;
        still = λ e. refl;
        covers = λ top base x m fits K B down on out. (op_fits top base x d i (max peak (at_least_zero (d +ℤ rise i))) m fits (omega arith), out refl);
      }

  leave_if_walked : (i : ℕ) (r : Row) (d : ℤ) (peak : ℕ) (broken : Bool) (h : Height)
      → Walked r (d +ℤ move i) (max peak (at_least_zero (d +ℤ rise i))) true h → Walked (leave_if i r) d peak broken h
  leave_if_walked i r d peak broken h w =
      record {
        risen = omega (arith, w.risen);
        low = w.low;
        still = λ e. w.still refl;
        covers = λ top base x m fits K B down on out. (
          op_fits top base x d i h.peak m fits (omega (arith, w.risen)),
          out (w.still refl),
          w.covers top base (x +ℤ move i) (op_behind base x d i m) fits K B down on out,
        );
      }

  -- what holds of every depth that a part may lead to
  leads : (base b m : ℤ) (P : ℤ → Type 0) → ((y : ℤ) → AtMost y (base +ℤ m) → P y) → (δ : Delta) → LeadsTo b m δ → Onward P (base +ℤ b) δ
  leads base b m P f (offset z) l =
      f (base +ℤ b +ℤ z) (omega (arith, l, sum_parts (base +ℤ b) z, sum_parts base b, sum_parts b z, sum_parts base m))
  leads base b m P f ends l = tt

  module _ (i : ℕ) (r : Row) (d : ℤ) (peak : ℕ) (broken : Bool) (h : Height) where
    -- an If alone, with the offset m behind it
    if_walked : (t : ℕ) (p : Row) (arm : Height) → Walked p (pos 0) 0 broken arm → (m : ℤ) → AtMost (d +ℤ move i) m → LeadsTo (d +ℤ move i) m arm.delta
        → Walked r m (part_peak (max peak (at_least_zero (d +ℤ rise i))) (d +ℤ move i) arm) arm.broken h → Walked (if_then i t p r) d peak broken h
    if_walked t p arm a m before leading w =
        record {
          risen = omega (arith, w.risen);
          low = w.low;
          still = λ e. w.still (a.still e);
          covers = λ top base x le fits K B down on out.
              let n = op_behind base x d i le in
              let rest : (y : ℤ) → AtMost y (base +ℤ m) → Covered top rise move K B r y = λ y l. w.covers top base y l fits K B down on out in (
                op_fits top base x d i h.peak le fits (omega (arith, w.risen)),
                part_covers a top base (x +ℤ move i) (d +ℤ move i) n (omega (arith, w.risen)) (λ y. Covered top rise move K B r y) B
                    (covered_down top rise move K B down r) (leads base (d +ℤ move i) m _ rest arm.delta leading) (λ e. out (w.still e)),
                omega (arith, w.risen, at_most_above (x +ℤ move i) (base +ℤ (d +ℤ move i)) n, sum_above base (d +ℤ move i)),
                rest (x +ℤ move i) (omega (arith, n, before, sum_parts base (d +ℤ move i), sum_parts base m)),
              );
        }

    -- the rest behind two arms, or none where both end
    abbrev Joined : Delta → Delta → Type 1
    Joined δ ε =
        (top : ℕ) (base : ℤ) → at_least_zero base + h.peak ≤ top → (K : ℤ → Type 0) (B : Type 0) → Downward K → Onward K base h.delta
        → (h.broken ≡ true → B)
        → Onward (λ y. Covered top rise move K B r y) (base +ℤ (d +ℤ move i)) δ × Onward (λ y. Covered top rise move K B r y) (base +ℤ (d +ℤ move i)) ε

    else_walked : (e t : ℕ) (p q : Row) (arm other : Height) → Walked p (pos 0) 0 broken arm → Walked q (pos 0) 0 arm.broken other
        → part_peak (part_peak (max peak (at_least_zero (d +ℤ rise i))) (d +ℤ move i) arm) (d +ℤ move i) other ≤ h.peak → Low h.peak h.delta
        → (other.broken ≡ true → h.broken ≡ true) → Joined arm.delta other.delta → Walked (if_else i e t p q r) d peak broken h
    else_walked e t p q arm other a b risen low still joined =
        record {
          risen = omega arith;
          low = low;
          still = λ s. still (b.still (a.still s));
          covers = λ top base x le fits K B down on out.
              let n = op_behind base x d i le in
              let rest = covered_down top rise move K B down r in
              let next = joined top base fits K B down on out in (
                op_fits top base x d i h.peak le fits (omega arith),
                part_covers a top base (x +ℤ move i) (d +ℤ move i) n (omega arith) (λ y. Covered top rise move K B r y) B rest next.0
                    (λ s. out (still (b.still s))),
                part_covers b top base (x +ℤ move i) (d +ℤ move i) n (omega arith) (λ y. Covered top rise move K B r y) B rest next.1 (λ s. out (still s)),
              );
        }

    loop_walked : (e : ℕ) (p : Row) (body : Height) → Walked p (pos 0) 0 false body
        → part_peak (max peak (at_least_zero (d +ℤ rise i))) (d +ℤ move i) body ≤ h.peak → Low h.peak h.delta → (broken ≡ true → h.broken ≡ true)
        → ((top : ℕ) (base x : ℤ) → AtMost x (base +ℤ (d +ℤ move i)) → at_least_zero base + h.peak ≤ top → (K : ℤ → Type 0) (B : Type 0) → Downward K
        → Onward K base h.delta → (h.broken ≡ true → B) → body.broken ≡ true → Covered top rise move K B r x)
        → Walked (loop i e p r) d peak broken h
    loop_walked e p body a risen low still rest =
        record {
          risen = omega arith;
          low = low;
          still = still;
          covers = λ top base x le fits K B down on out.
              let n = op_behind base x d i le in (
                op_fits top base x d i h.peak le fits (omega arith),
                part_covers a top base (x +ℤ move i) (d +ℤ move i) n (omega arith) (λ y. Unit {0}) (Covered top rise move K B r (x +ℤ move i))
                    (λ u v l k. tt) (nothing_asked (base +ℤ (d +ℤ move i)) body.delta) (rest top base (x +ℤ move i) n fits K B down on out),
              );
        }

    -- the same from the walk's own answers
    if_case : (left t : ℕ) (p : Row) (arm : Height) → Walked p (pos 0) 0 broken arm → Rest r left h
        → unless_ended (greater_delta (offset (d +ℤ move i)) (part_delta (d +ℤ move i) arm.delta))
        (part_peak (max peak (at_least_zero (d +ℤ rise i))) (d +ℤ move i) arm) arm.broken (λ m p b. row_height rise move count r left m p b)
        ≡ ok h
        → Walked (if_then i t p r) d peak broken h
    if_case left t p arm a rest e =
        let j = if_joins _ h (d +ℤ move i) (max peak (at_least_zero (d +ℤ rise i))) arm arm.delta a.low (behind_low d peak i) e in
        if_walked t p arm a j.0 j.1 j.2 (rest j.0 _ arm.broken j.3 j.4)

    else_case : (left e t : ℕ) (p q : Row) (arm other : Height) → Walked p (pos 0) 0 broken arm → Walked q (pos 0) 0 arm.broken other → Rest r left h
        → unless_ended (greater_delta (part_delta (d +ℤ move i) arm.delta) (part_delta (d +ℤ move i) other.delta))
        (part_peak (part_peak (max peak (at_least_zero (d +ℤ rise i))) (d +ℤ move i) arm) (d +ℤ move i) other) other.broken
        (λ m p b. row_height rise move count r left m p b)
        ≡ ok h
        → Walked (if_else i e t p q r) d peak broken h
    else_case left e t p q arm other a b rest eq =
        ⊎_elim
        (λ j.
        let w = rest j.0 _ other.broken j.3 j.4 in
        else_walked e t p q arm other a b w.risen w.low w.still
        (λ top base fits K B down on out.
        let f : (y : ℤ) → AtMost y (base +ℤ j.0) → Covered top rise move K B r y = λ y l. w.covers top base y l fits K B down on out in
        (leads base (d +ℤ move i) j.0 _ f arm.delta j.1, leads base (d +ℤ move i) j.0 _ f other.delta j.2)))
        (λ j.
        else_walked e t p q arm other a b (rw j.2 (omega arith)) (rw j.2 tt) (λ s. rw j.2 s)
        (λ top base fits K B down on out. rw (j.0, j.1) (tt, tt)))
        (else_joins _ h (d +ℤ move i) (part_peak (part_peak (max peak (at_least_zero (d +ℤ rise i))) (d +ℤ move i) arm) (d +ℤ move i) other)
        other.broken arm.peak other.peak arm.delta other.delta a.low b.low (omega arith) (omega arith) eq)

    loop_case : (left e : ℕ) (p : Row) (body : Height) → Walked p (pos 0) 0 false body → Rest r left h
        → after_body rise move count body.delta body.broken i (d +ℤ move i) (part_peak (max peak (at_least_zero (d +ℤ rise i))) (d +ℤ move i) body) broken
        (λ m p b. row_height rise move count r left m p b)
        ≡ ok h
        → Walked (loop i e p r) d peak broken h
    loop_case left e p body a rest eq =
        ⊎_elim
        (λ j.
        let w = rest (d +ℤ move i) _ broken (omega (arith, behind_low d peak i)) j in
        loop_walked e p body a w.risen w.low w.still (λ top base x le fits K B down on out met. w.covers top base x le fits K B down on out))
        (λ j.
        loop_walked e p body a (rw j.1 (omega arith)) (rw j.1 tt) (λ s. rw j.1 s)
        (λ top base x le fits K B down on out met. absurd (let z : ◌≡◌ {A = ℕ} 0 1 = cc in omega arith)))
        (loop_joins _ h (d +ℤ move i) (part_peak (max peak (at_least_zero (d +ℤ rise i))) (d +ℤ move i) body) rise move count i broken body.delta
        body.broken eq)

  height-walked : (r : Row) (left : ℕ) (h : Height) → Rest r left h
  unfolding row_height
  height-walked end left h d peak broken low e = let same : h ≡ height peak (offset d) broken = cc in rw same (end-walked d peak broken low)
  height-walked (step i r) left h d peak broken low e =
      step-walked i r d peak broken h (height-walked r left h (d +ℤ move i) (max peak (at_least_zero (d +ℤ rise i))) broken (behind_low d peak i) e)
  height-walked (stop i r) left h d peak broken low e =
      let same : h ≡ height (max peak (at_least_zero (d +ℤ rise i))) ends broken = cc in
      rw same (stop_walked i r d peak broken)
  height-walked (leave i r) left h d peak broken low e =
      let same : h ≡ height (max peak (at_least_zero (d +ℤ rise i))) ends true = cc in
      rw same (leave_walked i r d peak broken)
  height-walked (leave_if i r) left h d peak broken low e =
      leave_if_walked i r d peak broken h (height-walked r left h (d +ℤ move i) (max peak (at_least_zero (d +ℤ rise i))) true (behind_low d peak i) e)
  height-walked (if_then i t p r) left h d peak broken low e =
      let a = from_ok (inner left (λ l. row_height rise move count p l (pos 0) 0 broken)) _ e in
      let b = from_inner left _ a.1 in
      if_case i r d peak broken h left t p a.0 (height-walked p b.0 a.0 (pos 0) 0 broken (omega arith) b.1) (height-walked r left h) a.2
  height-walked (if_else i e t p q r) left h d peak broken low eq =
      let a = from_ok (inner left (λ l. row_height rise move count p l (pos 0) 0 broken)) _ eq in
      let b = from_inner left _ a.1 in
      let f = from_ok (inner left (λ l. row_height rise move count q l (pos 0) 0 a.0.broken)) _ a.2 in
      let g = from_inner left _ f.1 in
      else_case i r d peak broken h left e t p q a.0 f.0 (height-walked p b.0 a.0 (pos 0) 0 broken (omega arith) b.1)
      (height-walked q g.0 f.0 (pos 0) 0 a.0.broken (omega arith) g.1) (height-walked r left h) f.2
  height-walked (loop i e p r) left h d peak broken low eq =
      let a = from_ok (inner left (λ l. row_height rise move count p l (pos 0) 0 false)) _ eq in
      let b = from_inner left _ a.1 in
      loop_case i r d peak broken h left e p a.0 (height-walked p b.0 a.0 (pos 0) 0 false (omega arith) b.1) (height-walked r left h) a.2

  -- a whole row, begun at depth 0 and left open at its end
  pub height_covers : (r : Row) (left : ℕ) (h : Height) → row_height rise move count r left (pos 0) 0 false ≡ ok h
      → Covered h.peak rise move (λ y. Unit {0}) (Unit {0}) r (pos 0)
  height_covers r left h e =
      (height-walked r left h (pos 0) 0 false (omega arith) e).covers h.peak (pos 0) (pos 0) (omega arith) (omega arith) (λ y. Unit {0}) (Unit {0})
      (λ x y l k. tt) (nothing_asked (pos 0) h.delta) (λ s. tt)
