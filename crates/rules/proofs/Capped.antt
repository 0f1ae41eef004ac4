-- For any cap: capping each sum, product and greatest on the way gives what capping once at the end gives; so for the whole cycle walk; and a walk under any
-- cap above 4,294,967,295 has the answer's figure and its mark.
-- Assumes nothing.
use mathlib.Core.Path.{◌≡◌, refl, ap, ◌∙◌}
use mathlib.Core.Bool.{Bool, true, false, ◌&&◌}
use mathlib.Core.List.{List}
use Prim.Native.Nat.{ℕ, zero, suc, ◌+◌, ◌*◌, ◌<◌, min, max}
use native.Mathlib.Nat.{mul-zero, mul-suc}
use native.Mathlib.Omega.{arith}
use borrow.Author.Tests.{leb-true, leb-false, ltb-true, ltb-false, lt-ltb, le-ltb}
use lib.Dec.{leb, ltb}
use Rattle.rules.specs.Outcome.{Result, ok, no, and_then}
use Rattle.rules.specs.Form.{Chunk}
use Rattle.rules.specs.Rows.{Row, end, step, stop, leave, leave_if, if_then, if_else, loop}
use Rattle.rules.specs.Sure.{sure_count_of}
use Rattle.rules.specs.Limits.{deepest, cycle_cap}
use Rattle.rules.specs.Cycles.{Breaks, unbroken, costliest, note_break, break_cost, Cost, costs, inner, unless_ends, one_pass, passes_cost, row_cost, charge_of, exact_cost, capped_cost, cycles_of, row_cycles}

-- sums, products by a count, greatest
pub cap_sum : (cap a b : ℕ) → min cap (min cap a + min cap b) ≡ min cap (a + b)
cap_sum cap a b = omega arith

pub cap_greatest : (cap a b : ℕ) → max (min cap a) (min cap b) ≡ min cap (max a b)
cap_greatest cap a b = omega arith

pub cap_product : (cap a n : ℕ) → min cap (min cap a * n) ≡ min cap (a * n)
cap_product cap a zero = simp mul-zero
cap_product cap a (suc n) = simp mul-suc (go (leb a cap) refl)
  where
    go : (t : Bool) → leb a cap ≡ t → min cap (min cap a * n + min cap a) ≡ min cap (a * n + a)
    go true e = let h = leb-true a cap e in let m : min cap a ≡ a = omega arith in rw m
    go false e = let h = leb-false a cap e in omega arith

-- breaks and answers, capped
abbrev pub cap_breaks : ℕ → Breaks → Breaks
cap_breaks cap unbroken = unbroken
cap_breaks cap (costliest b) = costliest (min cap b)

abbrev pub cap_cost : ℕ → Cost → Cost
cap_cost cap c = costs (min cap c.cycles) c.ends (cap_breaks cap c.breaks)

abbrev pub cap_result : ℕ → Result Cost → Result Cost
cap_result cap (ok c) = ok (cap_cost cap c)
cap_result cap (no n p) = no n p

note_capped : (cap : ℕ) (br : Breaks) (c : ℕ) → note_break (cap_breaks cap br) (min cap c) ≡ cap_breaks cap (note_break br c)
note_capped cap unbroken c = refl
note_capped cap (costliest b) c = ap costliest (cap_greatest cap b c)

-- a charge or a count that refuses refuses both; a value goes on in both
then_value : (cap : ℕ) (x : Result ℕ) (f g : ℕ → Result Cost) → ((c : ℕ) → f c ≡ cap_result cap (g c)) → and_then x f ≡ cap_result cap (and_then x g)
then_value cap (ok c) f g h = h c
then_value cap (no n p) f g h = refl

-- the same of a part that was walked
then_part : (cap : ℕ) (x y : Result Cost) (f g : Cost → Result Cost) → x ≡ cap_result cap y → ((c : Cost) → f (cap_cost cap c) ≡ cap_result cap (g c))
    → and_then x f ≡ cap_result cap (and_then y g)
then_part cap x (ok c) f g e h = ap (λ (z : Result Cost). and_then z f) e ∙ h c
then_part cap x (no n p) f g e h = ap (λ (z : Result Cost). and_then z f) e

module _ (cap : ℕ) (charge count : ℕ → Result ℕ) where
  -- the rest of a row, walked from a capped cost and from the cost itself
  abbrev Rest : (ℕ → Breaks → Result Cost) → (ℕ → Breaks → Result Cost) → Type 0
  Rest f g = (cost : ℕ) (br : Breaks) → f (min cap cost) (cap_breaks cap br) ≡ cap_result cap (g cost br)

  ends_capped : (b : Bool) (cost cost' : ℕ) (br : Breaks) (f g : ℕ → Breaks → Result Cost) → Rest f g → cost' ≡ min cap cost
      → unless_ends b cost' (cap_breaks cap br) f ≡ cap_result cap (unless_ends b cost br g)
  ends_capped true cost cost' br f g h e = rw e
  ends_capped false cost cost' br f g h e = rw e (h cost br)

  one_capped : (b : Breaks) (cost body : ℕ) (br : Breaks) (f g : ℕ → Breaks → Result Cost) → Rest f g
      → one_pass (min cap) charge count (cap_breaks cap b) (min cap cost) (min cap body) (cap_breaks cap br) f ≡ cap_result cap (one_pass (λ n. n) charge count b cost body br g)
  one_capped unbroken cost body br f g h = ap (λ (n : ℕ). ok (costs n true (cap_breaks cap br))) (cap_sum cap cost body)
  one_capped (costliest b) cost body br f g h =
      rw (cap_greatest cap body b, cap_sum cap cost (max body b)) (h (cost + max body b) br)

  break_capped : (b : Breaks) → break_cost (cap_breaks cap b) ≡ min cap (break_cost b)
  break_capped unbroken = omega arith
  break_capped (costliest b) = refl

  passes_capped : (b : Bool) (i e : ℕ) (body : Cost) (cost : ℕ) (br : Breaks) (f g : ℕ → Breaks → Result Cost) → Rest f g
      → passes_cost (min cap) charge count b i e (cap_cost cap body) (min cap cost) (cap_breaks cap br) f
      ≡ cap_result cap (passes_cost (λ n. n) charge count b i e body cost br g)
  passes_capped true i e body cost br f g h = one_capped body.breaks cost body.cycles br f g h
  passes_capped false i e body cost br f g h =
      then_value cap (count i) _ _ (λ n. then_value cap (charge e) _ _ (λ d.
      rw (break_capped body.breaks, sum n d) (h (cost + ((body.cycles + d) * n + break_cost body.breaks)) br)))
    where
      sum : (n d : ℕ) → min cap (min cap cost + min cap (min cap (min cap (min cap body.cycles + min cap d) * n) + min cap (break_cost body.breaks)))
          ≡ min cap (cost + ((body.cycles + d) * n + break_cost body.breaks))
      sum n d = rw (cap_sum cap body.cycles d, cap_product cap (body.cycles + d) n) (omega arith)

  -- a body, with one level less, and what follows it
  body_capped : (p : Row) (left : ℕ) (br : Breaks) (f g : Cost → Result Cost)
      → ((l : ℕ) → row_cost (min cap) charge count p l (min cap 0) (cap_breaks cap br) ≡ cap_result cap (row_cost (λ n. n) charge count p l 0 br))
      → ((c : Cost) → f (cap_cost cap c) ≡ cap_result cap (g c))
      → and_then (inner left (λ l. row_cost (min cap) charge count p l 0 (cap_breaks cap br))) f
      ≡ cap_result cap (and_then (inner left (λ l. row_cost (λ n. n) charge count p l 0 br)) g)
  body_capped p zero br f g h k = refl
  body_capped p (suc l) br f g h k =
      let z : min cap 0 ≡ 0 = omega arith in
      then_part cap _ (row_cost (λ n. n) charge count p l 0 br) f g (rw z at (h l)) k

  arms_sum : (c d a b : ℕ) → min cap (min cap c + max (min cap (min cap a + min cap d)) (min cap b)) ≡ min cap (c + max (a + d) b)
  arms_sum c d a b = rw (cap_sum cap a d, cap_greatest cap (a + d) b, cap_sum cap c (max (a + d) b))

  pub walk_capped : (r : Row) (left cost : ℕ) (br : Breaks)
      → row_cost (min cap) charge count r left (min cap cost) (cap_breaks cap br) ≡ cap_result cap (row_cost (λ n. n) charge count r left cost br)
  unfolding row_cost
  walk_capped end left cost br = refl
  walk_capped (step i r) left cost br = then_value cap (charge i) _ _ (λ c. rw (cap_sum cap cost c) (walk_capped r left (cost + c) br))
  walk_capped (stop i r) left cost br = then_value cap (charge i) _ _ (λ c. rw (cap_sum cap cost c))
  walk_capped (leave i r) left cost br = then_value cap (charge i) _ _ (λ c. rw (cap_sum cap cost c, note_capped cap br (cost + c)))
  walk_capped (leave_if i r) left cost br =
      then_value cap (charge i) _ _ (λ c. rw (cap_sum cap cost c, note_capped cap br (cost + c)) (walk_capped r left (cost + c) (note_break br (cost + c))))
  walk_capped (if_then i t p r) left cost br =
      then_value cap (charge i) _ _ (λ c.
      body_capped p left br _ _ (λ l. walk_capped p l 0 br) (λ arm.
      then_value cap (charge t) _ _ (λ d.
      rw (cap_sum cap cost c, cap_sum cap (cost + c) arm.cycles, cap_sum cap (cost + c + arm.cycles) d)
      (walk_capped r left (cost + c + arm.cycles + d) arm.breaks))))
  walk_capped (if_else i e t p q r) left cost br =
      then_value cap (charge i) _ _ (λ c.
      body_capped p left br _ _ (λ l. walk_capped p l 0 br) (λ arm.
      body_capped q left arm.breaks _ _ (λ l. walk_capped q l 0 arm.breaks) (λ other.
      then_value cap (charge e) _ _ (λ d.
      then_value cap (charge t) _ _ (λ f.
      ends_capped (arm.ends && other.ends) (cost + c + max (arm.cycles + d) other.cycles + f) _ other.breaks _ _ (λ k b. walk_capped r left k b)
      (rw (cap_sum cap cost c, arms_sum (cost + c) d arm.cycles other.cycles, cap_sum cap (cost + c + max (arm.cycles + d) other.cycles) f)))))))
  walk_capped (loop i e b r) left cost br =
      then_value cap (charge i) _ _ (λ c.
      body_capped b left unbroken _ _ (λ l. walk_capped b l 0 unbroken) (λ body.
      rw (cap_sum cap cost c) (passes_capped body.ends i e body (cost + c) br _ _ (λ k x. walk_capped r left k x))))

-- the figure of a chunk that stops at a cap is the exact one, cut at the end
pub chunk_capped : (cap : ℕ) (c : Chunk) (wholes : List ℕ) (r : Row) → capped_cost cap c wholes r ≡ cap_result cap (exact_cost c wholes r)
chunk_capped cap c wholes r =
    let z : min cap 0 ≡ 0 = omega arith in
    rw z at (walk_capped cap (charge_of c wholes) (sure_count_of c r) r deepest 0 unbroken)

-- a number that was cut at a wider cap is cut at a cap to the same figure, and is greater than that cap exactly if the number is
pub cut_wider : (cap wider n : ℕ) → cap < wider → (min cap (min wider n) ≡ min cap n) × (ltb cap (min wider n) ≡ ltb cap n)
cut_wider cap wider n h = (omega arith, go (ltb cap n) refl)
  where
    go : (b : Bool) → ltb cap n ≡ b → ltb cap (min wider n) ≡ b
    go true e = lt-ltb cap (min wider n) (omega (arith, ltb-true cap n e))
    go false e = le-ltb cap (min wider n) (omega (arith, ltb-false cap n e))

-- so the walk under any wider cap gives the answer of the cycle walk: figure, ending and mark
pub wider_told : (wider : ℕ) → cycle_cap < wider → (c : Chunk) (wholes : List ℕ) (r : Row) → and_then (capped_cost wider c wholes r) (λ k. ok (cycles_of k)) ≡ row_cycles c wholes r
wider_told wider h c wholes r = ap (λ (x : Result Cost). and_then x (λ k. ok (cycles_of k))) (chunk_capped wider c wholes r) ∙ go (exact_cost c wholes r)
  where
    go : (x : Result Cost) → and_then (cap_result wider x) (λ k. ok (cycles_of k)) ≡ and_then x (λ k. ok (cycles_of k))
    go (ok k) = let t = cut_wider cycle_cap wider k.cycles h in rw (t.0, t.1)
    go (no n p) = refl
