-- The count for a step: the least number of steps that bring the counter to its end, within both limits; none where there is no such number; and never more
-- than for a step of 1. Assumes nothing.
use mathlib.Core.Path.{◌≡◌, refl, ap, sym, ◌∙◌}
use mathlib.Core.Bool.{Bool, true, false}
use mathlib.Core.Logic.{◌⊎◌, inl, inr, ⊎_elim}
use Prim.Native.Nat.{ℕ, suc, ◌+◌, ◌-◌, ◌*◌, ◌^◌, ◌≤◌, ◌<◌}
use native.Mathlib.Nat.{mul-suc, mul_comm, mul-le-mul_left, mul-le-mul_right, div-add-mod, mod-lt}
use native.Mathlib.Omega.{arith}
use borrow.Author.Tests.{leb-true, leb-false, ltb-true, ltb-false, le-leb, lt-ltb}
use lib.Dec.{leb, ltb}
use lib.IntN.{ℤ, pos, negsuc, neg_ℤ, ◌+ℤ◌, ◌-ℤ◌}
use lib.Signed.{lt_z, le_z}
use Rattle.rules.specs.Limits.{most_passes}
use Rattle.rules.specs.Outcome.{found, nothing}
use Rattle.rules.specs.Stack.{at_least_zero}
use Rattle.rules.specs.Count.{rounded_up, quotient, passes}
use Rattle.rules.specs.StepClaims.{CountLeast, CountFits, CountNone, CountBelow}
use Rattle.rules.proofs.SignedOrder.{under, sum_parts, minus_parts, less_parts, not_less_parts, at_most_le, not_at_most}

-- so many steps cover a distance, and fewer do not
rounded : (d s : ℕ) → 0 < s → (d ≤ s * rounded_up d s) × ((m : ℕ) → m < rounded_up d s → s * m < d)
rounded d s h =
    let q = rounded_up d s in
    let e = div-add-mod (d + (s - 1)) s in
    let r = mod-lt (d + (s - 1)) h in
    (omega (arith, e, r), λ m lt. let k : s * suc m ≤ s * q = mul-le-mul_left s (omega (arith, lt)) in omega (arith, e, k, mul-suc s m))

-- a distance by a step of 1 is the distance, and by any other no more
by_one : (d : ℕ) → rounded_up d 1 ≡ d
by_one d = let h : 0 < 1 = omega arith in omega (arith, div-add-mod (d + (1 - 1)) 1, mod-lt (d + (1 - 1)) h)

no_more : (d s : ℕ) → 0 < s → rounded_up d s ≤ d
no_more d s h = go (leb (rounded_up d s) d) refl
  where
    go : (b : Bool) → leb (rounded_up d s) d ≡ b → rounded_up d s ≤ d
    go true e = leb-true (rounded_up d s) d e
    go false e =
        let few = (rounded d s h).1 d (leb-false (rounded_up d s) d e) in
        let more : 1 * d ≤ s * d = mul-le-mul_right d h in
        absurd (omega (arith, few, more))

module _ (start stop : ℤ) where
  -- what a count is worked out from: an end below the start, or the distance
  data From : Type 0 where
    below : lt_z stop start ≡ true → ((step : ℕ) → passes start stop step ≡ found 0) → From
    above : (d : ℕ) → at_least_zero stop + under start ≡ at_least_zero start + under stop + d → ((step : ℕ) → passes start stop step ≡ quotient (pos d) step) → From

  from : From
  from = go (lt_z stop start) refl
    where
      up : lt_z stop start ≡ false → (z : ℤ) → stop -ℤ start ≡ z → From
      up e (pos d) s =
          let n = minus_parts start in
          let a : at_least_zero (stop -ℤ start) ≡ d = ap at_least_zero s in
          let u : under (stop -ℤ start) ≡ 0 = ap under s in
          above d (omega (arith, sum_parts stop (neg_ℤ start), n.0, n.1, a, u)) (λ step. rw (e, s))
      up e (negsuc d) s =
          let n = minus_parts start in
          let a : at_least_zero (stop -ℤ start) ≡ 0 = ap at_least_zero s in
          let u : under (stop -ℤ start) ≡ suc d = ap under s in
          absurd (omega (arith, not_less_parts stop start e, sum_parts stop (neg_ℤ start), n.0, n.1, a, u))

      go : (b : Bool) → lt_z stop start ≡ b → From
      go true e = below e (λ step. rw e)
      go false e = up e (stop -ℤ start) refl

  -- with the stop d over the start, so many steps reach it or do not
  module _ (d : ℕ) (over : at_least_zero stop + under start ≡ at_least_zero start + under stop + d) (step n : ℕ) where
    reached : d ≤ step * n → le_z stop (start +ℤ pos (n * step)) ≡ true
    reached h = at_most_le stop (start +ℤ pos (n * step)) (omega (arith, over, sum_parts start (pos (n * step)), mul_comm n step))

    not_reached : step * n < d → le_z stop (start +ℤ pos (n * step)) ≡ false
    not_reached h = not_at_most stop (start +ℤ pos (n * step)) (λ l. omega (arith, l, over, sum_parts start (pos (n * step)), mul_comm n step))

-- a quotient that there is, and one that there is not
module _ (d step : ℕ) where
  record Counted (n : ℕ) : Type 0 where
    fits : d < 2 ^ 63
    few : rounded_up d step ≤ most_passes
    same : n ≡ rounded_up d step

  counted : (n : ℕ) → quotient (pos d) step ≡ found n → Counted n
  counted n f = go (ltb d (2 ^ 63)) (leb (rounded_up d step) most_passes) refl refl
    where
      go : (a b : Bool) → ltb d (2 ^ 63) ≡ a → leb (rounded_up d step) most_passes ≡ b → Counted n
      go true true p q =
          let g : found (rounded_up d step) ≡ found n = rw (p, q) at f in
          record { fits = ltb-true d (2 ^ 63) p; few = leb-true (rounded_up d step) most_passes q; same = cc }
      go true false p q = absurd (let g = rw (p, q) at f in let z : ◌≡◌ {A = ℕ} 0 1 = cc in omega arith)
      go false b p q = absurd (let g = rw p at f in let z : ◌≡◌ {A = ℕ} 0 1 = cc in omega arith)

  uncounted : quotient (pos d) step ≡ nothing → (2 ^ 63 ≤ d) ⊎ (most_passes < rounded_up d step)
  uncounted f = go (ltb d (2 ^ 63)) (leb (rounded_up d step) most_passes) refl refl
    where
      go : (a b : Bool) → ltb d (2 ^ 63) ≡ a → leb (rounded_up d step) most_passes ≡ b → (2 ^ 63 ≤ d) ⊎ (most_passes < rounded_up d step)
      go true true p q = absurd (let g = rw (p, q) at f in let z : ◌≡◌ {A = ℕ} 0 1 = cc in omega arith)
      go true false p q = inr (leb-false (rounded_up d step) most_passes q)
      go false b p q = inl (ltb-false d (2 ^ 63) p)

pub count_least : CountLeast
count_least start stop step n positive e = go (from start stop)
  where
    go : From start stop → (le_z stop (start +ℤ pos (n * step)) ≡ true) × ((m : ℕ) → m < n → le_z stop (start +ℤ pos (m * step)) ≡ false)
    go (below l f) =
        let none : n ≡ 0 = let g = sym (f step) ∙ e in cc in
        (at_most_le stop (start +ℤ pos (n * step)) (omega (arith, less_parts stop start l, sum_parts start (pos (n * step)))), λ m lt. absurd (omega arith))
    go (above d over f) =
        let same = (counted d step n (sym (f step) ∙ e)).same in
        let r = rounded d step positive in
        (reached start stop d over step n (rw same r.0), λ m lt. not_reached start stop d over step m (r.1 m (rw same at lt)))

pub count_fits : CountFits
count_fits start stop step n e = go (from start stop)
  where
    go : From start stop → (le_z (start +ℤ pos (2 ^ 63)) stop ≡ false) × (n ≤ most_passes)
    go (below l f) =
        let none : n ≡ 0 = let g = sym (f step) ∙ e in cc in (
          not_at_most (start +ℤ pos (2 ^ 63)) stop (λ h. omega (arith, h, less_parts stop start l, sum_parts start (pos (2 ^ 63)))),
          omega arith,
        )
    go (above d over f) =
        let c = counted d step n (sym (f step) ∙ e) in (
          not_at_most (start +ℤ pos (2 ^ 63)) stop (λ h. omega (arith, h, over, c.fits, sum_parts start (pos (2 ^ 63)))),
          omega (arith, c.few, c.same),
        )

pub count_none : CountNone
count_none start stop step positive e = go (from start stop)
  where
    go : From start stop → (le_z (start +ℤ pos (2 ^ 63)) stop ≡ true) ⊎ (le_z stop (start +ℤ pos (most_passes * step)) ≡ false)
    go (below l f) = absurd (let g = sym (f step) ∙ e in let z : ◌≡◌ {A = ℕ} 0 1 = cc in omega arith)
    go (above d over f) =
        ⊎_elim
        (λ far. inl (at_most_le (start +ℤ pos (2 ^ 63)) stop (omega (arith, far, over, sum_parts start (pos (2 ^ 63))))))
        (λ many. inr (not_reached start stop d over step most_passes ((rounded d step positive).1 most_passes many)))
        (uncounted d step (sym (f step) ∙ e))

pub count_below : CountBelow
count_below start stop step n positive e = go (from start stop)
  where
    go : From start stop → (m : ℕ) × (passes start stop step ≡ found m) × (m ≤ n)
    go (below l f) = (0, f step, omega arith)
    go (above d over f) =
        let c = counted d 1 n (sym (f 1) ∙ e) in
        let l = no_more d step positive in
        let few = le-leb (rounded_up d step) most_passes (omega (arith, by_one d, c.few)) in
        (rounded_up d step, f step ∙ rw (lt-ltb d (2 ^ 63) c.fits, few), omega (arith, by_one d, c.same))
