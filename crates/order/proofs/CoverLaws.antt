-- A list that has every number below a bound is at least as long as the bound.
-- Assumes nothing.
use mathlib.Core.Path.{◌≡◌, refl, sym, ◌∙◌}
use mathlib.Core.List.{List, [], ◌∷◌}
use mathlib.Core.Logic.{⊎_elim}
use Prim.Native.Nat.{ℕ, zero, suc, ◌<◌, ◌≤◌}
use native.Mathlib.Omega.{arith}
use lib.ListN.{length}
use Rattle.rules.proofs.Members.{In, not-nil, in_cons, in_head, in_tail}

-- a list without one of its numbers
without : (m : ℕ) (xs : List ℕ) → In m xs → (ys : List ℕ) × (length xs ≡ suc (length ys)) × ((c : ℕ) → (c ≡ m → ⊥) → In c xs → In c ys)
without m [] h = absurd (not-nil m h)
without m (x ∷ xs) h =
    ⊎_elim (λ e. (xs, refl, λ c o i. ⊎_elim (λ k. absurd (o (k ∙ sym e))) (λ k. k) (in_cons c x xs i)))
    (λ a.
    let r = without m xs a in
    (x ∷ r.0, omega (arith, r.1), λ c o i. ⊎_elim (λ k. in_head c x r.0 k) (λ k. in_tail c x r.0 (r.2 c o k)) (in_cons c x xs i)))
    (in_cons m x xs h)

pub covers : (n : ℕ) (xs : List ℕ) → ((c : ℕ) → c < n → In c xs) → n ≤ length xs
covers zero xs h = omega arith
covers (suc n) xs h =
    let r = without n xs (h n (omega arith)) in
    let i = covers n r.0 (λ c lt. r.2 c (λ e. omega arith) (h c (omega arith))) in
    omega (arith, r.1)
