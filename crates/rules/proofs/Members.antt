-- Members of lists of numbers: in a longer list, in a list without one number, and how many different ones there are below a bound.
-- Assumes nothing.
use mathlib.Core.Path.{◌≡◌, refl, sym, ◌∙◌}
use mathlib.Core.Bool.{Bool, true, false, ◌||◌}
use mathlib.Core.List.{List, [], ◌∷◌, ◌++◌}
use mathlib.Core.Logic.{◌⊎◌, inl, inr, ⊎_elim}
use Prim.Native.Nat.{ℕ, zero, suc, ◌+◌, ◌<◌, ◌≤◌}
use native.Mathlib.Omega.{arith}
use borrow.Author.Tests.{eqb-true, eqb-false, eq-eqb}
use lib.Dec.{eqb}
use lib.ListN.{length}
use Rattle.rules.specs.Order.{member, Distinct, up_from}
use Rattle.rules.proofs.Flags.{either}

abbrev pub In : ℕ → List ℕ → Type 0
In c xs = member c xs ≡ true

pub none : (c : ℕ) (xs : List ℕ) → (In c xs → ⊥) → member c xs ≡ false
none c xs h = go (member c xs) refl
  where
    go : (b : Bool) → member c xs ≡ b → b ≡ false
    go true e = absurd (h e)
    go false e = refl

pub apart : (c : ℕ) (xs : List ℕ) → member c xs ≡ false → In c xs → ⊥
apart c xs e h = let z : ◌≡◌ {A = ℕ} 0 1 = cc in omega arith

pub in_cons : (c d : ℕ) (xs : List ℕ) → In c (d ∷ xs) → (c ≡ d) ⊎ In c xs
unfolding member
in_cons c d xs h = ⊎_elim (λ e. inl (eqb-true c d e)) (λ e. inr e) (either (eqb c d) (member c xs) h)

pub in_head : (c d : ℕ) (xs : List ℕ) → c ≡ d → In c (d ∷ xs)
unfolding member
in_head c d xs e = simp (eq-eqb c d e)

pub in_tail : (c d : ℕ) (xs : List ℕ) → In c xs → In c (d ∷ xs)
unfolding member
in_tail c d xs h = go (eqb c d)
  where
    go : (b : Bool) → b || member c xs ≡ true
    go true = refl
    go false = h

pub not-nil : (c : ℕ) → In c [] → ⊥
unfolding member
not-nil c h = let z : ◌≡◌ {A = ℕ} 0 1 = cc in omega arith

pub in_front : (c : ℕ) (xs ys : List ℕ) → In c xs → In c (xs ++ ys)
in_front c [] ys h = absurd (not-nil c h)
in_front c (x ∷ xs) ys h = ⊎_elim (λ e. in_head c x (xs ++ ys) e) (λ k. in_tail c x (xs ++ ys) (in_front c xs ys k)) (in_cons c x xs h)

pub in_behind : (c : ℕ) (xs ys : List ℕ) → In c ys → In c (xs ++ ys)
in_behind c [] ys h = h
in_behind c (x ∷ xs) ys h = in_tail c x (xs ++ ys) (in_behind c xs ys h)

-- a list with one number more
pub in_more : (c k : ℕ) (xs : List ℕ) → In c (xs ++ (k ∷ [])) → In c xs ⊎ (c ≡ k)
in_more c k [] h = ⊎_elim (λ e. inr e) (λ a. absurd (not-nil c a)) (in_cons c k [] h)
in_more c k (x ∷ xs) h =
    ⊎_elim (λ e. inl (in_head c x xs e)) (λ a. ⊎_elim (λ b. inl (in_tail c x xs b)) (λ e. inr e) (in_more c k xs a)) (in_cons c x (xs ++ (k ∷ [])) h)

pub distinct_more : (xs : List ℕ) (c : ℕ) → Distinct xs → member c xs ≡ false → Distinct (xs ++ (c ∷ []))
distinct_more [] c d m = (none c [] (not-nil c), tt)
distinct_more (x ∷ xs) c d m =
    let other : c ≡ x → ⊥ = λ e. apart c (x ∷ xs) m (in_head c x xs e) in (
      none x (xs ++ (c ∷ [])) (λ h. ⊎_elim (apart x xs d.0) (λ e. other (sym e)) (in_more x c xs h)),
      distinct_more xs c d.1 (none c xs (λ h. apart c (x ∷ xs) m (in_tail c x xs h))),
    )

-- a place in a list with one number more: the last, or one in the list
pub last-or-before : (d xs ys : List ℕ) (k c : ℕ) → d ++ (k ∷ []) ≡ xs ++ (c ∷ ys) → ((xs ≡ d) × (c ≡ k)) ⊎ ((zs : List ℕ) × (d ≡ xs ++ (c ∷ zs)))
last-or-before [] [] ys k c e = inl (refl, cc)
last-or-before [] (x ∷ []) ys k c e = absurd (let z : ◌≡◌ {A = ℕ} 0 1 = cc in omega arith)
last-or-before [] (x ∷ y ∷ xs) ys k c e = absurd (let z : ◌≡◌ {A = ℕ} 0 1 = cc in omega arith)
last-or-before (w ∷ d) [] ys k c e = inr (d, cc)
last-or-before (w ∷ d) (x ∷ xs) ys k c e =
    ⊎_elim (λ a. inl (cc a.0, a.1)) (λ b. inr (b.0, cc b.1)) (last-or-before d xs ys k c cc)

-- the numbers from i up
pub in_up_from : (i n c : ℕ) → i ≤ c → c < i + n → In c (up_from i n)
unfolding up_from
in_up_from i zero c a b = absurd (omega arith)
in_up_from i (suc n) c a b = go (eqb i c) refl (λ h. in_up_from (suc i) n c h (omega arith))
  where
    go : (t : Bool) → eqb i c ≡ t → (i < c → In c (up_from (suc i) n)) → In c (i ∷ up_from (suc i) n)
    go true e rest = in_head c i _ (sym (eqb-true i c e))
    go false e rest = in_tail c i _ (rest (let other : i ≡ c → ⊥ = eqb-false i c e in omega arith))

-- different numbers without one of them
record Rest (m : ℕ) (xs : List ℕ) : Type 0 where
  rest : List ℕ
  long : length xs ≤ suc (length rest)
  once : Distinct rest
  from : (c : ℕ) → In c rest → In c xs
  other : (c : ℕ) → In c rest → c ≡ m → ⊥

without : (m : ℕ) (xs : List ℕ) → Distinct xs → Rest m xs
without m [] d =
    record { rest = []; long = omega arith; once = tt; from = λ c h. h; other = λ c h e. not-nil c h }
without m (x ∷ xs) d = go (eqb m x) refl (without m xs d.1)
  where
    go : (b : Bool) → eqb m x ≡ b → Rest m xs → Rest m (x ∷ xs)
    go true e r =
        let same = eqb-true m x e in
        record { rest = xs; long = omega arith; once = d.1; from = λ c h. in_tail c x xs h; other = λ c h k. apart x xs d.0 (rw (← same, ← k) h) }
    go false e r =
        record {
          rest = x ∷ r.rest;
          long = omega (arith, r.long);
          once = (none x r.rest (λ h. apart x xs d.0 (r.from x h)), r.once);
          from = λ c h. ⊎_elim (λ k. in_head c x xs k) (λ k. in_tail c x xs (r.from c k)) (in_cons c x r.rest h);
          other = λ c h k. ⊎_elim (λ a. eqb-false m x e (sym k ∙ a)) (λ a. r.other c a k) (in_cons c x r.rest h);
        }

-- no more different numbers than there are below the bound
pub pigeonhole : (n : ℕ) (xs : List ℕ) → Distinct xs → ((c : ℕ) → In c xs → c < n) → length xs ≤ n
pigeonhole zero [] d below = omega arith
pigeonhole zero (x ∷ xs) d below = absurd (omega (arith, below x (in_head x x xs refl)))
pigeonhole (suc n) xs d below =
    let r = without n xs d in
    omega (arith, r.long, pigeonhole n r.rest r.once (λ c h. let other : c ≡ n → ⊥ = r.other c h in omega (arith, below c (r.from c h))))
