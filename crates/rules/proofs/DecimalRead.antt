-- A number is read exactly if it is what `decimal` writes, and the bytes of that are digits.
-- Assumes nothing.
use mathlib.Core.Path.{◌≡◌, refl, sym, ap, ◌∙◌}
use mathlib.Core.Bool.{Bool, true, false, cond}
use mathlib.Core.List.{List, [], ◌∷◌, ◌++◌, append_assoc, append-nil}
use Prim.Native.Nat.{ℕ, zero, suc, ◌+◌, ◌-◌, ◌*◌, ◌/◌, ◌%◌, ◌≤◌, ◌<◌}
use native.Mathlib.Decide.{dec_lt}
use native.Mathlib.Omega.{arith}
use borrow.Author.Tests.{eqb-false, ne_eqb, leb-true, le-leb}
use lib.Dec.{eqb, leb}
use Rattle.rules.specs.Form.{Each}
use Rattle.rules.specs.Ops.{between}
use Rattle.rules.specs.Outcome.{Found, found, nothing}
use Rattle.rules.specs.Text.{decimal}
use Rattle.rules.specs.Table.{most_number, number_from, number_of}
use Rattle.rules.proofs.Every.{each_append}
use Rattle.rules.proofs.Between.{within, is_within}
use Rattle.rules.proofs.DecimalLaws.{decimal_small, decimal_more}

-- Each number is less than ten, or its tenth was met before.
by_tenths : (P : ℕ → Type 0) → ((n : ℕ) → n < 10 → P n) → ((n : ℕ) → 10 ≤ n → P (n / 10) → P n) → (n : ℕ) → P n
by_tenths P small more n = go (suc n) n (omega arith)
  where
    go : (f n : ℕ) → n < f → P n
    go zero n h = absurd (omega arith)
    go (suc f) n h = elim (dec_lt n 10) [ yes l ↦ small n l | no l ↦ more n (omega arith) (go f (n / 10) (omega arith)) ]

abbrev pub Digit : ℕ → Type 0
Digit x = (48 ≤ x) × (x ≤ 57)

pub decimal-digits : (n : ℕ) → Each Digit (decimal n)
decimal-digits =
    by_tenths (λ n. Each Digit (decimal n))
    (λ n h. rw (decimal_small n h) ((omega arith, omega arith), tt))
    (λ n h r. rw (decimal_more n h) (each_append Digit (decimal (n / 10)) _ r ((omega arith, omega arith), tt)))

-- there is a first digit, which is 0 for 0 alone
pub first_digit : (n : ℕ) → (x : ℕ) × (xs : List ℕ) × (decimal n ≡ x ∷ xs) × (1 ≤ n → 49 ≤ x)
first_digit =
    by_tenths (λ n. (x : ℕ) × (xs : List ℕ) × (decimal n ≡ x ∷ xs) × (1 ≤ n → 49 ≤ x))
    (λ n h. (48 + n, [], decimal_small n h, λ k. omega arith))
    (λ n h r. (r.0, r.1 ++ ((48 + n % 10) ∷ []), decimal_more n h ∙ ap (λ (l : List ℕ). l ++ ((48 + n % 10) ∷ [])) r.2, λ k. r.3 (omega arith)))

-- one digit read
pub digit_read : (m x : ℕ) (xs : List ℕ) → 48 ≤ x → x ≤ 57 → number_from m (x ∷ xs) ≡ number_from (10 * m + (x - 48)) xs
unfolding number_from
digit_read m x xs a b = rw (is_within 48 57 x a b)

digits-read : (n : ℕ) (rest : List ℕ) → number_from 0 (decimal n ++ rest) ≡ number_from n rest
digits-read =
    by_tenths (λ n. (rest : List ℕ) → number_from 0 (decimal n ++ rest) ≡ number_from n rest)
    (λ n h rest. rw (decimal_small n h, digit_read 0 (48 + n) rest (omega arith) (omega arith)) (ap (λ (m : ℕ). number_from m rest) (omega arith)))
    (λ n h r rest.
    rw (decimal_more n h, append_assoc, r, digit_read (n / 10) (48 + n % 10) rest (omega arith) (omega arith))
    (ap (λ (m : ℕ). number_from m rest) (omega arith)))

-- a first digit that is no 0 may have others behind it
led : (x : ℕ) (xs : List ℕ) → 49 ≤ x → number_of (x ∷ xs) ≡ number_from 0 (x ∷ xs)
led x [] h = refl
led x (y ∷ ys) h = rw (ne_eqb x 48 (λ e. omega arith))

pub found_most : (n : ℕ) → n ≤ most_number → number_from n [] ≡ found n
unfolding number_from
found_most n h = rw (le-leb n most_number h)

pub read-decimal : (n : ℕ) → n ≤ most_number → number_of (decimal n) ≡ found n
read-decimal n h = same ∙ ap (number_from 0) (sym (append-nil (decimal n))) ∙ digits-read n [] ∙ found_most n h
  where
    same : number_of (decimal n) ≡ number_from 0 (decimal n)
    same =
        elim (dec_lt n 1) [
          | yes l ↦ rw (decimal_small n (omega arith))
          | no l ↦ let (x, xs, e, high) = first_digit n in rw e (led x xs (high (omega arith)))
        ]

-- a test that passed where a number was found
passed : (b : Bool) (o : Found) (n : ℕ) → cond b o nothing ≡ found n → (b ≡ true) × (o ≡ found n)
passed true o n e = (refl, e)
passed false o n e = absurd (let z : ◌≡◌ {A = ℕ} 0 1 = cc in omega arith)

one_more : (m x : ℕ) → 1 ≤ m → 48 ≤ x → x ≤ 57 → decimal (10 * m + (x - 48)) ≡ decimal m ++ (x ∷ [])
one_more m x h a b =
    let tenth : (10 * m + (x - 48)) / 10 ≡ m = omega arith in
    let last : 48 + (10 * m + (x - 48)) % 10 ≡ x = omega arith in
    rw (decimal_more (10 * m + (x - 48)) (omega arith), tenth, last)

-- what was read, the digits before these having made a number over 0
only_behind : (m : ℕ) (xs : List ℕ) (n : ℕ) → 1 ≤ m → number_from m xs ≡ found n → (decimal m ++ xs ≡ decimal n) × (n ≤ most_number)
unfolding number_from
only_behind m [] n h e =
    let (l, s) = passed (leb m most_number) (found m) n e in
    let same : m ≡ n = cc in
    (append-nil (decimal m) ∙ ap decimal same, omega (arith, leb-true m most_number l))
only_behind m (x ∷ xs) n h e =
    let (b, s) = passed (between 48 57 x) (number_from (10 * m + (x - 48)) xs) n e in
    let (low, high) = within 48 57 x b in
    let r = only_behind (10 * m + (x - 48)) xs n (omega arith) s in
    (sym (append_assoc (decimal m) (x ∷ []) xs) ∙ ap (λ (l : List ℕ). l ++ xs) (sym (one_more m x h low high)) ∙ r.0, r.1)

pub only_decimal : (xs : List ℕ) (n : ℕ) → number_of xs ≡ found n → (xs ≡ decimal n) × (n ≤ most_number)
unfolding number_from
only_decimal [] n e = absurd (let z : ◌≡◌ {A = ℕ} 0 1 = cc in omega arith)
only_decimal (x ∷ []) n e =
    let (b, s) = passed (between 48 57 x) (number_from (10 * 0 + (x - 48)) []) n e in
    let (low, high) = within 48 57 x b in
    let (l, t) = passed (leb (10 * 0 + (x - 48)) most_number) (found (10 * 0 + (x - 48))) n s in
    let same : 10 * 0 + (x - 48) ≡ n = cc in
    let back : 48 + n ≡ x = omega arith in
    (rw (decimal_small n (omega arith), back), omega arith)
only_decimal (x ∷ y ∷ ys) n e = go (eqb x 48) refl e
  where
    go : (b : Bool) → eqb x 48 ≡ b → cond b nothing (number_from 0 (x ∷ y ∷ ys)) ≡ found n → (x ∷ y ∷ ys ≡ decimal n) × (n ≤ most_number)
    go true t e = absurd (let z : ◌≡◌ {A = ℕ} 0 1 = cc in omega arith)
    go false t e =
        let (b, s) = passed (between 48 57 x) (number_from (10 * 0 + (x - 48)) (y ∷ ys)) n e in
        let (low, high) = within 48 57 x b in
        let other : x ≡ 48 → ⊥ = eqb-false x 48 t in
        let r = only_behind (10 * 0 + (x - 48)) (y ∷ ys) n (omega arith) s in
        let back : 48 + (10 * 0 + (x - 48)) ≡ x = omega arith in
        (rw back at (rw (decimal_small (10 * 0 + (x - 48)) (omega arith)) at r.0), r.1)
