-- Whether constants and ops fit, from the first on, and how extras are trimmed, from the last on. Assumes nothing.
use mathlib.Core.Path.{◌≡◌, refl, sym, ap, ◌∙◌}
use mathlib.Core.Bool.{Bool, true, false, cond, ◌&&◌, ◌||◌, and-false, and-eq-true_iff}
use mathlib.Core.List.{List, [], ◌∷◌, ◌++◌}
use mathlib.Core.Logic.{◌⊎◌, inl, inr, ⊎_elim}
use Prim.Native.Nat.{ℕ, suc, ◌-◌, ◌^◌, ◌<◌, ◌≤◌}
use native.Mathlib.Omega.{arith}
use borrow.Author.Tests.{eqb-true, ltb-true, lt-ltb, le-leb, lt-leb, eq-eqb, ne_eqb}
use lib.Dec.{eqb, leb, ltb}
use lib.ListN.{length, get_or, take}
use lib.Seq.{take-suc, take_all}
use Rattle.rules.specs.Ops.{word, between, uses_a, greatest_b, is_op}
use Rattle.rules.specs.Form.{Each}
use Rattle.rules.specs.Writing.{held_if, held_constant, held_constants, held_ops, trimmed, every, constant_fits, op_fits, extra_fits}
use Rattle.rules.proofs.WordFields.{kind-word, field_a-word, field_b-word}
use Rattle.rules.proofs.Every.{each_every}
use Rattle.rules.proofs.Trimmed.{each_trimmed}
use Rattle.words.proofs.Cases.{decide}
use Rattle.writer.specs.Size.{held_fits, constants_fit}
use Rattle.writer.proofs.HeldLaws.{behind, three_first, few-held, fits_first}

-- a test of three numbers, and of those behind them
module _ (l : List ℕ) (h : 3 ≤ length l) where
  pub constant_first : constants_fit (held_constants l)
      ≡ (held_fits constant_fits (held_constant (get_or l 0 0) (get_or l 1 0) (get_or l 2 0)) && constants_fit (held_constants (behind 3 l)))
  unfolding held_constants
  constant_first =
      ap (λ (l : List ℕ). constants_fit (held_constants l)) (three_first l h)
      ∙ fits_first constant_fits (held_constant (get_or l 0 0) (get_or l 1 0) (get_or l 2 0)) (held_constants (behind 3 l))

  pub op_first : every op_fits (held_ops l)
      ≡ (op_fits (record { kind = get_or l 0 0; a = get_or l 1 0; b = get_or l 2 0 }) && every op_fits (held_ops (behind 3 l)))
  unfolding held_ops every
  op_first = ap (λ (l : List ℕ). every op_fits (held_ops l)) (three_first l h)

-- at the end of a list
module _ (l : List ℕ) (few : length l < 3) where
  pub constants-end : constants_fit (held_constants l) ≡ eqb (length l) 0
  unfolding every
  constants-end = ap constants_fit (few-held l few).0 ∙ go (eqb (length l) 0)
    where
      go : (b : Bool) → constants_fit (held_if b []) ≡ b
      go true = refl
      go false = refl

  pub ops-end : every op_fits (held_ops l) ≡ true
  unfolding every
  ops-end = ap (every op_fits) (few-held l few).1

-- an op whose fields fit a word, and one that is beyond the table
module _ (k a b : ℕ) where
  op_fits_lem : a < 65536 → b < 256 → op_fits (record { kind = k; a = a; b = b }) ≡ is_op (word k b a)
  op_fits_lem ha hb = rw (lt-ltb a 65536 ha, lt-ltb b 256 hb)

  pub no_op_lem : 65 < k → op_fits (record { kind = k; a = a; b = b }) ≡ false
  no_op_lem h =
      decide (ltb a 65536)
      (λ e. decide (ltb b 256)
      (λ f. rw (e, f, kind-word k b a (ltb-true b 256 f) (ltb-true a 65536 e), lt-leb k 65 h))
      (λ f. rw (e, f)))
      (λ e. rw e)

-- the greatest fields of a kind decide
most_b : (k : ℕ) → greatest_b k ≤ 255
most_b k =
    decide (eqb k 30 || eqb k 58 || between 64 65 k) (λ e. rw e (omega arith))
    (λ e. decide (eqb k 34) (λ f. rw (e, f) (omega arith)) (λ f. decide (eqb k 36) (λ g. rw (e, f, g) (omega arith)) (λ g. rw (e, f, g) (omega arith))))

module _ (k a b : ℕ) where
  of_fields : a < 65536 → b < 256 → is_op (word k b a) ≡ (leb k 65 && leb b (greatest_b k) && (uses_a k || eqb a 0))
  of_fields ha hb = rw (kind-word k b a hb ha, field_a-word k b a hb ha, field_b-word k b a hb ha)

  -- an op of fields that fit a word
  narrow : (op_fits (record { kind = k; a = a; b = b }) ≡ false) ⊎ ((a < 65536) × (b < 256))
  narrow =
      decide (ltb a 65536)
      (λ e. decide (ltb b 256) (λ f. inr (ltb-true a 65536 e, ltb-true b 256 f)) (λ f. inl (rw (e, f))))
      (λ e. inl (rw e))

  pub over_a : cond (uses_a k) 65535 0 < a → op_fits (record { kind = k; a = a; b = b }) ≡ false
  over_a h =
      ⊎_elim (λ e. e)
      (λ w. op_fits_lem k a b w.0 w.1 ∙ of_fields w.0 w.1
      ∙ decide (uses_a k) (λ u. absurd (let g : 65535 < a = rw u at h in omega (arith, w.0)))
      (λ u. let g : 0 < a = rw u at h in rw (u, ne_eqb a 0 (λ z. omega arith)) (and-false (leb k 65 && leb b (greatest_b k)))))
      narrow

  pub over_b : greatest_b k < b → op_fits (record { kind = k; a = a; b = b }) ≡ false
  over_b h =
      ⊎_elim (λ e. e)
      (λ w. op_fits_lem k a b w.0 w.1 ∙ of_fields w.0 w.1 ∙ rw (lt-leb b (greatest_b k) h, and-false (leb k 65)))
      narrow

  pub within : k ≤ 65 → a ≤ cond (uses_a k) 65535 0 → b ≤ greatest_b k → op_fits (record { kind = k; a = a; b = b }) ≡ true
  within hk ha hb =
      decide (uses_a k)
      (λ u. let g : a ≤ 65535 = rw u at ha in
      op_fits_lem k a b (omega arith) (omega (arith, most_b k)) ∙ of_fields (omega arith) (omega (arith, most_b k)) ∙ rw (le-leb b (greatest_b k) hb, u, le-leb k 65 hk))
      (λ u. let g : a ≤ 0 = rw u at ha in
      op_fits_lem k a b (omega arith) (omega (arith, most_b k)) ∙ of_fields (omega arith) (omega (arith, most_b k))
      ∙ rw (le-leb b (greatest_b k) hb, u, eq-eqb a 0 (omega arith), le-leb k 65 hk))

-- the last extra: a 0 goes, another one stays with all before it
zero_goes : (xs : List ℕ) → trimmed (xs ++ (0 ∷ [])) ≡ trimmed xs
unfolding trimmed
zero_goes [] = refl
zero_goes (x ∷ xs) = rw (zero_goes xs)

last_stays : (xs : List ℕ) (x : ℕ) → (x ≡ 0 → ⊥) → trimmed (xs ++ (x ∷ [])) ≡ xs ++ (x ∷ [])
unfolding trimmed
last_stays [] x h = rw (ne_eqb x 0 h)
last_stays (y ∷ []) x h = rw (last_stays [] x h)
last_stays (y ∷ z ∷ xs) x h = rw (last_stays (z ∷ xs) x h)

module _ (xs : List ℕ) (m n : ℕ) (next : n ≡ suc m) (there : n ≤ length xs) where
  last_of : take n xs ≡ take m xs ++ (get_or xs m 0 ∷ [])
  last_of = ap (λ (m : ℕ). take m xs) next ∙ take-suc xs m 0 (omega arith)

  zero_at : get_or xs m 0 ≡ 0 → trimmed (take n xs) ≡ trimmed (take m xs)
  zero_at e = rw (last_of, e) (zero_goes (take m xs))

  last_at : (get_or xs m 0 ≡ 0 → ⊥) → trimmed (take n xs) ≡ take n xs
  last_at h = rw last_of (last_stays (take m xs) (get_or xs m 0) h)

-- what stands last, and the front before it
module _ (xs : List ℕ) where
  abbrev long : ℕ
  long = length xs

  all : take long xs ≡ xs
  all = take_all long xs (omega arith)

  pub zero_last : 1 ≤ long → get_or xs (long - 1) 0 ≡ 0 → trimmed xs ≡ trimmed (take (long - 1) xs)
  zero_last h e = ap trimmed (sym all) ∙ zero_at xs (long - 1) long (omega arith) (omega arith) e

  pub last_kept : 1 ≤ long → (get_or xs (long - 1) 0 ≡ 0 → ⊥) → trimmed xs ≡ xs
  last_kept h e = ap trimmed (sym all) ∙ last_at xs (long - 1) long (omega arith) (omega arith) e ∙ all

  pub eight_zeros : 8 ≤ long
      → (eqb (get_or xs (long - 8) 0) 0 && eqb (get_or xs (long - 7) 0) 0 && eqb (get_or xs (long - 6) 0) 0 && eqb (get_or xs (long - 5) 0) 0) ≡ true
      → (eqb (get_or xs (long - 4) 0) 0 && eqb (get_or xs (long - 3) 0) 0 && eqb (get_or xs (long - 2) 0) 0 && eqb (get_or xs (long - 1) 0) 0) ≡ true
      → trimmed xs ≡ trimmed (take (long - 8) xs)
  eight_zeros h p q =
      let (((s, t), u), v) = simp and-eq-true_iff at p in
      let (((w, x), y), z) = simp and-eq-true_iff at q in
      zero_last (omega arith) (eqb-true (get_or xs (long - 1) 0) 0 z)
      ∙ zero_at xs (long - 2) (long - 1) (omega arith) (omega arith) (eqb-true (get_or xs (long - 2) 0) 0 y)
      ∙ zero_at xs (long - 3) (long - 2) (omega arith) (omega arith) (eqb-true (get_or xs (long - 3) 0) 0 x)
      ∙ zero_at xs (long - 4) (long - 3) (omega arith) (omega arith) (eqb-true (get_or xs (long - 4) 0) 0 w)
      ∙ zero_at xs (long - 5) (long - 4) (omega arith) (omega arith) (eqb-true (get_or xs (long - 5) 0) 0 v)
      ∙ zero_at xs (long - 6) (long - 5) (omega arith) (omega arith) (eqb-true (get_or xs (long - 6) 0) 0 u)
      ∙ zero_at xs (long - 7) (long - 6) (omega arith) (omega arith) (eqb-true (get_or xs (long - 7) 0) 0 t)
      ∙ zero_at xs (long - 8) (long - 7) (omega arith) (omega arith) (eqb-true (get_or xs (long - 8) 0) 0 s)

-- nothing is trimmed to nothing
pub none_kept : (xs : List ℕ) → length xs < 1 → trimmed xs ≡ xs
unfolding trimmed
none_kept [] h = refl
none_kept (x ∷ xs) h = absurd (omega arith)

-- numbers of 32 bits are extras that fit
pub extras_fit : (xs : List ℕ) → ((i : ℕ) → i < length xs → get_or xs i 0 < 2 ^ 32) → every extra_fits (trimmed xs) ≡ true
extras_fit xs h = each_every (λ x g. lt-ltb x (2 ^ 32) g) (trimmed xs) (each_trimmed (λ x. x < 2 ^ 32) xs (all xs h))
  where
    all : (ys : List ℕ) → ((i : ℕ) → i < length ys → get_or ys i 0 < 2 ^ 32) → Each (λ x. x < 2 ^ 32) ys
    all [] g = tt
    all (y ∷ ys) g = (g 0 (omega arith), all ys (λ i l. g (suc i) (omega arith)))
