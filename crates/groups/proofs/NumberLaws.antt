-- The number of a field, digit by digit. Assumes nothing.
use mathlib.Core.Path.{◌≡◌, sym, ◌∙◌}
use mathlib.Core.Bool.{true, false, cond}
use mathlib.Core.List.{List, [], ◌∷◌}
use Prim.Native.Nat.{ℕ, ◌+◌, ◌-◌, ◌*◌, ◌<◌, ◌≤◌}
use native.Mathlib.Numerals.{add-one}
use native.Mathlib.Omega.{arith}
use borrow.Author.Tests.{lt-leb}
use lib.ListN.{length, get_or, drop, drop_of_length-le}
use lib.Seq.{drop-cons}
use Rattle.rules.specs.Outcome.{found, nothing}
use Rattle.rules.specs.Ops.{between}
use Rattle.rules.specs.Table.{most_number, number_from, number_of}
use Rattle.rules.proofs.DecimalRead.{found_most}
use Rattle.words.proofs.Cases.{decide}

-- a number that is too great stays so
number_over : (n : ℕ) (xs : List ℕ) → most_number < n → number_from n xs ≡ nothing
unfolding number_from
number_over n [] h = rw (lt-leb n most_number h)
number_over n (x ∷ xs) h = decide (between 48 57 x) (λ e. rw (e, number_over (10 * n + (x - 48)) xs (omega arith))) (λ e. rw e)

-- what a field is, it is from place i on, n being what the digits before make
pub record Digits (xs : List ℕ) (n i : ℕ) : Type 0 where
  pub most : n ≤ most_number
  pub same : number_of xs ≡ number_from n (drop i xs)

module _ {xs : List ℕ} {n i : ℕ} (d : Digits xs n i) where
  -- the field by the byte at place i
  next : i < length xs → number_of xs ≡ cond (between 48 57 (get_or xs i 0)) (number_from (10 * n + (get_or xs i 0 - 48)) (drop (i + 1) xs)) nothing
  unfolding number_from
  next h = rw (add-one i) (d.same ∙ rw (drop-cons xs i 0 h))

  -- by a digit with which it is not too great
  pub number_digit : i < length xs → between 48 57 (get_or xs i 0) ≡ true → 10 * n + (get_or xs i 0 - 48) ≤ most_number
      → Digits xs (10 * n + (get_or xs i 0 - 48)) (i + 1)
  number_digit h b m = record { most = m; same = rw b at (next h) }

  -- by a digit with which it is
  pub number_great : i < length xs → between 48 57 (get_or xs i 0) ≡ true → most_number < 10 * n + (get_or xs i 0 - 48) → nothing ≡ number_of xs
  number_great h b over = sym (rw b at (next h) ∙ number_over _ (drop (i + 1) xs) over)

  -- by another byte
  pub number_other : i < length xs → between 48 57 (get_or xs i 0) ≡ false → nothing ≡ number_of xs
  number_other h b = sym (rw b at (next h))

  -- where it ends
  pub number_end : length xs ≤ i → found n ≡ number_of xs
  number_end h = sym (d.same ∙ rw (drop_of_length-le xs h) (found_most n d.most))
