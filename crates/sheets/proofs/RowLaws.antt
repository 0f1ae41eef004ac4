-- Rows of one width behind one another, for any width: how many numbers they have, rows that are alike, the numbers of one row, and a row
-- stored in its place. Assumes nothing.
use mathlib.Core.Path.{◌≡◌, refl, sym, ap, ◌∙◌}
use mathlib.Core.List.{List, [], ◌∷◌, ◌++◌, flat_map, append_assoc}
use Prim.Native.Nat.{ℕ, zero, suc, ◌+◌, ◌*◌, ◌<◌, ◌≤◌}
use native.Mathlib.Nat.{mul-zero, mul-suc, mul-le-mul_left}
use native.Mathlib.Omega.{arith}
use lib.ListN.{length, get_or, take, drop, set, replicate, length-append, take-append-drop, replicate-append-replicate}
use lib.Seq.{take-nil, drop-nil, take-append-add, drop-append-add, drop-append-le, take_at, drop-cons, set_split, get_or-take, get_or-drop}
use Rattle.text.specs.Paste.{pasted}
use Rattle.text.proofs.PasteLaws.{pasted_length, pasted-before}

-- the front of a list of one number throughout
pub taken_alike : (a m k : ℕ) → m ≤ k → take m (replicate k a) ≡ replicate m a
taken_alike a zero k h = refl
taken_alike a (suc m) zero h = absurd (omega arith)
taken_alike a (suc m) (suc k) h = ap (λ (l : List ℕ). a ∷ l) (taken_alike a m k (omega arith))

module _ {A : Type 0} (row : A → List ℕ) (w : ℕ) (size : (a : A) → length (row a) ≡ w) where
  -- rows have so many numbers each
  pub rows_length : (xs : List A) → length (flat_map row xs) ≡ w * length xs
  unfolding flat_map
  rows_length [] = sym (mul-zero w)
  rows_length (x ∷ xs) = rw length-append (omega (arith, size x, rows_length xs, mul-suc w (length xs)))

  -- rows that hold one number throughout
  pub rows_alike : (x : A) (a : ℕ) → row x ≡ replicate w a → (n : ℕ) → flat_map row (replicate n x) ≡ replicate (w * n) a
  unfolding flat_map
  rows_alike x a e zero = rw (mul-zero w)
  rows_alike x a e (suc n) =
      let sum : w + w * n ≡ w * suc n = omega (arith, mul-suc w n) in
      rw (e, rows_alike x a e n, replicate-append-replicate w (w * n) a, sum)

  -- the end of row c behind the rows before it
  row-end : (x : A) (c : ℕ) → w * suc c ≡ length (row x) + w * c
  row-end x c = omega (arith, size x, mul-suc w c)

  -- the numbers of the rows before row c
  rows_take : (c : ℕ) (xs : List A) → take (w * c) (flat_map row xs) ≡ flat_map row (take c xs)
  unfolding flat_map
  rows_take zero xs = rw (mul-zero w)
  rows_take (suc c) [] = take-nil (w * suc c)
  rows_take (suc c) (x ∷ xs) = rw (row-end x c, take-append-add (row x) (flat_map row xs) (w * c), rows_take c xs)

  -- the numbers from row c on
  rows_drop : (c : ℕ) (xs : List A) → drop (w * c) (flat_map row xs) ≡ flat_map row (drop c xs)
  unfolding flat_map
  rows_drop zero xs = rw (mul-zero w)
  rows_drop (suc c) [] = drop-nil (w * suc c)
  rows_drop (suc c) (x ∷ xs) = rw (row-end x c, drop-append-add (row x) (flat_map row xs) (w * c), rows_drop c xs)

  -- rows behind rows
  rows_append : (xs ys : List A) → flat_map row (xs ++ ys) ≡ flat_map row xs ++ flat_map row ys
  unfolding flat_map
  rows_append [] ys = refl
  rows_append (x ∷ xs) ys = rw (rows_append xs ys) (sym (append_assoc (row x) (flat_map row xs) (flat_map row ys)))

  -- a list that begins with the rows of xs
  module _ (xs : List A) (numbers : List ℕ) (begins : take (w * length xs) numbers ≡ flat_map row xs) (c : ℕ) (lt : c < length xs) where
    -- the list is the rows and what is behind them
    split : numbers ≡ flat_map row xs ++ drop (w * length xs) numbers
    split = sym (take-append-drop (w * length xs) numbers) ∙ ap (λ (l : List ℕ). l ++ drop (w * length xs) numbers) begins

    -- row c lies among them
    inside : w * c + w ≤ length (flat_map row xs)
    inside = omega (arith, mul-suc w c, mul-le-mul_left w lt, rows_length xs)

    -- row c
    pub row_at : (d : A) → take w (drop (w * c) numbers) ≡ row (get_or xs c d)
    unfolding flat_map
    row_at d =
        let rest = drop (w * length xs) numbers in
        let room : w * c ≤ length (flat_map row xs) = omega (arith, inside) in
        ap (λ (l : List ℕ). take w (drop (w * c) l)) split
        ∙ rw (drop-append-le (w * c) (flat_map row xs) rest room, rows_drop c xs, drop-cons xs c d lt, append_assoc)
        (take_at (row (get_or xs c d)) _ w (size (get_or xs c d)))

    -- its k-th number
    pub number_at : (d : A) (k : ℕ) → k < w → get_or numbers (w * c + k) 0 ≡ get_or (row (get_or xs c d)) k 0
    number_at d k below =
        sym (get_or-take w (drop (w * c) numbers) k 0 below ∙ get_or-drop (w * c) numbers k 0) ∙ ap (λ (l : List ℕ). get_or l k 0) (row_at d)

    -- another row in place of row c
    module _ (a : A) where
      -- the rows with it are the old ones with its numbers stored
      row-set : flat_map row (set xs c a) ≡ pasted (w * c) (row a) (flat_map row xs)
      unfolding flat_map pasted
      row-set =
          let end : w * c + length (row a) ≡ w * suc c = omega (arith, size a, mul-suc w c) in
          rw (set_split xs c a lt, rows_append (take c xs) (a ∷ drop (suc c) xs), rows_take c xs, end, rows_drop (suc c) xs)

      -- so the list begins with them once they are stored
      pub row_stored : take (w * length xs) (pasted (w * c) (row a) numbers) ≡ flat_map row (set xs c a)
      row_stored =
          let rest = drop (w * length xs) numbers in
          let fits : w * c + length (row a) ≤ length (flat_map row xs) = omega (arith, size a, inside) in
          ap (λ (l : List ℕ). take (w * length xs) (pasted (w * c) (row a) l)) split
          ∙ rw (pasted-before (w * c) (row a) (flat_map row xs) fits rest)
          (take_at (pasted (w * c) (row a) (flat_map row xs)) rest (w * length xs)
          (pasted_length (w * c) (row a) (flat_map row xs) fits ∙ rows_length xs))
          ∙ sym row-set
