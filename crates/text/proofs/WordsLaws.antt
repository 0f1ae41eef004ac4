-- The words of a list of bytes: how many they are, each by its four bytes, one a turn, and a block of them. The bytes of a list of words: room for one
-- word more, what it adds, and a block of them.
-- Assumes nothing.
use mathlib.Core.Path.{◌≡◌, refl, ap}
use mathlib.Core.List.{List, [], ◌∷◌, ◌++◌}
use Prim.Native.Nat.{ℕ, zero, suc, ◌+◌, ◌*◌, ◌/◌, ◌%◌, ◌^◌, ◌<◌, ◌≤◌, min}
use native.Mathlib.Nat.{zero-add, mul-suc}
use native.Mathlib.Numerals.{towards_suc}
use native.Mathlib.Omega.{arith}
use lib.ListN.{length, get_or, set, take, drop, take-append-drop}
use lib.Seq.{length-take-le}
use Rattle.std.specs.Simd.{first_chunks}
use Rattle.std.proofs.lemmas.List.{take_more, take_min, drop_min}
use Rattle.rules.specs.Text.{words_of, bytes_in}
use Rattle.text.specs.Paste.{pasted, Put}
use Rattle.text.proofs.PasteLaws.{put_taken, pasted_next}

-- how many words there are
pub words_length : (bytes : List ℕ) → length (words_of bytes) ≡ length bytes / 4
unfolding words_of
words_length [] = refl
words_length (a ∷ []) = refl
words_length (a ∷ b ∷ []) = refl
words_length (a ∷ b ∷ c ∷ []) = refl
words_length (a ∷ b ∷ c ∷ d ∷ bytes) = omega (arith, words_length bytes)

-- no bytes hold no words
pub no_words : (bytes : List ℕ) → length bytes ≡ 0 → words_of bytes ≡ []
unfolding words_of
no_words [] h = refl
no_words (a ∷ bytes) h = absurd (omega arith)

-- the words of the first bytes, so many that four divides it, and of those behind them
pub words_split : (k : ℕ) (bytes : List ℕ) → words_of (take (4 * k) bytes) ++ words_of (drop (4 * k) bytes) ≡ words_of bytes
unfolding words_of
words_split zero bytes = refl
words_split (suc k) [] = simp (mul-suc, towards_suc) refl
words_split (suc k) (a ∷ []) = simp (mul-suc, towards_suc) refl
words_split (suc k) (a ∷ b ∷ []) = simp (mul-suc, towards_suc) refl
words_split (suc k) (a ∷ b ∷ c ∷ []) = simp (mul-suc, towards_suc) refl
words_split (suc k) (a ∷ b ∷ c ∷ d ∷ bytes) = simp (mul-suc, towards_suc) (ap (λ (ws : List ℕ). (a + 256 * (b + 256 * (c + 256 * d))) ∷ ws) (words_split k bytes))

-- the words of a block that was read to the front of a list, and those of the bytes behind it
pub block_read : (n : ℕ) (bytes read : List ℕ) {after : List ℕ} {k : ℕ} → Put 0 (words_of (take (min (4 * n) (length bytes)) bytes)) read after k
    → take k after ++ words_of (drop (min (4 * n) (length bytes)) bytes) ≡ words_of bytes
block_read n bytes read p = rw (put_taken _ read p, take_min (4 * n) bytes, drop_min (4 * n) bytes) (words_split n bytes)

-- the word of four bytes
abbrev pub of_four : List ℕ → ℕ
of_four four = get_or four 0 0 + get_or four 1 0 * 256 + get_or four 2 0 * 65536 + get_or four 3 0 * 16777216

-- each word is that of its four bytes
word_of_chunk : (k i : ℕ) (bytes : List ℕ) → k ≡ length bytes / 4 → i < k → get_or (words_of bytes) i 0 ≡ of_four (get_or (first_chunks 4 k bytes) i [])
unfolding words_of
word_of_chunk zero i bytes e h = absurd (omega arith)
word_of_chunk (suc k) i [] e h = absurd (omega arith)
word_of_chunk (suc k) i (a ∷ []) e h = absurd (omega arith)
word_of_chunk (suc k) i (a ∷ b ∷ []) e h = absurd (omega arith)
word_of_chunk (suc k) i (a ∷ b ∷ c ∷ []) e h = absurd (omega arith)
word_of_chunk (suc k) zero (a ∷ b ∷ c ∷ d ∷ bytes) e h = omega arith
word_of_chunk (suc k) (suc i) (a ∷ b ∷ c ∷ d ∷ bytes) e h = word_of_chunk k i bytes (omega arith) (omega arith)

-- one word more
pub more_words : (i : ℕ) (bytes : List ℕ) → i < length bytes / 4
    → take i (words_of bytes) ++ (of_four (get_or (first_chunks 4 (length bytes / 4) bytes) i []) ∷ []) ≡ take (i + 1) (words_of bytes)
more_words i bytes h =
    let near : i < length (words_of bytes) = omega (arith, words_length bytes) in
    rw (take_more (words_of bytes) i 0 near, word_of_chunk (length bytes / 4) i bytes refl h)

-- one word more, stored in a list
pub stored_word : (i : ℕ) (bytes words : List ℕ) → length bytes / 4 ≤ length words → i < length bytes / 4
    → set (pasted 0 (take i (words_of bytes)) words) i (of_four (get_or (first_chunks 4 (length bytes / 4) bytes) i [])) ≡ pasted 0 (take (i + 1) (words_of bytes)) words
stored_word i bytes words fits h =
    let xs = take i (words_of bytes) in
    let b = of_four (get_or (first_chunks 4 (length bytes / 4) bytes) i []) in
    let long : length xs ≡ i = length-take-le i (words_of bytes) (omega (arith, words_length bytes)) in
    rw (← more_words i bytes h) (simp (zero-add, long) at (pasted_next 0 b xs words (omega (arith, long))))

-- how many bytes there are
pub bytes_length : (words : List ℕ) → length (bytes_in words) ≡ 4 * length words
unfolding bytes_in
bytes_length [] = refl
bytes_length (w ∷ words) = omega (arith, bytes_length words)

bytes_append : (words more : List ℕ) → bytes_in (words ++ more) ≡ bytes_in words ++ bytes_in more
unfolding bytes_in
bytes_append [] more = refl
bytes_append (w ∷ words) more = simp (bytes_append words more)

module _ (i : ℕ) (words : List ℕ) (h : i < length words) where
  -- the bytes of the first words leave room for those of one more
  pub bytes_room : length (bytes_in (take i words)) + 4 ≤ length (bytes_in words)
  bytes_room = omega (arith, bytes_length (take i words), bytes_length words, length-take-le i words (omega arith))

  -- one word more
  pub more_bytes : (w : ℕ) → w < 2 ^ 32 → w ≡ get_or words i 0
      → bytes_in (take i words) ++ (w % 256 ∷ w / 256 % 256 ∷ w / 65536 % 256 ∷ w / 16777216 % 256 ∷ []) ≡ bytes_in (take (i + 1) words)
  unfolding bytes_in
  more_bytes w fits is =
      let top : w / 16777216 % 256 ≡ w / 16777216 = omega arith in
      rw (take_more words i 0 h, bytes_append (take i words) (get_or words i 0 ∷ []), ← is, top)

-- the bytes of a block that was written to the front of a list, and those of the words behind it
pub block_written : (n : ℕ) (words made : List ℕ) {after : List ℕ} {k : ℕ} → Put 0 (bytes_in (take (min n (length words)) words)) made after k
    → take k after ++ bytes_in (drop (min n (length words)) words) ≡ bytes_in words
block_written n words made p =
    let m = min n (length words) in
    rw (put_taken _ made p, ← bytes_append (take m words) (drop m words), take-append-drop m words) refl

-- no words have no bytes
pub no_bytes : (words : List ℕ) → length words ≡ 0 → bytes_in words ≡ []
unfolding bytes_in
no_bytes [] h = refl
no_bytes (w ∷ words) h = absurd (omega arith)
