-- Laws of the reading, in the form in which the reader's functions meet it: by position, with `n - 1` and `i + 1`. Assumes nothing.
use mathlib.Core.Path.{◌≡◌, refl, sym, ap, ◌∙◌}
use mathlib.Core.Bool.{Bool, true, false, cond, ◌&&◌, and-eq-true_iff}
use mathlib.Core.List.{List, [], ◌∷◌}
use Prim.Native.Nat.{ℕ, zero, suc, ◌+◌, ◌-◌, ◌*◌, ◌≤◌, ◌<◌}
use native.Mathlib.Nat.{add-zero, sub-zero}
use native.Mathlib.Numerals.{add-one}
use native.Mathlib.Omega.{arith}
use borrow.Author.Rules.{rules}
use borrow.Author.Tests.{eqb-true}
use lib.Dec.{eqb}
use lib.ListN.{length, take, drop, get_or, drop_of_length-le}
use lib.Seq.{drop-cons}
use Rattle.std.specs.List.{prefix_len}
use Rattle.std.specs.Simd.{first_chunks}
use Rattle.rules.specs.Outcome.{found, nothing, answer}
use Rattle.rules.specs.Ops.{word, kind, field_a, is_op}
use Rattle.rules.specs.Reading.{Stage, Next, goes, stuck, before_chunk, in_constants, in_constant, in_ops, in_extras, in_extra}
use Rattle.rules.specs.Reading.{is_head, is_chunk, is_constant, is_extra, of_constants, only_if, or_else, chunk_next, extra_next, step, may_end, broken_at, chunks_of}
use Rattle.rules.specs.Sheet.{read_outcome}
use Rattle.rules.proofs.ReadingAgrees.{read_sound, read-within}
use Rattle.words.specs.Reader.{counter}
use Rattle.words.proofs.Cases.{decide}

-- a stage that comes next counts at most m
abbrev AtMost : ℕ → Next → Type 0
AtMost m (goes s) = counter s ≤ m
AtMost m stuck = Unit {0}

-- where a stage comes only on a test
only_most : (m : ℕ) (b : Bool) (s : Stage) → counter s ≤ m → AtMost m (only_if b s)
only_most m true s h = h
only_most m false s h = tt

-- where one of two comes
or_most : (m : ℕ) (a b : Next) → AtMost m a → AtMost m b → AtMost m (or_else a b)
or_most m (goes s) b h g = h
or_most m stuck b h g = g

-- where a test chooses the stage
cond_most : (m : ℕ) (b : Bool) (s t : Stage) → counter s ≤ m → counter t ≤ m → counter (cond b s t) ≤ m
cond_most m true s t h g = h
cond_most m false s t h g = g

-- a chunk's head counts nothing
chunk_most : (m n w : ℕ) → AtMost m (chunk_next n w)
chunk_most m zero w = tt
chunk_most m (suc n) w = only_most m (is_chunk w) (in_constants n) (omega arith)

-- an extra's first word counts nothing
extra_most : (m k n w : ℕ) → AtMost m (extra_next k n w)
extra_most m zero n w = tt
extra_most m (suc k) n w = only_most m (is_extra 0 w) (in_extra k n) (omega arith)

ruleset most = (only_most, or_most, cond_most, chunk_most, extra_most, rules)

-- one word counts at most one more
step_most : (s : Stage) (w : ℕ) → AtMost (suc (counter s)) (step s w)
step_most (before_chunk n) w = search most
step_most (in_constants n) w = search most
step_most (in_constant k b n) w = search most
step_most (in_ops k n) w = search most
step_most (in_extras k n) w = search most
step_most (in_extra k n) w = search most

-- the place at which the form is broken, from the word at i on
moves : (ws : List ℕ) (i j : ℕ) (s t : Stage) → i < length ws → j ≡ suc i → step s (get_or ws i 0) ≡ goes t → broken_at s (drop i ws) i ≡ broken_at t (drop j ws) j
unfolding broken_at
moves ws i j s t h f e = rw (f, drop-cons ws i 0, e)

module _ (ws : List ℕ) (i : ℕ) (s : Stage) where
  -- a word that may come next moves the reader on, and the form is broken where it was
  pub goes_on : (t : Stage) → i < length ws → goes t ≡ step s (get_or ws i 0) → counter s ≤ i
      → (i + 1 ≤ length ws) × (counter t ≤ i + 1) × (broken_at s (drop i ws) i ≡ broken_at t (drop (i + 1) ws) (i + 1))
  goes_on t h e m =
      let n = rw (← e) at (step_most s (get_or ws i 0)) in
      (omega arith, omega arith, moves ws i (i + 1) s t h (add-one i) (sym e))

  -- a word that may not come next is where the form is broken
  pub sticks : i < length ws → stuck ≡ step s (get_or ws i 0) → broken_at s (drop i ws) i ≡ found i
  unfolding broken_at
  sticks h e = rw (drop-cons ws i 0, ← e)

  -- at the end the form is whole or broken there, as the stage may end or not
  pub ends : length ws ≤ i → broken_at s (drop i ws) i ≡ cond (may_end s) nothing (found i)
  unfolding broken_at
  ends h = rw drop_of_length-le

-- Read from behind the ops, the whole extras or the whole constant that a list begins with, the form is broken where it was.
-- past the ops
pub past_run : (ws : List ℕ) (p k n : ℕ) → let m = prefix_len is_op ws in broken_at (in_ops k n) ws p ≡ broken_at (in_ops (k + m) n) (drop m ws) (p + m)
unfolding broken_at
past_run [] p k n = rw (add-zero p)
past_run (w ∷ ws) p k n =
    let m = prefix_len is_op ws in
    let one : 1 + m ≡ suc m = omega arith in
    let more : suc k + m ≡ k + suc m = omega arith in
    let behind : suc p + m ≡ p + suc m = omega arith in
    decide (is_op w) (λ e. rw e (past_run ws (suc p) (suc k) n ∙ rw (one, more, behind))) (λ e. rw (e, add-zero k, add-zero p, e))

-- two words that are a whole extra
abbrev pub whole_extra : List ℕ → Bool
whole_extra pair = is_extra 0 (get_or pair 0 0) && is_extra 1 (get_or pair 1 0)

-- past the whole extras of the first m pairs of words, but no more than k of them
pub past_extras : (k m : ℕ) (ws : List ℕ) (p n : ℕ) → 2 * m ≤ length ws → let e = prefix_len whole_extra (take k (first_chunks 2 m ws)) in
    broken_at (in_extras k n) ws p ≡ broken_at (in_extras (k - e) n) (drop (2 * e) ws) (p + 2 * e)
unfolding broken_at
past_extras zero m ws p n h = rw (add-zero p)
past_extras (suc k) zero ws p n h = rw (add-zero p, sub-zero (suc k)) refl
past_extras (suc k) (suc m) [] p n h = absurd (omega arith)
past_extras (suc k) (suc m) (s ∷ []) p n h = absurd (omega arith)
past_extras (suc k) (suc m) (s ∷ t ∷ ws) p n h =
    let e = prefix_len whole_extra (take k (first_chunks 2 m ws)) in
    let twice : 2 * (1 + e) ≡ suc (suc (2 * e)) = omega arith in
    let less : suc k - (1 + e) ≡ k - e = omega arith in
    let behind : suc (suc p) + 2 * e ≡ p + suc (suc (2 * e)) = omega arith in
    decide (is_extra 0 s && is_extra 1 t)
    (λ f. let (low, high) = (and-eq-true_iff (is_extra 0 s) _).0 f in rw (f, low, high, less, twice) (past_extras k m ws (suc (suc p)) n (omega arith) ∙ rw behind))
    (λ f. rw (f, add-zero p, sub-zero (suc k)) refl)

-- the first word of a whole constant opens it, whatever its kind
first_word : (n w : ℕ) → (of_constants w && is_constant (kind w) 0 w) ≡ true → step (in_constants n) w ≡ goes (in_constant (kind w) 1 n)
first_word n w e =
    decide (eqb (kind w) 202) (λ f. let k = eqb-true (kind w) 202 f in rw k (simp (rw k at e)))
    (λ f. let k = eqb-true (kind w) 203 ((and-eq-true_iff _ _).0 (simp f at e)).0 in rw k (simp (rw k at e)))

-- past a whole constant
pub past_constant : (ws : List ℕ) (p n : ℕ) → 4 ≤ length ws
    → (let w = get_or ws 0 0 in let is = is_constant (kind w) in
    of_constants w && is 0 w && is 1 (get_or ws 1 0) && is 2 (get_or ws 2 0) && is 3 (get_or ws 3 0)) ≡ true
    → broken_at (in_constants n) ws p ≡ broken_at (in_constants n) (drop 4 ws) (p + 4)
unfolding broken_at
past_constant [] p n h e = absurd (omega arith)
past_constant (s ∷ []) p n h e = absurd (omega arith)
past_constant (s ∷ t ∷ []) p n h e = absurd (omega arith)
past_constant (s ∷ t ∷ u ∷ []) p n h e = absurd (omega arith)
past_constant (s ∷ t ∷ u ∷ v ∷ ws) p n h e =
    let behind : p + 4 ≡ suc (suc (suc (suc p))) = omega arith in
    let k = kind s in
    let (d, f) = (and-eq-true_iff _ (is_constant k 3 v)).0 e in
    let (c, g) = (and-eq-true_iff _ (is_constant k 2 u)).0 d in
    let (b, i) = (and-eq-true_iff _ (is_constant k 1 t)).0 c in
    rw (first_word n s b, i, g, f, behind)

-- what the reader answers, from the first word and the place at which the form behind it is broken
pub whole : (ws : List ℕ) → length ws ≤ 16384 → is_head (get_or ws 0 0) ≡ true → nothing ≡ broken_at (before_chunk (field_a (get_or ws 0 0))) (drop 1 ws) 1
    → answer (field_a (get_or ws 0 0)) ≡ read_outcome ws
whole [] h e f = absurd (let z : ◌≡◌ {A = ℕ} 0 1 = cc in omega arith)
whole (w ∷ ws) h e f =
    let (fits, same) = read_sound (w ∷ ws) (chunks_of (field_a w) ws) (rw (e, ← f)) in
    let head : word 199 0 (length (chunks_of (field_a w) ws)) ≡ w = cc in
    rw (read-within (w ∷ ws) h, e, ← f) (ap answer (omega (arith, fits.most)))
