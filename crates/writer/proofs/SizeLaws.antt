-- How many words a chunk takes, and the chunks behind it. Assumes nothing.
use mathlib.Core.Path.{◌≡◌, refl, sym, ap, ◌∙◌}
use mathlib.Core.Bool.{Bool, true, false, ◌&&◌, false≢true, and-eq-true_iff}
use mathlib.Core.List.{List, [], ◌∷◌, flat_map}
use Prim.Native.Nat.{ℕ, zero, suc, ◌+◌, ◌*◌, ◌/◌, ◌<◌, ◌≤◌}
use native.Mathlib.Nat.{add_assoc, add-zero}
use native.Mathlib.Omega.{arith}
use borrow.Author.Tests.{leb-true, ltb-true, le-leb, lt-leb, lt-ltb}
use lib.Dec.{leb, eqb}
use lib.ListN.{length, drop, length-append, length-drop}
use lib.Seq.{length-take-le}
use Rattle.rules.specs.Limits.{b_unit, most_words}
use Rattle.rules.specs.Outcome.{Found, found, nothing}
use Rattle.rules.specs.Form.{Constant, integer, other, constant_words}
use Rattle.rules.specs.Writing.{Op, Draft, Held, holds, hold_none, held_if, held_first, held_constant, held_constants, held_ops, held_draft, held, trimmed, op_word, filed, every, op_fits, constant_fits, extra_fits, draft_fits}
use Rattle.rules.proofs.Mapped.{map-length}
use Rattle.rules.proofs.Flags.{both}
use Rattle.rules.proofs.Written.{chunk-length}
use Rattle.words.proofs.Cases.{decide}
use Rattle.writer.specs.declared.lent.Head.{Head}
use Rattle.writer.specs.declared.lent.Lent.{Lent}
use Rattle.writer.specs.Size.{held_fits, held_words, constants_fit, constants_words, filed_words, one_fits, one_words, all_fit, all_words, size_if, one_size, size_from}
use Rattle.writer.specs.Lent.{Splits, own_of}
use Rattle.writer.proofs.HeldLaws.{fits_first, words_first}

-- what a chunk that fits says of its parts
pub parts_fit : (l t : ℕ) (ks : Held (List Constant)) (os : List Op) (xs : List ℕ) → one_fits (held_draft l t ks os xs) ≡ true
    → (l < b_unit) × (t ≤ 2) × (constants_fit ks ≡ true) × (every op_fits os ≡ true) × (length (trimmed xs) ≤ length os)
parts_fit l t hold_none os xs e = absurd (false≢true e)
parts_fit l t (holds ks) os xs e =
    let (((((locals, type), constants), ops), extras), enough) = simp and-eq-true_iff at e in
    (ltb-true l b_unit locals, leb-true t 2 type, constants, ops, leb-true (length (trimmed xs)) (length os) enough)

-- and the other way
pub all_parts_fit : (l t : ℕ) (ks : Held (List Constant)) (os : List Op) (xs : List ℕ) → l < b_unit → t ≤ 2 → constants_fit ks ≡ true → every op_fits os ≡ true
    → every extra_fits (trimmed xs) ≡ true → length (trimmed xs) ≤ length os → one_fits (held_draft l t ks os xs) ≡ true
all_parts_fit l t hold_none os xs locals type constants ops extras enough = absurd (false≢true constants)
all_parts_fit l t (holds ks) os xs locals type constants ops extras enough =
    rw (lt-ltb l b_unit locals, le-leb t 2 type, constants, ops, extras, le-leb (length (trimmed xs)) (length os) enough)

pub no_size : (d : Held Draft) → (one_fits d ≡ true → ⊥) → nothing ≡ one_size d
no_size d h = decide (one_fits d) (λ e. absurd (h e)) (λ e. rw e)

-- the words of constants that are held, four each
constant_length : (k : Constant) → length (constant_words k) ≡ 4
constant_length (integer z) = refl
constant_length other = refl

one-length : (k : Held Constant) → held_fits constant_fits k ≡ true → length (held_words constant_words k) ≡ 4
one-length (holds k) e = constant_length k
one-length hold_none e = absurd (false≢true e)

pub constants-length : (l : List ℕ) (n : ℕ) → length l ≡ 3 * n → constants_fit (held_constants l) ≡ true → length (constants_words (held_constants l)) ≡ 4 * n
unfolding held_constants flat_map
constants-length [] n h e = omega arith
constants-length (t ∷ []) n h e = absurd (omega arith)
constants-length (t ∷ low ∷ []) n h e = absurd (omega arith)
constants-length (t ∷ low ∷ high ∷ l) zero h e = absurd (omega arith)
constants-length (t ∷ low ∷ high ∷ l) (suc n) h e =
    let k = held_constant t low high in
    let (first, rest) = both (held_fits constant_fits k) (constants_fit (held_constants l)) (sym (fits_first constant_fits k (held_constants l)) ∙ e) in
    rw (words_first constant_fits constant_words k (held_constants l) rest first)
    (omega (arith, length-append (held_words constant_words k) (constants_words (held_constants l)), one-length k first, constants-length l n (omega arith) rest))

pub ops-length : (l : List ℕ) (n : ℕ) → length l ≡ 3 * n → length (held_ops l) ≡ n
unfolding held_ops
ops-length [] n h = omega arith
ops-length (k ∷ []) n h = absurd (omega arith)
ops-length (k ∷ a ∷ []) n h = absurd (omega arith)
ops-length (k ∷ a ∷ b ∷ l) zero h = absurd (omega arith)
ops-length (k ∷ a ∷ b ∷ l) (suc n) h = ap suc (ops-length l n (omega arith))

-- the words of a chunk that fits
pub draft_length : (l t : ℕ) (ks : Held (List Constant)) (os : List Op) (xs : List ℕ) → constants_fit ks ≡ true
    → length (one_words (held_draft l t ks os xs)) ≡ 1 + length (constants_words ks) + length os + 2 * length (trimmed xs)
draft_length l t hold_none os xs e = absurd (false≢true e)
draft_length l t (holds ks) os xs e =
    let d : Draft = record { locals = l; type = t; constants = ks; ops = os; extras = xs } in
    omega (arith, chunk-length (filed d), map-length op_word os)

-- a chunk's own are as long as it says, so that one that fits has no more words than this
module _ {h : Head} {lent own behind : Lent} (s : Splits h lent own behind) where
  pub own_long : (length own.constants.now ≡ 3 * h.constants) × (length own.ops.now ≡ 3 * h.ops)
  own_long = (
    ap length s.constants ∙ length-take-le (3 * h.constants) lent.constants.now s.has_own.0,
    ap length s.ops ∙ length-take-le (3 * h.ops) lent.ops.now s.has_own.1,
  )

  pub one_most : one_fits (own_of h own) ≡ true → length (one_words (own_of h own)) ≤ 1 + 4 * h.constants + 3 * h.ops
  one_most e =
      let ks = held_constants own.constants.now in
      let os = held_ops own.ops.now in
      let xs = own.extras.now in
      let fit = parts_fit h.locals h.mode ks os xs e in
      omega (arith, draft_length h.locals h.mode ks os xs fit.2, constants-length own.constants.now h.constants own_long.0 fit.2, ops-length own.ops.now h.ops own_long.1, fit.4)

-- a size that is told, and one that is not
pub size_told : (b : Bool) (n s : ℕ) → size_if b n ≡ found s → (b ≡ true) × (n ≡ s)
size_told true n s e = (refl, cc)
size_told false n s e = absurd (let z : ◌≡◌ {A = ℕ} 0 1 = cc in omega arith)

size_not : (b : Bool) (n : ℕ) → size_if b n ≡ nothing → b ≡ false
size_not true n e = absurd (let z : ◌≡◌ {A = ℕ} 0 1 = cc in omega arith)
size_not false n e = refl

-- chunks behind w words: the first of them, and the rest behind its words
module _ (w : ℕ) (d : Held Draft) (ds : Held (List Draft)) where
  abbrev behind : ℕ → Found
  behind n = size_if (all_fit ds && leb (w + (n + length (all_words ds))) most_words) (w + (n + length (all_words ds)))

  first_size : one_fits d ≡ true → size_from w (held_first d ds) ≡ behind (length (one_words d))
  first_size f =
      decide (all_fit ds)
      (λ e. rw (fits_first draft_fits d ds, f, e, words_first draft_fits filed_words d ds e f, length-append (one_words d) (all_words ds)))
      (λ e. rw (fits_first draft_fits d ds, f, e))

  module _ (s : ℕ) (e : one_size d ≡ found s) where
    told : (one_fits d ≡ true) × (length (one_words d) ≡ s)
    told = size_told (one_fits d) (length (one_words d)) s e

    pub size_on : size_from w (held_first d ds) ≡ size_from (w + s) ds
    size_on = first_size told.0 ∙ ap behind told.1 ∙ rw (← add_assoc w s (length (all_words ds)))

    pub size_over : most_words < w + s → size_from w (held_first d ds) ≡ nothing
    size_over h =
        size_on
        ∙ decide (all_fit ds) (λ f. rw (f, lt-leb (w + s + length (all_words ds)) most_words (omega arith))) (λ f. rw f)

  pub size_none : one_size d ≡ nothing → size_from w (held_first d ds) ≡ nothing
  size_none e = rw (fits_first draft_fits d ds, size_not (one_fits d) (length (one_words d)) e)

-- fewer than five numbers are no chunk; none are no chunks, if nothing is left over
pub few-chunks : (l ks os xs : List ℕ) → length l < 5
    → held l ks os xs ≡ held_if (eqb (length l) 0 && eqb (length ks) 0 && eqb (length os) 0 && eqb (length xs) 0) []
unfolding held
few-chunks [] ks os xs h = refl
few-chunks (l ∷ []) ks os xs h = refl
few-chunks (l ∷ t ∷ []) ks os xs h = refl
few-chunks (l ∷ t ∷ k ∷ []) ks os xs h = refl
few-chunks (l ∷ t ∷ k ∷ o ∷ []) ks os xs h = refl
few-chunks (l ∷ t ∷ k ∷ o ∷ x ∷ ns) ks os xs h = absurd (omega arith)

none_size : (w : ℕ) (b : Bool) → w ≤ most_words → size_from w (held_if b []) ≡ size_if b w
unfolding every flat_map
none_size w true h = rw (add-zero w, le-leb w most_words h)
none_size w false h = refl

pub size_end : (w i : ℕ) (chunks over ks os xs : List ℕ) → i ≡ length chunks / 5 → over ≡ drop (length chunks / 5 * 5) chunks → w ≤ most_words
    → size_from w (held (drop (i * 5) chunks) ks os xs) ≡ size_if (eqb (length over) 0 && eqb (length ks) 0 && eqb (length os) 0 && eqb (length xs) 0) w
size_end w i chunks over ks os xs at is h =
    let few : length (drop (length chunks / 5 * 5) chunks) < 5 = omega (arith, length-drop (length chunks / 5 * 5) chunks) in
    rw (at, is)
    (ap (size_from w) (few-chunks (drop (length chunks / 5 * 5) chunks) ks os xs few)
    ∙ none_size w (eqb (length (drop (length chunks / 5 * 5) chunks)) 0 && eqb (length ks) 0 && eqb (length os) 0 && eqb (length xs) 0) h)
