-- Words that are written part after part: what is still to be written, from where the last part ends. Assumes nothing.
use mathlib.Core.Path.{◌≡◌, refl, sym, ap, ◌∙◌}
use mathlib.Core.Bool.{Bool, true, false, ◌&&◌, false≢true, and-eq-true_iff}
use mathlib.Core.List.{List, [], ◌∷◌, ◌++◌, map, flat_map}
use Prim.Native.Nat.{ℕ, ◌+◌, ◌*◌, ◌/◌, ◌%◌, ◌^◌, ◌<◌, ◌≤◌}
use native.Mathlib.Numerals.{add-one, towards_suc}
use native.Mathlib.Omega.{arith}
use borrow.Author.Tests.{eqb-true, ltb-true}
use lib.Dec.{eqb, ltb}
use lib.ListN.{length, set, drop, get_or, length-append, drop_of_length-le}
use lib.Seq.{drop-cons}
use Rattle.std.specs.Simd.{first_chunks}
use Rattle.rules.specs.Ops.{word, is_op}
use Rattle.rules.specs.Form.{Constant, constant_words, extra_words}
use Rattle.rules.specs.Writing.{Op, Draft, Held, holds, hold_none, held_if, held_first, trimmed, op_word, every, constant_fits, op_fits, draft_fits, held_constant, held_constants, held_ops, held_draft, held}
use Rattle.rules.proofs.Flags.{both}
use Rattle.rules.proofs.WordFields.{kind-word, op_kind}
use Rattle.rules.proofs.ConstantWords.{bits_signed}
use Rattle.words.proofs.Cases.{decide}
use Rattle.text.specs.Paste.{pasted, Put}
use Rattle.writer.specs.declared.lent.Head.{Head}
use Rattle.writer.specs.declared.lent.Lent.{Lent}
use Rattle.writer.specs.Size.{held_fits, held_words, four_words, constants_fit, constants_words, filed_words, one_fits, one_words, all_fit, all_words}
use Rattle.writer.specs.Lent.{own_of}
use Rattle.writer.proofs.HeldLaws.{behind, three_first, three_left, few-held, fits_first, words_first}
use Rattle.writer.proofs.FitLaws.{op_first}
use Rattle.writer.proofs.SizeLaws.{parts_fit, few-chunks}
use Rattle.text.proofs.PasteLaws.{pasted_none, pasted_stores, pasted_length, pasted_twice}

-- `all` is to be written over l at place at; l has become m, and `rest` is left to be written at place p
pub record Left (at : ℕ) (all l : List ℕ) (p : ℕ) (rest m : List ℕ) : Type 0 where
  pub room : p + length rest ≤ length m
  pub same : pasted p rest m ≡ pasted at all l
  pub ends : p + length rest ≡ at + length all
  pub long : length m ≡ length l

pub left_all : (at : ℕ) (l : List ℕ) {all rest : List ℕ} → all ≡ rest → at + length all ≤ length l → Left at all l at rest l
left_all at l e h = record { room = rw (← e) h; same = rw (← e); ends = rw (← e); long = refl }

module _ {at : ℕ} {all l : List ℕ} {p : ℕ} {m : List ℕ} where
  pub left_more : (xs rest : List ℕ) {n : List ℕ} {q : ℕ} → Left at all l p (xs ++ rest) m → Put p xs m n q → Left at all l q rest n
  left_more xs rest left (is, next) =
      let fits : p + length xs ≤ length m = omega (arith, left.room, length-append xs rest) in
      let n = length-append xs rest in
      record {
        room = rw (is, pasted_length p xs m fits) (omega (arith, left.room));
        same = rw (is, next) (pasted_twice p xs m fits rest ∙ left.same);
        ends = omega (arith, left.ends);
        long = rw is (pasted_length p xs m fits ∙ left.long);
      }

  pub left_last : (xs : List ℕ) {n : List ℕ} {q : ℕ} → Left at all l p xs m → Put p xs m n q → Put at all l n q
  left_last xs left (is, next) = (is ∙ left.same, omega (arith, left.ends))

  pub left_none : Left at all l p [] m → Put at all l m p
  left_none left = (sym (pasted_none p m) ∙ left.same, omega (arith, left.ends))

-- two stores in a row
pub two_stores : (at x y : ℕ) (l : List ℕ) → at + 2 ≤ length l → set (set l at x) (at + 1) y ≡ pasted at (x ∷ y ∷ []) l
two_stores at x y l h = simp towards_suc (pasted_stores at (x ∷ y ∷ []) l h)

-- the constants, ops and extras that are left to be written, from the first on
module _ (t low high : ℕ) (e : held_fits constant_fits (held_constant t low high) ≡ true) where
  constant_kind : t ≤ 1
  constant_kind =
      decide (eqb t 0) (λ z. omega (arith, eqb-true t 0 z))
      (λ z. decide (eqb t 1 && eqb low 0 && eqb high 0)
      (λ o. let ((t1, l0), h0) = simp and-eq-true_iff at o in omega (arith, eqb-true t 1 t1))
      (λ o. absurd (false≢true (rw (z, o) at e))))

  constant_words_lem : low < 2 ^ 32 → high < 2 ^ 32 → held_words constant_words (held_constant t low high) ≡ four_words (202 + t) low high
  constant_words_lem l h =
      decide (eqb t 0)
      (λ z. let n = low + 2 ^ 32 * high in rw (z, eqb-true t 0 z, (bits_signed n (omega arith)).1) (halves l h))
      (λ z. decide (eqb t 1 && eqb low 0 && eqb high 0)
      (λ o. let ((t1, l0), h0) = simp and-eq-true_iff at o in rw (z, o, eqb-true t 1 t1, eqb-true low 0 l0, eqb-true high 0 h0))
      (λ o. absurd (false≢true (rw (z, o) at e))))
    where
      part : (x y : ℕ) → x < 65536 → (x + 65536 * y) % 65536 ≡ x
      part x y h = omega arith

      small : (x : ℕ) → x < 65536 → x % 65536 ≡ x
      small x h = omega arith

      halves : low < 2 ^ 32 → high < 2 ^ 32 → let n = low + 2 ^ 32 * high in
          (word 202 0 (n % 65536) ∷ word 202 1 (n / 65536 % 65536) ∷ word 202 2 (n / 2 ^ 32 % 65536) ∷ word 202 3 (n / 2 ^ 48 % 65536) ∷ [])
          ≡ four_words 202 low high
      halves l h =
          let n = low + 2 ^ 32 * high in
          let a : n % 65536 ≡ low % 65536 = omega arith in
          let b : n / 65536 ≡ low / 65536 + 65536 * high = omega arith in
          let b' : n / 65536 % 65536 ≡ low / 65536 = rw b (part (low / 65536) high (omega arith)) in
          let c : n / 2 ^ 32 ≡ high = omega arith in
          let d : n / 2 ^ 48 ≡ high / 65536 = omega arith in
          let d' : n / 2 ^ 48 % 65536 ≡ high / 65536 = rw d (small (high / 65536) (omega arith)) in
          rw (a, b', c, d')

-- the first constant fits, and so do those behind it, with their words
constant_first_left : (t low high : ℕ) (rest : List ℕ) → constants_fit (held_constants (t ∷ low ∷ high ∷ rest)) ≡ true
    → (t ≤ 1) × (constants_fit (held_constants rest) ≡ true)
    × (low < 2 ^ 32 → high < 2 ^ 32 → constants_words (held_constants (t ∷ low ∷ high ∷ rest)) ≡ four_words (202 + t) low high ++ constants_words (held_constants rest))
unfolding held_constants
constant_first_left t low high rest e =
    let k = held_constant t low high in
    let ks = held_constants rest in
    let (one, all) = both (held_fits constant_fits k) (constants_fit ks) (sym (fits_first constant_fits k ks) ∙ e) in (
      constant_kind t low high one,
      all,
      λ l h. words_first constant_fits constant_words k ks all one ∙ ap (λ (ws : List ℕ). ws ++ constants_words ks) (constant_words_lem t low high one l h),
    )

-- by what a loop over the constants knows at a turn
pub constant_left : (l : List ℕ) {threes : List (List ℕ)} {i : ℕ} → threes ≡ first_chunks 3 (length l / 3) l → length threes ≡ length l / 3 → i < length threes
    → constants_fit (held_constants (drop (i * 3) l)) ≡ true
    → let three = get_or threes i [] in let more = held_constants (drop ((i + 1) * 3) l) in
    (get_or three 0 0 ≤ 1) × (constants_fit more ≡ true)
    × (get_or three 1 0 < 2 ^ 32 → get_or three 2 0 < 2 ^ 32
    → constants_words (held_constants (drop (i * 3) l)) ≡ four_words (202 + get_or three 0 0) (get_or three 1 0) (get_or three 2 0) ++ constants_words more)
constant_left l {threes} {i} front long here e =
    let three = get_or threes i [] in
    let is = three_left l front long here in
    rw is (constant_first_left (get_or three 0 0) (get_or three 1 0) (get_or three 2 0) (drop ((i + 1) * 3) l) (rw is at e))

module _ (l : List ℕ) (h : 3 ≤ length l) where
  pub op_left : every op_fits (held_ops l) ≡ true → let k = get_or l 0 0 in let a = get_or l 1 0 in let b = get_or l 2 0 in
      (k ≤ 65) × (a < 65536) × (b < 256) × (every op_fits (held_ops (behind 3 l)) ≡ true)
      × (map op_word (held_ops l) ≡ (word k b a ∷ []) ++ map op_word (held_ops (behind 3 l)))
  unfolding held_ops
  op_left e =
      let k = get_or l 0 0 in
      let a = get_or l 1 0 in
      let b = get_or l 2 0 in
      let (first, rest) = both (op_fits (record { kind = k; a = a; b = b })) (every op_fits (held_ops (behind 3 l))) (sym (op_first l h) ∙ e) in
      let (ab, is) = both (ltb a 65536 && ltb b 256) (is_op (word k b a)) first in
      let (fa, fb) = both (ltb a 65536) (ltb b 256) ab in
      let ha = ltb-true a 65536 fa in
      let hb = ltb-true b 256 fb in
      (omega (arith, op_kind (word k b a) is, kind-word k b a hb ha), ha, hb, rest, ap (λ (l : List ℕ). map op_word (held_ops l)) (three_first l h))

-- at the end of a list there are no words
module _ (l : List ℕ) (few : length l < 3) where
  pub constants_none : constants_words (held_constants l) ≡ []
  unfolding flat_map
  constants_none = ap constants_words (few-held l few).0 ∙ go (eqb (length l) 0)
    where
      go : (b : Bool) → constants_words (held_if b []) ≡ []
      go true = refl
      go false = refl

  pub ops_none : map op_word (held_ops l) ≡ []
  ops_none = ap (map op_word) (few-held l few).1

module _ (l : List ℕ) (i : ℕ) where
  pub extra_left : i < length l → get_or l i 0 < 2 ^ 32
      → flat_map extra_words (drop i l) ≡ (word 204 0 (get_or l i 0 % 65536) ∷ word 204 1 (get_or l i 0 / 65536) ∷ []) ++ flat_map extra_words (drop (i + 1) l)
  unfolding flat_map
  extra_left h small =
      let high : get_or l i 0 / 65536 % 65536 ≡ get_or l i 0 / 65536 = omega arith in
      rw (drop-cons l i 0 h, add-one i, high)

  pub extras_none : length l ≤ i → flat_map extra_words (drop i l) ≡ []
  unfolding flat_map
  extras_none h = rw (drop_of_length-le l h)

-- What a chunk that fits says of its own: its words are the head's, the constants', the ops' and those of the extras that are kept.
pub record Own (h : Head) (own : Lent) : Type 0 where
  pub locals : h.locals < 65536
  pub mode : h.mode ≤ 2
  pub constants : constants_fit (held_constants own.constants.now) ≡ true
  pub ops : every op_fits (held_ops own.ops.now) ≡ true
  pub words : one_words (own_of h own)
      ≡ (word 200 h.mode h.locals ∷ [])
      ++ (constants_words (held_constants own.constants.now)
      ++ (map op_word (held_ops own.ops.now) ++ flat_map extra_words (trimmed own.extras.now)))

draft_words_lem : (l t : ℕ) (ks : Held (List Constant)) (os : List Op) (xs : List ℕ) → constants_fit ks ≡ true
    → one_words (held_draft l t ks os xs) ≡ (word 200 t l ∷ []) ++ (constants_words ks ++ (map op_word os ++ flat_map extra_words (trimmed xs)))
draft_words_lem l t (holds ks) os xs e = refl
draft_words_lem l t hold_none os xs e = absurd (false≢true e)

pub own_parts : (h : Head) (own : Lent) → one_fits (own_of h own) ≡ true → Own h own
own_parts h own e =
    let constants = held_constants own.constants.now in
    let ops = held_ops own.ops.now in
    let extras = own.extras.now in
    let fit = parts_fit h.locals h.mode constants ops extras e in
    record {
      locals = fit.0;
      mode = fit.1;
      constants = fit.2;
      ops = fit.3;
      words = draft_words_lem h.locals h.mode constants ops extras fit.2;
    }

-- chunks that fit: the first of them and the rest, each with its words
pub first_fits : (d : Held Draft) (ds : Held (List Draft)) → all_fit (held_first d ds) ≡ true
    → (one_fits d ≡ true) × (all_fit ds ≡ true) × (all_words (held_first d ds) ≡ one_words d ++ all_words ds)
first_fits d ds e =
    let (one, all) = both (one_fits d) (all_fit ds) (sym (fits_first draft_fits d ds) ∙ e) in
    (one, all, words_first draft_fits filed_words d ds all one)

-- fewer than five numbers have no chunk's words
pub chunks_none : (l ks os xs : List ℕ) → length l < 5 → all_words (held l ks os xs) ≡ []
unfolding flat_map
chunks_none l ks os xs h = ap all_words (few-chunks l ks os xs h) ∙ go (eqb (length l) 0 && eqb (length ks) 0 && eqb (length os) 0 && eqb (length xs) 0)
  where
    go : (b : Bool) → all_words (held_if b []) ≡ []
    go true = refl
    go false = refl
