-- What stands first in a list that is lent, in front of what is behind it. Assumes nothing.
use mathlib.Core.Path.{◌≡◌, refl, sym, ap, ◌∙◌}
use mathlib.Core.Bool.{Bool, true, false, ◌&&◌, false≢true, and-eq-true_iff}
use mathlib.Core.List.{List, [], ◌∷◌, ◌++◌, flat_map}
use Prim.Native.Nat.{ℕ, zero, suc, ◌+◌, ◌-◌, ◌*◌, ◌/◌, ◌<◌, ◌≤◌}
use native.Mathlib.Omega.{arith}
use borrow.Author.Tests.{leb-true, le-leb}
use lib.Dec.{eqb, leb}
use lib.ListN.{length, take, drop, get_or}
use Rattle.std.specs.Simd.{first_chunks}
use Rattle.std.proofs.lemmas.List.{take_rest}
use Rattle.rules.specs.Writing.{Held, holds, hold_none, held_if, held_first, every, held_constants, held_ops, held_front, held}
use Rattle.words.proofs.Cases.{decide}
use Rattle.writer.specs.declared.lent.Head.{Head}
use Rattle.writer.specs.declared.lent.Lent.{Lent}
use Rattle.writer.specs.Size.{held_fits, held_words, all_fit}
use Rattle.writer.specs.Lent.{head_of, HasOwn, Splits, own_of}

-- what a pattern of n elements leaves of a list
abbrev pub behind : ℕ → List ℕ → List ℕ
behind n l = take (length l - n) (drop n l)

-- three numbers, and those behind them
pub three_first : (l : List ℕ) → 3 ≤ length l → l ≡ get_or l 0 0 ∷ get_or l 1 0 ∷ get_or l 2 0 ∷ behind 3 l
three_first l h = go l h ∙ rw (take_rest l 3)
  where
    go : (l : List ℕ) → 3 ≤ length l → l ≡ get_or l 0 0 ∷ get_or l 1 0 ∷ get_or l 2 0 ∷ drop 3 l
    go [] h = absurd (omega arith)
    go (a ∷ []) h = absurd (omega arith)
    go (a ∷ b ∷ []) h = absurd (omega arith)
    go (a ∷ b ∷ c ∷ l) h = refl

-- fewer than three numbers are no constant and no op
pub few-held : (l : List ℕ) → length l < 3 → (held_constants l ≡ held_if (eqb (length l) 0) []) × (held_ops l ≡ [])
unfolding held_constants held_ops
few-held [] h = (refl, refl)
few-held (t ∷ []) h = (refl, refl)
few-held (t ∷ low ∷ []) h = (refl, refl)
few-held (t ∷ low ∷ high ∷ l) h = absurd (omega arith)

-- the numbers from the i-th three of them on: they stand first
three_at : (i k : ℕ) (l : List ℕ) → k ≡ length l / 3 → i < k → let three = get_or (first_chunks 3 k l) i [] in
    drop (i * 3) l ≡ get_or three 0 0 ∷ get_or three 1 0 ∷ get_or three 2 0 ∷ drop ((i + 1) * 3) l
three_at i zero l e h = absurd (omega arith)
three_at i (suc k) [] e h = absurd (omega arith)
three_at i (suc k) (t ∷ []) e h = absurd (omega arith)
three_at i (suc k) (t ∷ low ∷ []) e h = absurd (omega arith)
three_at zero (suc k) (t ∷ low ∷ high ∷ l) e h = refl
three_at (suc i) (suc k) (t ∷ low ∷ high ∷ l) e h =
    let n : suc i * 3 ≡ suc (suc (suc (i * 3))) = omega arith in
    let m : (suc i + 1) * 3 ≡ suc (suc (suc ((i + 1) * 3))) = omega arith in
    rw (n, m) (three_at i k l (omega arith) (omega arith))

-- by what a loop over them knows at a turn
pub three_left : (l : List ℕ) {threes : List (List ℕ)} {i : ℕ} → threes ≡ first_chunks 3 (length l / 3) l → length threes ≡ length l / 3 → i < length threes
    → drop (i * 3) l ≡ get_or (get_or threes i []) 0 0 ∷ get_or (get_or threes i []) 1 0 ∷ get_or (get_or threes i []) 2 0 ∷ drop ((i + 1) * 3) l
three_left l {threes} {i} front long here = rw front (three_at i (length l / 3) l refl (omega arith))

-- a head's five numbers, in front of those of other chunks
abbrev pub ahead : Head → List ℕ → List ℕ
ahead h more = h.locals ∷ h.mode ∷ h.constants ∷ h.ops ∷ h.extras ∷ more

-- the chunks from the one at place i on: its five numbers stand first
five_left : (i k : ℕ) (chunks : List ℕ) → k ≡ length chunks / 5 → i < k
    → drop (i * 5) chunks ≡ ahead (head_of (get_or (first_chunks 5 k chunks) i [])) (drop ((i + 1) * 5) chunks)
five_left i zero chunks e h = absurd (omega arith)
five_left i (suc k) [] e h = absurd (omega arith)
five_left i (suc k) (l ∷ []) e h = absurd (omega arith)
five_left i (suc k) (l ∷ t ∷ []) e h = absurd (omega arith)
five_left i (suc k) (l ∷ t ∷ c ∷ []) e h = absurd (omega arith)
five_left i (suc k) (l ∷ t ∷ c ∷ o ∷ []) e h = absurd (omega arith)
five_left zero (suc k) (l ∷ t ∷ c ∷ o ∷ x ∷ ns) e h = refl
five_left (suc i) (suc k) (l ∷ t ∷ c ∷ o ∷ x ∷ ns) e h =
    let n : suc i * 5 ≡ suc (suc (suc (suc (suc (i * 5))))) = omega arith in
    let m : (suc i + 1) * 5 ≡ suc (suc (suc (suc (suc ((i + 1) * 5))))) = omega arith in
    rw (n, m) (five_left i k ns (omega arith) (omega arith))

-- by what the loop over them knows at a turn: the head is made of that turn's five numbers
pub first_left : (chunks : List ℕ) {fives : List (List ℕ)} {i : ℕ} {h : Head} → fives ≡ first_chunks 5 (length chunks / 5) chunks → length fives ≡ length chunks / 5
    → i < length fives → h ≡ head_of (get_or fives i []) → drop (i * 5) chunks ≡ ahead h (drop ((i + 1) * 5) chunks)
first_left chunks {fives} {i} {h} front long here is = rw (is, front) (five_left i (length chunks / 5) chunks refl (omega arith))

module _ {chunks more : List ℕ} {h : Head} (is : chunks ≡ ahead h more) where
  module _ (ks os xs : List ℕ) where
    -- the first chunk takes its own, and those behind it take theirs from what is left
    first_front : held chunks ks os xs
        ≡ held_first (held_front h.locals h.mode h.constants h.ops h.extras ks os xs)
        (held more (drop (3 * h.constants) ks) (drop (3 * h.ops) os) (drop h.extras xs))
    unfolding held
    first_front = ap (λ (l : List ℕ). held l ks os xs) is

    -- the lists have as many numbers as the first chunk says, or nothing is held
    own_cases : {P : Type 0} → (HasOwn h ks os xs → P) → (held chunks ks os xs ≡ hold_none → P) → P
    own_cases there none =
        decide (leb (3 * h.constants) (length ks) && leb (3 * h.ops) (length os) && leb h.extras (length xs))
        (λ f. let ((k, o), x) = simp and-eq-true_iff at f in
        there (leb-true (3 * h.constants) (length ks) k, leb-true (3 * h.ops) (length os) o, leb-true h.extras (length xs) x))
        (λ f. none (first_front ∙ rw f))

    -- where they have not, nothing is held
    pub not_own : (HasOwn h ks os xs → ⊥) → held chunks ks os xs ≡ hold_none
    not_own short = own_cases (λ h. absurd (short h)) (λ e. e)

    -- where all fits, they have
    pub has_own : all_fit (held chunks ks os xs) ≡ true → HasOwn h ks os xs
    has_own fits = own_cases (λ h. h) (λ e. absurd (false≢true (ap all_fit (sym e) ∙ fits)))

  -- the first chunk by its own, and the chunks behind it
  pub first_own : (lent own behind_it : Lent) → Splits h lent own behind_it
      → held chunks lent.constants.now lent.ops.now lent.extras.now
      ≡ held_first (own_of h own) (held more behind_it.constants.now behind_it.ops.now behind_it.extras.now)
  first_own lent own behind_it s =
      let (k, o, x) = s.has_own in
      first_front lent.constants.now lent.ops.now lent.extras.now
      ∙ rw (s.constants, s.ops, s.extras, s.more_constants, s.more_ops, s.more_extras, le-leb (3 * h.constants) (length lent.constants.now) k, le-leb (3 * h.ops) (length lent.ops.now) o, le-leb h.extras (length lent.extras.now) x)

-- tests and words of what stands first and of the rest
module _ {A : Type 0} where
  pub fits_first : (f : A → Bool) (x : Held A) (xs : Held (List A)) → held_fits (every f) (held_first x xs) ≡ (held_fits f x && held_fits (every f) xs)
  unfolding every
  fits_first f (holds x) (holds xs) = refl
  fits_first f (holds x) hold_none = go (f x)
    where
      go : (b : Bool) → false ≡ (b && false)
      go true = refl
      go false = refl
  fits_first f hold_none xs = refl

  pub words_first : (f : A → Bool) (g : A → List ℕ) (x : Held A) (xs : Held (List A)) → held_fits (every f) xs ≡ true → held_fits f x ≡ true
      → held_words (flat_map g) (held_first x xs) ≡ held_words g x ++ held_words (flat_map g) xs
  unfolding flat_map
  words_first f g (holds x) (holds xs) e d = refl
  words_first f g (holds x) hold_none e d = absurd (false≢true e)
  words_first f g hold_none xs e d = absurd (false≢true d)
