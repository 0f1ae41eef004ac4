-- Bytes cut at a stop: what stands before the first one in std's words, the first line of some bytes, and a line's fields as std's parts.
-- Assumes nothing.
use mathlib.Core.Path.{◌≡◌, refl, sym, ◌∙◌}
use mathlib.Core.Bool.{not}
use mathlib.Core.List.{List, [], ◌∷◌}
use Prim.Native.Nat.{ℕ, suc, ◌+◌, ◌<◌, ◌≤◌}
use native.Mathlib.Numerals.{one-add}
use native.Mathlib.Omega.{arith}
use borrow.Author.Tests.{ltb-false}
use lib.Dec.{eqb, ltb}
use lib.ListN.{length, take, drop, drop_of_length-le}
use lib.Seq.{take_all}
use Rattle.std.specs.Prelude.{Some, None}
use Rattle.std.specs.List.{slice_split, onto_first, position, position_or_len}
use Rattle.std.proofs.lemmas.Option.{cond_some, none-some}
use Rattle.rules.specs.Reading.{take_while}
use Rattle.rules.specs.Text.{space, newline}
use Rattle.rules.specs.Table.{head_onto, lines_of, fields_of}
use Rattle.words.proofs.Cases.{decide}
use Rattle.words.proofs.RunLaws.{run_count}
use Rattle.groups.specs.Line.{before}

-- what stands before the first stop is the front up to std's place of it
before_front : (s : ℕ) (xs : List ℕ) → before s xs ≡ take (position_or_len (λ x. eqb x s) xs) xs
unfolding take_while
before_front s [] = refl
before_front s (x ∷ xs) = decide (eqb x s) (λ e. rw e) (λ e. rw (e, before_front s xs, one-add))

-- so long is it
before_length : (s : ℕ) (xs : List ℕ) → length (before s xs) ≡ position_or_len (λ x. eqb x s) xs
before_length s xs = run_count (λ x. not (eqb x s)) xs

module _ (s : ℕ) (xs : List ℕ) where
  -- where a stop is found, it is cut there
  pub cut_found : (at : ℕ) → position (λ x. eqb x s) xs ≡ Some at → (take at xs ≡ before s xs) × (drop (at + 1) xs ≡ drop (suc (length (before s xs))) xs)
  cut_found at e =
      let here : position_or_len (λ x. eqb x s) xs ≡ at = (cond_some _ _ _ e).1 in
      let next : at + 1 ≡ suc (length (before s xs)) = omega (arith, before_length s xs) in
      (rw (before_front s xs, here), rw next)

  -- where none is, all stands before it
  pub cut_none : position (λ x. eqb x s) xs ≡ None → (xs ≡ before s xs) × ([] ≡ drop (suc (length (before s xs))) xs)
  cut_none e =
      decide (ltb (position_or_len (λ x. eqb x s) xs) (length xs)) (λ t. absurd (none-some _ (sym (rw t at e))))
      (λ f. let far = ltb-false _ _ f in
      let past : length xs ≤ suc (length (before s xs)) = omega (arith, before_length s xs) in
      (sym (before_front s xs ∙ take_all _ xs far), sym (drop_of_length-le xs past)))

-- the first line of some bytes, and the lines behind it
pub line_before : (xs : List ℕ) → 0 < length xs → lines_of xs ≡ before newline xs ∷ lines_of (drop (suc (length (before newline xs))) xs)
unfolding lines_of take_while
line_before [] h = absurd (omega arith)
line_before (x ∷ []) h = decide (eqb x newline) (λ e. rw e) (λ e. rw e)
line_before (x ∷ y ∷ ys) h = decide (eqb x newline) (λ e. rw e) (λ e. rw (e, line_before (y ∷ ys) (omega arith)))

-- a byte goes onto the first piece as in std
onto_same : (x : ℕ) (parts : List (List ℕ)) → head_onto x parts ≡ onto_first x parts
onto_same x [] = refl
onto_same x (part ∷ parts) = refl

-- the fields of a line are the parts that std cuts at spaces
pub fields_parts : (xs : List ℕ) → fields_of xs ≡ slice_split (λ x. eqb x space) xs
unfolding fields_of
fields_parts [] = refl
fields_parts (x ∷ xs) = rw (fields_parts xs, onto_same)
