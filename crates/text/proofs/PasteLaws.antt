-- Laws of `pasted`: its length, what stands in front of its end and beyond, stores and a list put in the middle as a paste, and two pastes in a row as one.
-- Assumes nothing.
use mathlib.Core.Path.{◌≡◌, refl, ap, ◌∙◌}
use mathlib.Core.List.{List, [], ◌∷◌, ◌++◌, append_assoc}
use Prim.Native.Nat.{ℕ, ◌+◌, ◌≤◌, ◌<◌}
use native.Mathlib.Nat.{add-zero, zero-add, add_assoc}
use native.Mathlib.Omega.{arith}
use borrow.Rule.Slice.PartMut.{put_mid}
use lib.ListN.{length, set, take, drop, length-append, length-take, length-drop, take-append-drop}
use lib.Seq.{sets, sets-eq, take-append-le, drop-append-le, take_at, drop_at, drop-drop}
use Rattle.text.specs.Paste.{pasted, Put}

-- nothing pasted leaves the list
pub pasted_none : (at : ℕ) (l : List ℕ) → pasted at [] l ≡ l
unfolding pasted
pasted_none at l = rw add-zero (take-append-drop at l)

-- stores in a row are a paste, and so is one
pub pasted_stores : (at : ℕ) (xs l : List ℕ) → at + length xs ≤ length l → sets l at xs ≡ pasted at xs l
unfolding pasted
pasted_stores at xs l fits = sets-eq xs l at fits ∙ append_assoc (take at l) xs (drop (at + length xs) l)

-- one store is a paste of one
pub pasted-one : (at b : ℕ) (l : List ℕ) → at < length l → set l at b ≡ pasted at (b ∷ []) l
pasted-one at b l h = pasted_stores at (b ∷ []) l (omega arith)

-- a paste by its parts
spelt : (at : ℕ) (xs l : List ℕ) → pasted at xs l ≡ take at l ++ (xs ++ drop (at + length xs) l)
unfolding pasted
spelt at xs l = refl

-- a paste at the front
pub pasted_first : (xs l : List ℕ) → pasted 0 xs l ≡ xs ++ drop (length xs) l
unfolding pasted
pasted_first xs l = rw zero-add

-- what was put at the front stands there
pub put_taken : (xs l : List ℕ) {m : List ℕ} {k : ℕ} → Put 0 xs l m k → take k m ≡ xs
put_taken xs l p = rw (p.0, p.1, zero-add (length xs), pasted_first xs l) (take_at xs (drop (length xs) l) (length xs) refl)

-- a list put in the middle of another is a paste
pub mid_pasted : (at k : ℕ) (xs l : List ℕ) → k ≡ length xs → put_mid at k l xs ≡ pasted at xs l
unfolding pasted
mid_pasted at k xs l e = rw e (ap (λ (t : List ℕ). take at l ++ (xs ++ t)) (drop-drop (length xs) at l))

-- a text at the front, by another name
pub same_text : (xs ys l : List ℕ) {m : List ℕ} {r : ℕ} → Put 0 xs l m r → xs ≡ ys → (m ≡ pasted 0 ys l) × (r ≡ length ys)
same_text xs ys l p e = (p.0 ∙ ap (λ (t : List ℕ). pasted 0 t l) e, omega (arith, p.1, ap length e))

module _ (at : ℕ) (xs l : List ℕ) (fits : at + length xs ≤ length l) where
  -- a paste keeps the length
  pub pasted_length : length (pasted at xs l) ≡ length l
  unfolding pasted
  pasted_length = simp (length-append, length-take, length-drop) (omega arith)

  -- how long the part up to the end of what was pasted is
  long : length (take at l ++ xs) ≡ at + length xs
  long = simp (length-append, length-take) (omega arith)

  -- what stands up to the end of what was pasted
  front : take (at + length xs) (pasted at xs l) ≡ take at l ++ xs
  unfolding pasted
  front = rw (← append_assoc (take at l) xs) (take_at (take at l ++ xs) _ _ long)

  -- what lies beyond is left
  beyond : drop (at + length xs) (pasted at xs l) ≡ drop (at + length xs) l
  unfolding pasted
  beyond = rw (← append_assoc (take at l) xs) (drop_at (take at l ++ xs) _ _ long)

  -- what stands behind the list is left
  pub pasted-before : (rest : List ℕ) → pasted at xs (l ++ rest) ≡ pasted at xs l ++ rest
  unfolding pasted
  pasted-before rest =
      let near : at ≤ length l = omega arith in
      simp (take-append-le at l rest near, drop-append-le (at + length xs) l rest fits, append_assoc)

  -- what lies further beyond is left
  behind : (n : ℕ) → drop (at + length xs + n) (pasted at xs l) ≡ drop (at + length xs + n) l
  behind n = rw (← drop-drop n (at + length xs) (pasted at xs l), ← drop-drop n (at + length xs) l, beyond)

  -- one paste right behind another
  pub pasted_twice : (ys : List ℕ) → pasted (at + length xs) ys (pasted at xs l) ≡ pasted at (xs ++ ys) l
  pasted_twice ys =
      rw (spelt (at + length xs) ys (pasted at xs l), spelt at (xs ++ ys) l, front, behind (length ys))
      (simp (length-append, append_assoc, add_assoc))

-- one store more at the end of a paste
pub pasted_next : (at b : ℕ) (xs l : List ℕ) → at + length xs < length l → set (pasted at xs l) (at + length xs) b ≡ pasted at (xs ++ (b ∷ [])) l
pasted_next at b xs l h =
    let fits : at + length xs ≤ length l = omega arith in
    pasted-one (at + length xs) b (pasted at xs l) (omega (arith, pasted_length at xs l fits)) ∙ pasted_twice at xs l fits (b ∷ [])

-- one text behind the other
pub then : (at : ℕ) (xs ys l : List ℕ) {m n : List ℕ} {p q : ℕ} → at + length xs ≤ length l
    → Put at xs l m p → Put p ys m n q → Put at (xs ++ ys) l n q
then at xs ys l fits f g = (g.0 ∙ simp (f.0, f.1) (pasted_twice at xs l fits ys), simp length-append (omega arith))
