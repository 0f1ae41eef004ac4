-- A list read backwards, as `push` and `pop` leave it and `last` shows it: what is open stands in the code with the innermost last.
-- Assumes nothing.
use mathlib.Core.Path.{◌≡◌, refl, sym, ap, ◌∙◌}
use mathlib.Core.Bool.{true≢false}
use mathlib.Core.List.{List, [], ◌∷◌, ◌++◌, reverse}
use mathlib.Core.Logic.{◌↔◌}
use Prim.Native.Nat.{ℕ, suc, ◌-◌, ◌<◌}
use native.Mathlib.Nat.{sub-zero}
use native.Mathlib.Omega.{arith}
use lib.ListN.{length, length-reverse}
use Rattle.std.specs.Prelude.{Option, Some, None, IsSome, slice_get}
use Rattle.std.specs.Option.{option_to_list}
use Rattle.std.proofs.lemmas.List.{reverse-append, get_or-reverse}
use Rattle.std.proofs.lemmas.Option.{slice_get-get_or}

-- an element that is pushed stands first
pub reverse_push : (xs : List ℕ) (x : ℕ) → reverse (xs ++ x ∷ []) ≡ x ∷ reverse xs
reverse_push xs x = reverse-append xs (x ∷ [])

-- what `pop` leaves is what stood behind the first
pub reverse_pop : (xs rest : List ℕ) (last : Option ℕ) → xs ≡ rest ++ option_to_list last → IsSome last ↔ (0 < length xs)
    → {y : ℕ} {ys : List ℕ} → reverse xs ≡ y ∷ ys → reverse rest ≡ ys
reverse_pop xs rest None e some {ys = ys} is =
    let n : length xs ≡ suc (length ys) = sym (length-reverse xs) ∙ ap length is in
    absurd (true≢false (sym (some.1 (omega arith))))
reverse_pop xs rest (Some x) e some is = let first = reverse_push rest x in let same = rw e at is in cc

-- the last element stands first
pub reverse_last : (xs : List ℕ) → slice_get xs (length xs - 1) ≡ slice_get (reverse xs) 0
reverse_last [] = refl
reverse_last (x ∷ xs) =
    let all = x ∷ xs in
    slice_get-get_or all (length all - 1) 0 (omega arith) ∙ ap Some (sym (rw sub-zero at (get_or-reverse all 0 0 (omega arith))))
    ∙ sym (slice_get-get_or (reverse all) 0 0 (omega (arith, length-reverse all)))
