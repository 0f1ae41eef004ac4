-- What the program `shelf` writes: the numbers of an input cut apart, and the words of an outcome as bytes. Assumes nothing.
use mathlib.Core.Path.{◌≡◌, refl, sym, ap, ◌∙◌}
use mathlib.Core.Bool.{cond, ◌&&◌}
use mathlib.Core.List.{List, [], ◌∷◌}
use Prim.Native.Nat.{ℕ, ◌+◌, ◌-◌, ◌*◌, ◌%◌, ◌≤◌}
use native.Mathlib.Nat.{add_assoc, add-sub_cancel_left}
use native.Mathlib.Omega.{arith}
use borrow.Author.Tests.{eq-eqb, le-leb}
use lib.Dec.{eqb}
use lib.ListN.{length, take, drop, get_or, length-drop}
use lib.Seq.{take_all, take_at, drop-drop}
use Rattle.rules.specs.Limits.{most_words}
use Rattle.rules.specs.Outcome.{Outcome, answer, refused}
use Rattle.rules.specs.Text.{words_of, bytes_in, outcome_text}
use Rattle.rules.specs.Writing.{write_outcome, how_many, write_tray}
use Rattle.rules.specs.Shelf.{most_numbers, lists_outcome, numbers_outcome, shelf_outcome, filed_bytes, shelf_bytes}

-- a refusal of the writer is what is filed
pub refused_filed : (o : Outcome (List ℕ)) {n c p : ℕ} → refused n c p ≡ how_many o → filed_bytes o ≡ outcome_text (refused n c p)
refused_filed (answer ws) e = absurd (let z : ◌≡◌ {A = ℕ} 0 1 = cc in omega arith)
refused_filed (refused m d q) {n} {c} {p} e = let same : ◌≡◌ {A = Outcome (List ℕ)} (refused m d q) (refused n c p) = cc in ap filed_bytes same

-- and so are its words at the front of the tray
pub words_filed : (o : Outcome (List ℕ)) (tray : List ℕ) {n : ℕ} → answer n ≡ how_many o → bytes_in (take n (write_tray o tray)) ≡ filed_bytes o
words_filed (answer ws) tray {n} e = let m : length ws ≡ n = cc in ap bytes_in (take_at ws _ n m)
words_filed (refused m c p) tray e = absurd (let z : ◌≡◌ {A = ℕ} 0 1 = cc in omega arith)

-- five numbers, and the lists behind them
head_apart : (ns : List ℕ) → 5 ≤ length ns
    → numbers_outcome ns
    ≡ cond (eqb (get_or ns 0 0) 0 && eqb (get_or ns 1 0 + get_or ns 2 0 + get_or ns 3 0 + get_or ns 4 0) (length (drop 5 ns)))
    (lists_outcome (get_or ns 1 0) (get_or ns 2 0) (get_or ns 3 0) (drop 5 ns)) (refused 14 0 0)
head_apart [] l = absurd (omega arith)
head_apart (h ∷ []) l = absurd (omega arith)
head_apart (h ∷ c ∷ []) l = absurd (omega arith)
head_apart (h ∷ c ∷ k ∷ []) l = absurd (omega arith)
head_apart (h ∷ c ∷ k ∷ o ∷ []) l = absurd (omega arith)
head_apart (h ∷ c ∷ k ∷ o ∷ x ∷ ns) l = refl

-- bytes of whole numbers, of no more than can be read
all_numbers : (bytes : List ℕ) → length bytes % 4 ≡ 0 → length bytes ≤ 4 * most_numbers → numbers_outcome (words_of bytes) ≡ shelf_outcome bytes
all_numbers bytes h l = rw (eq-eqb (length bytes % 4) 0 h, le-leb (length bytes) (4 * most_numbers) l)

-- where the lists start behind the five numbers, and where the last one ends
abbrev constants : List ℕ → ℕ
constants ns = 5 + get_or ns 1 0

abbrev ops : List ℕ → ℕ
ops ns = constants ns + get_or ns 2 0

abbrev extras : List ℕ → ℕ
extras ns = ops ns + get_or ns 3 0

abbrev end : List ℕ → ℕ
end ns = extras ns + get_or ns 4 0

-- what the writer makes of the four lists
abbrev pub written : List ℕ → Outcome (List ℕ)
written ns =
    write_outcome (take (constants ns - 5) (drop 5 ns)) (take (ops ns - constants ns) (drop (constants ns) ns)) (take (extras ns - ops ns) (drop (ops ns) ns))
    (take (length ns - extras ns) (drop (extras ns) ns)) most_words

-- numbers that the lengths cut apart
lists_apart : (ns : List ℕ) → 5 ≤ length ns → get_or ns 0 0 ≡ 0 → end ns ≡ length ns → written ns ≡ numbers_outcome ns
lists_apart ns some h e =
    let n = length-drop 5 ns in
    let lengths = get_or ns 1 0 + get_or ns 2 0 + get_or ns 3 0 + get_or ns 4 0 in
    rw (
      head_apart ns some,
      eq-eqb (get_or ns 0 0) 0 h,
      eq-eqb lengths (length (drop 5 ns)) (omega arith),
      take_all (length ns - extras ns) (drop (extras ns) ns) (omega (arith, length-drop (extras ns) ns)),
    )
    (simp add-sub_cancel_left (simp (drop-drop, add_assoc)))

-- bytes of such numbers are filed as what the writer makes of them
pub filed_apart : (bytes ns : List ℕ) → length bytes % 4 ≡ 0 → length bytes ≤ 4 * most_numbers → ns ≡ words_of bytes → 5 ≤ length ns → get_or ns 0 0 ≡ 0
    → end ns ≡ length ns → shelf_bytes bytes ≡ filed_bytes (written ns)
filed_apart bytes ns whole few is some h e = sym (ap filed_bytes (lists_apart ns some h e ∙ ap numbers_outcome is ∙ all_numbers bytes whole few))
