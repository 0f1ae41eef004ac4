-- Ops none of which sets a slot, told by the words that the code reads; and a search that passes over them.
-- Assumes nothing.
use mathlib.Core.Path.{◌≡◌, refl, sym, ◌∙◌}
use mathlib.Core.Bool.{Bool, true, false, not, ◌&&◌, ◌||◌, and-true, and-false, and_assoc}
use mathlib.Core.List.{List}
use Prim.Native.Nat.{ℕ, zero, suc, ◌+◌, ◌-◌, ◌<◌, ◌≤◌}
use native.Mathlib.Numerals.{add-one}
use native.Mathlib.Omega.{arith}
use borrow.Author.Tests.{not-true}
use lib.Dec.{eqb}
use lib.ListN.{length, get_or, get_or-append}
use Rattle.std.proofs.Common.{◌++◌, take, drop, append_assoc, length-append, ap}
use Rattle.std.proofs.lemmas.List.{get_or-append-add, take-append-drop, length-take-le, take_at}
use Rattle.rules.specs.Kinds as K
use Rattle.rules.specs.Limits.{no_op}
use Rattle.rules.specs.Ops.{kind, op_at}
use Rattle.rules.specs.Count.{is_set_local, never_sets, last_set}
use Rattle.rules.proofs.Flags.{both}
use Rattle.words.proofs.OpLaws.{read_op}

-- neither of two slots is set by the n ops from a position on
abbrev pub neither : List ℕ → ℕ → ℕ → ℕ → ℕ → Bool
neither ops v e n i = never_sets ops v n i && never_sets ops e n i

-- one op more at the end
pub never-last : (ops : List ℕ) (s m i : ℕ) → never_sets ops s (suc m) i ≡ (never_sets ops s m i && not (is_set_local s (op_at ops (i + m))))
unfolding never_sets
never-last ops s zero i = let z : i + 0 ≡ i = omega arith in rw z (and-true (not (is_set_local s (op_at ops i))))
never-last ops s (suc m) i =
    let z : i + suc m ≡ suc i + m = omega arith in
    rw (never-last ops s m (suc i), z) (sym (and_assoc (not (is_set_local s (op_at ops i))) (never_sets ops s m (suc i)) (not (is_set_local s (op_at ops (suc i + m))))))

-- one op more that is no SetLocal
pub never_more : (ops : List ℕ) (s m i : ℕ) → eqb (kind (op_at ops (i + m))) K.set_local ≡ false → never_sets ops s (suc m) i ≡ never_sets ops s m i
never_more ops s m i e = never-last ops s m i ∙ rw e (and-true (never_sets ops s m i))

-- the tests of two slots of an op and of those before it, regrouped
regroup : (p q a b : Bool) → ((p && not a) && (q && not b)) ≡ ((p && q) && not (a || b))
regroup false q a b = refl
regroup true q true b = sym (and-false q)
regroup true q false b = refl

-- one op more, for two slots
pub neither_more : (ops : List ℕ) (v e m i : ℕ) → i + m < length ops → let w = get_or ops (i + m) 0 in
    neither ops v e (m + 1) i ≡ (neither ops v e m i && not (is_set_local v w || is_set_local e w))
neither_more ops v e m i h =
    rw (add-one m, never-last ops v m i, never-last ops e m i, read_op ops (i + m) h)
    (let w = get_or ops (i + m) 0 in regroup (never_sets ops v m i) (never_sets ops e m i) (is_set_local v w) (is_set_local e w))

-- a search passes over ops that do not set its slot
last_past : (ops : List ℕ) (s m i : ℕ) → never_sets ops s m i ≡ true → last_set ops (i + m) s ≡ last_set ops i s
unfolding last_set
last_past ops s zero i h = let z : i + 0 ≡ i = omega arith in rw z
last_past ops s (suc m) i h =
    let k = both (never_sets ops s m i) (not (is_set_local s (op_at ops (i + m)))) (sym (never-last ops s m i) ∙ h) in
    let z : i + suc m ≡ suc (i + m) = omega arith in
    rw (z, not-true (is_set_local s (op_at ops (i + m))) k.1) (last_past ops s m i k.0)

-- the ops at a piece's place are the piece's
never_piece : (front piece tail : List ℕ) (s m i k : ℕ) → i ≡ length front + k → k + m ≤ length piece
    → never_sets (front ++ (piece ++ tail)) s m i ≡ never_sets piece s m k
unfolding never_sets
never_piece front piece tail s zero i k e h = refl
never_piece front piece tail s (suc m) i k e h =
    rw (never_piece front piece tail s m (suc i) (suc k) (omega arith) (omega arith), e, get_or-append-add front (piece ++ tail) k no_op, get_or-append piece tail no_op k (omega arith))

-- a search passes over a piece at the end of what is left that does not set its slot
pub piece_past : (ops front piece : List ℕ) (s i n : ℕ) → i ≤ length ops → front ++ piece ≡ take i ops → length piece ≡ n → never_sets piece s n 0 ≡ true
    → (n ≤ i) × (front ≡ take (i - n) ops) × (last_set ops i s ≡ last_set ops (i - n) s)
piece_past ops front piece s i n h e l k =
    let long : i ≡ length front + n = omega (arith, simp length-append at (ap length e), length-take-le i ops h) in
    let z : length front ≡ i - n = omega arith in
    let whole = sym (append_assoc front piece (drop i ops)) ∙ ap (λ xs. xs ++ drop i ops) e ∙ take-append-drop i ops in
    let never = ap (λ xs. never_sets xs s n (length front)) (sym whole) ∙ never_piece front piece (drop i ops) s n (length front) 0 (omega arith) (omega arith) ∙ k in (
      omega arith,
      sym (take_at front (piece ++ drop i ops) (i - n) z) ∙ ap (take (i - n)) whole,
      ap (λ j. last_set ops j s) long ∙ last_past ops s n (length front) never ∙ ap (λ j. last_set ops j s) z,
    )
