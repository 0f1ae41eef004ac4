-- Laws of `figures_of`: by kind, b and a; the row of a kind; none over kind 65; and that Trap's growth does not depend on its code.
-- Assumes nothing.
use mathlib.Core.Path.{◌≡◌, refl}
use mathlib.Core.Bool.{Bool, true, false, cond, ◌&&◌, and-false, and-eq-true_iff}
use mathlib.Core.List.{List, [], ◌∷◌}
use Prim.Native.Nat.{ℕ, ◌+◌, ◌*◌, ◌≤◌, ◌<◌}
use native.Mathlib.Omega.{arith}
use borrow.Author.Tests.{leb-true, lt-leb, ne_eqb}
use lib.Dec.{eqb, leb}
use Rattle.words.proofs.Cases.{split}
use Rattle.rules.specs.Ops.{Group, Figures, word, kind, table, figures, between, in_groups, index_figures, trap_figures, native_figures, figures_of}

-- `figures_of w` is, by its definition, `figures_by (kind w) (field_b w) (field_a w)`: so a test can compute it at each kind, with b and a open.
abbrev pub figures_by : ℕ → ℕ → ℕ → Figures
figures_by k b a =
    cond (eqb k 30) (figures 10 1 b)
    (cond (eqb k 34) (figures 5 1 a)
    (cond (eqb k 36) (index_figures b)
    (cond (eqb k 50) (trap_figures a)
    (cond (eqb k 58) (figures 1 0 b)
    (cond (between 64 65 k) (native_figures b) (in_groups table k))))))

-- the row of a kind: its figures for a = 0 and b = 0 in one number
abbrev pub row_of : ℕ → ℕ
row_of k = (figures_of (word k 0 0)).cycles * 16 + (figures_of (word k 0 0)).growth * 2 + (figures_of (word k 0 0)).shrink

-- no group reaches over a bound
abbrev under : ℕ → List Group → Bool
under top [] = true
under top (g ∷ gs) = leb g.last top && under top gs

-- a kind over every group has no figures
none_over : (top : ℕ) (gs : List Group) → under top gs ≡ true → (k : ℕ) → top < k → in_groups gs k ≡ figures 0 0 0
unfolding in_groups
none_over top [] t k h = refl
none_over top (g ∷ gs) t k h =
    let a = (and-eq-true_iff (leb g.last top) (under top gs)).0 t in
    simp (lt-leb k g.last (omega (arith, leb-true g.last top a.0)), and-false) (none_over top gs a.1 k h)

-- no kind over 65 has a rule or a group
pub over : (w : ℕ) → 65 < kind w → figures_of w ≡ figures 0 0 0
over w h =
    let ne : (n : ℕ) → n ≤ 65 → eqb (kind w) n ≡ false = λ n l. ne_eqb (kind w) n (λ e. omega arith) in
    simp (ne 30 (omega arith), ne 34 (omega arith), ne 36 (omega arith), ne 50 (omega arith), ne 58 (omega arith), lt-leb (kind w) 65 h, and-false)
    (none_over 65 table refl (kind w) h)

-- Trap pushes nothing, whatever its code
pub trap_growth : (a : ℕ) → (trap_figures a).growth ≡ 0
trap_growth a = split a 8 (λ e. rw e) (λ n. split a 9 (λ e. rw e) (λ m. simp (ne_eqb a 8 n, ne_eqb a 9 m)))
