-- Every stage that a reading comes to can be finished: some words lead from it to an end.
-- Assumes nothing.
use mathlib.Core.Path.{◌≡◌, refl}
use mathlib.Core.Bool.{Bool, true, false, cond, or-true}
use mathlib.Core.List.{List, ◌∷◌}
use Prim.Native.Nat.{ℕ, zero, suc, ◌+◌, ◌-◌, ◌≤◌}
use native.Mathlib.Omega.{arith}
use borrow.Author.Tests.{eqb-false, eq-eqb, ne_eqb}
use lib.Dec.{eqb}
use lib.ListN.{replicate}
use Rattle.rules.specs.Ops.{word, is_op}
use Rattle.rules.specs.Reading.{Stage, before_chunk, in_constants, in_constant, in_ops, in_extras, in_extra, Next, goes, stuck, only_if, or_else}
use Rattle.rules.specs.Reading.{is_chunk, is_constant, is_extra, chunk_next, constant_next, op_next, extra_next, step, broken_at}
use Rattle.rules.proofs.WordFields.{constant_word}
use Rattle.rules.proofs.ReadingAccepts.{Accepts, accepts_step}

-- the stages that a reading can come to
abbrev pub Good : Stage → Type 0
Good (before_chunk n) = 1 ≤ n
Good (in_constants n) = Unit {0}
Good (in_constant k b n) = b ≤ 3
Good (in_ops k n) = Unit {0}
Good (in_extras k n) = Unit {0}
Good (in_extra k n) = Unit {0}

abbrev pub GoodNext : Next → Type 0
GoodNext (goes s) = Good s
GoodNext stuck = Unit {0}

good_only : (b : Bool) (s : Stage) → Good s → GoodNext (only_if b s)
good_only true s g = g
good_only false s g = tt

good_else : (m o : Next) → GoodNext m → GoodNext o → GoodNext (or_else m o)
good_else (goes s) o g h = g
good_else stuck o g h = h

good_chunk : (n w : ℕ) → GoodNext (chunk_next n w)
good_chunk zero w = tt
good_chunk (suc n) w = good_only (is_chunk w) (in_constants n) tt

module _ (n w : ℕ) where
  good_extras : (k : ℕ) → GoodNext (step (in_extras k n) w)
  good_extras zero = good_chunk n w
  good_extras (suc k) = good_else (extra_next (suc k) n w) (chunk_next n w) (good_only (is_extra 0 w) (in_extra k n) tt) (good_chunk n w)

  good_ops : (k : ℕ) → GoodNext (step (in_ops k n) w)
  good_ops k = good_else (op_next k n w) (step (in_extras k n) w) (good_only (is_op w) (in_ops (suc k) n) tt) (good_extras k)

  abbrev start : ℕ → Next
  start k = only_if (is_constant k 0 w) (in_constant k 1 n)

  good_start : (k : ℕ) → GoodNext (start k)
  good_start k = good_only (is_constant k 0 w) (in_constant k 1 n) (omega arith)

  good_constants : GoodNext (step (in_constants n) w)
  good_constants = good_else (constant_next n w) (step (in_ops 0 n) w) (good_else (start 202) (start 203) (good_start 202) (good_start 203)) (good_ops 0)

good_constant : (k b n : ℕ) → b ≤ 3 → (t : Bool) → eqb b 3 ≡ t → Good (cond t (in_constants n) (in_constant k (suc b) n))
good_constant k b n g true e = tt
good_constant k b n g false e = let h = eqb-false b 3 e in omega arith

pub good_next : (s : Stage) (w : ℕ) → Good s → GoodNext (step s w)
good_next (before_chunk n) w g = good_chunk n w
good_next (in_constants n) w g = good_constants n w
good_next (in_constant k b n) w g = good_only (is_constant k b w) _ (good_constant k b n g (eqb b 3) refl)
good_next (in_ops k n) w g = good_ops n w k
good_next (in_extras k n) w g = good_extras n w k
good_next (in_extra k n) w g = good_only (is_extra 1 w) (in_extras k n) tt

-- each of them can be finished: by as many empty chunks as are to come
abbrev empties : ℕ → List ℕ
empties n = replicate n (word 200 0 0)

finish_constants : (n : ℕ) → Accepts (in_constants n) (empties n)
unfolding broken_at
finish_constants zero p = refl
finish_constants (suc n) p = finish_constants n (suc p)

finish_extras : (k n : ℕ) → Accepts (in_extras k n) (empties n)
unfolding broken_at
finish_extras k zero p = refl
finish_extras zero (suc n) p = finish_constants n (suc p)
finish_extras (suc k) (suc n) p = finish_constants n (suc p)

finish_ops : (k n : ℕ) → Accepts (in_ops k n) (empties n)
unfolding broken_at
finish_ops k zero p = refl
finish_ops zero (suc n) p = finish_constants n (suc p)
finish_ops (suc k) (suc n) p = finish_constants n (suc p)

-- one word more of the constant, and m words behind it
finish_word : (k b n : ℕ) (t : Stage) (e : List ℕ) → b ≤ 3 → cond (eqb b 3) (in_constants n) (in_constant k (suc b) n) ≡ t → Accepts t e
    → Accepts (in_constant k b n) (word k b 0 ∷ e)
finish_word k b n t e l q a =
    accepts_step (in_constant k b n) t (word k b 0) e (rw (constant_word k b 0 (omega arith) (omega arith) (or-true (eqb k 202)), q)) a

finish_constant : (m k b n : ℕ) → b + m ≡ 3 → (e : List ℕ) × Accepts (in_constant k b n) e
finish_constant zero k b n h =
    (word k b 0 ∷ empties n, finish_word k b n (in_constants n) (empties n) (omega arith) (rw (eq-eqb b 3 (omega arith))) (finish_constants n))
finish_constant (suc m) k b n h =
    let (e, a) = finish_constant m k (suc b) n (omega arith) in
    (word k b 0 ∷ e, finish_word k b n (in_constant k (suc b) n) e (omega arith) (rw (ne_eqb b 3 (omega arith))) a)

pub finish : (s : Stage) → Good s → (e : List ℕ) × Accepts s e
unfolding broken_at
finish (before_chunk zero) g = absurd (omega arith)
finish (before_chunk (suc n)) g = (empties (suc n), λ p. finish_constants n (suc p))
finish (in_constants n) g = (empties n, finish_constants n)
finish (in_constant k b n) g = finish_constant (3 - b) k b n (omega arith)
finish (in_ops k n) g = (empties n, finish_ops k n)
finish (in_extras k n) g = (empties n, finish_extras k n)
finish (in_extra k n) g = (word 204 1 0 ∷ empties n, λ p. finish_extras k n (suc p))
