-- The header, the tail and the body of a counted loop, told by the words that the code reads.
-- Assumes nothing.
use mathlib.Core.Path.{◌≡◌, refl, sym, ◌∙◌}
use mathlib.Core.Bool.{Bool, true, false, not, ◌&&◌, and-true, and-false}
use mathlib.Core.List.{List}
use Prim.Native.Nat.{ℕ, suc, ◌+◌, ◌-◌, ◌≤◌}
use native.Mathlib.Omega.{arith}
use borrow.Author.Tests.{le-leb, eqb-true, eq-eqb, ne_eqb}
use lib.Dec.{eqb}
use lib.ListN.{get_or}
use Rattle.rules.specs.Kinds as K
use Rattle.rules.specs.Ops.{kind, field_a, field_b, op_at}
use Rattle.rules.specs.Form.{Constant, other}
use Rattle.rules.specs.Count.{is_set_local, is_positive, never_sets, has_increment, has_tail}
use Rattle.rules.proofs.Flags.{both}
use Rattle.words.proofs.Cases.{decide}
use Rattle.count.proofs.NeverLaws.{neither, never-last, never_more}

-- a word that sets v sets e only if they are one
sets_one : (w v e : ℕ) → is_set_local v w ≡ true → is_set_local e w ≡ eqb v e
sets_one w v e h =
    let k = both (eqb (kind w) K.set_local) (eqb (field_a w) v) h in
    rw (k.0, eqb-true (field_a w) v k.1)

-- three tests, the last of which come first
regroup_last : (a q c : Bool) → ((a && not q) && c) ≡ (not q && (c && a))
regroup_last true true c = refl
regroup_last true false c = sym (and-true c)
regroup_last false true c = refl
regroup_last false false c = sym (and-false c)

-- of the five ops that advance v, right before EndLoop at n, SetLocal v is the last; none of the four before it sets a slot, so that the pass can end
-- before them
advances : (cs : List Constant) (ops : List ℕ) (n v : ℕ) → has_increment cs ops n v ≡ true
    → (is_set_local v (op_at ops (n - 1)) ≡ true)
    × ((s m i : ℕ) → i + m + 5 ≡ n → never_sets ops s (suc (suc (suc (suc m)))) i ≡ never_sets ops s m i)
advances cs ops n v h =
    let (two, set) = both _ (is_set_local v (op_at ops (n - 1))) h in
    let pops = (both _ (eqb (field_b (op_at ops (n - 2))) 2) two).0 in
    let (adds, pop) = both _ (eqb (kind (op_at ops (n - 2))) K.pop_n) pops in
    let (positive, add) = both _ (eqb (kind (op_at ops (n - 3))) K.checked_add) adds in
    let steps = (both _ (is_positive (get_or cs (field_a (op_at ops (n - 4))) other)) positive).0 in
    let (gets, step) = both _ (eqb (kind (op_at ops (n - 4))) K.const) steps in
    let get = (both (eqb (kind (op_at ops (n - 5))) K.get_local) _ gets).0 in (
      set,
      λ s m i e.
          let at5 : i + m ≡ n - 5 = omega arith in
          let at4 : i + suc m ≡ n - 4 = omega arith in
          let at3 : i + suc (suc m) ≡ n - 3 = omega arith in
          let at2 : i + suc (suc (suc m)) ≡ n - 2 = omega arith in
          never_more ops s (suc (suc (suc m))) i (rw (at2, eqb-true (kind (op_at ops (n - 2))) K.pop_n pop))
          ∙ never_more ops s (suc (suc m)) i (rw (at3, eqb-true (kind (op_at ops (n - 3))) K.checked_add add))
          ∙ never_more ops s (suc m) i (rw (at4, eqb-true (kind (op_at ops (n - 4))) K.const step))
          ∙ never_more ops s m i (rw (at5, eqb-true (kind (op_at ops (n - 5))) K.get_local get)),
    )

-- the tail of a loop whose EndLoop is at n, far enough behind p
module _ (cs : List Constant) (ops : List ℕ) (p n v e : ℕ) (long : p + 10 ≤ n) (ends : eqb (kind (op_at ops n)) K.end_loop ≡ true) where
  -- with no increment there is no tail
  pub no_increment : has_increment cs ops n v ≡ false → has_tail cs ops p n v e ≡ false
  no_increment k = rw (le-leb (p + 10) n long, ends, k)

  -- v is set by the last op of the increment, so e is another slot, and one pass over the ops before it is enough for both
  tail_once : has_increment cs ops n v ≡ true → has_tail cs ops p n v e ≡ (not (eqb v e) && neither ops v e (n - (p + 10)) (p + 5))
  tail_once k =
      let (sets, past) = advances cs ops n v k in
      let m = n - (p + 10) in
      let near : n - (p + 6) ≡ suc (suc (suc (suc m))) = omega arith in
      let far : n - (p + 5) ≡ suc (suc (suc (suc (suc m)))) = omega arith in
      let last : p + 5 + suc (suc (suc (suc m))) ≡ n - 1 = omega arith in
      let end : p + 5 + m + 5 ≡ n = omega arith in
      rw (le-leb (p + 10) n long, ends, k, near, far, never-last ops e (suc (suc (suc (suc m)))) (p + 5), last, sets_one (op_at ops (n - 1)) v e sets, past v m (p + 5) end, past e m (p + 5) end)
      (regroup_last (never_sets ops e m (p + 5)) (eqb v e) (never_sets ops v m (p + 5)))

  -- nor with one slot for both
  pub one_slot : v ≡ e → has_tail cs ops p n v e ≡ false
  one_slot h = decide (has_increment cs ops n v) (λ k. tail_once k ∙ rw (eq-eqb v e h)) no_increment

  -- with two, the ops before the increment decide
  pub tail_decides : has_increment cs ops n v ≡ true → (v ≡ e → ⊥) → has_tail cs ops p n v e ≡ neither ops v e (n - (p + 10)) (p + 5)
  tail_decides k apart = tail_once k ∙ rw (ne_eqb v e apart)
