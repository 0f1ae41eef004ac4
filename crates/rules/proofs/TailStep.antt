-- The tail of a counted loop, op by op, and its step: the constant of a tail is an integer over 0, so that the loop's count is at most that for a step of 1.
-- Assumes nothing.
use mathlib.Core.Path.{◌≡◌, refl}
use mathlib.Core.Bool.{Bool, true, false, ◌&&◌}
use mathlib.Core.List.{List}
use mathlib.Core.Logic.{inr}
use Prim.Native.Nat.{ℕ, ◌+◌, ◌-◌, ◌<◌, ◌≤◌}
use native.Mathlib.Omega.{arith}
use borrow.Author.Tests.{eqb-true, ltb-true, leb-true}
use lib.Dec.{eqb, leb}
use lib.IntN.{ℤ, pos, negsuc}
use Rattle.rules.specs.Kinds as K
use Rattle.rules.specs.Numbers as N
use Rattle.rules.specs.Outcome.{Found, found, nothing}
use Rattle.rules.specs.Ops.{kind, field_a, field_b, op_at}
use Rattle.rules.specs.Form.{Constant, integer, other, Chunk}
use Rattle.rules.specs.Count.{Value, is, unknown, is_get_local, is_set_local, value_of, has_header, never_sets, is_positive, tail_constant, has_increment, has_tail, passes, count_up, count_if, step_of, step_at, or_no_count, count_of}
use Rattle.rules.specs.StepClaims.{undivided}
use Rattle.rules.proofs.Flags.{both}
use Rattle.rules.proofs.Below.{Below, less_n}
use Rattle.rules.proofs.StepCount.{count_below}

abbrev pub IsStep : Constant → Type 0
IsStep k = (k ≡ integer (pos (step_of k))) × (0 < step_of k)

positive_step : (k : Constant) → is_positive k ≡ true → IsStep k
positive_step (integer (pos n)) h = (refl, ltb-true 0 n h)
positive_step (integer (negsuc n)) h = absurd (let z : ◌≡◌ {A = ℕ} 0 1 = cc in omega arith)
positive_step other h = absurd (let z : ◌≡◌ {A = ℕ} 0 1 = cc in omega arith)

-- The tail of the loop at p, EndLoop at n.
module _ (cs : List Constant) (ops : List ℕ) (p n v e : ℕ) where
  -- what it says, op by op: EndLoop is far enough, the five ops before it, and that nothing else sets v or e
  pub record TailOps : Type 0 where
    pub far : p + 10 ≤ n
    pub closes : kind (op_at ops n) ≡ K.end_loop
    pub load : is_get_local v (op_at ops (n - 5)) ≡ true
    pub const : kind (op_at ops (n - 4)) ≡ K.const
    pub step : IsStep (tail_constant cs ops n)
    pub add : kind (op_at ops (n - 3)) ≡ K.checked_add
    pub drop : kind (op_at ops (n - 2)) ≡ K.pop_n
    pub two : field_b (op_at ops (n - 2)) ≡ 2
    pub set : is_set_local v (op_at ops (n - 1)) ≡ true
    pub end_unset : never_sets ops e (n - (p + 5)) (p + 5) ≡ true
    pub unset : never_sets ops v (n - (p + 6)) (p + 5) ≡ true

  pub tail_ops : has_tail cs ops p n v e ≡ true → TailOps
  tail_ops h =
      let k : ℕ → ℕ = λ i. kind (op_at ops i) in
      let sets = is_set_local v (op_at ops (n - 1)) in
      let two = eqb (field_b (op_at ops (n - 2))) 2 in
      let drops = eqb (k (n - 2)) K.pop_n in
      let adds = eqb (k (n - 3)) K.checked_add in
      let positive = is_positive (tail_constant cs ops n) in
      let const = eqb (k (n - 4)) K.const in
      let loads = is_get_local v (op_at ops (n - 5)) in
      let unset = both _ (never_sets ops v (n - (p + 6)) (p + 5)) h in
      let end_unset = both _ (never_sets ops e (n - (p + 5)) (p + 5)) unset.0 in
      let closed = both (leb (p + 10) n && eqb (k n) K.end_loop) (has_increment cs ops n v) end_unset.0 in
      let far = both (leb (p + 10) n) (eqb (k n) K.end_loop) closed.0 in
      let set = both (loads && const && positive && adds && drops && two) sets closed.1 in
      let by_two = both (loads && const && positive && adds && drops) two set.0 in
      let drop = both (loads && const && positive && adds) drops by_two.0 in
      let add = both (loads && const && positive) adds drop.0 in
      let step = both (loads && const) positive add.0 in
      let load = both loads const step.0 in
      record {
        far = leb-true (p + 10) n far.0;
        closes = eqb-true (k n) K.end_loop far.1;
        load = load.0;
        const = eqb-true (k (n - 4)) K.const load.1;
        step = positive_step (tail_constant cs ops n) step.1;
        add = eqb-true (k (n - 3)) K.checked_add add.1;
        drop = eqb-true (k (n - 2)) K.pop_n drop.1;
        two = eqb-true (field_b (op_at ops (n - 2))) 2 by_two.1;
        set = set.1;
        end_unset = end_unset.1;
        unset = unset.1;
      }

  -- where it is, and its constant
  pub tail_far : has_tail cs ops p n v e ≡ true → p + 10 ≤ n
  tail_far h = (tail_ops h).far

  pub tail_step : has_tail cs ops p n v e ≡ true → IsStep (tail_constant cs ops n)
  tail_step h = (tail_ops h).step

-- the walk with the smaller counts may be spared a refusal by 9
abbrev pub spared : ℕ → ℕ → Type 0
spared n p = n ≡ N.no_count

abbrev Counted : Found → Found → ℕ → Type 0
Counted x y p = Below spared less_n (or_no_count x p) (or_no_count y p)

passes_below : (start stop : ℤ) (step p : ℕ) → 0 < step → Counted (passes start stop step) (passes start stop 1) p
passes_below start stop step p positive = go (passes start stop 1) refl
  where
    go : (y : Found) → passes start stop 1 ≡ y → Counted (passes start stop step) y p
    go nothing e = inr refl
    go (found n) e = let (m, same, less) = count_below start stop step n positive e in rw same less

up_below : (a b : Value) (step p : ℕ) → 0 < step → Counted (count_up a b step) (count_up a b 1) p
up_below (is a) (is b) step p positive = passes_below a b step p positive
up_below (is a) unknown step p positive = inr refl
up_below unknown (is b) step p positive = inr refl
up_below unknown unknown step p positive = inr refl

module _ (c : Chunk) (p : ℕ) where
  abbrev tail_at : ℕ → ℕ → Bool
  tail_at v e = has_tail c.constants c.ops p (field_a (op_at c.ops p) - 1) v e

  abbrev count_for : ℕ → ℕ → Bool → ℕ → Found
  count_for v e b step = count_if b c.constants c.ops p v e step

  pub counts_below : Below spared less_n (count_of c p) (undivided c p)
  counts_below = go (field_a (op_at c.ops (p + 1))) (field_a (op_at c.ops (p + 2))) (has_header c.ops p) (tail_at _ _) refl
    where
      go : (v e : ℕ) (a b : Bool) → tail_at v e ≡ b → Counted (count_for v e (a && b) (step_at c.constants c.ops p)) (count_for v e (a && b) 1) p
      go v e true true t =
          up_below (value_of c.constants c.ops p v) (value_of c.constants c.ops p e) (step_at c.constants c.ops p) p
          (tail_step c.constants c.ops p (field_a (op_at c.ops p) - 1) v e t).1
      go v e true false t = inr refl
      go v e false b t = inr refl
