-- The count of a loop that has its header and its tail.
-- Assumes nothing.
use Rattle.std.proofs.Common.{◌≡◌, ℕ, ◌+◌, ◌-◌, ◌<◌, ◌^◌, true, List, ℤ, pos, w64, FitsSigned, to_z, of_z, get_or, ◌∙◌, arith}
use Rattle.std.proofs.lemmas.Int.{to_z-of_z}
use Rattle.rules.specs.Ops.{field_a, op_at}
use Rattle.rules.specs.Form.{Constant, integer, other}
use Rattle.rules.specs.Count.{value_of, has_header, has_tail, step_at, count_up, count_at}
use Rattle.rules.proofs.TailStep.{tail_far, tail_step}

-- what a loop with its header and its tail has: the step, where the code reads it in the word w, and the count, by the values of the slots v and e
pub record Counted (cs : List Constant) (ops : List ℕ) (p v e w : ℕ) : Type 0 where
  pub step : get_or cs (field_a w) other ≡ integer (pos (step_at cs ops p))
  pub positive : 0 < step_at cs ops p
  pub count : count_at cs ops p ≡ count_up (value_of cs ops p v) (value_of cs ops p e) (step_at cs ops p)

-- a loop with its header and its tail, by what the code reads
pub counted : (cs : List Constant) (ops : List ℕ) (p : ℕ) {l v e w : ℕ} → l ≡ op_at ops p → v ≡ op_at ops (p + 1) → e ≡ op_at ops (p + 2) → w ≡ op_at ops (field_a l - 5)
    → has_header ops p ≡ true → has_tail cs ops p (field_a l - 1) (field_a v) (field_a e) ≡ true → Counted cs ops p (field_a v) (field_a e) w
counted cs ops p {l} {v} {e} at first second read h t =
    let far = tail_far cs ops p (field_a l - 1) (field_a v) (field_a e) t in
    let step = tail_step cs ops p (field_a l - 1) (field_a v) (field_a e) t in
    let place : field_a l - 5 ≡ field_a l - 1 - 4 = omega arith in
    record {
      step = rw (read, place, ← at) step.0;
      positive = rw (← at) step.1;
      count = rw (h, ← at, ← first, ← second, t);
    }

-- the step as the code passes it on
pub step_told : {cs : List Constant} {ops : List ℕ} {p v e w : ℕ} {z : ℤ} → Counted cs ops p v e w → integer z ≡ get_or cs (field_a w) other → FitsSigned w64 z
    → (to_z w64 (of_z w64 z) ≡ pos (step_at cs ops p)) × (step_at cs ops p < 2 ^ 63)
step_told {cs} {ops} {p} {z = z} t e f =
    let same : z ≡ pos (step_at cs ops p) = cc (e, t.step) in
    (to_z-of_z w64 z f ∙ same, (rw same at f).sfits)
