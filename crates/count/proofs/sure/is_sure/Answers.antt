-- `is_sure` answers whether the sum fits and the row holds all that the two searches stopped at.
-- Assumes nothing.
use Rattle.std.proofs.Common.{◌≡◌, ◌&&◌, ◌||◌, Bool, true, false, ℕ, ◌-◌, ◌^◌, eqb, pos, ◌+ℤ◌, ◌-ℤ◌, refl, sym, ◌∙◌, arith, rules, w64, FitsSigned}
use Rattle.std.proofs.lemmas.Int.{to_z-of_z}
use mathlib.Core.Bool.{and-true, and-false}
use Rattle.std.specs.Int.Signed.{le_z}
use Rattle.rules.specs.Outcome.{found}
use Rattle.rules.specs.Form.{Chunk}
use Rattle.rules.specs.Ops.{op_at}
use Rattle.rules.specs.Sure.{stops_at, sum_fits, loop_stops}
use Rattle.rules.specs.Placed.{all_of, beside}
use Rattle.rules.proofs.Placing.{all_behind}
use Rattle.words.specs.Chunks.{chunk_of}
use Rattle.count.specs.Count.{BoundAt}
use Rattle.count.specs.declared.bound.Bound.{Bound}
use Rattle.count.proofs.sure.is_sure.Goals as goal
use Rattle.count.proofs.sure.is_sure.Goals.{After-sum_fits, then-sum_fits, else-sum_fits}

-- the three tests
tests : (k : Chunk) (p n : ℕ) (b : Bound) → BoundAt k.constants k.ops p b → (f : ℕ → Bool)
    → (all_of f (loop_stops k.ops p) && sum_fits k p n)
    ≡ ((all_of f (stops_at k.ops (found b.start)) && all_of f (stops_at k.ops (found b.stop.at)))
    && (eqb n 0 || le_z ((b.stop.value -ℤ pos 1) +ℤ b.step) (pos (2 ^ 63 - 1))))
tests k p n b q f = rw (all_behind f _ _, q.end, q.step, q.start.set, q.stop.set) refl

told : (c : After-sum_fits) → let a = c.args in
    let f = beside (op_at a.chunk.now.ops.now) a.from a.p in
    let held : ℕ → Bool = λ s. all_of f (stops_at a.chunk.now.ops.now (found s)) in
    (all_of f (loop_stops a.chunk.now.ops.now a.p) && sum_fits (chunk_of a.chunk.now) a.p a.bound.now.passes)
    ≡ ((held a.bound.now.start && held a.bound.now.stop.at) && c.sum_fits.result)
told c =
    let a = c.args in
    let f : FitsSigned w64 a.bound.now.stop.value = search rules in
    let g : FitsSigned w64 a.bound.now.step = search rules in
    rw (c.sum_fits.ensures, to_z-of_z w64 a.bound.now.stop.value f, to_z-of_z w64 a.bound.now.step g)
    (tests (chunk_of a.chunk.now) a.p a.bound.now.passes a.bound.now c.requires (beside (op_at a.chunk.now.ops.now) a.from a.p))

pub returns-then-value_is_beside : goal.returns-then-value_is_beside
returns-then-value_is_beside c =
    let e = told (goal.at.returns-then-value_is_beside c).After-sum_fits in
    elim c.if-sum_fits.branch [
      | then-sum_fits w ↦
          rw (e, ← w.value_is_beside.ensures, ← w.value-is, c.if-value_is_beside.true, ← c.value_is_beside-then-value_is_beside.ensures, w.if-sum_fits.true)
          (sym (and-true c.value_is_beside-then-value_is_beside.result))
      | else-sum_fits w ↦ absurd (let z : true ≡ false = sym c.if-value_is_beside.true ∙ w.value-is ∙ w.if-sum_fits.false in let o : ◌≡◌ {A = ℕ} 0 1 = cc in omega arith)
    ]

pub returns-else-value_is_beside : goal.returns-else-value_is_beside
returns-else-value_is_beside c =
    let e = told (goal.at.returns-else-value_is_beside c).After-sum_fits in
    elim c.if-sum_fits.branch [
      | then-sum_fits w ↦ rw (e, ← w.value_is_beside.ensures, ← w.value-is, c.if-value_is_beside.false)
      | else-sum_fits w ↦ rw (e, w.value-is, w.if-sum_fits.false) (sym (and-false _))
    ]
