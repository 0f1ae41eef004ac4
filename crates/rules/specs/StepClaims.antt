-- Request 2.7 as types: what a count says of the loop's steps in whole numbers, and that no walk's figure is above the one that it has with distances not
-- divided, which is the Rust's, refusals by 2.8's number aside. proofs/StepCount and proofs/Undivided have the proofs.
use Rattle.std.specs.Prelude.{◌≡◌, true, false, List, [], ◌⊎◌, ℕ, ◌*◌, ◌^◌, ◌<◌, ◌≤◌, ℤ, pos, ◌+ℤ◌}
use Rattle.std.specs.Int.Signed.{le_z}
use Rattle.rules.specs.Limits.{deepest, most_passes}
use Rattle.rules.specs.Numbers as N
use Rattle.rules.specs.Outcome.{Result, ok, no, and_then, found, nothing}
use Rattle.rules.specs.Form.{Chunk}
use Rattle.rules.specs.Rows.{Row, chunk_row}
use Rattle.rules.specs.Count.{passes, count_by, or_no_count}
use Rattle.rules.specs.Cycles.{unbroken, charge_of, Cost, row_cost, Cycles, cycles_of, chunk_cycles}
use Rattle.rules.specs.Stack.{rise_of, move_of, Height, row_height, Stack, stack_of, chunk_stack}

-- The count is the least number of steps that bring the counter, in whole numbers, to its end or past it.
abbrev pub CountLeast : Type 0
CountLeast =
    (start stop : ℤ) (step n : ℕ) → 0 < step → passes start stop step ≡ found n
    → (le_z stop (start +ℤ pos (n * step)) ≡ true) × ((m : ℕ) → m < n → le_z stop (start +ℤ pos (m * step)) ≡ false)

-- There is one only if the distance is below 2^63, and it is at most 4,294,967,295.
abbrev pub CountFits : Type 0
CountFits =
    (start stop : ℤ) (step n : ℕ) → passes start stop step ≡ found n → (le_z (start +ℤ pos (2 ^ 63)) stop ≡ false) × (n ≤ most_passes)

-- There is none only if the distance is not below 2^63 or 4,294,967,295 steps are not enough.
abbrev pub CountNone : Type 0
CountNone =
    (start stop : ℤ) (step : ℕ) → 0 < step → passes start stop step ≡ nothing
    → (le_z (start +ℤ pos (2 ^ 63)) stop ≡ true) ⊎ (le_z stop (start +ℤ pos (most_passes * step)) ≡ false)

-- "for others our figure is never above the Rust's where it has one": the count for a step of 1 is the Rust's for every step.
abbrev pub CountBelow : Type 0
CountBelow =
    (start stop : ℤ) (step n : ℕ) → 0 < step → passes start stop 1 ≡ found n → (m : ℕ) × (passes start stop step ≡ found m) × (m ≤ n)

-- the same of both walks of a chunk: every count is that for a step of 1
abbrev pub undivided : Chunk → ℕ → Result ℕ
undivided c p = or_no_count (count_by 1 c.constants c.ops p) p

abbrev pub undivided_cost : Chunk → Row → Result Cost
undivided_cost c r = row_cost (λ n. n) (charge_of c []) (undivided c) r deepest 0 unbroken

abbrev pub undivided_cycles : Chunk → Result Cycles
undivided_cycles c = and_then (chunk_row c) (λ r. and_then (undivided_cost c r) (λ k. ok (cycles_of k)))

abbrev pub undivided_height : Chunk → List ℕ → Row → Result Height
undivided_height c callees r = row_height (rise_of c callees) (move_of c) (undivided c) r deepest (pos 0) 0 false

abbrev pub undivided_stack : Chunk → List ℕ → Result Stack
undivided_stack c callees = and_then (chunk_row c) (λ r. and_then (undivided_height c callees r) (λ h. stack_of c.locals h))

-- a refusal by any number but 9, with its place
abbrev pub RefusedAlike : {A : Type 0} → Result A → Result A → Type 0
RefusedAlike x y = (n p : ℕ) → (n ≡ N.no_count → ⊥) → y ≡ no n p → x ≡ no n p

-- The cycle walk: where the Rust's answers ours does, not above it and with its ending; unless it is refused by 16, which the Rust's never is.
-- proofs/UnsureAdded says when.
abbrev pub CyclesBelow : Type 0
CyclesBelow =
    (c : Chunk) → ((p : ℕ) → chunk_cycles c ≡ no N.unsure_count p → ⊥)
    → ((k : Cycles) → undivided_cycles c ≡ ok k → (j : Cycles) × (chunk_cycles c ≡ ok j) × (j.cycles ≤ k.cycles) × (j.ends ≡ k.ends))
    × RefusedAlike (chunk_cycles c) (undivided_cycles c)

-- the stack walk, for which a count only has to be there: the same answer
abbrev pub StackSame : Type 0
StackSame =
    (c : Chunk) (callees : List ℕ)
    → ((s : Stack) → undivided_stack c callees ≡ ok s → chunk_stack c callees ≡ ok s)
    × RefusedAlike (chunk_stack c callees) (undivided_stack c callees)
