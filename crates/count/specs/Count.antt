-- What the searches of the count and the count itself stand for in document 01.
use Rattle.std.specs.Prelude.{◌≡◌, List, ℕ, ◌+◌, ◌<◌, ◌≤◌, ℤ, pos, Option, Some, None, length}
use Rattle.rules.specs.Outcome.{Found, found, nothing}
use Rattle.rules.specs.Ops.{field_a, op_at}
use Rattle.rules.specs.Form.{Constant}
use Rattle.rules.specs.Count as R
use Rattle.rules.specs.Count.{last_set, step_at}
use Rattle.count.specs.declared.search.Traced.{Traced}
use Rattle.count.specs.declared.bound.Bound.{Bound}

abbrev pub value_is : Option ℤ → R.Value
value_is (Some z) = R.is z
value_is None = R.unknown

-- the same of a value with where it was set
abbrev pub traced_is : Option Traced → R.Value
traced_is (Some t) = R.is t.value
traced_is None = R.unknown

-- The search below n finds the SetLocal of slot s at `at`, which is not the first op.
pub record SetAt (ops : List ℕ) (n s at : ℕ) : Type 0 where
  pub set : last_set ops n s ≡ found at
  pub later : at ≡ 0 → ⊥
  pub below : at < n
  pub within : n ≤ length ops

-- so it is where a value was found; where none was, nothing is said
abbrev pub StopsAt : List ℕ → ℕ → ℕ → Option Traced → Type 0
StopsAt ops n s (Some t) = SetAt ops n s t.at
StopsAt ops n s None = Unit {0}

-- the count, if there is one
abbrev pub passes_found : Option Bound → Found
passes_found (Some b) = found b.passes
passes_found None = nothing

-- What the count of the loop at p is of: where its two searches stopped, the end that they gave, and the step.
pub record BoundAt (constants : List Constant) (ops : List ℕ) (p : ℕ) (b : Bound) : Type 0 where
  pub start : SetAt ops p (field_a (op_at ops (p + 1))) b.start
  pub stop : SetAt ops p (field_a (op_at ops (p + 2))) b.stop.at
  pub end : R.value_of constants ops p (field_a (op_at ops (p + 2))) ≡ R.is b.stop.value
  pub step : b.step ≡ pos (step_at constants ops p)
  pub positive : 0 < step_at constants ops p

-- so it is where there is a count
abbrev pub BoundIs : List Constant → List ℕ → ℕ → Option Bound → Type 0
BoundIs constants ops p (Some b) = BoundAt constants ops p b
BoundIs constants ops p None = Unit {0}
