-- How an answer or a refusal is written in every definition ("Refusing").
use Rattle.std.specs.Prelude.{ℕ, Bool, true, false}

-- Inside one chunk: a value, or a refusal by its number and its place.
pub data Result (A : Type 0) : Type 0 where
  ok : A → Result A
  no : ℕ → ℕ → Result A

-- Of a whole call: an answer, or a refusal by its number, chunk and place.
pub data Outcome (A : Type 0) : Type 0 where
  answer : A → Outcome A
  refused : ℕ → ℕ → ℕ → Outcome A

-- a search that may find nothing
pub data Found : Type 0 where
  found : ℕ → Found
  nothing : Found

module _ {A B : Type 0} where
  -- Tests stand in a row, and the first that refuses decides: what comes behind is a function, looked at only on a value.
  abbrev pub and_then : Result A → (A → Result B) → Result B
  and_then (ok a) next = next a
  and_then (no n p) next = no n p

  abbrev pub followed_by : Outcome A → (A → Outcome B) → Outcome B
  followed_by (answer a) next = next a
  followed_by (refused n c p) next = refused n c p

module _ {A : Type 0} where
  -- "Chunk is 0 for 1, 2, 13, else the one meant": a refusal inside chunk c names c.
  abbrev pub in_chunk : ℕ → Result A → Outcome A
  in_chunk c (ok a) = answer a
  in_chunk c (no n p) = refused n c p

  -- where the test holds go on, else refuse
  abbrev pub demand : Bool → ℕ → ℕ → A → Result A
  demand true n p a = ok a
  demand false n p a = no n p
