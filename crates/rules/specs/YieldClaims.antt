-- Request 2.9 as types: what a yes and a never say of every path that reaches the end of its range, for any number of loop passes, and up to which depth.
-- proofs/YieldHolds and, for the limit, proofs/YieldWitness have the proofs.
use Rattle.std.specs.Prelude.{◌≡◌, true, false, List, ℕ, suc, ◌≤◌}
use Rattle.rules.specs.Limits.{deepest}
use Rattle.rules.specs.Outcome.{ok, answer}
use Rattle.rules.specs.Form.{Chunk}
use Rattle.rules.specs.Rows.{Row, chunk_row}
use Rattle.rules.specs.Order.{chunk_at}
use Rattle.rules.specs.Sheet.{read_module}
use Rattle.rules.specs.Paths.{Way, begin, path}
use Rattle.rules.specs.Yields.{reached, never, coverage_of, yield_outcome, depth_of, reaches_end, gives_up}

-- "Where no block lies more than 256 deep, a yes from a start that hasn't yielded means that no path reaches the end of the range without a Yield or a call
-- to a callee listed as 1, for any number of loop passes": of paths that run no callee and keep no count; one that runs callees is one of these and its
-- callees' ops. n is how deep blocks may lie.
abbrev pub YesWithin : ℕ → Type 0
YesWithin n =
    (cs : List Chunk) (c : ℕ) (lent : List ℕ) (r : Row) → chunk_row (chunk_at cs c) ≡ ok r → depth_of r ≤ n
    → coverage_of (chunk_at cs c) lent r ≡ reached true → (ways : List Way) → reaches_end cs c ways ≡ true
    → gives_up cs lent (path cs false (begin cs c) ways) ≡ true

abbrev pub YesHolds : Type 0
YesHolds = YesWithin deepest

-- "and 'never' that none reaches it"
abbrev pub NeverWithin : ℕ → Type 0
NeverWithin n =
    (cs : List Chunk) (c : ℕ) (lent : List ℕ) (r : Row) → chunk_row (chunk_at cs c) ≡ ok r → depth_of r ≤ n
    → coverage_of (chunk_at cs c) lent r ≡ never → (ways : List Way) → reaches_end cs c ways ≡ true → ⊥

abbrev pub NeverHolds : Type 0
NeverHolds = NeverWithin deepest

-- Neither holds with one block more: "Deeper ranges get the Rust's answer without that assurance."
abbrev pub LimitExact : Type 0
LimitExact = (YesWithin (suc deepest) → ⊥) × (NeverWithin (suc deepest) → ⊥)

-- no block of a chunk's range lies more than 256 deep
abbrev pub Shallow : Chunk → Type 0
Shallow c = (r : Row) → chunk_row c ≡ ok r → depth_of r ≤ deepest

-- The same for one who has the answer for any words, chunk number and list, and no more: the contract of the entry point is `yield_outcome`.
abbrev pub YesTold : Type 0
YesTold =
    (words : List ℕ) (c : ℕ) (lent : List ℕ) (cs : List Chunk) → read_module words ≡ answer cs → Shallow (chunk_at cs c)
    → yield_outcome words c lent ≡ answer (reached true) → (ways : List Way) → reaches_end cs c ways ≡ true
    → gives_up cs lent (path cs false (begin cs c) ways) ≡ true

abbrev pub NeverTold : Type 0
NeverTold =
    (words : List ℕ) (c : ℕ) (lent : List ℕ) (cs : List Chunk) → read_module words ≡ answer cs → Shallow (chunk_at cs c)
    → yield_outcome words c lent ≡ answer never → (ways : List Way) → reaches_end cs c ways ≡ true → ⊥
