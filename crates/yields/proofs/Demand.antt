-- Request 2.9 for a caller of `yield_coverage`: what a yes and a never say of every path that reaches the end of its range, by the contract alone.
-- Assumes nothing.
use mathlib.Core.Path.{◌≡◌, sym}
use mathlib.Core.Bool.{true, false}
use mathlib.Core.List.{List}
use Prim.Native.Nat.{ℕ}
use Rattle.std.specs.Prelude.{Ok}
use Rattle.rules.specs.Outcome.{answer}
use Rattle.rules.specs.Reading.{read}
use Rattle.rules.specs.Order.{chunk_at}
use Rattle.rules.specs.Sheet.{read_module, chunk_outcome}
use Rattle.rules.specs.Paths.{Way, begin, path}
use Rattle.rules.specs.Yields as R
use Rattle.rules.specs.YieldClaims.{Shallow}
use Rattle.rules.proofs.Answers.{from_answer, from_chunk}
use Rattle.rules.proofs.YieldHolds.{yes_told, never_told}
use Rattle.words.specs.Parts.{chunks_in}
use Rattle.words.specs.Refusals.{outcome_of}
use Rattle.yields.specs.declared.entry.Coverage.{Coverage}
use Rattle.yields.specs.declared.entry.Coverage.TheVariants.{Yes, Never}
use Rattle.yields.specs.Entry.{coverage_is}

-- A call of `yield_coverage` for chunk c of these words over a list, of whose range no block lies more than 256 deep.
module _ (ws : List ℕ) (c : ℕ) (lent : List ℕ) (shallow : Shallow (chunk_at (chunks_in ws) c)) where
  -- if it came back with an answer, the chunks are those of the words
  reads : (k : R.Coverage) → R.yield_outcome ws c lent ≡ answer k → read_module ws ≡ answer (chunks_in ws)
  reads k e =
      let held = from_answer (chunk_outcome ws c) _ e in
      let a = from_answer (read_module ws) _ held.1 in
      let r = from_chunk 0 (read ws) a.1 in
      rw r

  -- If it came back with Ok Yes, every path that reaches the end of the range gives up its turn
  pub call_yes : outcome_of {A = Coverage} {B = R.Coverage} coverage_is (Ok Yes) ≡ R.yield_outcome ws c lent → (ways : List Way)
      → R.reaches_end (chunks_in ws) c ways ≡ true → R.gives_up (chunks_in ws) lent (path (chunks_in ws) false (begin (chunks_in ws) c) ways) ≡ true
  call_yes told ways ends = yes_told ws c lent (chunks_in ws) (reads (R.reached true) (sym told)) shallow (sym told) ways ends

  -- and if with Ok Never, none reaches it.
  pub call_never : outcome_of {A = Coverage} {B = R.Coverage} coverage_is (Ok Never) ≡ R.yield_outcome ws c lent → (ways : List Way)
      → R.reaches_end (chunks_in ws) c ways ≡ true → ⊥
  call_never told ways ends = never_told ws c lent (chunks_in ws) (reads R.never (sym told)) shallow (sym told) ways ends
