-- The claims `CountsKept`, `SureCycles` and `SureWhole`: of an accepted module every loop whose body can reach its end has a sure count where a path enters it,
-- so a path that does as its ops say keeps its loops' counts, and the bounds hold of it. Assumes nothing.
use mathlib.Core.Path.{◌≡◌, sym, ◌∙◌}
use mathlib.Core.Bool.{Bool, false, true}
use mathlib.Core.List.{List, [], ◌∷◌}
use Prim.Native.Nat.{ℕ, ◌<◌}
use native.Mathlib.Omega.{arith}
use lib.ListN.{length}
use Rattle.rules.specs.Limits.{deepest}
use Rattle.rules.specs.Outcome.{ok, found}
use Rattle.rules.specs.Form.{Chunk, ChunkFits}
use Rattle.rules.specs.Rows.{Row, chunk_row}
use Rattle.rules.specs.Sure.{sure_count_of}
use Rattle.rules.specs.Cycles.{unbroken, Cost, charge_of}
use Rattle.rules.specs.Order.{no_chunk, chunk_at}
use Rattle.rules.specs.Sheet.{Sheet}
use Rattle.rules.specs.Reading.{read}
use Rattle.rules.specs.Paths.{Way, Entry, Spot, here, over, go, begin, EntryKept, KeepsCounts}
use Rattle.rules.specs.Values.{EntriesSure, KeepsSure}
use Rattle.rules.specs.SureClaims.{CountsKept, SureCycles, SureWhole}
use Rattle.rules.proofs.Every.{each_at}
use Rattle.rules.proofs.Answers.{from_chunk}
use Rattle.rules.proofs.ReadingAgrees.{read_words}
use Rattle.rules.proofs.SheetLines.{LineOf, sheet_lines, accepted_sheet}
use Rattle.rules.proofs.Walked.{Walked, walked, fee_of, chunk_paid, chunk_counted, sure_counted}
use Rattle.rules.proofs.Runs.{EveryFrame}
use Rattle.rules.proofs.NeverReach.{EntryCounted, FrameCounted, path_counted}
use Rattle.rules.proofs.SureKept.{sure_kept}
use Rattle.rules.proofs.Demand.{cycles_bounded}
use Rattle.rules.proofs.WholeBound.{whole_bounded}

none_fits : ChunkFits no_chunk
none_fits = record { locals = omega arith; type = omega arith; constants = tt; ops = tt; extras = tt; enough = omega arith }

module _ (cs : List Chunk) where
  -- the loop at p of chunk k has a sure count
  abbrev SureCount : ℕ → ℕ → ℕ → Type 0
  SureCount k p n = (r : Row) × (chunk_row (chunk_at cs k) ≡ ok r) × (sure_count_of (chunk_at cs k) r p ≡ ok n)

  -- what the op at a position of chunk k is charged, with no callee
  abbrev fees : ℕ → ℕ → ℕ
  fees k i = fee_of (chunk_at cs k) [] i

  module _ (known : (k : ℕ) → k < length cs → (r : Row) × (cost : Cost) × (chunk_row (chunk_at cs k) ≡ ok r) × Walked (fees k) (SureCount k) r 0 unbroken cost) where
    -- the innermost entry of a frame of chunk k
    entry_kept : (k : ℕ) (es : List Entry) → EntryCounted cs fees SureCount known k es → EntriesSure (chunk_at cs k) es
        → EntryKept cs (chunk_at cs k) k es
    entry_kept k [] a b = tt
    entry_kept k (e ∷ es) a b = λ reach n f.
        let x = a reach in
        let g = (chunk_counted (chunk_at cs k) e.loop x.0 (sure_counted (chunk_at cs k) x.1.0 e.loop x.0 x.1.2).0).1 in
        let same : x.0 ≡ n = is_same x.0 n (sym g ∙ f) in
        omega (arith, same, b.0 x.1.0 x.0 x.1.1 x.1.2)
      where
        is_same : (m n : ℕ) → found m ≡ found n → m ≡ n
        is_same m n h = cc

    counts : (run : Bool) (s : Spot) (ways : List Way) → EveryFrame cs run (FrameCounted cs fees SureCount known) s ways → KeepsSure cs run s ways → KeepsCounts cs run s ways
    unfolding EveryFrame KeepsSure KeepsCounts
    counts run s [] a b = tt
    counts run over (w ∷ ws) a b = tt
    counts run (here f gs) (w ∷ ws) a b = (entry_kept f.chunk f.entries a.0 b.0, counts run (go cs run f gs w) ws a.1 b.1)

line_known : (cs : List Chunk) (s : Sheet) (k : ℕ) → LineOf cs s.lines k
    → (r : Row) × (cost : Cost) × (chunk_row (chunk_at cs k) ≡ ok r) × Walked (fees cs k) (SureCount cs k) r 0 unbroken cost
line_known cs s k l =
    let ck = chunk_at cs k in (
      l.row,
      l.cost,
      l.is_row,
      walked (fees cs k) (SureCount cs k) (charge_of ck []) (sure_count_of ck l.row) (chunk_paid ck []) (λ p n e. (l.row, l.is_row, e)) l.row deepest 0 unbroken l.cost l.walked,
    )

pub counts_kept : CountsKept
counts_kept words room cs s accepted c lt run mem ways valued =
    let line : (k : ℕ) → k < length cs → LineOf cs s.lines k = λ k h. sheet_lines cs s (accepted_sheet accepted) k h in
    let fits = (read_words words cs (from_chunk 0 (read words) accepted.reads)).1 in
    let known : (k : ℕ) → k < length cs → (r : Row) × (cost : Cost) × (chunk_row (chunk_at cs k) ≡ ok r) × Walked (fees cs k) (SureCount cs k) r 0 unbroken cost =
    λ k h. line_known cs s k (line k h) in
    counts cs known run (begin cs c) ways (path_counted cs (fees cs) (SureCount cs) known run c lt ways)
    (sure_kept cs (λ k h. ((line k h).row, (line k h).is_row, (each_at ChunkFits no_chunk none_fits cs k fits.each).constants)) c lt run mem ways valued)

pub sure_cycles : SureCycles
sure_cycles words room cs s accepted c lt mem ways valued =
    cycles_bounded words room cs s accepted c lt ways (counts_kept words room cs s accepted c lt false mem ways valued)

pub sure_whole : SureWhole
sure_whole words room cs s accepted c lt mem ways valued =
    whole_bounded words room cs s accepted c lt ways (counts_kept words room cs s accepted c lt true mem ways valued)
