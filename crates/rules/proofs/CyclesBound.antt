-- Every path through a chunk that keeps its loops' counts costs at most what the walk answers, callees run or not, where each op's fee has room for what is
-- run behind it; with no callee run that is the uncapped figure of the cycle walk. Assumes nothing.
use mathlib.Core.Path.{◌≡◌, refl, ap}
use mathlib.Core.Bool.{Bool, false}
use mathlib.Core.List.{List, [], ◌∷◌}
use Prim.Native.Nat.{ℕ, suc, ◌+◌, ◌≤◌}
use native.Mathlib.Omega.{arith}
use lib.IntN.{ℤ, pos}
use Rattle.rules.specs.Outcome.{ok}
use Rattle.rules.specs.Form.{Chunk}
use Rattle.rules.specs.Rows.{Row, shape_of, chunk_row}
use Rattle.rules.specs.Cycles.{unbroken, Cost, exact_cost}
use Rattle.rules.specs.Order.{chunk_at}
use Rattle.rules.specs.Paths.{Way, Entry, Frame, Spot, here, over, range_at, moved_to, settle, returned, go_by, go, begin, path, op_cycles}
use Rattle.rules.specs.Paths.{path_cycles, EntryKept, KeepsCounts}
use Rattle.rules.proofs.RowTree.{chunk_row_lem}
use Rattle.rules.proofs.Moves.{placed, op_in, plain_goes}
use Rattle.rules.proofs.Walked.{Walked, fee_of, CountedIn, chunk-walked}
use Rattle.rules.proofs.Safe.{prices_of, Keeps, Safe, over_safe, settled, more, SafeBefore, Charged, Called, behind-range}
use Rattle.rules.proofs.RowSafe.{row_safe}

-- The price of an op is its cycles and its extra, and the condition is that the innermost entry keeps its count.
module _ (cs : List Chunk) where
  abbrev pub Kept : Frame → Type 0
  Kept f = EntryKept cs (chunk_at cs f.chunk) f.chunk f.entries

  pub prices : (fs : List Frame) → path_cycles cs fs ≡ prices_of (op_cycles cs) fs
  unfolding path_cycles prices_of
  prices [] = refl
  prices (f ∷ fs) = ap (λ (n : ℕ). op_cycles cs f + n) (prices fs)

module _ (cs : List Chunk) (run : Bool) (cap : ℕ) where
  abbrev pub SafeRun : Spot → ℕ → Type 0
  SafeRun s m = Safe cs run cap (op_cycles cs) (Kept cs) s m

  abbrev pub Before : ℕ → List Frame → ℕ → ℕ → List Entry → ℕ → Type 0
  Before c gs z i es m = SafeBefore cs run cap (op_cycles cs) (Kept cs) c gs z i es m

  abbrev pub ChargedAs : (ℕ → ℕ) → ℕ → Type 0
  ChargedAs fee c = Charged cs run cap (op_cycles cs) (Kept cs) c fee (CountedIn (chunk_at cs c))

  pub keeps : (s : Spot) (ways : List Way) → KeepsCounts cs run s ways → Keeps cs run cap (op_cycles cs) (Kept cs) s ways
  unfolding KeepsCounts Keeps
  keeps s [] k = tt
  keeps over (w ∷ ws) k = tt
  keeps (here f gs) (w ∷ ws) k = (k.0, keeps (go cs run f gs w) ws k.1)

  -- From a chunk's start, whatever callers are behind: what the walk answers, and what follows the return.
  pub chunk_safe : (fee : ℕ → ℕ) (c : ℕ) (r : Row) (k : Cost) → chunk_row (chunk_at cs c) ≡ ok r → Walked fee (CountedIn (chunk_at cs c)) r 0 unbroken k
      → ChargedAs fee c → (gs : List Frame) (z : ℕ) → SafeRun (returned cs gs) z → Before c gs z (range_at cs c).from [] k.cycles
  chunk_safe fee c r k hr v charged gs z back =
      let w = chunk_row_lem (chunk_at cs c) r hr in
      let from = (range_at cs c).from in
      let to = (range_at cs c).to in
      let called : Called cs run cap (op_cycles cs) (Kept cs) c fee (CountedIn (chunk_at cs c)) =
      record { rules = charged; callers = gs; after = z; back = back } in
      row_safe called to r false from to 0 unbroken k [] 0 k.cycles (omega arith) (omega arith) w.is_row v tt
      (λ on. behind-range called to [] 0 (omega arith)) (λ m. tt) (omega arith)

  -- an op behind which no callee is run costs at most its fee
  pub plain_passed : (c : ℕ) (fee : ℕ → ℕ) (gs : List Frame) (z i n : ℕ) (es : List Entry) → SafeRun (returned cs gs) z
      → ((d b : ℤ) (w : Way) → go_by cs (shape_of (op_in cs c i)) run (placed c i d b es) gs w ≡ settle cs (moved_to cs (suc i) es (placed c i d b es)) gs)
      → ((d b : ℤ) → op_cycles cs (placed c i d b es) ≤ fee i) → Before c gs z (suc i) es n → Before c gs z i es (fee i + n)
  plain_passed c fee gs z i n es back goes own next d b =
      settled cs run cap (op_cycles cs) (Kept cs) (placed c i d b es) gs (fee i + n + z)
      (λ kept w ws k. let a : SafeRun (go_by cs (shape_of (op_in cs c i)) run (placed c i d b es) gs w) (n + z) = rw (goes d b w) (next _ _) in
      omega (arith, a ws k, own d b)) (more cs run cap (op_cycles cs) (Kept cs) _ z _ (omega arith) back)

-- The base: no callee is run.
base_charged : (cs : List Chunk) (cap c : ℕ) → ChargedAs cs false cap (fee_of (chunk_at cs c) []) c
base_charged cs cap c =
    record {
      own = λ i d b es. omega arith;
      passed = λ gs z i n es back p next.
          plain_passed cs false cap c (fee_of (chunk_at cs c) []) gs z i n es back
          (λ d b w. plain_goes cs (shape_of (op_in cs c i)) p (placed c i d b es) gs w) (λ d b. omega arith) next;
      header = λ p n k. k.0;
      limit = λ i d b e es n kept reach k. kept reach n k.1;
    }

pub chunk-cycles : (cs : List Chunk) (c : ℕ) (r : Row) (k : Cost) → chunk_row (chunk_at cs c) ≡ ok r → exact_cost (chunk_at cs c) [] r ≡ ok k
    → (ways : List Way) → KeepsCounts cs false (begin cs c) ways → path_cycles cs (path cs false (begin cs c) ways) ≤ k.cycles
chunk-cycles cs c r k hr hk ways kept =
    let spent = path_cycles cs (path cs false (begin cs c) ways) in
    let safe =
    chunk_safe cs false spent (fee_of (chunk_at cs c) []) c r k hr (chunk-walked (chunk_at cs c) [] r k hk) (base_charged cs spent c) [] 0
    (over_safe cs false spent (op_cycles cs) (Kept cs) 0) (pos 0) (pos 0) in
    omega (arith, prices cs (path cs false (begin cs c) ways), safe ways (keeps cs false spent (begin cs c) ways kept))
