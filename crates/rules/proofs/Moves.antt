-- Where the plain ops lead, no callee run, and those that end a chunk's part of a path. Assumes nothing.
use mathlib.Core.Path.{◌≡◌, refl}
use mathlib.Core.Bool.{Bool, false}
use mathlib.Core.List.{List}
use Prim.Native.Nat.{ℕ, suc, ◌≤◌}
use lib.IntN.{ℤ}
use Rattle.rules.specs.Ops.{op_at}
use Rattle.rules.specs.Form.{Chunk}
use Rattle.rules.specs.Rows.{Shape, Plain, Ending}
use Rattle.rules.specs.Order.{chunk_at}
use Rattle.rules.specs.Paths.{Way, Entry, Frame, Spot, over, range_at, moved_to, settle, returned, go_by}
use Rattle.rules.proofs.Shapes.{by_plain, by_ending}

-- a frame of chunk c before the op at i
abbrev pub placed : ℕ → ℕ → ℤ → ℤ → List Entry → Frame
placed c i d b es = record { chunk = c; at = i; depth = d; base = b; entries = es }

-- the op of chunk c at a position, and the positions of its range
abbrev pub op_in : List Chunk → ℕ → ℕ → ℕ
op_in cs c i = op_at (chunk_at cs c).ops i

abbrev pub Inside : List Chunk → ℕ → ℕ → ℕ → Type 0
Inside cs c i to = ((range_at cs c).from ≤ i) × (to ≤ (range_at cs c).to)

module _ (cs : List Chunk) where
  pub plain_goes : (s : Shape) → Plain s → (f : Frame) (gs : List Frame) (w : Way)
      → go_by cs s false f gs w ≡ settle cs (moved_to cs (suc f.at) f.entries f) gs
  plain_goes s p f gs w = by_plain (λ t. go_by cs t false f gs w ≡ settle cs (moved_to cs (suc f.at) f.entries f) gs) refl (λ k. refl) s p

  -- Trap is the end, Return goes back to the callers
  pub ending_goes : (run : Bool) (P : Spot → Type 0) (s : Shape) → Ending s → (f : Frame) (gs : List Frame) (w : Way) → P over → P (returned cs gs)
      → P (go_by cs s run f gs w)
  ending_goes run P s p f gs w a b = by_ending (λ t. P (go_by cs t run f gs w)) a b s p
