-- The ends of a block lie in the ops: what every walk cites.
-- Assumes nothing.
use mathlib.Core.List.{List}
use Prim.Native.Nat.{ℕ, ◌<◌, ◌≤◌}
use lib.ListN.{length}
use Rattle.rows.specs.Opens.{IfFits, ElseFits, LoopFits}

-- an If at i with EndIf at t
module _ {ops : List ℕ} {i t to : ℕ} (h : IfFits ops i t to) where
  -- its ends lie in the ops
  pub if_within : (i < t) × (t < to) × (to ≤ length ops) × (length ops ≤ 16384)
  if_within = (h.at.target, h.at.within, h.row.within, h.row.short)

-- an If at i with Else at e and EndIf at f
module _ {ops : List ℕ} {i e f to : ℕ} (h : ElseFits ops i e f to) where
  -- its ends lie in the ops
  pub else_within : (i < e) × (e < f) × (f < to) × (to ≤ length ops) × (length ops ≤ 16384)
  else_within = (h.at.target, h.at.else_behind, h.at.within, h.row.within, h.row.short)

-- a Loop at i with EndLoop at e
module _ {ops : List ℕ} {i e to : ℕ} (h : LoopFits ops i e to) where
  -- its ends lie in the ops
  pub loop_within : (i < e) × (e < to) × (to ≤ length ops) × (length ops ≤ 16384)
  loop_within = (h.at.target, h.at.within, h.row.within, h.row.short)
