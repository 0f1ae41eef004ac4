-- The two cycle walks of a chunk, and where the second is not needed.
use Rattle.std.specs.Prelude.{Bool, true, not, ◌&&◌, List, [], ◌∷◌, ℕ, eqb}
use Rattle.rules.specs.Kinds as K
use Rattle.rules.specs.Outcome.{Result, ok, and_then}
use Rattle.rules.specs.Ops.{kind}
use Rattle.rules.specs.Form.{Chunk}
use Rattle.rules.specs.Cycles.{Cycles}
use Rattle.cycles.specs.Entry.{range_cycles}
use Rattle.lines.specs.declared.costs.Both.{Both}

-- both figures of a chunk, from the cycle walk without its callees and the one with them
abbrev pub both_of : Cycles → Cycles → Both
both_of k w = record { cycles = k.cycles; cut = k.cut; whole = w.cycles }

-- the walk over no figures, and the one over those of the callees
abbrev pub both_costs : Chunk → List ℕ → ℕ → ℕ → Result Both
both_costs c wholes from to =
    and_then (range_cycles c [] from to) (λ k. and_then (range_cycles c wholes from to) (λ w. ok (both_of k w)))

-- none of these words is a Call
unfoldable pub calls_none : List ℕ → Bool
calls_none [] = true
calls_none (w ∷ ws) = not (eqb (kind w) K.call) && calls_none ws
