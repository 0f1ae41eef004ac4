-- An op of a list as the code reads it. Assumes nothing.
use mathlib.Core.Path.{◌≡◌, refl}
use mathlib.Core.List.{List, [], ◌∷◌}
use Prim.Native.Nat.{ℕ, zero, suc, ◌<◌}
use native.Mathlib.Omega.{arith}
use lib.ListN.{length, get_or}
use Rattle.rules.specs.Ops.{op_at}

-- inside the list, the op of a position is the word there
pub read_op : (ops : List ℕ) (i : ℕ) → i < length ops → op_at ops i ≡ get_or ops i 0
read_op [] i h = absurd (omega arith)
read_op (w ∷ ops) zero h = refl
read_op (w ∷ ops) (suc i) h = read_op ops i (omega arith)
