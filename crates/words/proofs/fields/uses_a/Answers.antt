-- `uses_a` is `uses_a` up to kind 65: one test over the 64 bits shows them. Assumes nothing.
use mathlib.Core.Path.{◌≡◌, refl}
use mathlib.Core.Bool.{Bool, true, false, cond}
use Prim.Native.Nat.{◌/◌, ◌%◌, ◌^◌}
use native.Mathlib.Omega.{arith}
use lib.Dec.{eqb}
use Rattle.rules.specs.Ops.{uses_a}
use Rattle.words.proofs.Table.{same}
use Rattle.words.proofs.fields.uses_a.Goals as goal

-- a test as a bit is 1 exactly where it is true
as-bit : (u : Bool) → eqb (cond u 1 0) 1 ≡ u
as-bit true = refl
as-bit false = refl

pub returns : goal.returns
returns c = let k = c.args.k in
    rw (same (λ k. false) (λ k. 0x0004_0004_4f60_0007 / 2 ^ k % 2) (λ k. cond (uses_a k) 1 0) 64 refl k (omega arith) refl) (as-bit (uses_a k))
