-- A number between two others or outside, as a test and as facts. Assumes nothing.
use mathlib.Core.Path.{◌≡◌, refl}
use mathlib.Core.Bool.{Bool, true, false}
use Prim.Native.Nat.{ℕ, ◌≤◌}
use borrow.Author.Tests.{leb-true, le-leb}
use lib.Dec.{leb}
use Rattle.rules.specs.Ops.{between}
use Rattle.rules.proofs.Flags.{both}

pub within : (k l n : ℕ) → between k l n ≡ true → (k ≤ n) × (n ≤ l)
within k l n e = let g = both (leb k n) (leb n l) e in (leb-true k n g.0, leb-true n l g.1)

pub is_within : (k l n : ℕ) → k ≤ n → n ≤ l → between k l n ≡ true
is_within k l n a b = rw (le-leb k n a, le-leb n l b)

pub outside : (k l n : ℕ) → (k ≤ n → n ≤ l → ⊥) → between k l n ≡ false
outside k l n h = go (between k l n) refl
  where
    go : (b : Bool) → between k l n ≡ b → b ≡ false
    go true e = let w = within k l n e in absurd (h w.0 w.1)
    go false e = refl
