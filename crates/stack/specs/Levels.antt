-- The level of the operand stack along a row, what an op does to it, the height of a row, and the bounds within which both stay.
use Rattle.std.specs.Prelude.{Bool, List, [], ℕ, ◌+◌, ◌≤◌, Option, Some, None, max, ℤ, nat_abs, ◌+ℤ◌}
use Rattle.rules.specs.Form.{Chunk}
use Rattle.rules.specs.Stack as R
use Rattle.stack.specs.declared.level.Effect.{Effect}
use Rattle.stack.specs.declared.level.Level.{Level}
use Rattle.stack.specs.declared.height.Height.{Height}

-- a chunk whose effects need its ops alone
abbrev pub of_ops : List ℕ → Chunk
of_ops ops = record { locals = 0; type = 0; constants = []; ops = ops; extras = [] }

-- the effect of the op at i
abbrev pub effect_at : List ℕ → List ℕ → ℕ → Effect
effect_at ops callees i = record { rise = R.rise_of (of_ops ops) callees i; shift = R.move_of (of_ops ops) i }

-- the level behind an op
abbrev pub level_over : Level → Effect → Level
level_over l e =
    record {
      offset = l.offset +ℤ e.shift;
      peak = record { 0 = max l.peak.0 (R.at_least_zero (l.offset +ℤ e.rise)) };
      broken = l.broken;
    }

-- a level with its peak raised
abbrev pub raised_to : Level → ℕ → Level
raised_to l peak = record { offset = l.offset; peak = record { 0 = max l.peak.0 peak }; broken = l.broken }

-- a level with another mark of breaks
abbrev pub marked_as : Level → Bool → Level
marked_as l broken = record { offset = l.offset; peak = l.peak; broken = broken }

-- what a delta stands for in document 01: an offset, or a row that ends
abbrev pub delta_of : Option ℤ → R.Delta
delta_of (Some x) = R.offset x
delta_of None = R.ends

-- a height, by its three parts
abbrev pub height_of : Height → R.Height
height_of h = R.height h.peak.0 (delta_of h.delta) h.broken

-- the height of a row that ends at a level
abbrev pub ends_at : Level → R.Height
ends_at l = R.height l.peak.0 (R.offset l.offset) l.broken

-- the height of a part that begins at offset d, as the row around it sees it
abbrev pub lifted : ℤ → R.Height → R.Height
lifted d h = R.height (R.at_least_zero d + h.peak) (R.part_delta d h.delta) h.broken

-- An op's rise is at most that of a Call, and its shift at most a field.
pub record SmallEffect (e : Effect) : Type 0 where
  pub rise : nat_abs e.rise ≤ 134217727
  pub shift : nat_abs e.shift ≤ 65536

-- An offset that is at most b away from 0, and a peak at most one Call's rise over b.
pub record Small (l : Level) (b : ℕ) : Type 0 where
  pub offset : nat_abs l.offset ≤ b
  pub peak : l.peak.0 ≤ b + 134217728

-- A delta that is at most b away from 0, or none.
abbrev pub SmallDelta : R.Delta → ℕ → Type 0
SmallDelta (R.offset x) b = nat_abs x ≤ b
SmallDelta R.ends b = Unit {0}

-- The height of a row within the same bounds as a level.
pub record SmallHeight (h : R.Height) (b : ℕ) : Type 0 where
  pub peak : h.peak ≤ b + 134217728
  pub delta : SmallDelta h.delta b
