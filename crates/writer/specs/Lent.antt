-- What a chunk takes of the lists that are lent.
use Rattle.std.specs.Prelude.{◌≡◌, List, ℕ, ◌*◌, ◌≤◌, length, get_or, take, drop}
use Rattle.rules.specs.Writing.{Draft, Held, held_draft, held_constants, held_ops}
use Rattle.writer.specs.declared.lent.Head.{Head}
use Rattle.writer.specs.declared.lent.Lent.{Lent}

-- the head that five numbers are
abbrev pub head_of : List ℕ → Head
head_of l = record { locals = get_or l 0 0; mode = get_or l 1 0; constants = get_or l 2 0; ops = get_or l 3 0; extras = get_or l 4 0 }

-- the lists have as many numbers as the chunk says
abbrev pub HasOwn : Head → List ℕ → List ℕ → List ℕ → Type 0
HasOwn h ks os xs = (3 * h.constants ≤ length ks) × (3 * h.ops ≤ length os) × (h.extras ≤ length xs)

-- a chunk's own, and what stands behind them
pub record Splits (h : Head) (lent own behind : Lent) : Type 0 where
  pub constants : own.constants.now ≡ take (3 * h.constants) lent.constants.now
  pub ops : own.ops.now ≡ take (3 * h.ops) lent.ops.now
  pub extras : own.extras.now ≡ take h.extras lent.extras.now
  pub more_constants : behind.constants.now ≡ drop (3 * h.constants) lent.constants.now
  pub more_ops : behind.ops.now ≡ drop (3 * h.ops) lent.ops.now
  pub more_extras : behind.extras.now ≡ drop h.extras lent.extras.now
  pub has_own : HasOwn h lent.constants.now lent.ops.now lent.extras.now

-- what a chunk's own lists hold
abbrev pub own_of : Head → Lent → Held Draft
own_of h own = held_draft h.locals h.mode (held_constants own.constants.now) (held_ops own.ops.now) own.extras.now
