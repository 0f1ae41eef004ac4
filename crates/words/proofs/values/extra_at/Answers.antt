-- `extra_at` meets its contract: one law each for a missing extra and for one that is there. Assumes nothing.
use mathlib.Core.Path.{sym}
use Rattle.words.proofs.ValueLaws.{extra_none, extra_read}
use Rattle.words.proofs.values.extra_at.Goals as goal

pub returns-then-extras-i : goal.returns-then-extras-i
returns-then-extras-i c = sym (extra_none _ _ c.if-extras-i.true)

pub returns : goal.returns
returns c = sym (extra_read _ _ c.if-extras-i.false)
