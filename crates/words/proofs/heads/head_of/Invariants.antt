-- `head_of` goes from head to head: after i chunks it stands at the head of chunk i. Assumes nothing.
use mathlib.Core.Path.{◌≡◌}
use Rattle.words.specs.Parts.{chunks_in, head_at}
use Rattle.words.proofs.heads.head_of.Given as goal

abbrev pub invariant-loop : goal.invariant-loop
invariant-loop l = l.at ≡ head_at (chunks_in l.words) l.counter
