-- `head_of` goes from head to head: after i chunks it stands at the head of chunk i. Assumes nothing.
use mathlib.Core.Path.{◌≡◌, ap, ◌∙◌}
use native.Mathlib.Omega.{arith}
use Rattle.words.specs.Parts.{chunks_in, head_at}
use Rattle.words.proofs.PartLaws.{first_head, at_within, next_at}
use Rattle.words.proofs.heads.head_of.Goals as goal

pub loop-init : goal.loop-init
loop-init c = first_head (chunks_in c.args.words.now)

pub parts_at-at-requires : goal.parts_at-at-requires
parts_at-at-requires c = at_within c.args.words.now (chunks_in c.args.words.now) c.requires.0 c.loop.counter (omega arith) c.loop.at c.loop.invariant

pub loop-preserved : goal.loop-preserved
loop-preserved c = next_at c.args.words.now (chunks_in c.args.words.now) c.requires.0 c.loop.counter (omega arith) c.loop.at _ c.loop.invariant c.parts_at-at.ensures

pub returns : goal.returns
returns c =
    let all : c.loop.counter ≡ c.args.c = omega arith in
    c.loop.invariant ∙ ap (head_at (chunks_in c.args.words.now)) all
