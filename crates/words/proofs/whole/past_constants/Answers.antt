-- `past_constants` passes over whole constants: the list ends with the rest, and read from there the form is broken where it was. Assumes nothing.
use mathlib.Core.Path.{◌∙◌}
use Rattle.words.proofs.RestLaws.{from_on, behind}
use Rattle.words.proofs.ReaderLaws.{past_constant}
use Rattle.words.proofs.whole.past_constants.Goals as goal

pub loop-rest-init : goal.loop-rest-init
loop-rest-init c = let r = from_on c.args.words.now c.args.from c.requires in (r.0, λ n. rw (r.2, r.1))

pub loop-rest-preserved : goal.loop-rest-preserved
loop-rest-preserved c =
    let i = c.loop-rest.invariant in
    let rest = c.loop-rest.rest.now in
    let four = c.in-len4-up.len_at_least in
    let b = behind c.args.words.now c.args.from 4 rest i.0 four in
    (b.0, λ n. i.1 n ∙ past_constant rest _ n four (rw (← c.is_whole_constant.ensures) c.if-not-is_whole_constant.false) ∙ rw (b.2, b.1))

pub returns-clause-same : goal.returns-clause-same
returns-clause-same c = let i = c.loop-rest.invariant in λ n. rw (← i.0.stands) (i.1 n)
