-- `own_size` looks at part after part, and counts the words of what fits. Assumes nothing.
use mathlib.Core.Path.{◌≡◌, sym, ap, ◌∙◌}
use native.Mathlib.Omega.{arith}
use lib.ListN.{length}
use Rattle.rules.specs.Outcome.{found}
use Rattle.rules.specs.Writing.{held_constants, held_ops, trimmed, every, extra_fits}
use Rattle.writer.specs.Lent.{own_of}
use Rattle.writer.proofs.SizeLaws.{parts_fit, all_parts_fit, no_size, constants-length, ops-length, draft_length}
use Rattle.writer.proofs.size.own_size.Goals as goal

pub returns-then-h-n : goal.returns-then-h-n
returns-then-h-n c =
    let h = c.args.h in
    let own = c.args.own in
    let ks = held_constants own.constants.now in
    let os = held_ops own.ops.now in
    let xs = own.extras.now in
    let ops = ops-length own.ops.now h.ops c.requires.1 in
    let extras : length c.trimmed-n.result.now ≡ length (trimmed xs) = ap length c.trimmed-n.ensures.kept in
    no_size (own_of h own) (λ e. omega (arith, ops, extras, c.if-h-n.true, (parts_fit h.locals h.mode ks os xs e).4))

pub returns : goal.returns
returns c =
    let h = c.args.h in
    let own = c.args.own in
    let ks = held_constants own.constants.now in
    let os = held_ops own.ops.now in
    let xs = own.extras.now in
    let ops = ops-length own.ops.now h.ops c.requires.1 in
    let extras : length c.trimmed-n.result.now ≡ length (trimmed xs) = ap length c.trimmed-n.ensures.kept in
    let constants-fit = sym c.constants_fit.ensures ∙ c.if-not-constants_fit.false in
    let ops-fit = sym c.ops_fit.ensures ∙ c.if-not-ops_fit.false in
    let fits = all_parts_fit h.locals h.mode ks os xs (omega arith) c.if-h.false constants-fit ops-fit
    (ap (every extra_fits) (sym c.trimmed-n.ensures.kept) ∙ c.trimmed-n.ensures.fit) (omega (arith, ops, extras, c.if-h-n.false)) in
    rw fits
    (ap found
    (omega (arith, ops, extras, draft_length h.locals h.mode ks os xs constants-fit, constants-length own.constants.now h.constants c.requires.0 constants-fit)))
