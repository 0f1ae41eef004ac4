-- `passes_of` answers how many steps bring the counter to stop or past it, if the distance fits 64 bits and their number 32.
-- Assumes nothing.
use Rattle.std.proofs.Common.{rules, ap, ◌∙◌, w64, FitsSigned}
use Rattle.std.proofs.lemmas.Int.{to_z-of_z}
use Rattle.words.specs.Found.{found_of}
use Rattle.count.proofs.PassLaws.{passes_told}
use Rattle.count.proofs.bound.passes_of.Goals as goal

pub returns : goal.returns
returns c =
    let a = c.args in
    let f = to_z-of_z w64 a.start c.ranges.start in
    let g = to_z-of_z w64 a.stop c.ranges.stop in
    let fits : FitsSigned w64 c.in_ok-distance.distance = search rules in
    let d = to_z-of_z w64 c.in_ok-distance.distance fits in
    ap found_of c.ok.ensures.value
    ∙ passes_told a.start a.stop c.in_ok-distance.distance a.step c.div_ceil.result c.try_from.result (rw (f, g) at c.if-stop-start.false)
    (rw (f, g) at c.in_ok-distance.ensures.1) fits c.requires.0 (rw d at c.div_ceil.ensures) c.try_from.ensures
