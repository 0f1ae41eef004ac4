-- `sheet_lines` works out the lines of the chunks in call order: the turns from one on give the whole.
-- Assumes nothing.
use mathlib.Core.Path.{◌≡◌, ap, ◌∙◌}
use native.Mathlib.Omega.{arith}
use lib.ListN.{length, take}
use Rattle.std.proofs.Common.{rules}
use Rattle.std.proofs.lemmas.Result.{err_from_is_err_and}
use Rattle.rules.specs.Form.{Chunk}
use Rattle.rules.specs.Sheet.{chunk_line}
use Rattle.words.specs.Parts.{chunks_in}
use Rattle.words.specs.Refusals.{outcome_of}
use Rattle.lines.specs.Line.{line_is}
use Rattle.order.proofs.VisitLaws.{few-chunks}
use Rattle.sheets.proofs.TrayLaws.{tray_size}
use Rattle.sheets.proofs.TurnLaws.{lined_begins, lined_ends, line, lined_more, lined_refuses}
use Rattle.sheets.proofs.PlaceLaws.{turn_head, turn_fits, turn_chunk}
use Rattle.sheets.proofs.module.sheet_lines.Goals as goal
use Rattle.sheets.proofs.module.sheet_lines.Goals.{After-map_err}

pub loop-chunk_index-init : goal.loop-chunk_index-init
loop-chunk_index-init c =
    lined_begins (chunks_in c.args.calls.now.words.now) c.args.order.now (length c.args.calls.now.places.now) (few-chunks c.requires.0.located.words) c.requires.1

pub parts_from-parts-requires : goal.parts_from-parts-requires
parts_from-parts-requires c = turn_head c.requires.0 c.loop-chunk_index.chunk_index-index c.loop-chunk_index-test.true

pub chunk_with-chunk-requires : goal.chunk_with-chunk-requires
chunk_with-chunk-requires c = turn_fits c.requires.0 c.loop-chunk_index.chunk_index-index c.loop-chunk_index-test.true c.parts_from-parts.ensures

-- the walks of this turn give its chunk's line
told : (c : After-map_err) → outcome_of line_is c.map_err.result ≡ line c.loop-chunk_index.invariant c.loop-chunk_index-test.true
told c =
    let l = c.loop-chunk_index in
    let k = c.chunk_with-chunk.ensures in
    let same = turn_chunk c.requires.0 l.chunk_index-index c.loop-chunk_index-test.true c.parts_from-parts.ensures c.chunk_with-chunk.result k.fields k.constants k.ops k.extras in
    let walked = c.chunk_line.ensures ∙ ap (λ (k : Chunk). chunk_line k (take (length c.args.calls.now.places.now) l.bytes) (take (length c.args.calls.now.places.now) l.wholes)) same in
    rw (← walked) (search rules)

pub returns-in_err-line : goal.returns-in_err-line
returns-in_err-line c =
    let p = err_from_is_err_and c.from_residual.result c.from_residual.ensures.1 in
    rw (p.1, p.2)
    (lined_refuses c.loop-chunk_index.invariant c.loop-chunk_index-test.true (rw c.in_err-line.was at (told (goal.at.returns-in_err-line c).After-map_err)))

pub put_row-requires : goal.put_row-requires
put_row-requires c =
    let l = c.loop-chunk_index.invariant in
    let i = c.loop-chunk_index.chunk_index-index in
    omega (arith, c.requires.0.chunks i c.loop-chunk_index-test.true, l.count, tray_size l.lines _ c.loop-chunk_index.numbers l.rows)

pub loop-chunk_index-preserved : goal.loop-chunk_index-preserved
loop-chunk_index-preserved c =
    let here = rw c.in_ok-line.was at (told (goal.at.loop-chunk_index-preserved c).After-map_err) in
    lined_more c.loop-chunk_index.invariant c.loop-chunk_index-test.true (c.requires.0.chunks c.loop-chunk_index.chunk_index-index c.loop-chunk_index-test.true)
    (line_is c.in_ok-line.line) here c.put_row.ensures

pub returns : goal.returns
returns c = lined_ends c.loop-chunk_index.invariant c.loop-chunk_index-test.false
