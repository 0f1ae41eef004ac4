-- `put_chunk` writes the head, then part after part. Assumes nothing.
use mathlib.Core.Path.{refl, ap}
use mathlib.Core.List.{[], ◌∷◌, ◌++◌, map, flat_map}
use Prim.Native.Nat.{◌<◌}
use native.Mathlib.Omega.{arith}
use lib.ListN.{length}
use Rattle.rules.specs.Ops.{word}
use Rattle.rules.specs.Form.{extra_words}
use Rattle.rules.specs.Writing.{op_word, held_constants, held_ops, trimmed}
use Rattle.text.proofs.PasteLaws.{pasted-one}
use Rattle.writer.specs.Size.{constants_words}
use Rattle.writer.proofs.PutLaws.{left_all, left_more, left_last, own_parts}
use Rattle.writer.proofs.put.put_chunk.Goals as goal

pub returns : goal.returns
returns c =
    let a = c.args in
    let h = a.h in
    let own = own_parts h a.own c.requires.0 in
    let constants = constants_words (held_constants a.own.constants.now) in
    let ops = map op_word (held_ops a.own.ops.now) in
    let extras = flat_map extra_words (trimmed a.own.extras.now) in
    let w = word 200 h.mode h.locals in
    let first : a.at < length a.tray.now = omega (arith, c.requires.1, ap length own.words) in
    let one = left_more (w ∷ []) (constants ++ (ops ++ extras)) (left_all a.at a.tray.now own.words c.requires.1) (pasted-one a.at w a.tray.now first, refl) in
    let two = left_more constants (ops ++ extras) one c.put_constants-first.ensures in
    let three = left_more ops extras two c.put_ops-second.ensures in
    left_last extras three (rw (← c.trimmed.ensures.kept) c.put_extras.ensures)
