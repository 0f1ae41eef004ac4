-- `to_words` writes the words one after the other: after i turns the first i of them stand in front. Assumes nothing.
use mathlib.Core.Path.{sym}
use native.Mathlib.Omega.{arith}
use lib.Seq.{take_all}
use Rattle.rules.specs.Text.{words_of}
use Rattle.text.proofs.PasteLaws.{pasted_none}
use Rattle.text.proofs.WordsLaws.{words_length, stored_word}
use Rattle.text.proofs.lent.to_words.Goals as goal

pub loop-i-init : goal.loop-i-init
loop-i-init c = sym (pasted_none _ _)

pub loop-i-preserved : goal.loop-i-preserved
loop-i-preserved c =
    let a = c.as_chunks.ensures in
    rw (c.loop-i.invariant, c.from_le_bytes.ensures, a.front)
    (stored_word c.loop-i.i c.args.bytes.now c.args.words.now c.requires (omega (arith, a.front_len)))

pub returns-clause-written : goal.returns-clause-written
returns-clause-written c =
    let words = words_of c.args.bytes.now in
    let long = words_length c.args.bytes.now in
    let a = c.as_chunks.ensures in
    (rw (c.loop-i.invariant, take_all c.loop-i.i words (omega (arith, long, a.front_len))), omega (arith, long, a.front_len))
