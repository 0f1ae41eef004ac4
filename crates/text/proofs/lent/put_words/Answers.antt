-- `put_words` writes the bytes of one word after those of the other: after each turn those of the words so far stand there. Assumes nothing.
use mathlib.Core.Path.{refl, sym, ap}
use native.Mathlib.Omega.{arith}
use lib.ListN.{length, get_or, take}
use lib.Seq.{take_all}
use Rattle.rules.specs.Text.{bytes_in}
use Rattle.text.proofs.PasteLaws.{pasted_none, then}
use Rattle.text.proofs.WordsLaws.{bytes_length, bytes_room, more_bytes}
use Rattle.text.proofs.lent.put_words.Goals as goal

pub loop-w-init : goal.loop-w-init
unfolding bytes_in
loop-w-init c = (sym (pasted_none _ _), omega arith)

pub put_bytes-next-requires : goal.put_bytes-next-requires
put_bytes-next-requires c =
    let words = c.args.words.now in
    omega (arith, c.loop-w.invariant.1, c.loop-w.auto.out, ap length c.to_le_bytes.ensures, bytes_room c.loop-w.w-index words c.loop-w-test.true, bytes_length words)

pub loop-w-preserved : goal.loop-w-preserved
loop-w-preserved c =
    let i = c.loop-w.w-index in
    let words = c.args.words.now in
    let more = more_bytes i words c.loop-w-test.true (get_or words i 0) (omega (arith, c.type_inv.words i)) refl in
    rw (← more, ← c.to_le_bytes.ensures)
    (then c.args.at (bytes_in (take i words)) c.to_le_bytes.result c.args.out.now (omega (arith, bytes_room i words c.loop-w-test.true, bytes_length words)) c.loop-w.invariant
    (c.put_bytes-next.ensures.written, c.put_bytes-next.ensures.next))

pub returns-clause-written : goal.returns-clause-written
returns-clause-written c = rw (take_all c.loop-w.w-index c.args.words.now c.loop-w-test.false) at c.loop-w.invariant.0

pub returns-clause-next : goal.returns-clause-next
returns-clause-next c = rw (take_all c.loop-w.w-index c.args.words.now c.loop-w-test.false) at c.loop-w.invariant.1
