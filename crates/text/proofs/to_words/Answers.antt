-- `to_words` puts the words of a block behind those of the other: those that are there and those of the rest are all. Assumes nothing.
use mathlib.Core.Path.{ap}
use mathlib.Core.List.{append_assoc, append-nil}
use native.Mathlib.Omega.{arith}
use lib.ListN.{length, length-append, length-take}
use Rattle.std.proofs.Common.{rules}
use Rattle.text.proofs.WordsLaws.{words_length, no_words, block_read}
use Rattle.text.proofs.to_words.Goals as goal

pub unwrap-requires : goal.unwrap-requires
unwrap-requires g c =
    c.try_extend_from_slice.ensures.variant.1
    (omega (
      arith,
      simp length-append at (ap length c.loop-rest.invariant),
      words_length c.loop-rest.rest.now,
      words_length c.args.bytes.now,
      c.to_words-n.ensures.count,
      c.split_at.ensures.front_len,
      c.min.ensures,
      length-take c.to_words-n.result c.to_words-n.new.words,
    ))

pub loop-rest-preserved : goal.loop-rest-preserved
loop-rest-preserved g c =
    let written = rw (c.split_at.ensures.front, c.min.ensures) at c.to_words-n.ensures.written in
    let put = rw c.unwrap.ensures at c.try_extend_from_slice.ensures.ok in
    rw (put, c.split_at.ensures.back, c.min.ensures, append_assoc, block_read 512 c.loop-rest.rest.now _ written) c.loop-rest.invariant

pub returns : goal.returns
returns g c = rw (no_words c.loop-rest.rest.now (search rules), append-nil) at c.loop-rest.invariant
