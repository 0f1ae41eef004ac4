-- `put_words` puts the bytes of a block behind those of the other: those that are there and those of the rest are all. Assumes nothing.
use mathlib.Core.Path.{ap}
use mathlib.Core.List.{append_assoc, append-nil}
use native.Mathlib.Omega.{arith}
use lib.ListN.{length, length-append, length-take}
use Rattle.std.proofs.Common.{rules}
use Rattle.text.proofs.WordsLaws.{bytes_length, no_bytes, block_written}
use Rattle.text.proofs.put_words.Goals as goal

pub slice_bounds-made-end : goal.slice_bounds-made-end
slice_bounds-made-end g c = omega (arith, bytes_length c.split_at.result.0.now, c.put_words-end.ensures.next, c.split_at.ensures.front_len, c.min.ensures, c.put_words-end.auto.out)

pub slice_bounds-put_bytes-end : goal.slice_bounds-put_bytes-end
slice_bounds-put_bytes-end g c =
    omega (
      arith,
      bytes_length c.split_at.result.0.now,
      c.put_words-end.ensures.next,
      c.split_at.ensures.front_len,
      c.min.ensures,
      c.put_words-end.auto.out,
      length-take c.put_words-end.result c.put_words-end.new.out,
    )

pub put_bytes-requires : goal.put_bytes-requires
put_bytes-requires g c = (
  omega arith,
  omega (
    arith,
    simp length-append at (ap length c.loop-rest.invariant),
    bytes_length c.loop-rest.rest.now,
    bytes_length c.args.words.now,
    bytes_length c.split_at.result.0.now,
    c.put_words-end.ensures.next,
    c.split_at.ensures.front_len,
    c.min.ensures,
    length-take c.put_words-end.result c.put_words-end.new.out,
  ),
)

pub loop-rest-preserved : goal.loop-rest-preserved
loop-rest-preserved g c =
    let written = rw (c.split_at.ensures.front, c.min.ensures) at c.put_words-end.ensures.written in
    let next = rw (c.split_at.ensures.front, c.min.ensures) at c.put_words-end.ensures.next in
    rw (c.put_bytes.ensures, c.split_at.ensures.back, c.min.ensures, append_assoc, block_written 512 c.loop-rest.rest.now _ (written, next)) c.loop-rest.invariant

pub returns : goal.returns
returns g c = rw (no_bytes c.loop-rest.rest.now (search rules), append-nil) at c.loop-rest.invariant
