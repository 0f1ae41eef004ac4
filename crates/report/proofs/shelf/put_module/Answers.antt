-- `put_module` refuses bytes that are no numbers or too many, numbers that are not the five and just as many as these say, and what the writer
-- refuses; else it puts the words that are filed. Assumes nothing.
use mathlib.Core.Path.{◌≡◌, refl, ap, ◌∙◌}
use mathlib.Core.List.{List}
use Prim.Native.Nat.{ℕ, ◌+◌}
use native.Mathlib.Omega.{arith}
use lib.ListN.{length, take, get_or, replicate, length-take}
use Rattle.std.proofs.lemmas.Result.{err_from_is_err_and}
use Rattle.rules.specs.Shelf.{shelf_bytes, filed_bytes}
use Rattle.rules.specs.Writing.{how_many, write_tray}
use Rattle.words.specs.Refusals.{outcome_of}
use Rattle.text.proofs.WordsLaws.{bytes_length}
use Rattle.report.proofs.ShelfLaws.{refused_filed, words_filed, written, filed_apart}
use Rattle.report.proofs.shelf.put_module.Goals as goal
use Rattle.report.proofs.shelf.put_module.Goals.{After-write_module}

-- the numbers are cut apart where the lengths say
apart : (c : After-write_module) → shelf_bytes c.args.input.now ≡ filed_bytes (written c.to_words.new.words.items)
apart c =
    let ns = c.to_words.new.words.items in
    let first : get_or ns 0 0 ≡ 0 = rw c.deref-else-end-len.ensures.0 at c.if-deref-ne0.false in
    let one = ap (λ (l : List ℕ). get_or l 1 0) c.deref.ensures.0 in
    let two = ap (λ (l : List ℕ). get_or l 2 0) c.deref-2.ensures.0 in
    let three = ap (λ (l : List ℕ). get_or l 3 0) c.deref-3.ensures.0 in
    let four = ap (λ (l : List ℕ). get_or l 4 0) c.deref-4.ensures.0 in
    let end : 5 + get_or ns 1 0 + get_or ns 2 0 + get_or ns 3 0 + get_or ns 4 0 ≡ length ns = omega (arith, one, two, three, four) in
    filed_apart c.args.input.now ns (omega arith) (omega arith) (rw c.new-numbers.ensures at c.to_words.ensures) (omega arith) first end

-- the writer has the four lists
lists : (c : After-write_module) → outcome_of (λ n. n) c.write_module.result ≡ how_many (written c.to_words.new.words.items)
lists c =
    rw (
      c.deref.ensures.0,
      c.deref-2.ensures.0,
      c.deref-3.ensures.0,
      c.deref-5.ensures.0,
      c.deref-6.ensures.0,
      c.deref-7.ensures.0,
      c.deref-8.ensures.0,
    )
    at c.write_module.ensures.answer

-- and leaves their words in the tray
laid : (c : After-write_module) → c.write_module.new.tray ≡ write_tray (written c.to_words.new.words.items) (replicate 16384 0)
laid c =
    rw (
      c.deref.ensures.0,
      c.deref-2.ensures.0,
      c.deref-3.ensures.0,
      c.deref-5.ensures.0,
      c.deref-6.ensures.0,
      c.deref-7.ensures.0,
      c.deref-8.ensures.0,
    )
    at c.write_module.ensures.written

pub returns-in_err-n-clause-refusal : goal.returns-in_err-n-clause-refusal
returns-in_err-n-clause-refusal c =
    let p = err_from_is_err_and c.from_residual.result c.from_residual.ensures.1 in
    let place = (goal.at.returns-in_err-n-clause-refusal c).After-write_module in
    let told = rw c.in_err-n.was at (lists place) in
    rw (p.1, p.2) (refl, apart place ∙ refused_filed (written c.to_words.new.words.items) told)

pub put_words-requires : goal.put_words-requires
put_words-requires c =
    let words = take c.in_ok-n.n c.write_module.new.tray in
    (omega arith, omega (arith, bytes_length words, length-take c.in_ok-n.n c.write_module.new.tray))

pub returns-clause-filed : goal.returns-clause-filed
returns-clause-filed c =
    let place = (goal.at.returns-clause-filed c).After-write_module in
    let told = rw c.in_ok-n.was at (lists place) in
    rw (c.put_words.ensures, laid place, words_filed (written c.to_words.new.words.items) (replicate 16384 0) told, apart place)
