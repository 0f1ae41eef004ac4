-- `write_module` finds the size, then writes. Assumes nothing.
use mathlib.Core.Path.{◌≡◌, sym, ap, ◌∙◌}
use mathlib.Core.Bool.{true}
use mathlib.Core.List.{List, ◌∷◌}
use mathlib.Core.Logic.{⊎_elim}
use Prim.Native.Nat.{suc, ◌+◌, ◌/◌, ◌≤◌}
use native.Mathlib.Omega.{arith}
use lib.ListN.{length, length-set}
use Rattle.rules.specs.Limits.{most_words}
use Rattle.rules.specs.Outcome.{found, answer, refused}
use Rattle.rules.specs.Ops.{word}
use Rattle.rules.specs.Writing.{Draft, Held, held, write_held, write_outcome}
use Rattle.writer.specs.Size.{all_fit, all_words, size_from}
use Rattle.writer.proofs.EntryLaws.{no_chunk, many_chunks, none_fits, size_is, short_tray_lem, written, head-put, refused_is}
use Rattle.writer.proofs.entry.write_module.Goals as goal
use Rattle.writer.proofs.entry.write_module.Goals.{Joined-then-n-eq0, In_default, In-Some, Then-tray-count}

-- the chunk count is out of its range
count : (c : Joined-then-n-eq0) → let a = c.args in refused 14 0 0 ≡ write_outcome a.chunks.now a.constants.now a.ops.now a.extras.now (length a.tray.now)
count c =
    let a = c.args in
    ⊎_elim (λ e. no_chunk a.chunks.now a.constants.now a.ops.now a.extras.now (length a.tray.now) e)
    (λ w. many_chunks a.chunks.now a.constants.now a.ops.now a.extras.now (length a.tray.now) w.1) c.then-n-eq0.either

pub returns-then-n-eq0 : goal.returns-then-n-eq0
returns-then-n-eq0 c =
    let e = refused_is c.args.tray.now c.at.ensures c.in_chunk.ensures (count (goal.at.returns-then-n-eq0 c).Joined-then-n-eq0) in
    record { answer = e.0; written = e.1 }

pub returns-in_default : goal.returns-in_default
returns-in_default c =
    let a = c.args in
    let none = none_fits a.chunks.now a.constants.now a.ops.now a.extras.now (length a.tray.now) (sym c.in_default.ensures) in
    let e = refused_is a.tray.now c.at-in_default.ensures c.in_chunk-in_default.ensures none in
    record { answer = e.0; written = e.1 }

-- what is lent, and a size that is told
abbrev lent : In-Some → Held (List Draft)
lent c = let a = c.args in held a.chunks.now a.constants.now a.ops.now a.extras.now

told : (c : In-Some) → size_from 1 (lent c) ≡ found c.in-Some.count
told c = sym c.in-Some.ensures

told_is : (c : In-Some) → let n = c.in-Some.count in
    (all_fit (lent c) ≡ true) × (n ≡ 1 + length (all_words (lent c))) × (n ≤ most_words)
    × (write_held (lent c) ≡ answer (word 199 0 (length c.args.chunks.now / 5) ∷ all_words (lent c)))
told_is c =
    let a = c.args in
    size_is a.chunks.now a.constants.now a.ops.now a.extras.now (length a.tray.now) c.in-Some.count c.if-n-eq0.false c.if-n-gt-CHUNKS.false (told c)

pub returns-then-tray-count : goal.returns-then-tray-count
returns-then-tray-count c =
    let a = c.args in
    let short = short_tray_lem a.chunks.now a.constants.now a.ops.now a.extras.now (length a.tray.now) c.in-Some.count c.if-n-eq0.false c.if-n-gt-CHUNKS.false
    (told (goal.at.returns-then-tray-count c).In-Some) c.if-tray-count.true in
    let e = refused_is a.tray.now c.at-then-tray-count.ensures c.in_chunk-then-tray-count.ensures short in
    record { answer = e.0; written = e.1 }

pub put_chunks-requires : goal.put_chunks-requires
put_chunks-requires c =
    let t = told_is (goal.at.put_chunks-requires c).In-Some in
    (t.0, simp length-set (omega (arith, c.if-tray-count.false, t.1)))

pub returns : goal.returns
returns c =
    let a = c.args in
    let b = (goal.at.returns c).In-Some in
    let t = told_is b in
    let n : c.in-Some.count ≡ suc (length (all_words (lent b))) = omega (arith, t.1) in
    let out = written a.chunks.now a.constants.now a.ops.now a.extras.now (length a.tray.now) c.in-Some.count c.if-n-eq0.false c.if-n-gt-CHUNKS.false (told b) (omega (arith, c.if-tray-count.false)) in
    let room : 1 + length (all_words (lent b)) ≤ length a.tray.now = omega (arith, c.if-tray-count.false, t.1) in
    let done = c.put_chunks.ensures ∙ head-put (word 199 0 (length a.chunks.now / 5)) (all_words (lent b)) a.tray.now room in
    rw out (record { answer = ap answer n; written = done })
