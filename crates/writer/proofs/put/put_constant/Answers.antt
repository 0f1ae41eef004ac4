-- `put_constant` stores the four words in a row. Assumes nothing.
use mathlib.Core.Path.{refl}
use Prim.Native.Nat.{◌*◌}
use native.Mathlib.Nat.{add-zero}
use native.Mathlib.Numerals.{towards_suc}
use Rattle.writer.specs.Size.{four_words}
use Rattle.text.proofs.PasteLaws.{pasted_stores}
use Rattle.writer.proofs.put.put_constant.Goals as goal

pub returns : goal.returns
returns c = let a = c.args in
    rw (← pasted_stores a.at (four_words a.kind a.low a.high) a.tray.now c.requires.1, add-zero (a.kind * 16777216)) (simp towards_suc refl)
