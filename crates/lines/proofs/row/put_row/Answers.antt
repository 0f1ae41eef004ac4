-- `put_row` stores a line's numbers one behind the other: the stores are one paste.
-- Assumes nothing.
use mathlib.Core.Path.{◌≡◌, refl}
use mathlib.Core.Bool.{Bool, true, false}
use native.Mathlib.Numerals.{towards_suc}
use native.Mathlib.Omega.{arith}
use mir.Val.{bool_byte}
use Rattle.rules.specs.Sheet.{mark_number}
use Rattle.text.proofs.PasteLaws.{pasted_stores}
use Rattle.lines.proofs.row.put_row.Goals as goal

-- a flag as a number is the mark's
byte-mark : (b : Bool) → bool_byte b ≡ mark_number b
byte-mark true = refl
byte-mark false = refl

pub returns : goal.returns
returns c = rw (c.from-mark.ensures, byte-mark c.args.line.cut) (simp towards_suc (pasted_stores _ _ _ (omega arith)))
