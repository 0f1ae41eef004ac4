-- `row_of` is the figures of a kind with a = 0 and b = 0, packed: one test over the 66 rows shows it. Assumes nothing.
use mathlib.Core.Path.{◌≡◌, refl, ◌∙◌}
use mathlib.Core.Bool.{false}
use mathlib.Core.List.{List, [], ◌∷◌}
use Prim.Native.Nat.{ℕ, ◌*◌, ◌-◌, ◌/◌, ◌%◌, ◌^◌}
use native.Mathlib.Omega.{arith}
use lib.ListN.{get_or}
use Rattle.rules.specs.Ops.{in_groups}
use Rattle.words.proofs.Table.{same}
use Rattle.words.proofs.FigureLaws.{row_of}
use Rattle.words.proofs.figures.row_of.Goals as goal
use Rattle.words.proofs.figures.row_of.Goals.{in-0, in-1, in-2, in-3, in-4, in-5, in-6, in-7, in_default}

-- the rows, eight kinds in a number
abbrev eights : List ℕ
eights =
    0x12_12_11_12_11_8a_88_7a
    ∷ 0x21_21_21_52_52_20_21_21
    ∷ 0x21_21_21_21_10_11_10_10
    ∷ 0x10_10_10_11_10_10_a2_20
    ∷ 0x10_12_52_30_21_20_20_20
    ∷ 0x32_32_20_20_20_20_20_20
    ∷ 0x21_22_10_22_22_22_24_22
    ∷ 0x22_12_10_21_21_21_21_21
    ∷ 0xa2_a2_00_00_00_00_00_00
    ∷ []

pub returns : goal.returns
unfolding in_groups
returns c =
    let chosen : c.match-k-div8.eight ≡ get_or eights (c.args.k / 8) 0 =
    elim c.match-k-div8.branch [
      | in-0 w ↦ w.eight-is ∙ rw w.in-0.is
      | in-1 w ↦ w.eight-is ∙ rw w.in-1.is
      | in-2 w ↦ w.eight-is ∙ rw w.in-2.is
      | in-3 w ↦ w.eight-is ∙ rw w.in-3.is
      | in-4 w ↦ w.eight-is ∙ rw w.in-4.is
      | in-5 w ↦ w.eight-is ∙ rw w.in-5.is
      | in-6 w ↦ w.eight-is ∙ rw w.in-6.is
      | in-7 w ↦ w.eight-is ∙ rw w.in-7.is
      | in_default w ↦ let last : c.args.k / 8 ≡ 8 = omega arith in w.eight-is ∙ rw last
    ] in
    rw chosen
    (same (λ k. false) (λ k. get_or eights (k / 8) 0 / 2 ^ (8 * (7 - k % 8)) % 256) row_of 66 refl c.args.k c.requires refl)
