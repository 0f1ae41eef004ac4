-- The groups of the lines, read one a turn: what the table stands for, and what each line and the end make of it. Assumes nothing.
use mathlib.Core.Path.{◌≡◌, refl, sym, ap, ◌∙◌}
use mathlib.Core.Bool.{Bool, true, false, cond, ◌||◌, true≢false, false≢true}
use mathlib.Core.List.{List, [], ◌∷◌}
use Prim.Native.Nat.{ℕ, suc, ◌+◌, ◌<◌, ◌≤◌}
use native.Mathlib.Numerals.{add-one}
use native.Mathlib.Omega.{arith}
use borrow.Author.Tests.{eqb-true, eqb-false}
use lib.Dec.{eqb}
use lib.ListN.{length, get_or, drop, length-drop, replicate}
use Rattle.std.specs.Prelude.{Option, Some, None}
use Rattle.std.specs.Option.{is_some}
use Rattle.std.proofs.lemmas.List.{get_or-replicate, nil_from_length}
use Rattle.rules.specs.Outcome.{ok, no, refused}
use Rattle.rules.specs.Ops as Ops
use Rattle.rules.specs.Form.{Each}
use Rattle.rules.specs.Text.{newline, outcome_text}
use Rattle.rules.specs.Table.{kind_count, lines_of, is_group, no_group, group_of, overlaps_any, in_some, all_kinds, groups_from, groups_text, table_rows, table_text}
use Rattle.rules.specs.TableClaims.{Fits}
use Rattle.rules.proofs.TableLines.{group_line_lem}
use Rattle.rules.proofs.TableKinds.{some_holds, holds_some, all_hold, hold_all, overlap_some, some_overlap}
use Rattle.rules.proofs.TableRows.{rows_same}
use Rattle.words.proofs.Cases.{decide}
use Rattle.groups.specs.declared.line.Figures.{Figures}
use Rattle.groups.specs.declared.line.Group.{Group}
use Rattle.groups.specs.Line.{before, group_is}
use Rattle.groups.specs.Rows.{figures_at}
use Rattle.groups.proofs.SplitLaws.{line_before}
use Rattle.groups.proofs.RowsLaws.{Asked, row_taken, row_cost}

-- after some lines: the table is that of their groups, and the lines of `rest` are left
pub record Lined (bytes : List ℕ) (t : List (Option Figures)) (rest : List ℕ) (lines : ℕ) : Type 0 where
  pub few : lines + length rest ≤ length bytes
  pub room : length t ≡ kind_count
  pub groups : List Ops.Group
  pub upward : Each (λ h. h.first ≤ h.last) groups
  pub taken : (k : ℕ) → k < kind_count → is_some (get_or t k None) ≡ in_some groups k
  pub rows : (k : ℕ) → k < kind_count → figures_at t k ≡ Ops.in_groups groups k
  pub left : groups_from (lines_of bytes) 0 [] ≡ groups_from (lines_of rest) lines groups

-- no line is read, and no kind has a row
pub lined_none : (bytes : List ℕ) → Lined bytes (replicate kind_count None) bytes 0
unfolding in_some Ops.in_groups
lined_none bytes =
    record {
      few = omega arith;
      room = refl;
      groups = [];
      upward = tt;
      taken = λ k h. rw (get_or-replicate {A = Option Figures} kind_count k None None h);
      rows = λ k h. rw (get_or-replicate {A = Option Figures} kind_count k None None h);
      left = refl;
    }

-- a group that is read fits
pub read_fits : (l : List ℕ) (g : Group) → is_group (group_is g) ≡ group_of l → Fits (group_is g)
read_fits l g is = (group_line_lem l (group_is g) (sym is)).1

module _ {bytes : List ℕ} {t : List (Option Figures)} {rest : List ℕ} {lines : ℕ} (s : Lined bytes t rest lines) where
  -- where the groups are refused, the text is the line of the refusal
  refusal : groups_from (lines_of rest) lines s.groups ≡ no 2 lines → outcome_text (refused 2 0 lines) ≡ table_text bytes
  refusal e = sym (ap groups_text (s.left ∙ e))

  -- where they are accepted, it is their rows
  accepted : groups_from (lines_of rest) lines s.groups ≡ ok s.groups → table_rows (Ops.in_groups s.groups) ≡ table_text bytes
  accepted e = sym (ap groups_text (s.left ∙ e))

  module _ (h : false ≡ eqb (length rest) 0) (line behind : List ℕ) (front : line ≡ before newline rest)
      (back : behind ≡ drop (suc (length (before newline rest))) rest) where
    -- there is a line
    some : 0 < length rest
    some = let other = eqb-false (length rest) 0 (sym h) in omega arith

    -- the lines that are left, by the next one
    next : lines_of rest ≡ line ∷ lines_of behind
    next = rw (front, back) (line_before rest some)

    -- the next line is no group
    pub lined_bad : no_group ≡ group_of line → outcome_text (refused 2 0 lines) ≡ table_text bytes
    unfolding groups_from
    lined_bad n = refusal (rw (next, ← n))

    module _ (g : Group) (one : is_group (group_is g) ≡ group_of line) where
      -- or a group that has a kind of those before
      pub lined_overlap : (k : ℕ) × (g.first ≤ k) × (k ≤ g.last) × (is_some (get_or t k None) ≡ true)
          → outcome_text (refused 2 0 lines) ≡ table_text bytes
      unfolding groups_from
      lined_overlap (k, a, b, c) =
          let below : k < kind_count = omega (arith, (read_fits _ g one).kinds) in
          let found = some_holds s.groups k (sym (s.taken k below) ∙ c) in
          refusal (rw (next, ← one, some_overlap (group_is g) s.groups k (a, b) found))

      -- or one more
      pub lined_more : {r : List (Option Figures)} → ((k : ℕ) → g.first ≤ k → k ≤ g.last → is_some (get_or t k None) ≡ false) → length r ≡ kind_count
          → ((k : ℕ) → get_or r k None ≡ cond (Ops.between g.first g.last k) (Some g.figures) (get_or t k None)) → Lined bytes r behind (lines + 1)
      unfolding groups_from in_some Ops.in_groups
      lined_more {r} none room row =
          record {
            few = omega (arith, s.few, some, ap length back, length-drop (suc (length (before newline rest))) rest);
            room = room;
            groups = group_is g ∷ s.groups;
            upward = (fits.upward, s.upward);
            taken = λ k below. rw (row k, row_taken) (ap (λ (b : Bool). Ops.between g.first g.last k || b) (s.taken k below));
            rows = λ k below. rw (row k, row_cost) (ap (cond (Ops.between g.first g.last k) (group_is g).cost) (s.rows k below));
            left = s.left ∙ rw (next, ← one, apart, add-one lines);
          }
        where
          fits : Fits (group_is g)
          fits = read_fits line g one

          apart : overlaps_any (group_is g) s.groups ≡ false
          apart =
              decide (overlaps_any (group_is g) s.groups)
              (λ o. let (k, a, b, c) = overlap_some (group_is g) s.groups o fits.upward s.upward in
              absurd (false≢true (sym (none k a b) ∙ s.taken k (omega (arith, fits.kinds)) ∙ c)))
              (λ o. o)

  module _ (h : true ≡ eqb (length rest) 0) where
    -- there is no line
    none : lines_of rest ≡ []
    unfolding lines_of
    none = rw (nil_from_length rest (eqb-true (length rest) 0 (sym h)))

    -- and a kind is left out
    pub left_out : Asked false true t → outcome_text (refused 2 0 lines) ≡ table_text bytes
    unfolding groups_from
    left_out (k, within, c) = refusal (rw (none, some_left))
      where
        below : k < kind_count
        below = omega (arith, s.room)

        some_left : all_kinds s.groups kind_count ≡ false
        some_left =
            decide (all_kinds s.groups kind_count)
            (λ all. let there = holds_some s.groups k (all_hold s.groups kind_count all k below) in
            absurd (true≢false (sym there ∙ sym (s.taken k below) ∙ c None)))
            (λ all. all)

    -- or none
    pub whole : Asked false false t → table_rows (λ k. figures_at t k) ≡ table_text bytes
    unfolding groups_from
    whole full = rows_same (λ k. figures_at t k) (Ops.in_groups s.groups) s.rows ∙ accepted (rw (none, all))
      where
        all : all_kinds s.groups kind_count ≡ true
        all =
            hold_all s.groups kind_count
            (λ k below. some_holds s.groups k (sym (s.taken k below) ∙ full k None (omega arith) (omega (arith, s.room))))
