-- How much of an input can matter to the table: a line that is a group is short, and no more groups than there are kinds can stand apart.
-- Assumes nothing.
use mathlib.Core.Path.{◌≡◌, refl, sym, ap, ◌∙◌}
use mathlib.Core.Bool.{Bool, true, false}
use mathlib.Core.List.{List, [], ◌∷◌, ◌++◌, map}
use mathlib.Core.Logic.{◌⊎◌, inl, inr, ⊎_elim}
use Prim.Native.Nat.{ℕ, zero, suc, ◌+◌, ◌-◌, ◌*◌, ◌≤◌, ◌<◌}
use native.Mathlib.Decide.{dec_lt}
use native.Mathlib.Omega.{arith}
use borrow.Author.Tests.{eqb-true, eqb-false}
use lib.Dec.{eqb}
use lib.ListN.{length, take, length-append, length-map}
use lib.Seq.{length-take-le, take_all, take-append-le, take-append-add}
use Rattle.rules.specs.Numbers as N
use Rattle.rules.specs.Form.{Each}
use Rattle.rules.specs.Outcome as O
use Rattle.rules.specs.Ops.{Group}
use Rattle.rules.specs.Order.{Distinct}
use Rattle.rules.specs.Text.{newline}
use Rattle.rules.specs.Table.{kind_count, lines_of, LineGroup, is_group, no_group, group_of, overlaps_any, groups_from, groups_text}
use Rattle.rules.specs.TableClaims.{group_fields, Holds, SomeHolds, Fits, Apart, front_bytes, FrontEnough}
use Rattle.rules.proofs.Members.{In, none, not-nil, in_cons, pigeonhole}
use Rattle.rules.proofs.DecimalLaws.{decimal-length}
use Rattle.rules.proofs.TableLines.{Without, first_line, only_line, group_line_lem}
use Rattle.rules.proofs.TableKinds.{some_overlap}

-- the most bytes of a line that is a group
abbrev group_most : ℕ
group_most = 38

fields_short : (g : Group) → Fits g → length (group_fields g) ≤ group_most
fields_short g fit =
    let a = decimal-length 1 g.first (omega (arith, fit.upward, fit.kinds)) in
    let b = decimal-length 1 g.last (omega (arith, fit.kinds)) in
    let c = decimal-length 9 g.cost.cycles (omega (arith, fit.cycles)) in
    let d = decimal-length 9 g.cost.growth (omega (arith, fit.growth)) in
    let e = decimal-length 9 g.cost.shrink (omega (arith, fit.shrink)) in
    simp length-append (omega (arith, a.1, b.1, c.1, d.1, e.1))

-- Groups that are apart have different first kinds, so there are no more of them than kinds.
abbrev firsts : List Group → List ℕ
firsts gs = map (λ g. g.first) gs

firsts-held : (gs : List Group) (k : ℕ) → Each Fits gs → In k (firsts gs) → SomeHolds gs k × (k < kind_count)
firsts-held [] k fits h = absurd (not-nil k h)
firsts-held (g ∷ gs) k fits h =
    ⊎_elim (λ e. (inl (omega arith, omega (arith, fits.0.upward)), omega (arith, fits.0.upward, fits.0.kinds)))
    (λ t. let r = firsts-held gs k fits.1 t in (inr r.0, r.1))
    (in_cons k g.first (firsts gs) h)

firsts_distinct : (gs : List Group) → Each Fits gs → Apart gs → Distinct (firsts gs)
firsts_distinct [] fits apart = tt
firsts_distinct (g ∷ gs) fits apart = (
  none g.first (firsts gs) (λ h. apart.0 g.first (omega arith, fits.0.upward) (firsts-held gs g.first fits.1 h).0),
  firsts_distinct gs fits.1 apart.1,
)

at_most : (gs : List Group) → Each Fits gs → Apart gs → length gs ≤ kind_count
at_most gs fits apart =
    let few = pigeonhole kind_count (firsts gs) (firsts_distinct gs fits apart) (λ k h. (firsts-held gs k fits h).1) in
    omega (arith, few, length-map gs (λ g. g.first))

-- a line that is taken behind the groups gs
record Taken (l : List ℕ) (i : ℕ) (gs : List Group) : Type 0 where
  g : Group
  fits : Each Fits (g ∷ gs)
  apart : Apart (g ∷ gs)
  short : length l ≤ group_most
  step : (ls : List (List ℕ)) → groups_from (l ∷ ls) i gs ≡ groups_from ls (suc i) (g ∷ gs)

-- a line is taken or refused, whatever is behind it
abbrev Bad : List ℕ → ℕ → List Group → Type 0
Bad l i gs = (ls : List (List ℕ)) → groups_from (l ∷ ls) i gs ≡ O.no N.bad_word i

bad_or-taken : (l : List ℕ) (i : ℕ) (gs : List Group) → Each Fits gs → Apart gs → Bad l i gs ⊎ Taken l i gs
unfolding groups_from
bad_or-taken l i gs fits apart = go (group_of l) refl
  where
    go : (o : LineGroup) → group_of l ≡ o → Bad l i gs ⊎ Taken l i gs
    go no_group e = inl (λ ls. rw e)
    go (is_group g) e = unless (overlaps_any g gs) refl
      where
        unless : (b : Bool) → overlaps_any g gs ≡ b → Bad l i gs ⊎ Taken l i gs
        unless true t = inl (λ ls. rw (e, t))
        unless false t =
            let (line, fit) = group_line_lem l g e in
            let other : (k : ℕ) → Holds g k → SomeHolds gs k → ⊥ =
            λ k a b. let z : ◌≡◌ {A = ℕ} 0 1 = cc (some_overlap g gs k a b) in omega arith in
            inr record { g = g; fits = (fit, fits); apart = (other, apart); short = rw line (fields_short g fit); step = λ ls. rw (e, t) }

-- bytes by their first newline
abbrev Split : List ℕ → Type 0
Split bytes = ((l : List ℕ) × (rest : List ℕ) × (bytes ≡ l ++ (newline ∷ rest)) × Without newline l) ⊎ Without newline bytes

split : (bytes : List ℕ) → Split bytes
split [] = inr tt
split (x ∷ xs) = go (eqb x newline) refl (split xs)
  where
    go : (b : Bool) → eqb x newline ≡ b → Split xs → Split (x ∷ xs)
    go true e s = let same = eqb-true x newline e in inl ([], xs, cc, tt)
    go false e s =
        let other : x ≡ newline → ⊥ = eqb-false x newline e in
        ⊎_elim (λ a. inl (x ∷ a.0, a.1, cc a.2, (other, a.3))) (λ w. inr (other, w)) s

without_take : (m : ℕ) (l : List ℕ) → Without newline l → Without newline (take m l)
without_take zero l w = tt
without_take (suc m) [] w = tt
without_take (suc m) (x ∷ l) w = (w.0, without_take m l w.1)

lone_line : (l : List ℕ) → Without newline l → 1 ≤ length l → lines_of l ≡ l ∷ []
lone_line [] w h = absurd (omega arith)
lone_line (x ∷ l) w h = only_line x l w

abbrev Same : ℕ → List ℕ → ℕ → List Group → Type 0
Same m bytes i gs = groups_from (lines_of (take m bytes)) i gs ≡ groups_from (lines_of bytes) i gs

-- One line, where n more groups can be taken at most and m bytes are enough for them and one byte more.
module _ (n i m : ℕ) (gs : List Group) (fits : Each Fits gs) (apart : Apart gs) (all : length gs + n ≡ kind_count)
    (enough : suc group_most * n < m) where
  long_bad : (l : List ℕ) → m ≤ length l → Bad l i gs
  long_bad l h =
      ⊎_elim (λ r. r) (λ t. absurd (omega (arith, t.short, at_most (t.g ∷ gs) t.fits t.apart))) (bad_or-taken l i gs fits apart)

  -- a first line that doesn't end within m bytes
  long_same : (bytes l : List ℕ) (ls : List (List ℕ)) → Without newline l → m ≤ length l → take m bytes ≡ take m l → lines_of bytes ≡ l ∷ ls
      → Same m bytes i gs
  long_same bytes l ls w h front lines =
      let size = length-take-le m l h in
      rw (front, lone_line (take m l) (without_take m l w) (omega arith), lines)
      (long_bad (take m l) (omega arith) [] ∙ sym (long_bad l h ls))

  -- what is behind a line that is taken is given
  module _ (next : (l rest : List ℕ) (t : Taken l i gs) → Same (m - suc (length l)) rest (suc i) (t.g ∷ gs)) where
    short_same : (l rest : List ℕ) → Without newline l → length l < m → Same m (l ++ (newline ∷ rest)) i gs
    short_same l rest w h =
        let k = m - suc (length l) in
        let size : m ≡ length l + suc k = omega arith in
        let front : take m (l ++ (newline ∷ rest)) ≡ l ++ (newline ∷ take k rest) =
        ap (λ (j : ℕ). take j (l ++ (newline ∷ rest))) size ∙ take-append-add l (newline ∷ rest) (suc k) in
        rw (front, first_line l (take k rest) w, first_line l rest w)
        (⊎_elim (λ r. r _ ∙ sym (r _)) (λ t. t.step _ ∙ next l rest t ∙ sym (t.step _)) (bad_or-taken l i gs fits apart))

    one_line : (bytes : List ℕ) → Same m bytes i gs
    one_line bytes = ⊎_elim (λ a. rw a.2 (ended a.0 a.1 a.3)) unended (split bytes)
      where
        ended : (l rest : List ℕ) → Without newline l → Same m (l ++ (newline ∷ rest)) i gs
        ended l rest w =
            elim (dec_lt (length l) m) [
              | yes h ↦ short_same l rest w h
              | no h ↦ long_same _ l (lines_of rest) w (omega arith) (take-append-le m l (newline ∷ rest) (omega arith)) (first_line l rest w)
            ]

        unended : Without newline bytes → Same m bytes i gs
        unended w =
            elim (dec_lt (length bytes) m) [
              | yes h ↦ rw (take_all m bytes (omega arith))
              | no h ↦ long_same bytes bytes [] w (omega arith) refl (lone_line bytes w (omega arith))
            ]

front_same : (n i m : ℕ) (gs : List Group) (bytes : List ℕ) → Each Fits gs → Apart gs → length gs + n ≡ kind_count → suc group_most * n < m
    → Same m bytes i gs
front_same zero i m gs bytes fits apart all enough =
    one_line zero i m gs fits apart all enough (λ l rest t. absurd (omega (arith, at_most (t.g ∷ gs) t.fits t.apart))) bytes
front_same (suc n) i m gs bytes fits apart all enough =
    one_line (suc n) i m gs fits apart all enough
    (λ l rest t. front_same n (suc i) (m - suc (length l)) (t.g ∷ gs) rest t.fits t.apart (omega arith) (omega (arith, t.short))) bytes

pub front_enough : FrontEnough
front_enough bytes = ap groups_text (front_same kind_count 0 front_bytes [] bytes tt tt refl (omega arith))
