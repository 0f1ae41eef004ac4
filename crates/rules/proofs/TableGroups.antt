-- Proper groups print their table, in any order and ended or not, and no other bytes are read as groups.
-- Assumes nothing.
use mathlib.Core.Path.{◌≡◌, refl, sym, ap, ◌∙◌}
use mathlib.Core.Bool.{Bool, true, false, cond, ◌||◌}
use mathlib.Core.List.{List, [], ◌∷◌, ◌++◌, map, flat_map, reverse, reverse_aux, append_assoc, reverse-reverse}
use mathlib.Core.Logic.{◌⊎◌, inl, inr, ⊎_elim}
use Prim.Native.Nat.{ℕ, suc, ◌≤◌}
use native.Mathlib.Omega.{arith}
use Rattle.rules.specs.Numbers as N
use Rattle.rules.specs.Form.{Each}
use Rattle.rules.specs.Outcome.{ok, demand}
use Rattle.rules.specs.Ops.{Group, between, in_groups}
use Rattle.rules.specs.Text.{newline}
use Rattle.rules.specs.Table.{kind_count, lines_of, LineGroup, is_group, no_group, group_of, overlaps_any, in_some, all_kinds}
use Rattle.rules.specs.Table.{unless_overlap, on_group, groups_from, table_rows, groups_text, table_text}
use Rattle.rules.specs.TableClaims.{group_fields, group_line, group_lines, unended, Lines, Holds, SomeHolds, Fits, Apart, Proper}
use Rattle.rules.specs.TableClaims.{GroupsRead, OnlyGroups}
use Rattle.rules.proofs.Between.{within}
use Rattle.rules.proofs.DecimalRead.{first_digit}
use Rattle.rules.proofs.TableLines.{Without, first_line, only_line, no_line_lem, line_back, fields_plain, line_group, group_line_lem}
use Rattle.rules.proofs.TableRows.{rows_same}
use Rattle.rules.proofs.TableKinds.{some_holds, holds_some, all_hold, hold_all, overlap_some, some_overlap}

-- the lines of groups, ended or not
line_more : (g : Group) (bytes : List ℕ) → lines_of (group_line g ++ bytes) ≡ group_fields g ∷ lines_of bytes
line_more g bytes = ap lines_of (append_assoc (group_fields g) (newline ∷ []) bytes) ∙ first_line (group_fields g) bytes (fields_plain g)

line_last : (g : Group) → lines_of (group_fields g) ≡ group_fields g ∷ []
line_last g = go (group_fields g) (fields_plain g) some
  where
    some : group_fields g ≡ [] → ⊥
    some e = let z : ◌≡◌ {A = ℕ} 0 1 = cc (first_digit g.first).2 in omega arith

    go : (xs : List ℕ) → Without newline xs → (xs ≡ [] → ⊥) → lines_of xs ≡ xs ∷ []
    go [] p h = absurd (h refl)
    go (x ∷ xs) p h = only_line x xs p

ended_lines : (gs : List Group) → lines_of (group_lines gs) ≡ map group_fields gs
unfolding flat_map lines_of
ended_lines [] = refl
ended_lines (g ∷ gs) = line_more g (group_lines gs) ∙ ap (λ (ls : List (List ℕ)). group_fields g ∷ ls) (ended_lines gs)

unended_lines : (gs : List Group) → lines_of (unended gs) ≡ map group_fields gs
unfolding unended lines_of
unended_lines [] = refl
unended_lines (g ∷ []) = line_last g
unended_lines (g ∷ h ∷ gs) = line_more g (unended (h ∷ gs)) ∙ ap (λ (ls : List (List ℕ)). group_fields g ∷ ls) (unended_lines (h ∷ gs))

-- Groups are collected the last first. A kind that is in one of them is in no other, so its figures are the same.
reversed_figures : (gs hs : List Group) (k : ℕ) → Apart gs → in_groups (reverse_aux gs hs) k ≡ cond (in_some gs k) (in_groups gs k) (in_groups hs k)
unfolding in_groups in_some
reversed_figures [] hs k apart = refl
reversed_figures (g ∷ gs) hs k apart =
    reversed_figures gs (g ∷ hs) k apart.1 ∙ go (between g.first g.last k) refl (in_some gs k) refl
  where
    go : (b : Bool) → between g.first g.last k ≡ b → (t : Bool) → in_some gs k ≡ t
        → cond t (in_groups gs k) (cond b g.cost (in_groups hs k)) ≡ cond (b || t) (cond b g.cost (in_groups gs k)) (in_groups hs k)
    go true e true s = absurd (apart.0 k (within g.first g.last k e) (some_holds gs k s))
    go true e false s = refl
    go false e true s = refl
    go false e false s = refl

reversed_holds : (gs hs : List Group) (k : ℕ) → SomeHolds gs k ⊎ SomeHolds hs k → SomeHolds (reverse_aux gs hs) k
reversed_holds [] hs k h = ⊎_elim (λ a. absurd a) (λ b. b) h
reversed_holds (g ∷ gs) hs k h =
    reversed_holds gs (g ∷ hs) k (⊎_elim (λ a. ⊎_elim (λ x. inr (inl x)) (λ x. inl x) a) (λ b. inr (inr b)) h)

-- groups that are proper are taken, behind others that none of them overlaps
taken : (gs : List Group) (i : ℕ) (hs : List Group) → Each Fits gs → Apart gs → Each (λ h. h.first ≤ h.last) hs
    → ((k : ℕ) → SomeHolds gs k → SomeHolds hs k → ⊥) → all_kinds (reverse_aux gs hs) kind_count ≡ true
    → groups_from (map group_fields gs) i hs ≡ ok (reverse_aux gs hs)
unfolding groups_from
taken [] i hs fits apart ups other all = rw all
taken (g ∷ gs) i hs fits apart ups other all =
    rw (line_group g fits.0, none (overlaps_any g hs) refl)
    (taken gs (suc i) (g ∷ hs) fits.1 apart.1 (fits.0.upward, ups) (λ k a b. ⊎_elim (λ h. apart.0 k h a) (other k (inr a)) b) all)
  where
    none : (b : Bool) → overlaps_any g hs ≡ b → b ≡ false
    none true e = let (k, low, high, some) = overlap_some g hs e fits.0.upward ups in absurd (other k (inl (low, high)) (some_holds hs k some))
    none false e = refl

read_all : (gs : List Group) → Proper gs → groups_from (map group_fields gs) 0 [] ≡ ok (reverse gs)
read_all gs p =
    let all = hold_all (reverse gs) kind_count (λ k l. reversed_holds gs [] k (inl (p.whole k (omega arith)))) in
    taken gs 0 [] p.alone p.together tt (λ k a b. b) all

same_rows : (gs : List Group) → Proper gs → table_rows (in_groups (reverse gs)) ≡ table_rows (in_groups gs)
same_rows gs p =
    rows_same (in_groups (reverse gs)) (in_groups gs)
    (λ k l. reversed_figures gs [] k p.together ∙ rw (holds_some gs k (p.whole k (omega arith))))

printed : (gs : List Group) → Proper gs → (bytes : List ℕ) → lines_of bytes ≡ map group_fields gs → table_text bytes ≡ table_rows (in_groups gs)
printed gs p bytes e = ap (λ (ls : List (List ℕ)). groups_text (groups_from ls 0 [])) e ∙ ap groups_text (read_all gs p) ∙ same_rows gs p

pub groups_read : GroupsRead
groups_read gs p = (printed gs p (group_lines gs) (ended_lines gs), printed gs p (unended gs) (unended_lines gs))

-- what was taken: the groups that stand on the lines, which are proper if those before them were
record Taken (ls : List (List ℕ)) (hs gs : List Group) : Type 0 where
  proper : Proper gs
  groups : List Group
  lines : ls ≡ map group_fields groups
  order : gs ≡ reverse_aux groups hs

all_taken : (ls : List (List ℕ)) (i : ℕ) (hs gs : List Group) → Each Fits hs → Apart hs → groups_from ls i hs ≡ ok gs → Taken ls hs gs
unfolding groups_from
all_taken [] i hs gs fits apart e = go (all_kinds hs kind_count) refl e
  where
    go : (b : Bool) → all_kinds hs kind_count ≡ b → demand b N.bad_word i hs ≡ ok gs → Taken [] hs gs
    go false t e = absurd (let z : ◌≡◌ {A = ℕ} 0 1 = cc in omega arith)
    go true t e =
        let same : hs ≡ gs = cc in
        let all : Proper hs = record { alone = fits; together = apart; whole = λ k l. all_hold hs kind_count t k (omega arith) } in
        record { proper = rw same at all; groups = []; lines = refl; order = sym same }
all_taken (l ∷ ls) i hs gs fits apart e = go (group_of l) refl e (λ g. all_taken ls (suc i) (g ∷ hs) gs)
  where
    go : (o : LineGroup) → group_of l ≡ o → on_group o i hs (λ j us. groups_from ls j us) ≡ ok gs
        → ((g : Group) → Each Fits (g ∷ hs) → Apart (g ∷ hs) → groups_from ls (suc i) (g ∷ hs) ≡ ok gs → Taken ls (g ∷ hs) gs) → Taken (l ∷ ls) hs gs
    go no_group o e next = absurd (let z : ◌≡◌ {A = ℕ} 0 1 = cc in omega arith)
    go (is_group g) o e next = unless (overlaps_any g hs) refl e
      where
        unless : (b : Bool) → overlaps_any g hs ≡ b → unless_overlap b i (λ j. groups_from ls j (g ∷ hs)) ≡ ok gs → Taken (l ∷ ls) hs gs
        unless true t e = absurd (let z : ◌≡◌ {A = ℕ} 0 1 = cc in omega arith)
        unless false t e =
            let (line, fit) = group_line_lem l g o in
            let other : (k : ℕ) → Holds g k → SomeHolds hs k → ⊥ =
            λ k a b. let z : ◌≡◌ {A = ℕ} 0 1 = cc (some_overlap g hs k a b) in omega arith in
            let r = next g (fit, fits) (other, apart) e in
            record { proper = r.proper; groups = g ∷ r.groups; lines = cc r.lines; order = r.order }

line_joined : (g : Group) {bytes rest tail : List ℕ} → bytes ≡ group_fields g ++ (newline ∷ rest) → rest ≡ tail → bytes ≡ group_line g ++ tail
line_joined g {tail} e r = e ∙ rw (r, append_assoc (group_fields g) (newline ∷ []) tail)

-- bytes whose lines are groups
only_lines : (gs : List Group) (bytes : List ℕ) → lines_of bytes ≡ map group_fields gs → Lines bytes gs
unfolding flat_map unended
only_lines [] bytes e = inl (no_line_lem bytes e)
only_lines (g ∷ []) bytes e =
    ⊎_elim (λ a. inl (line_joined g a.1 (no_line_lem a.0 a.2))) (λ a. inr a.0) (line_back bytes (group_fields g) [] e)
only_lines (g ∷ h ∷ gs) bytes e =
    ⊎_elim (λ a. ⊎_elim (λ b. inl (line_joined g a.1 b)) (λ b. inr (line_joined g a.1 b)) (only_lines (h ∷ gs) a.0 a.2))
    (λ a. absurd (let z : ◌≡◌ {A = ℕ} 0 1 = cc a.1 in omega arith))
    (line_back bytes (group_fields g) (map group_fields (h ∷ gs)) e)

pub only_groups : OnlyGroups
only_groups bytes gs e =
    let t = all_taken (lines_of bytes) 0 [] gs tt tt e in
    (t.proper, rw (t.order, reverse-reverse t.groups) (only_lines t.groups bytes t.lines))
