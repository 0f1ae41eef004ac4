-- Lines and fields: bytes cut at newlines and at spaces, and a line is read as a group exactly if it is what `group_fields` writes.
-- Assumes nothing.
use mathlib.Core.Path.{◌≡◌, refl, sym, ap, ap₂, ◌∙◌}
use mathlib.Core.Bool.{Bool, true, false, cond, ◌&&◌}
use mathlib.Core.List.{List, [], ◌∷◌, ◌++◌, map}
use mathlib.Core.Logic.{◌⊎◌, inl, inr, ⊎_elim}
use Prim.Native.Nat.{ℕ, ◌≤◌, ◌<◌}
use native.Mathlib.Omega.{arith}
use borrow.Author.Tests.{eqb-true, eq-eqb, ne_eqb, leb-true, le-leb}
use lib.Dec.{eqb, leb}
use Rattle.rules.specs.Kinds as K
use Rattle.rules.specs.Form.{Each}
use Rattle.rules.specs.Outcome.{Found, found, nothing}
use Rattle.rules.specs.Ops.{Group, group}
use Rattle.rules.specs.Text.{decimal, space, newline}
use Rattle.rules.specs.Table.{most_number, head_onto, lines_of, fields_of, number_of, FieldNumbers, all_numbers, broken, one_more, numbers_of}
use Rattle.rules.specs.Table.{is_group, group_if, five, group_from, group_of}
use Rattle.rules.specs.TableClaims.{group_fields, Fits}
use Rattle.rules.proofs.Flags.{both}
use Rattle.rules.proofs.Every.{each_append}
use Rattle.rules.proofs.DecimalRead.{Digit, decimal-digits, read-decimal, only_decimal}

abbrev pub Without : ℕ → List ℕ → Type 0
Without s xs = Each (λ x. x ≡ s → ⊥) xs

-- Bytes cut at the byte s: what lines and fields have in common.
module _ (s : ℕ) (f : List ℕ → List (List ℕ)) (step : (x : ℕ) (xs : List ℕ) → f (x ∷ xs) ≡ cond (eqb x s) ([] ∷ f xs) (head_onto x (f xs))) where
  cut : (xs : List ℕ) → f (s ∷ xs) ≡ [] ∷ f xs
  cut xs = step s xs ∙ rw (eq-eqb s s refl)

  past : (x : ℕ) (xs : List ℕ) → (x ≡ s → ⊥) → f (x ∷ xs) ≡ head_onto x (f xs)
  past x xs h = step x xs ∙ rw (ne_eqb x s h)

  first_piece : (xs rest : List ℕ) → Without s xs → f (xs ++ (s ∷ rest)) ≡ xs ∷ f rest
  first_piece [] rest h = cut rest
  first_piece (x ∷ xs) rest h = past x (xs ++ (s ∷ rest)) h.0 ∙ ap (head_onto x) (first_piece xs rest h.1)

  only_piece : ((x : ℕ) → head_onto x (f []) ≡ (x ∷ []) ∷ []) → (x : ℕ) (xs : List ℕ) → Without s (x ∷ xs) → f (x ∷ xs) ≡ (x ∷ xs) ∷ []
  only_piece none x [] h = past x [] h.0 ∙ none x
  only_piece none x (y ∷ ys) h = past x (y ∷ ys) h.0 ∙ ap (head_onto x) (only_piece none y ys h.1)

  no_piece : (xs : List ℕ) → f xs ≡ [] → xs ≡ []
  no_piece [] e = refl
  no_piece (x ∷ xs) e = go (eqb x s) (f xs) (sym (step x xs) ∙ e)
    where
      go : (b : Bool) (ls : List (List ℕ)) → cond b ([] ∷ ls) (head_onto x ls) ≡ [] → x ∷ xs ≡ []
      go true ls e = cc
      go false [] e = cc
      go false (l ∷ ls) e = cc

  -- what bytes are by their first piece: cut behind it, or no more than it
  abbrev Back : List ℕ → List ℕ → List (List ℕ) → Type 0
  Back xs l ls = ((rest : List ℕ) × (xs ≡ l ++ (s ∷ rest)) × (f rest ≡ ls)) ⊎ ((xs ≡ l) × (ls ≡ []))

  piece_back : ((l : List ℕ) (ls : List (List ℕ)) → f [] ≡ l ∷ ls → Back [] l ls)
      → (xs l : List ℕ) (ls : List (List ℕ)) → f xs ≡ l ∷ ls → Back xs l ls
  piece_back none [] l ls e = none l ls e
  piece_back none (x ∷ xs) l ls e = go (eqb x s) refl (f xs) refl (sym (step x xs) ∙ e) (λ m ms. piece_back none xs m ms)
    where
      go : (b : Bool) → eqb x s ≡ b → (ms : List (List ℕ)) → f xs ≡ ms → cond b ([] ∷ ms) (head_onto x ms) ≡ l ∷ ls
          → ((m : List ℕ) (ms : List (List ℕ)) → f xs ≡ m ∷ ms → Back xs m ms) → Back (x ∷ xs) l ls
      go true t ms g e next = let same = eqb-true x s t in inl (xs, cc, cc)
      go false t [] g e next = let nil = no_piece xs g in inr (cc, cc)
      go false t (m ∷ ms) g e next = ⊎_elim (λ a. inl (a.0, cc a.1, cc a.2)) (λ a. inr (cc a.0, cc a.1)) (next m ms g)

lines_step : (x : ℕ) (xs : List ℕ) → lines_of (x ∷ xs) ≡ cond (eqb x newline) ([] ∷ lines_of xs) (head_onto x (lines_of xs))
unfolding lines_of
lines_step x xs = refl

pub first_line : (xs rest : List ℕ) → Without newline xs → lines_of (xs ++ (newline ∷ rest)) ≡ xs ∷ lines_of rest
first_line = first_piece newline lines_of lines_step

pub only_line : (x : ℕ) (xs : List ℕ) → Without newline (x ∷ xs) → lines_of (x ∷ xs) ≡ (x ∷ xs) ∷ []
unfolding lines_of
only_line = only_piece newline lines_of lines_step (λ x. refl)

pub no_line_lem : (bytes : List ℕ) → lines_of bytes ≡ [] → bytes ≡ []
no_line_lem = no_piece newline lines_of lines_step

pub line_back : (bytes l : List ℕ) (ls : List (List ℕ)) → lines_of bytes ≡ l ∷ ls
    → ((rest : List ℕ) × (bytes ≡ l ++ (newline ∷ rest)) × (lines_of rest ≡ ls)) ⊎ ((bytes ≡ l) × (ls ≡ []))
unfolding lines_of
line_back = piece_back newline lines_of lines_step (λ l ls e. absurd (let z : ◌≡◌ {A = ℕ} 0 1 = cc in omega arith))

fields_step : (x : ℕ) (xs : List ℕ) → fields_of (x ∷ xs) ≡ cond (eqb x space) ([] ∷ fields_of xs) (head_onto x (fields_of xs))
unfolding fields_of
fields_step x xs = refl

-- Numbers with one space between: their bytes, their fields, and what was read as numbers.
abbrev spaced : List ℕ → List ℕ
spaced [] = []
spaced (n ∷ []) = decimal n
spaced (n ∷ m ∷ ns) = decimal n ++ (space ∷ spaced (m ∷ ns))

-- a byte below the digits is not in a number
plain : (s n : ℕ) → s < 48 → Without s (decimal n)
plain s n h = go (decimal n) (decimal-digits n)
  where
    go : (xs : List ℕ) → Each Digit xs → Without s xs
    go [] d = tt
    go (x ∷ xs) d = (λ e. omega (arith, d.0), go xs d.1)

spaced_plain : (ns : List ℕ) → Without newline (spaced ns)
spaced_plain [] = tt
spaced_plain (n ∷ []) = plain newline n (omega arith)
spaced_plain (n ∷ m ∷ ns) =
    each_append (λ x. x ≡ newline → ⊥) (decimal n) (space ∷ spaced (m ∷ ns)) (plain newline n (omega arith)) (λ e. omega arith, spaced_plain (m ∷ ns))

spaced_fields : (n : ℕ) (ns : List ℕ) → fields_of (spaced (n ∷ ns)) ≡ map decimal (n ∷ ns)
unfolding fields_of
spaced_fields n [] = go (decimal n) (plain space n (omega arith))
  where
    go : (xs : List ℕ) → Without space xs → fields_of xs ≡ xs ∷ []
    go [] h = refl
    go (x ∷ xs) h = only_piece space fields_of fields_step (λ y. refl) x xs h
spaced_fields n (m ∷ ns) =
    first_piece space fields_of fields_step (decimal n) (spaced (m ∷ ns)) (plain space n (omega arith))
    ∙ ap (λ (fs : List (List ℕ)). decimal n ∷ fs) (spaced_fields m ns)

field_back : (bytes l : List ℕ) (ls : List (List ℕ)) → fields_of bytes ≡ l ∷ ls
    → ((rest : List ℕ) × (bytes ≡ l ++ (space ∷ rest)) × (fields_of rest ≡ ls)) ⊎ ((bytes ≡ l) × (ls ≡ []))
unfolding fields_of
field_back = piece_back space fields_of fields_step (λ l ls e. inr (cc, cc))

no_field : (bytes : List ℕ) → fields_of bytes ≡ [] → ⊥
unfolding fields_of
no_field bytes e =
    let nil = no_piece space fields_of fields_step bytes e in
    let z : ◌≡◌ {A = ℕ} 0 1 = cc in
    omega arith

spaced-back : (bytes : List ℕ) (n : ℕ) (ns : List ℕ) → fields_of bytes ≡ map decimal (n ∷ ns) → bytes ≡ spaced (n ∷ ns)
spaced-back bytes n [] e = ⊎_elim (λ a. absurd (no_field a.0 a.2)) (λ a. a.0) (field_back bytes (decimal n) [] e)
spaced-back bytes n (m ∷ ns) e =
    ⊎_elim (λ a. a.1 ∙ ap (λ (xs : List ℕ). decimal n ++ (space ∷ xs)) (spaced-back a.0 m ns a.2))
    (λ a. absurd (let z : ◌≡◌ {A = ℕ} 0 1 = cc a.1 in omega arith))
    (field_back bytes (decimal n) (map decimal (m ∷ ns)) e)

numbers_there : (ns : List ℕ) → Each (λ n. n ≤ most_number) ns → numbers_of (map decimal ns) ≡ all_numbers ns
unfolding numbers_of
numbers_there [] h = refl
numbers_there (n ∷ ns) h = rw (read-decimal n h.0, numbers_there ns h.1)

numbers-back : (fs : List (List ℕ)) (ns : List ℕ) → numbers_of fs ≡ all_numbers ns → (fs ≡ map decimal ns) × Each (λ n. n ≤ most_number) ns
unfolding numbers_of
numbers-back [] [] e = (refl, tt)
numbers-back [] (n ∷ ns) e = absurd (let z : ◌≡◌ {A = ℕ} 0 1 = cc in omega arith)
numbers-back (f ∷ fs) ns e = go (number_of f) refl (numbers_of fs) refl ns e (λ ks. numbers-back fs ks)
  where
    go : (o : Found) → number_of f ≡ o → (m : FieldNumbers) → numbers_of fs ≡ m → (ns : List ℕ) → one_more o m ≡ all_numbers ns
        → ((ks : List ℕ) → numbers_of fs ≡ all_numbers ks → (fs ≡ map decimal ks) × Each (λ n. n ≤ most_number) ks)
        → (f ∷ fs ≡ map decimal ns) × Each (λ n. n ≤ most_number) ns
    go nothing p m q ns e next = absurd (let z : ◌≡◌ {A = ℕ} 0 1 = cc in omega arith)
    go (found k) p broken q ns e next = absurd (let z : ◌≡◌ {A = ℕ} 0 1 = cc in omega arith)
    go (found k) p (all_numbers ks) q [] e next = absurd (let z : ◌≡◌ {A = ℕ} 0 1 = cc in omega arith)
    go (found k) p (all_numbers ks) q (n ∷ ns) e next =
        let one = only_decimal f n cc in
        let more = next ns cc in
        (ap₂ {C = List (List ℕ)} (λ x xs. x ∷ xs) one.0 more.0, (one.1, more.1))

-- the numbers of a line, behind the first of them and all
abbrev behind_first : Group → List ℕ
behind_first g = g.last ∷ g.cost.cycles ∷ g.cost.growth ∷ g.cost.shrink ∷ []

abbrev line_numbers : Group → List ℕ
line_numbers g = g.first ∷ behind_first g

pub fields_plain : (g : Group) → Without newline (group_fields g)
fields_plain g = spaced_plain (line_numbers g)

pub line_group : (g : Group) → Fits g → group_of (group_fields g) ≡ is_group g
line_group g fit =
    let fields = spaced_fields g.first (behind_first g) in
    let small : Each (λ n. n ≤ most_number) (line_numbers g) =
    (omega (arith, fit.upward, fit.kinds), (omega (arith, fit.kinds), (fit.cycles, (fit.growth, (fit.shrink, tt))))) in
    let whole : group_of (group_fields g) ≡ five (line_numbers g) = rw (fields, numbers_there (line_numbers g) small) in
    whole ∙ rw (le-leb g.first g.last fit.upward, le-leb g.last K.call_external_native fit.kinds)

five-back : (ns : List ℕ) (g : Group) → five ns ≡ is_group g → (ns ≡ line_numbers g) × (g.first ≤ g.last) × (g.last ≤ K.call_external_native)
five-back [] g e = absurd (let z : ◌≡◌ {A = ℕ} 0 1 = cc in omega arith)
five-back (a ∷ []) g e = absurd (let z : ◌≡◌ {A = ℕ} 0 1 = cc in omega arith)
five-back (a ∷ b ∷ []) g e = absurd (let z : ◌≡◌ {A = ℕ} 0 1 = cc in omega arith)
five-back (a ∷ b ∷ c ∷ []) g e = absurd (let z : ◌≡◌ {A = ℕ} 0 1 = cc in omega arith)
five-back (a ∷ b ∷ c ∷ d ∷ []) g e = absurd (let z : ◌≡◌ {A = ℕ} 0 1 = cc in omega arith)
five-back (a ∷ b ∷ c ∷ d ∷ x ∷ y ∷ ys) g e = absurd (let z : ◌≡◌ {A = ℕ} 0 1 = cc in omega arith)
five-back (a ∷ b ∷ c ∷ d ∷ x ∷ []) g e = go (leb a b && leb b K.call_external_native) refl e
  where
    go : (t : Bool) → leb a b && leb b K.call_external_native ≡ t → group_if t (group a b c d x) ≡ is_group g
        → (a ∷ b ∷ c ∷ d ∷ x ∷ [] ≡ line_numbers g) × (g.first ≤ g.last) × (g.last ≤ K.call_external_native)
    go false h e = absurd (let z : ◌≡◌ {A = ℕ} 0 1 = cc in omega arith)
    go true h e =
        let same : group a b c d x ≡ g = cc in
        let (up, kinds) = both (leb a b) (leb b K.call_external_native) h in
        let first : a ≡ g.first = ap (λ (h : Group). h.first) same in
        let last : b ≡ g.last = ap (λ (h : Group). h.last) same in
        (ap line_numbers same, omega (arith, leb-true a b up), omega (arith, leb-true b K.call_external_native kinds))

pub group_line_lem : (l : List ℕ) (g : Group) → group_of l ≡ is_group g → (l ≡ group_fields g) × Fits g
group_line_lem l g e = go (numbers_of (fields_of l)) refl e
  where
    go : (m : FieldNumbers) → numbers_of (fields_of l) ≡ m → group_from m ≡ is_group g → (l ≡ group_fields g) × Fits g
    go broken q e = absurd (let z : ◌≡◌ {A = ℕ} 0 1 = cc in omega arith)
    go (all_numbers ns) q e =
        let (same, up, kinds) = five-back ns g e in
        let (fields, small) = numbers-back (fields_of l) (line_numbers g) cc in (
          spaced-back l g.first (behind_first g) fields,
          record { upward = up; kinds = kinds; cycles = small.1.1.0; growth = small.1.1.1.0; shrink = small.1.1.1.1.0 },
        )
