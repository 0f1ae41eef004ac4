-- The group of a line, number by number: the fields that an iterator still yields are those behind the numbers that were read. Assumes nothing.
use mathlib.Core.Path.{◌≡◌, refl, sym, ap, ◌∙◌}
use mathlib.Core.Bool.{true, false, ◌&&◌, true≢false, false≢true}
use mathlib.Core.List.{List, [], ◌∷◌, ◌++◌, append-nil}
use Prim.Native.Nat.{ℕ, suc, ◌+◌, ◌<◌, ◌≤◌}
use native.Mathlib.Numerals.{add-one}
use native.Mathlib.Omega.{arith}
use borrow.Author.Tests.{le-leb, lt-leb}
use denote.Ref.{Bor}
use lib.Dec.{leb}
use lib.ListN.{length, get_or, set, take, length-append, length-set}
use lib.Seq.{take-suc-set, take_all, length-take-le, append_snoc}
use Rattle.std.specs.Prelude.{Option, Some, None}
use Rattle.std.specs.Option.{is_some}
use Rattle.std.proofs.lemmas.Iterator.{YieldsList}
use Rattle.rules.specs.Outcome.{Found, found, nothing}
use Rattle.rules.specs.Ops.{Group, group}
use Rattle.rules.specs.Table.{FieldNumbers, all_numbers, broken, fields_of, number_of, one_more, numbers_of, no_group, is_group, group_if, five, group_from, group_of}

-- numbers in front of those of other fields
abbrev behind : List ℕ → FieldNumbers → FieldNumbers
behind ns (all_numbers ms) = all_numbers (ns ++ ms)
behind ns broken = broken

-- none in front
behind_none : (x : FieldNumbers) → behind [] x ≡ x
behind_none (all_numbers ms) = refl
behind_none broken = refl

-- one more, set at its place
behind_more : (ns : List ℕ) (i n : ℕ) (x : FieldNumbers) → i < length ns
    → behind (take i ns) (one_more (found n) x) ≡ behind (take (suc i) (set ns i n)) x
behind_more ns i n (all_numbers ms) h = rw (take-suc-set ns i n h, append_snoc (take i ns) n ms)
behind_more ns i n broken h = refl

-- any other count than five makes no group
not_five : (ns : List ℕ) → (length ns ≡ 5 → ⊥) → five ns ≡ no_group
not_five [] h = refl
not_five (k ∷ []) h = refl
not_five (k ∷ l ∷ []) h = refl
not_five (k ∷ l ∷ c ∷ []) h = refl
not_five (k ∷ l ∷ c ∷ g ∷ []) h = refl
not_five (k ∷ l ∷ c ∷ g ∷ s ∷ []) h = absurd (h refl)
not_five (k ∷ l ∷ c ∷ g ∷ s ∷ x ∷ xs) h = refl

-- a sixth field
sixth : (ns : List ℕ) (f : Found) (x : FieldNumbers) → length ns ≡ 5 → group_from (behind ns (one_more f x)) ≡ no_group
sixth ns (found n) (all_numbers ms) h = not_five (ns ++ (n ∷ ms)) (λ e. omega (arith, length-append ns (n ∷ ms)))
sixth ns (found n) broken h = refl
sixth ns nothing x h = refl

-- the group of five numbers, whatever its kinds are
abbrev group_at : List ℕ → Group
group_at ns = group (get_or ns 0 0) (get_or ns 1 0) (get_or ns 2 0) (get_or ns 3 0) (get_or ns 4 0)

-- five numbers are a group by their first two
just : (ns : List ℕ) → length ns ≡ 5 → five ns ≡ group_if (leb (get_or ns 0 0) (get_or ns 1 0) && leb (get_or ns 1 0) 65) (group_at ns)
just [] h = absurd (omega arith)
just (k ∷ []) h = absurd (omega arith)
just (k ∷ l ∷ []) h = absurd (omega arith)
just (k ∷ l ∷ c ∷ []) h = absurd (omega arith)
just (k ∷ l ∷ c ∷ g ∷ []) h = absurd (omega arith)
just (k ∷ l ∷ c ∷ g ∷ s ∷ []) h = refl
just (k ∷ l ∷ c ∷ g ∷ s ∷ x ∷ xs) h = absurd (omega arith)

-- after i fields: their numbers are the first i, and the iterator yields the fields that are left
pub record Read {S : Type 0} (steps : S → Option (Bor (List ℕ)) → S → Type 0) (line numbers : List ℕ) (i : ℕ) (s : S) : Type 0 where
  pub five_fields : length numbers ≡ 5
  pub left : List (List ℕ)
  pub yields : YieldsList steps (λ x. x.now) s left
  pub rest : group_of line ≡ group_from (behind (take i numbers) (numbers_of left))

module _ {S : Type 0} {steps : S → Option (Bor (List ℕ)) → S → Type 0} where
  -- an item that comes is the next of those that an iterator yields
  yielded : {s t : S} (all : List (List ℕ)) (x : Bor (List ℕ)) → YieldsList steps (λ y. y.now) s all → steps s (Some x) t
      → (rest : List (List ℕ)) × (all ≡ x.now ∷ rest) × YieldsList steps (λ y. y.now) t rest
  yielded [] x e step = absurd (e.runs x _ step)
  yielded (part ∷ rest) x e step = let (same, more) = e.runs.1 x _ step in (rest, ap (λ (p : List ℕ). p ∷ rest) (sym same), record { runs = more })

  -- where none comes, none is left
  none_left : {s t : S} (all : List (List ℕ)) → YieldsList steps (λ y. y.now) s all → steps s None t → all ≡ []
  none_left [] e step = refl
  none_left (part ∷ rest) e step = absurd (e.runs.0 _ step)

  module _ (line : List ℕ) where
    -- no field is read
    pub read_none : {s : S} (numbers : List ℕ) → length numbers ≡ 5 → YieldsList steps (λ x. x.now) s (fields_of line) → Read steps line numbers 0 s
    read_none numbers h e =
        record { five_fields = h; left = fields_of line; yields = e; rest = rw (behind_none (numbers_of (fields_of line))) }

    module _ {numbers : List ℕ} {i : ℕ} {s : S} (r : Read steps line numbers i s) where
      -- no field is left, and fewer than five were read
      pub read_few : {t : S} → i < 5 → steps s None t → no_group ≡ group_of line
      unfolding numbers_of
      read_few h step =
          let front : length (take i numbers) ≡ i = length-take-le i numbers (omega (arith, r.five_fields)) in
          sym (r.rest ∙ rw (none_left r.left r.yields step, append-nil) (not_five (take i numbers) (λ e. omega arith)))

      module _ (x : Bor (List ℕ)) (t : S) (step : steps s (Some x) t) where
        -- the numbers of the fields that are left, by the next field
        next : (rest : List (List ℕ)) × YieldsList steps (λ y. y.now) t rest
            × (group_of line ≡ group_from (behind (take i numbers) (one_more (number_of x.now) (numbers_of rest))))
        unfolding numbers_of
        next =
            let (rest, e, more) = yielded r.left x r.yields step in
            (rest, more, r.rest ∙ ap (λ (fs : List (List ℕ)). group_from (behind (take i numbers) (numbers_of fs))) e)

        -- the next field is no number
        pub read_broken : number_of x.now ≡ nothing → no_group ≡ group_of line
        read_broken n = sym (rw n at next.2)

        -- or one more
        pub read_more : (n : ℕ) → i < 5 → number_of x.now ≡ found n → Read steps line (set numbers i n) (i + 1) t
        read_more n h m =
            let (rest, more, is) = next in
            record {
              five_fields = length-set numbers i n ∙ r.five_fields;
              left = rest;
              yields = more;
              rest = rw (add-one i) (rw m at is ∙ ap group_from (behind_more numbers i n (numbers_of rest) (omega (arith, r.five_fields))));
            }

      module _ (h : i ≡ 5) where
        -- five are read
        whole : take i numbers ≡ numbers
        whole = take_all i numbers (omega (arith, r.five_fields))

        -- there is a sixth
        pub read_many : (o : Option (Bor (List ℕ))) (t : S) → steps s o t → is_some o ≡ true → no_group ≡ group_of line
        read_many None t step e = absurd (false≢true e)
        read_many (Some x) t step e =
            let (rest, more, is) = next x t step in
            sym (is ∙ rw whole (sixth numbers (number_of x.now) (numbers_of rest) r.five_fields))

        -- there is none
        all : (o : Option (Bor (List ℕ))) (t : S) → steps s o t → is_some o ≡ false
            → group_of line ≡ group_if (leb (get_or numbers 0 0) (get_or numbers 1 0) && leb (get_or numbers 1 0) 65) (group_at numbers)
        unfolding numbers_of
        all (Some x) t step e = absurd (true≢false e)
        all None t step e = r.rest ∙ rw (none_left r.left r.yields step, whole, append-nil) (just numbers r.five_fields)

        module _ (o : Option (Bor (List ℕ))) (t : S) (step : steps s o t) (e : is_some o ≡ false) where
          -- the last kind is below the first
          pub read_below : get_or numbers 1 0 < get_or numbers 0 0 → no_group ≡ group_of line
          read_below k = sym (all o t step e ∙ rw (lt-leb (get_or numbers 0 0) (get_or numbers 1 0) k))

          -- or past the kinds
          pub read_past : get_or numbers 0 0 ≤ get_or numbers 1 0 → 65 < get_or numbers 1 0 → no_group ≡ group_of line
          read_past f k = sym (all o t step e ∙ rw (le-leb (get_or numbers 0 0) (get_or numbers 1 0) f, lt-leb (get_or numbers 1 0) 65 k))

          -- or neither
          pub read_group : get_or numbers 0 0 ≤ get_or numbers 1 0 → get_or numbers 1 0 ≤ 65 → is_group (group_at numbers) ≡ group_of line
          read_group f k = sym (all o t step e ∙ rw (le-leb (get_or numbers 0 0) (get_or numbers 1 0) f, le-leb (get_or numbers 1 0) 65 k))
