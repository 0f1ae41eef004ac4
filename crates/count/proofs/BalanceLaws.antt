-- Blocks opened and closed by the ops of a stretch, told by the words that the code reads; and what a row holds, told from a position further back.
-- Assumes nothing.
use mathlib.Core.Path.{◌≡◌, refl, sym, ap, ◌∙◌}
use mathlib.Core.Bool.{Bool, true, false, cond, ◌&&◌, ◌||◌}
use mathlib.Core.List.{List, [], ◌∷◌}
use mathlib.Core.Logic.{◌⊎◌, inl, inr}
use Prim.Native.Nat.{ℕ, zero, suc, ◌+◌, ◌-◌, ◌<◌, ◌≤◌}
use mir.Val.{bool_byte}
use native.Mathlib.Numerals.{add-one, sub-one}
use native.Mathlib.Omega.{arith}
use borrow.Author.Tests.{eqb-true, ne_eqb}
use lib.Dec.{eqb, leb}
use lib.ListN.{length, get_or}
use Rattle.rules.specs.Kinds as K
use Rattle.rules.specs.Outcome.{Found, found, nothing}
use Rattle.rules.specs.Ops.{kind, field_a, op_at}
use Rattle.rules.specs.Rows.{Shape, plain, shape_of}
use Rattle.rules.specs.Count.{is_set_local, last_set}
use Rattle.rules.specs.Sure.{copy_stops, array_stops, len_stops, stops_at}
use Rattle.rules.specs.Placed.{all_of, closing, opening, how_many, balanced, beside}
use Rattle.rules.proofs.Shapes.{by_kind}
use Rattle.rules.proofs.RowSums.{count_parts, eqb_apart}
use Rattle.rules.proofs.Placing.{arrays_alike}
use Rattle.rules.proofs.Flags.{both}
use Rattle.rules.proofs.Header.{load_shape}
use Rattle.rules.proofs.Effects.{set_tells}
use Rattle.rules.proofs.Searches.{found_is}
use Rattle.rules.proofs.Counting.{set_shape}
use Rattle.words.proofs.Cases.{decide, split}
use Rattle.words.proofs.OpLaws.{read_op}
use Rattle.count.specs.Count.{SetAt}
use Rattle.count.proofs.SearchLaws.{at_later}

-- an op that closes a block, and one that opens it, by their kinds
closing_kind : (w : ℕ) → closing (shape_of w) ≡ (eqb (kind w) K.end_if || eqb (kind w) K.end_loop)
unfolding closing
closing_kind w =
    by_kind w (λ x. closing x ≡ (eqb (kind w) K.end_if || eqb (kind w) K.end_loop)) (λ h. rw h) (λ h. rw h) (λ h. rw h) (λ h. rw h) (λ h. rw h) (λ h. rw h)
    (λ h. rw h) (λ h. rw h) (λ h. rw h) (λ h. rw h)
    (λ n. rw (ne_eqb (kind w) K.end_if (λ k. n (omega arith) (omega arith)), ne_eqb (kind w) K.end_loop (λ k. n (omega arith) (omega arith))))

opening_kind : (w : ℕ) → opening (shape_of w) ≡ (eqb (kind w) K.if || eqb (kind w) K.loop)
unfolding opening
opening_kind w =
    by_kind w (λ x. opening x ≡ (eqb (kind w) K.if || eqb (kind w) K.loop)) (λ h. rw h) (λ h. rw h) (λ h. rw h) (λ h. rw h) (λ h. rw h) (λ h. rw h)
    (λ h. rw h) (λ h. rw h) (λ h. rw h) (λ h. rw h)
    (λ n. rw (ne_eqb (kind w) K.if (λ k. n (omega arith) (omega arith)), ne_eqb (kind w) K.loop (λ k. n (omega arith) (omega arith))))

-- a test as a number
byte_is : (b : Bool) → bool_byte b ≡ cond b 1 0
byte_is true = refl
byte_is false = refl

pub byte_most : (b : Bool) → bool_byte b ≤ 1
byte_most true = omega arith
byte_most false = omega arith

module _ (f : Shape → Bool) (op : ℕ → ℕ) where
  -- one op more at the end
  counted_last : (n i : ℕ) → how_many f op (suc n) i ≡ how_many f op n i + cond (f (shape_of (op (i + n)))) 1 0
  unfolding how_many
  counted_last zero i = let z : i + 0 ≡ i = omega arith in rw z (omega arith)
  counted_last (suc n) i = let z : i + suc n ≡ suc i + n = omega arith in rw (z, counted_last n (suc i)) (omega arith)

  -- no more than there are
  pub counted_most : (n i : ℕ) → how_many f op n i ≤ n
  unfolding how_many
  counted_most zero i = omega arith
  counted_most (suc n) i = decide (f (shape_of (op i))) (λ t. rw t (omega (arith, counted_most n (suc i)))) (λ t. rw t (omega (arith, counted_most n (suc i))))

  -- the count goes on with an op, by the test of it
  counted_on : (n c i : ℕ) (b : Bool) → c ≡ how_many f op n i → b ≡ f (shape_of (op (i + n))) → c + bool_byte b ≡ how_many f op (n + 1) i
  counted_on n c i b e h = let l = counted_last n i in rw (add-one, h) (omega (arith, l, e, byte_is (f (shape_of (op (i + n))))))

  -- none where all ops are plain
  counted_none : f plain ≡ false → (n i : ℕ) → ((k : ℕ) → i ≤ k → k < i + n → shape_of (op k) ≡ plain) → how_many f op n i ≡ 0
  unfolding how_many
  counted_none off zero i all = refl
  counted_none off (suc n) i all =
      rw (all i (omega arith) (omega arith), off) (omega (arith, counted_none off n (suc i) (λ k le lt. all k (omega arith) (omega (arith, lt)))))

-- both counts go on, by the word that the code reads
module _ (ops : List ℕ) (n c i : ℕ) (lt : i + n < length ops) where
  pub closed_on : c ≡ how_many closing (op_at ops) n i
      → c + bool_byte (eqb (kind (get_or ops (i + n) 0)) K.end_if || eqb (kind (get_or ops (i + n) 0)) K.end_loop) ≡ how_many closing (op_at ops) (n + 1) i
  closed_on e = counted_on closing (op_at ops) n c i _ e (rw (← read_op ops (i + n) lt) (sym (closing_kind (op_at ops (i + n)))))

  pub opened_on : c ≡ how_many opening (op_at ops) n i
      → c + bool_byte (eqb (kind (get_or ops (i + n) 0)) K.if || eqb (kind (get_or ops (i + n) 0)) K.loop) ≡ how_many opening (op_at ops) (n + 1) i
  opened_on e = counted_on opening (op_at ops) n c i _ e (rw (← read_op ops (i + n) lt) (sym (opening_kind (op_at ops (i + n)))))

-- A stretch of plain ops from b to `at`, behind which as many blocks close as open up to `to`: what lies before it is level up to `to` if it is up to b.
pub balanced_on : (op : ℕ → ℕ) (b at to : ℕ) → b ≤ at → at < to → ((k : ℕ) → b ≤ k → k ≤ at → shape_of (op k) ≡ plain) → balanced op (suc at) to ≡ true
    → (s : ℕ) → s < b → balanced op (suc s) to ≡ balanced op (suc s) b
unfolding closing opening
balanced_on op b at to le lt all even s below =
    let same = eqb-true (how_many closing op (to - suc at) (suc at)) (how_many opening op (to - suc at) (suc at)) even in
    let n = suc at - b in
    let none = counted_none closing op refl n b (λ k g l. all k g (omega (arith, l))) in
    let nil = counted_none opening op refl n b (λ k g l. all k g (omega (arith, l))) in
    let c = count_parts closing op b (suc at) to (omega arith) (omega arith) in
    let o = count_parts opening op b (suc at) to (omega arith) (omega arith) in
    let d = count_parts closing op (suc s) b to (omega arith) (omega arith) in
    let p = count_parts opening op (suc s) b to (omega arith) (omega arith) in
    rw (d, p) (eqb_apart _ _ _ _ (omega (arith, same, none, nil, c, o)))

-- the stops of an array's search, told by what the search found
abbrev stops_told : List ℕ → Found → List ℕ
stops_told ops nothing = []
stops_told ops (found zero) = []
stops_told ops (found (suc i)) = suc i ∷ copy_stops (eqb (kind (op_at ops i)) K.get_local) (λ s. array_stops ops i s) (op_at ops i)

stops_by_search : (ops : List ℕ) (n s : ℕ) → array_stops ops n s ≡ stops_told ops (last_set ops n s)
unfolding array_stops last_set
stops_by_search ops zero s = refl
stops_by_search ops (suc zero) s = decide (is_set_local s (op_at ops 0)) (λ t. rw t) (λ t. rw t)
stops_by_search ops (suc (suc i)) s = decide (is_set_local s (op_at ops (suc i))) (λ t. rw t) (λ t. rw t (stops_by_search ops (suc i) s))

-- none where nothing is found, or the first op
pub array_none : (ops : List ℕ) (n s : ℕ) → nothing ≡ last_set ops n s → array_stops ops n s ≡ []
array_none ops n s e = stops_by_search ops n s ∙ ap (stops_told ops) (sym e)

pub array_first : (ops : List ℕ) (n s : ℕ) → found 0 ≡ last_set ops n s → array_stops ops n s ≡ []
array_first ops n s e = stops_by_search ops n s ∙ ap (stops_told ops) (sym e)

-- the stops at v and before it, by the op before the SetLocal at v
abbrev stops_by : List ℕ → ℕ → ℕ → List ℕ
stops_by ops w i = suc i ∷ copy_stops (eqb (kind w) K.get_local) (λ s. array_stops ops i s) w

array_more : {ops : List ℕ} {n s v : ℕ} → SetAt ops n s v → array_stops ops n s ≡ stops_by ops (get_or ops (v - 1) 0) (v - 1)
array_more {ops} {n} {s} {v} h =
    stops_by_search ops n s ∙ ap (stops_told ops) h.set
    ∙ at_later ops (λ j. stops_told ops (found j)) (λ w i. stops_by ops w i) (λ i. refl) v h.later (omega (arith, h.below, h.within))

-- A row that begins at `from` and the stops of a search of the array in slot s below n, where it finds a SetLocal at v.
module _ (from : ℕ) {ops : List ℕ} {n s v : ℕ} (h : SetAt ops n s v) where
  abbrev Held : ℕ → ℕ → Bool
  Held p x = beside (op_at ops) from p x

  abbrev w : ℕ
  w = get_or ops (v - 1) 0

  later : suc (v - 1) ≡ v
  later = let k = h.later in omega (arith, k)

  -- the row does not hold the SetLocal at v
  pub not_held : Held n v ≡ false → all_of (Held n) (array_stops ops n s) ≡ false
  unfolding all_of
  not_held e = ap (all_of (Held n)) (array_more h) ∙ rw (later, e)

  -- or does, and there is no copy
  pub held_alone : Held n v ≡ true → eqb (kind w) K.get_local ≡ false → all_of (Held n) (array_stops ops n s) ≡ true
  unfolding all_of
  held_alone e k = ap (all_of (Held n)) (array_more h) ∙ rw (later, e, k)

  -- or does, and the slot that it is copied from decides
  pub held_copy : Held n v ≡ true → eqb (kind w) K.get_local ≡ true
      → all_of (Held n) (array_stops ops n s) ≡ all_of (Held (v - 1)) (array_stops ops (v - 1) (field_a w))
  unfolding all_of
  held_copy e k =
      let set = set_tells s (op_at ops v) (found_is ops n s v h.set).0 in
      let get : kind (op_at ops (v - 1)) ≡ K.get_local = rw (read_op ops (v - 1) (omega (arith, later, h.below, h.within))) (eqb-true (kind w) K.get_local k) in
      let all : (i : ℕ) → v - 1 ≤ i → i ≤ v → shape_of (op_at ops i) ≡ plain =
      λ i le to. split i v (λ q. rw q (set_shape (op_at ops v) set.0))
      (λ q. let z : i ≡ v - 1 = omega (arith, le, to, q) in rw z (load_shape (op_at ops (v - 1)) get)) in
      let even = (both (leb from v) (balanced (op_at ops) (suc v) n) e).1 in
      let same : (x : ℕ) → x < v - 1 → kind (op_at ops x) ≡ K.set_local → Held n x ≡ Held (v - 1) x =
      λ x below o. ap (λ b. leb from x && b) (balanced_on (op_at ops) (v - 1) v n (omega arith) h.below all even x below) in
      ap (all_of (Held n)) (array_more h) ∙ rw (later, e, k) (arrays_alike ops (v - 1) (Held n) (Held (v - 1)) same (v - 1) (field_a w) (omega arith))

-- The stops of a value's search, by what stands before the SetLocal at v.
module _ (f : ℕ → Bool) (ops : List ℕ) (v : ℕ) (later : v ≡ 0 → ⊥) (within : v ≤ length ops) where
  pub value_stops : all_of f (stops_at ops (found v)) ≡ (f v && all_of f (len_stops ops (v - 1)))
  unfolding all_of
  value_stops =
      let same : suc (v - 1) ≡ v = omega (arith, later) in
      ap (all_of f) (at_later ops (λ j. stops_at ops (found j)) (λ w i. suc i ∷ len_stops ops i) (λ i. refl) v later within) ∙ rw same

  -- no op stands before the one before it
  no_room : v ≡ 1 → all_of f (len_stops ops (v - 1)) ≡ true
  unfolding all_of
  no_room e = rw e

  abbrev Length : Bool
  Length = eqb (kind (get_or ops (v - 1) 0)) K.len && eqb (kind (get_or ops (v - 2) 0)) K.get_local

  -- or two ops do, which are GetLocal and Len or are not
  by_length : (v ≡ 1 → ⊥) → len_stops ops (v - 1) ≡ cond Length (array_stops ops (v - 2) (field_a (get_or ops (v - 2) 0))) []
  by_length = go v later within
    where
      go : (v : ℕ) → (v ≡ 0 → ⊥) → v ≤ length ops → (v ≡ 1 → ⊥)
          → len_stops ops (v - 1) ≡ cond (eqb (kind (get_or ops (v - 1) 0)) K.len && eqb (kind (get_or ops (v - 2) 0)) K.get_local)
          (array_stops ops (v - 2) (field_a (get_or ops (v - 2) 0))) []
      go zero h b k = absurd (h refl)
      go (suc zero) h b k = absurd (k refl)
      go (suc (suc i)) h b k =
          let z : suc (suc i) - 2 ≡ i = omega arith in
          rw (sub-one, z, read_op ops (suc i) (omega arith), read_op ops i (omega arith))

  -- which are not: no array's search
  pub no_length : (v ≡ 1) ⊎ (Length ≡ false) → all_of f (len_stops ops (v - 1)) ≡ true
  unfolding all_of
  no_length (inl e) = no_room e
  no_length (inr e) = split v 1 no_room (λ k. ap (all_of f) (by_length k) ∙ rw e)

  -- which are: the array's
  pub with_length : (v ≡ 1 → ⊥) → Length ≡ true → all_of f (len_stops ops (v - 1)) ≡ all_of f (array_stops ops (v - 2) (field_a (get_or ops (v - 2) 0)))
  with_length k e = ap (all_of f) (by_length k) ∙ rw e

len_shape : (w : ℕ) → kind w ≡ K.len → shape_of w ≡ plain
len_shape w h = simp h

-- Those of the array are asked for from before GetLocal, Len and the SetLocal at v, where the row holds that.
pub length_held : (from : ℕ) {ops : List ℕ} {n s v : ℕ} → SetAt ops n s v → beside (op_at ops) from n v ≡ true → (v ≡ 1 → ⊥)
    → eqb (kind (get_or ops (v - 1) 0)) K.len ≡ true → eqb (kind (get_or ops (v - 2) 0)) K.get_local ≡ true → (x : ℕ)
    → all_of (beside (op_at ops) from n) (array_stops ops (v - 2) x) ≡ all_of (beside (op_at ops) from (v - 2)) (array_stops ops (v - 2) x)
length_held from {ops} {n} {s} {v} h e far l g x =
    let later = h.later in
    let set = set_tells s (op_at ops v) (found_is ops n s v h.set).0 in
    let len : kind (op_at ops (v - 1)) ≡ K.len = rw (read_op ops (v - 1) (omega (arith, h.below, h.within))) (eqb-true (kind (get_or ops (v - 1) 0)) K.len l) in
    let get : kind (op_at ops (v - 2)) ≡ K.get_local =
    rw (read_op ops (v - 2) (omega (arith, h.below, h.within))) (eqb-true (kind (get_or ops (v - 2) 0)) K.get_local g) in
    let all : (i : ℕ) → v - 2 ≤ i → i ≤ v → shape_of (op_at ops i) ≡ plain =
    λ i le to. split i v (λ q. rw q (set_shape (op_at ops v) set.0))
    (λ q. split i (v - 1) (λ r. rw r (len_shape (op_at ops (v - 1)) len))
    (λ r. let z : i ≡ v - 2 = omega (arith, le, to, q, r) in rw z (load_shape (op_at ops (v - 2)) get))) in
    let even = (both (leb from v) (balanced (op_at ops) (suc v) n) e).1 in
    arrays_alike ops (v - 2) (beside (op_at ops) from n) (beside (op_at ops) from (v - 2))
    (λ y below o. ap (λ b. leb from y && b) (balanced_on (op_at ops) (v - 2) v n (omega arith) h.below all even y below)) (v - 2) x (omega arith)
