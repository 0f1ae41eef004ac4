-- 2.2, "A writer for the shelf": chunks as an editor holds them, which of them have words, these words, and the lists that an editor lends.
use Rattle.std.specs.Prelude.{◌≡◌, Bool, true, false, cond, ◌&&◌, ℕ, ◌+◌, ◌*◌, ◌/◌, ◌%◌, ◌^◌, eqb, leb, ltb, length, take, drop}
use mathlib.Core.List.{List, [], ◌∷◌, map, flat_map}
use Rattle.std.specs.Int.Signed.{mag}
use Rattle.rules.specs.Limits.{b_unit, b_values, most_words, most_chunks}
use Rattle.rules.specs.Numbers as N
use Rattle.rules.specs.Outcome.{Result, Outcome, answer, refused, followed_by, in_chunk, demand}
use Rattle.rules.specs.Ops.{kind, field_a, field_b, word, is_op}
use Rattle.rules.specs.Form.{Constant, integer, other, Chunk, bits, module_words}
use Rattle.rules.specs.Reading.{signed_of, extra_at}
use Rattle.rules.specs.Sheet.{order_tray}

-- An op as the editor holds it: each field a number of its own, which need not fit a word.
pub record Op : Type 0 where
  pub kind : ℕ
  pub a : ℕ
  pub b : ℕ

-- "Our editor holds chunks as constants, ops and extras": a chunk as it is held, its fields numbers that need not fit.
pub record Draft : Type 0 where
  pub locals : ℕ
  pub type : ℕ
  pub constants : List Constant
  pub ops : List Op
  pub extras : List ℕ

-- "dropping extras of 0 at a chunk's end": an extra in front of what is left of those behind it
abbrev pub keep : ℕ → List ℕ → List ℕ
keep x [] = cond (eqb x 0) [] (x ∷ [])
keep x (y ∷ ys) = x ∷ y ∷ ys

unfoldable pub trimmed : List ℕ → List ℕ
trimmed [] = []
trimmed (x ∷ xs) = keep x (trimmed xs)

-- "An op is one word": the word of an op, and the op of a word
abbrev pub op_word : Op → ℕ
op_word o = word o.kind o.b o.a

abbrev pub op_in : ℕ → Op
op_in w = record { kind = kind w; a = field_a w; b = field_b w }

-- the chunk that is filed
abbrev pub filed : Draft → Chunk
filed d =
    record { locals = d.locals; type = d.type; constants = d.constants; ops = map op_word d.ops; extras = trimmed d.extras }

-- the test holds of each element
unfoldable pub every : {A : Type 0} → (A → Bool) → List A → Bool
every f [] = true
every f (x ∷ xs) = f x && every f xs

-- Each field fits its place in the words, and an op is one of the table: what `Form` says of a chunk (`ChunkFits`), as tests.
abbrev pub op_fits : Op → Bool
op_fits o = ltb o.a b_unit && ltb o.b b_values && is_op (op_word o)

abbrev pub constant_fits : Constant → Bool
constant_fits (integer z) = ltb (mag z) (2 ^ 63)
constant_fits other = true

abbrev pub extra_fits : ℕ → Bool
extra_fits x = ltb x (2 ^ 32)

-- of the extras "there are no more than ops", the dropped ones aside
abbrev pub draft_fits : Draft → Bool
draft_fits d =
    ltb d.locals b_unit && leb d.type 2 && every constant_fits d.constants && every op_fits d.ops
    && every extra_fits (trimmed d.extras) && leb (length (trimmed d.extras)) (length d.ops)

-- "Write the words of such a module"
abbrev pub draft_words : List Draft → List ℕ
draft_words ds = module_words (map filed ds)

-- "chunk count 1..256", each chunk fits, and "at most 16,384 words"
abbrev pub module_fits : List Draft → Bool
module_fits ds =
    leb 1 (length ds) && leb (length ds) most_chunks && every draft_fits ds && leb (length (draft_words ds)) most_words

-- "14 unfit part .. where .. no readable word list has equal parts": proofs/Written shows that it is exactly so.
abbrev pub write : List Draft → Result (List ℕ)
write ds = demand (module_fits ds) N.unfit_part 0 (draft_words ds)

-- "equal locals, type, constants, ops and extras, a dropped extra being 0": of a draft and a chunk, and of two drafts
pub record SameChunk (d : Draft) (c : Chunk) : Type 0 where
  pub locals : d.locals ≡ c.locals
  pub type : d.type ≡ c.type
  pub constants : d.constants ≡ c.constants
  pub ops : d.ops ≡ map op_in c.ops
  pub extras : (i : ℕ) → extra_at d.extras i ≡ extra_at c.extras i

pub record SameDraft (d e : Draft) : Type 0 where
  pub locals : d.locals ≡ e.locals
  pub type : d.type ≡ e.type
  pub constants : d.constants ≡ e.constants
  pub ops : d.ops ≡ e.ops
  pub extras : (i : ℕ) → extra_at d.extras i ≡ extra_at e.extras i

-- the lists are as long as each other, and what stands at the same place is related
abbrev pub Both : {A B : Type 0} → (A → B → Type 0) → List A → List B → Type 0
Both R [] [] = Unit {0}
Both R [] (y ∷ ys) = ⊥
Both R (x ∷ xs) [] = ⊥
Both R (x ∷ xs) (y ∷ ys) = R x y × Both R xs ys

-- "The layout of what is lent is yours": four lists. `chunks` has five numbers a chunk (locals, type, and how many constants, ops and extras are its
-- own), `constants` three each (0, the low and the high 32 bits of an integer; or 1, 0, 0), `ops` three each (kind, a, b), `extras` one each.

-- What lists hold, if they hold anything.
pub data Held (A : Type 0) : Type 0 where
  holds : A → Held A
  hold_none : Held A

module _ {A : Type 0} where
  -- something where a test holds; and one thing in front of others, if all of them are held
  abbrev pub held_if : Bool → A → Held A
  held_if true x = holds x
  held_if false x = hold_none

  abbrev pub held_first : Held A → Held (List A) → Held (List A)
  held_first (holds x) (holds xs) = holds (x ∷ xs)
  held_first (holds x) hold_none = hold_none
  held_first hold_none xs = hold_none

-- a constant of one of its two forms
abbrev pub held_constant : ℕ → ℕ → ℕ → Held Constant
held_constant t low high =
    cond (eqb t 0) (holds (integer (signed_of (low + 2 ^ 32 * high)))) (held_if (eqb t 1 && eqb low 0 && eqb high 0) other)

-- constants, none of them cut off
unfoldable pub held_constants : List ℕ → Held (List Constant)
held_constants [] = holds []
held_constants (t ∷ []) = hold_none
held_constants (t ∷ low ∷ []) = hold_none
held_constants (t ∷ low ∷ high ∷ ns) = held_first (held_constant t low high) (held_constants ns)

-- ops; a chunk's own are a multiple of three numbers
unfoldable pub held_ops : List ℕ → List Op
held_ops [] = []
held_ops (k ∷ []) = []
held_ops (k ∷ a ∷ []) = []
held_ops (k ∷ a ∷ b ∷ ns) = record { kind = k; a = a; b = b } ∷ held_ops ns

-- a chunk of these parts, if its constants are held
abbrev pub held_draft : ℕ → ℕ → Held (List Constant) → List Op → List ℕ → Held Draft
held_draft l t (holds ks) os xs = holds (record { locals = l; type = t; constants = ks; ops = os; extras = xs })
held_draft l t hold_none os xs = hold_none

-- a chunk that takes its own, k constants, o ops and x extras, from the fronts of the last three lists; no count reaches past its list
abbrev pub held_front : ℕ → ℕ → ℕ → ℕ → ℕ → List ℕ → List ℕ → List ℕ → Held Draft
held_front l t k o x ks os xs =
    cond (leb (3 * k) (length ks) && leb (3 * o) (length os) && leb x (length xs))
    (held_draft l t (held_constants (take (3 * k) ks)) (held_ops (take (3 * o) os)) (take x xs))
    hold_none

-- "the lent lists hold no module": chunk after chunk takes its own, and nothing is left over at the end
unfoldable pub held : List ℕ → List ℕ → List ℕ → List ℕ → Held (List Draft)
held [] ks os xs = held_if (eqb (length ks) 0 && eqb (length os) 0 && eqb (length xs) 0) []
held (l ∷ []) ks os xs = hold_none
held (l ∷ t ∷ []) ks os xs = hold_none
held (l ∷ t ∷ k ∷ []) ks os xs = hold_none
held (l ∷ t ∷ k ∷ o ∷ []) ks os xs = hold_none
held (l ∷ t ∷ k ∷ o ∷ x ∷ ns) ks os xs =
    held_first (held_front l t k o x ks os xs) (held ns (drop (3 * k) ks) (drop (3 * o) os) (drop x xs))

-- "14 unfit part .. chunk and place 0"
abbrev pub write_held : Held (List Draft) → Outcome (List ℕ)
write_held (holds ds) = in_chunk 0 (write ds)
write_held hold_none = refused N.unfit_part 0 0

-- the writer: 14, "tested before the tray", then "13 short tray"; `room` is the length of the tray
abbrev pub write_outcome : List ℕ → List ℕ → List ℕ → List ℕ → ℕ → Outcome (List ℕ)
write_outcome chunks constants ops extras room =
    followed_by (write_held (held chunks constants ops extras)) (λ ws. in_chunk 0 (demand (leb (length ws) room) N.short_tray 0 ws))

-- "answer how many"
abbrev pub how_many : Outcome (List ℕ) → Outcome ℕ
how_many (answer ws) = answer (length ws)
how_many (refused n c p) = refused n c p

-- the words to the front of the tray; what lies beyond is left, and a refusal writes nothing: as the call order does
abbrev pub write_tray : Outcome (List ℕ) → List ℕ → List ℕ
write_tray o tray = order_tray o tray

-- The four lists of a module, as an editor makes them: proofs/Lent shows that they hold it.
abbrev pub lent_chunk : Draft → List ℕ
lent_chunk d = d.locals ∷ d.type ∷ length d.constants ∷ length d.ops ∷ length d.extras ∷ []

abbrev pub lent_constant : Constant → List ℕ
lent_constant (integer z) = 0 ∷ bits z % 2 ^ 32 ∷ bits z / 2 ^ 32 ∷ []
lent_constant other = 1 ∷ 0 ∷ 0 ∷ []

abbrev pub lent_op : Op → List ℕ
lent_op o = o.kind ∷ o.a ∷ o.b ∷ []

abbrev pub lent_constants : List Draft → List ℕ
lent_constants ds = flat_map (λ d. flat_map lent_constant d.constants) ds

abbrev pub lent_ops : List Draft → List ℕ
lent_ops ds = flat_map (λ d. flat_map lent_op d.ops) ds

abbrev pub lent_extras : List Draft → List ℕ
lent_extras ds = flat_map (λ d. d.extras) ds
