-- "The filed words": the fields of a word, the ops by kind with cycles, growth and shrink, and which fields an op may use.
use Rattle.std.specs.Prelude.{Bool, cond, ◌&&◌, ◌||◌, List, [], ◌∷◌, ℕ, ◌+◌, ◌*◌, ◌/◌, ◌%◌, eqb, leb, get_or}
use Rattle.rules.specs.Kinds as K
use Rattle.rules.specs.Limits.{kind_unit, b_unit, b_values, no_op}

-- "A 32-bit word is kind (bits 24..31), b (bits 16..23), a (bits 0..15)." A number of more than 32 bits has a kind over 255, which
-- is the kind of nothing.
abbrev pub kind : ℕ → ℕ
kind w = w / kind_unit

abbrev pub field_b : ℕ → ℕ
field_b w = w / b_unit % b_values

abbrev pub field_a : ℕ → ℕ
field_a w = w % b_unit

-- the word of a kind with its fields b and a
abbrev pub word : ℕ → ℕ → ℕ → ℕ
word k b a = k * kind_unit + b * b_unit + a

-- The op of a list at a position; past the end a word that is no op.
abbrev pub op_at : List ℕ → ℕ → ℕ
op_at ops i = get_or ops i no_op

-- "Ops as kind: cycles/growth/shrink."
pub record Figures : Type 0 where
  pub cycles : ℕ
  pub growth : ℕ
  pub shrink : ℕ

-- One group of the table: the kinds from `first` to `last` have these figures.
pub record Group : Type 0 where
  pub first : ℕ
  pub last : ℕ
  pub cost : Figures

abbrev pub figures : ℕ → ℕ → ℕ → Figures
figures c g s = record { cycles = c; growth = g; shrink = s }

abbrev pub group : ℕ → ℕ → ℕ → ℕ → ℕ → Group
group k l c g s = record { first = k; last = l; cost = figures c g s }

-- The table of document 01, in its order. A kind whose figures depend on a or b has the row for a = 0 and b = 0 here.
abbrev pub table : List Group
table =
    -- 0 Const, 1 GetLocal, 3 GetData, 33 Dup, 57 PushImmediate
    group 0 1 1 1 0 ∷ group 3 3 1 1 0 ∷ group 33 33 1 1 0 ∷ group 57 57 1 1 0
    -- 2 SetLocal, 4 SetData, 21 If, 27 BreakIf
    ∷ group 2 2 1 0 1 ∷ group 4 4 1 0 1 ∷ group 21 21 1 0 1 ∷ group 27 27 1 0 1
    -- 5 GetDataIndexed, 6 SetDataIndexed, 7 BoundsCheck
    ∷ group 5 5 8 5 0 ∷ group 6 6 8 4 0 ∷ group 7 7 7 5 0
    -- 8 Add, 9 Sub, 10 Mul, 14..19 the comparisons, 48 FixedMul, 59..63 the bit operations
    ∷ group 8 10 2 0 1 ∷ group 14 19 2 0 1 ∷ group 48 48 2 0 1 ∷ group 59 63 2 0 1
    -- 11 Div, 12 Mod
    ∷ group 11 12 5 1 0
    -- 13 Neg, 31 Return, 37 GetTupleField, 38 GetEnumField, 39 Len, 42..47 the conversions
    ∷ group 13 13 2 0 0 ∷ group 31 31 2 0 0 ∷ group 37 39 2 0 0 ∷ group 42 47 2 0 0
    -- 20 Not, 22 Else, 23 EndIf, 24 Loop, 25 EndLoop, 26 Break, 28 Stream, 29 Reset, 32 Yield
    ∷ group 20 20 1 0 0 ∷ group 22 26 1 0 0 ∷ group 28 29 1 0 0 ∷ group 32 32 1 0 0
    -- 30 Call, 34 NewComposite, 35 GetField, 36 GetIndex, 40 IsEnum, 41 IsStruct
    ∷ group 30 30 10 1 0 ∷ group 34 34 5 1 0 ∷ group 35 35 3 0 0 ∷ group 36 36 2 0 1 ∷ group 40 41 3 1 0
    -- 49 FixedDiv, 51..53 CheckedAdd CheckedSub CheckedMul, 55 CheckedDiv, 56 CheckedMod; 54 CheckedNeg
    ∷ group 49 49 2 1 0 ∷ group 51 53 2 1 0 ∷ group 55 56 2 1 0 ∷ group 54 54 2 2 0
    -- 50 Trap, 58 PopN, 64 CallVerifiedNative, 65 CallExternalNative
    ∷ group 50 50 1 0 0 ∷ group 58 58 1 0 0 ∷ group 64 65 10 1 0 ∷ []

abbrev pub between : ℕ → ℕ → ℕ → Bool
between k l n = leb k n && leb n l

-- the figures of a kind in a list of groups; a kind that is in none of them costs nothing
unfoldable pub in_groups : List Group → ℕ → Figures
in_groups [] k = figures 0 0 0
in_groups (g ∷ gs) k = cond (between g.first g.last k) g.cost (in_groups gs k)

-- "36 GetIndex: b 1 (bounds outcome) 8/5/0, b 0 2/0/1."
abbrev pub index_figures : ℕ → Figures
index_figures b = cond (eqb b 1) (figures 8 5 0) (figures 2 0 1)

-- "50 Trap by a: 8 gives 6/0/5, 9 gives 1/0/1, others 1/0/0."
abbrev pub trap_figures : ℕ → Figures
trap_figures a = cond (eqb a 8) (figures 6 0 5) (cond (eqb a 9) (figures 1 0 1) (figures 1 0 0))

-- "64 CallVerifiedNative, 65 CallExternalNative: 10, growth 1 (2 if b has bit 7), shrink b mod 128."
abbrev pub native_figures : ℕ → Figures
native_figures b = figures 10 (cond (leb 128 b) 2 1) (b % 128)

-- The figures of an op: the rules that read a or b ("30 Call 10/1/b", "34 NewComposite 5/1/a", "58 PopN 1/0/b" and the three above),
-- else the table.
abbrev pub figures_of : ℕ → Figures
figures_of w =
    cond (eqb (kind w) K.call) (figures 10 1 (field_b w))
    (cond (eqb (kind w) K.new_composite) (figures 5 1 (field_a w))
    (cond (eqb (kind w) K.get_index) (index_figures (field_b w))
    (cond (eqb (kind w) K.trap) (trap_figures (field_a w))
    (cond (eqb (kind w) K.pop_n) (figures 1 0 (field_b w))
    (cond (between K.call_verified_native K.call_external_native (kind w)) (native_figures (field_b w)) (in_groups table (kind w)))))))

-- "Field a: index, slot or target of 0, 1, 2, 21, 22, 24..27, 30, 64, 65; count of 34; code of 50."
abbrev pub uses_a : ℕ → Bool
uses_a k =
    between K.const K.set_local k || between K.if K.else k || between K.loop K.break_if k || eqb k K.call || between K.call_verified_native K.call_external_native k || eqb k K.new_composite || eqb k K.trap

-- The greatest b: the arguments of 30, 64, 65 and the count of 58 are free; "34 and 36 take no other b" than 0..3 and 0, 1; else 0.
abbrev pub greatest_b : ℕ → ℕ
greatest_b k =
    cond (eqb k K.call || eqb k K.pop_n || between K.call_verified_native K.call_external_native k) 255
    (cond (eqb k K.new_composite) 3 (cond (eqb k K.get_index) 1 0))

-- "An op is one word." "Op fields not named here are 0."
abbrev pub is_op : ℕ → Bool
is_op w = leb (kind w) K.call_external_native && leb (field_b w) (greatest_b (kind w)) && (uses_a (kind w) || eqb (field_a w) 0)
