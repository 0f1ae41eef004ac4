-- "The filed words" as a grammar: the words of a module, and which modules have words. `Reading` goes the other way.
use Rattle.std.specs.Prelude.{◌≡◌, true, ℕ, suc, ◌-◌, ◌/◌, ◌%◌, ◌^◌, ◌<◌, ◌≤◌, ℤ, pos, negsuc, length}
use mathlib.Core.List.{List, [], ◌∷◌, ◌++◌, flat_map}
use Rattle.std.specs.Int.Signed.{mag}
use Rattle.rules.specs.Kinds as K
use Rattle.rules.specs.Limits.{b_unit, most_chunks}
use Rattle.rules.specs.Ops.{word, is_op}

-- A constant: an integer, or "any constant that is no integer".
pub data Constant : Type 0 where
  integer : ℤ → Constant
  other : Constant

-- A chunk: locals, type (0 Func, 1 Reentrant, 2 Stream), constants, ops as their words, extras.
pub record Chunk : Type 0 where
  pub locals : ℕ
  pub type : ℕ
  pub constants : List Constant
  pub ops : List ℕ
  pub extras : List ℕ

-- two's complement at 64 bits
abbrev pub bits : ℤ → ℕ
bits (pos n) = n
bits (negsuc n) = 2 ^ 64 - suc n

-- "A constant is four words with b 0, 1, 2, 3: kind 202 holds 16 bits of a two's complement integer each, lowest first; kind 203
-- with a 0 is any constant that is no integer."
abbrev pub constant_words : Constant → List ℕ
constant_words (integer z) =
    word K.integer 0 (bits z % b_unit) ∷ word K.integer 1 (bits z / b_unit % b_unit) ∷ word K.integer 2 (bits z / 2 ^ 32 % b_unit)
    ∷ word K.integer 3 (bits z / 2 ^ 48 % b_unit) ∷ []
constant_words other = word K.other 0 0 ∷ word K.other 1 0 ∷ word K.other 2 0 ∷ word K.other 3 0 ∷ []

-- "An extra is two words of kind 204, b 0 then 1, holding the low and the high 16 bits."
abbrev pub extra_words : ℕ → List ℕ
extra_words x = word K.extra 0 (x % b_unit) ∷ word K.extra 1 (x / b_unit % b_unit) ∷ []

-- "A chunk is kind 200 (a: locals; b: 0 Func, 1 Reentrant, 2 Stream), constants, ops, extras, in that order." "An op is one word."
abbrev pub chunk_words : Chunk → List ℕ
chunk_words c =
    word K.chunk c.type c.locals
    ∷ (flat_map constant_words c.constants ++ (c.ops ++ flat_map extra_words c.extras))

-- "A module is one word of kind 199 (a: chunk count 1..256, b 0), then the chunks."
abbrev pub module_words : List Chunk → List ℕ
module_words cs = word K.module 0 (length cs) ∷ flat_map chunk_words cs

-- P holds of each element
abbrev pub Each : {A : Type 0} → (A → Type 0) → List A → Type 0
Each P [] = Unit {0}
Each P (x ∷ xs) = P x × Each P xs

-- an integer constant has 64 bits
abbrev pub ConstantFits : Constant → Type 0
ConstantFits (integer z) = mag z < 2 ^ 63
ConstantFits other = Unit {0}

-- What a chunk's parts may be: each field fits its place, each op is one of the table with no field that it does not use, and of the
-- extras "there are no more than ops".
pub record ChunkFits (c : Chunk) : Type 0 where
  pub locals : c.locals < b_unit
  pub type : c.type ≤ 2
  pub constants : Each ConstantFits c.constants
  pub ops : Each (λ w. is_op w ≡ true) c.ops
  pub extras : Each (λ x. x < 2 ^ 32) c.extras
  pub enough : length c.extras ≤ length c.ops

-- the limit of 16,384 words aside
pub record ModuleFits (cs : List Chunk) : Type 0 where
  pub some : 1 ≤ length cs
  pub most : length cs ≤ most_chunks
  pub each : Each ChunkFits cs

-- "no ending can follow, the limit aside": some ending makes the front a module
abbrev pub CanGoOn : List ℕ → Type 0
CanGoOn front = (ending : List ℕ) × (cs : List Chunk) × ModuleFits cs × (module_words cs ≡ front ++ ending)
