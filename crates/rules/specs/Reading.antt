-- "The filed words" read: a list of numbers gives chunks, or refusal 1 or 2 with its place. `Form` has the same as a grammar, and
-- proofs/ReadingAgrees shows that the two agree, and proofs/ReadingPlace that the place is the document's.
use Rattle.std.specs.Prelude.{Bool, true, false, cond, ◌&&◌, ◌||◌, List, [], ◌∷◌, ℕ, zero, suc, ◌+◌, ◌*◌, ◌-◌, ◌^◌, eqb, leb, ltb, ℤ, pos, negsuc}
use lib.ListN.{length}
use Rattle.rules.specs.Kinds as K
use Rattle.rules.specs.Limits.{b_unit, most_words, most_chunks}
use Rattle.rules.specs.Numbers as N
use Rattle.rules.specs.Outcome.{Result, ok, no, Found, found, nothing, and_then, demand}
use Rattle.rules.specs.Ops.{kind, field_a, field_b, is_op}
use Rattle.rules.specs.Form.{Constant, integer, other, Chunk}

-- Where a reader stands between two words. The last number is that of the chunks still to come.
pub data Stage : Type 0 where
  -- behind the module's head
  before_chunk : ℕ → Stage
  -- among a chunk's constants
  in_constants : ℕ → Stage
  -- inside a constant of that kind, the next word having that b
  in_constant : ℕ → ℕ → ℕ → Stage
  -- behind so many ops
  in_ops : ℕ → ℕ → Stage
  -- among the extras, so many ops having none yet
  in_extras : ℕ → ℕ → Stage
  -- behind the low half of an extra
  in_extra : ℕ → ℕ → Stage

pub data Next : Type 0 where
  goes : Stage → Next
  stuck : Next

abbrev pub only_if : Bool → Stage → Next
only_if true s = goes s
only_if false s = stuck

abbrev pub or_else : Next → Next → Next
or_else (goes s) m = goes s
or_else stuck m = m

-- "one word of kind 199 (a: chunk count 1..256, b 0)"
abbrev pub is_head : ℕ → Bool
is_head w = eqb (kind w) K.module && eqb (field_b w) 0 && leb 1 (field_a w) && leb (field_a w) most_chunks

-- "kind 200 (a: locals; b: 0 Func, 1 Reentrant, 2 Stream)"
abbrev pub is_chunk : ℕ → Bool
is_chunk w = eqb (kind w) K.chunk && leb (field_b w) 2

-- a word of a constant of kind k, with that b: "kind 203 with a 0"
abbrev pub is_constant : ℕ → ℕ → ℕ → Bool
is_constant k b w = eqb (kind w) k && eqb (field_b w) b && (eqb k K.integer || eqb (field_a w) 0)

-- "two words of kind 204, b 0 then 1"
abbrev pub is_extra : ℕ → ℕ → Bool
is_extra b w = eqb (kind w) K.extra && eqb (field_b w) b

-- What may come next, and where that leads.
abbrev pub chunk_next : ℕ → ℕ → Next
chunk_next zero w = stuck
chunk_next (suc n) w = only_if (is_chunk w) (in_constants n)

abbrev pub constant_next : ℕ → ℕ → Next
constant_next n w = or_else (only_if (is_constant K.integer 0 w) (in_constant K.integer 1 n)) (only_if (is_constant K.other 0 w) (in_constant K.other 1 n))

abbrev pub op_next : ℕ → ℕ → ℕ → Next
op_next k n w = only_if (is_op w) (in_ops (suc k) n)

-- "Extras belong to ops from the first on; .. there are no more than ops."
abbrev pub extra_next : ℕ → ℕ → ℕ → Next
extra_next zero n w = stuck
extra_next (suc k) n w = only_if (is_extra 0 w) (in_extra k n)

-- "constants, ops, extras, in that order"
abbrev pub step : Stage → ℕ → Next
step (before_chunk n) w = chunk_next n w
step (in_constants n) w = or_else (constant_next n w) (or_else (op_next 0 n w) (chunk_next n w))
step (in_constant k b n) w = only_if (is_constant k b w) (cond (eqb b 3) (in_constants n) (in_constant k (suc b) n))
step (in_ops k n) w = or_else (op_next k n w) (or_else (extra_next k n w) (chunk_next n w))
step (in_extras k n) w = or_else (extra_next k n w) (chunk_next n w)
step (in_extra k n) w = only_if (is_extra 1 w) (in_extras k n)

-- a module may end here: no chunk is to come, and no constant or extra is open
abbrev pub may_end : Stage → Bool
may_end (before_chunk n) = false
may_end (in_constants n) = eqb n 0
may_end (in_constant k b n) = false
may_end (in_ops k n) = eqb n 0
may_end (in_extras k n) = eqb n 0
may_end (in_extra k n) = false

abbrev pub on_next : Next → (Stage → Found) → ℕ → Found
on_next (goes s) rest p = rest s
on_next stuck rest p = found p

-- "first word no ending can follow, the limit aside; the length if it stops short": the place at which the form is broken, p being
-- that of the first word at hand
unfoldable pub broken_at : Stage → List ℕ → ℕ → Found
broken_at s [] p = cond (may_end s) nothing (found p)
broken_at s (w ∷ ws) p = on_next (step s w) (λ t. broken_at t ws (suc p)) p

-- the longest part at the front whose words pass the test, and what is behind it
unfoldable pub take_while : (ℕ → Bool) → List ℕ → List ℕ
take_while f [] = []
take_while f (w ∷ ws) = cond (f w) (w ∷ take_while f ws) []

unfoldable pub drop_while : (ℕ → Bool) → List ℕ → List ℕ
drop_while f [] = []
drop_while f (w ∷ ws) = cond (f w) (drop_while f ws) (w ∷ ws)

abbrev pub of_constants : ℕ → Bool
of_constants w = eqb (kind w) K.integer || eqb (kind w) K.other

abbrev pub of_ops : ℕ → Bool
of_ops w = leb (kind w) K.call_external_native

abbrev pub of_extras : ℕ → Bool
of_extras w = eqb (kind w) K.extra

-- two's complement at 64 bits: from 2^63 on, n stands for n - 2^64
abbrev pub signed_of : ℕ → ℤ
signed_of n = cond (ltb n (2 ^ 63)) (pos n) (negsuc (2 ^ 64 - suc n))

-- the constant that four words make
abbrev pub constant_of : ℕ → ℕ → ℕ → ℕ → Constant
constant_of s t u v =
    cond (eqb (kind s) K.integer) (integer (signed_of (field_a s + b_unit * (field_a t + b_unit * (field_a u + b_unit * field_a v))))) other

unfoldable pub constants_of : List ℕ → List Constant
constants_of [] = []
constants_of (s ∷ []) = []
constants_of (s ∷ t ∷ []) = []
constants_of (s ∷ t ∷ u ∷ []) = []
constants_of (s ∷ t ∷ u ∷ v ∷ ws) = constant_of s t u v ∷ constants_of ws

-- "holding the low and the high 16 bits"
unfoldable pub extras_of : List ℕ → List ℕ
extras_of [] = []
extras_of (s ∷ []) = []
extras_of (s ∷ t ∷ ws) = (field_a s + b_unit * field_a t) ∷ extras_of ws

-- The parts of a chunk whose head stands right before these words, and what is behind the chunk.
abbrev pub constant_part : List ℕ → List ℕ
constant_part ws = take_while of_constants ws

abbrev pub behind_constants : List ℕ → List ℕ
behind_constants ws = drop_while of_constants ws

abbrev pub op_part : List ℕ → List ℕ
op_part ws = take_while of_ops (behind_constants ws)

abbrev pub behind_ops : List ℕ → List ℕ
behind_ops ws = drop_while of_ops (behind_constants ws)

abbrev pub extra_part : List ℕ → List ℕ
extra_part ws = take_while of_extras (behind_ops ws)

abbrev pub behind_chunk : List ℕ → List ℕ
behind_chunk ws = drop_while of_extras (behind_ops ws)

abbrev pub chunk_of : ℕ → List ℕ → Chunk
chunk_of head ws =
    record {
      locals = field_a head;
      type = field_b head;
      constants = constants_of (constant_part ws);
      ops = op_part ws;
      extras = extras_of (extra_part ws);
    }

-- the first n chunks of words that are in form
unfoldable pub chunks_of : ℕ → List ℕ → List Chunk
chunks_of zero ws = []
chunks_of (suc n) [] = []
chunks_of (suc n) (head ∷ ws) = chunk_of head ws ∷ chunks_of n (behind_chunk ws)

abbrev pub unless_broken : Found → (ℕ → List Chunk) → Result (List Chunk)
unless_broken (found p) chunks = no N.bad_word p
unless_broken nothing chunks = ok (chunks 0)

-- The reading, the limit aside: "1 bad head: length 0 .. or first word wrong", "2 bad word: form broken".
abbrev pub read_any : List ℕ → Result (List Chunk)
read_any [] = no N.bad_head 0
read_any (h ∷ ws) =
    and_then (demand (is_head h) N.bad_head 0 h)
    (λ g. unless_broken (broken_at (before_chunk (field_a h)) ws 1) (λ u. chunks_of (field_a h) ws))

-- "At most 16,384 words." "1 bad head: length 0 or over 16,384, or first word wrong, place 0"
abbrev pub read : List ℕ → Result (List Chunk)
read ws = and_then (demand (leb (length ws) most_words) N.bad_head 0 ws) (λ vs. read_any vs)

-- "a missing one is 0"
abbrev pub extra_at : List ℕ → ℕ → ℕ
extra_at extras i = lib.ListN.get_or extras i 0
