-- Where the parts of a chunk stand in a word list, and each part as a list.
use Rattle.std.specs.Prelude.{◌≡◌, Bool, ℕ, suc, ◌+◌, ◌-◌, ◌≤◌, length, get_or, take, drop}
use mathlib.Core.List.{List, [], flat_map}
use Rattle.rules.specs.Kinds as K
use Rattle.rules.specs.Limits.{most_words}
use Rattle.rules.specs.Ops.{kind, field_a, field_b, between}
use Rattle.rules.specs.Outcome.{Result, ok, no}
use Rattle.rules.specs.Form.{Chunk, ChunkFits, chunk_words}
use Rattle.rules.specs.Reading.{take_while, read, constants_of, extras_of}
use Rattle.words.specs.declared.parts.Parts.{Parts}

-- a word whose kind is from `low` to `high`
abbrev pub of_kinds : ℕ → ℕ → ℕ → Bool
of_kinds low high w = between low high (kind w)

-- the words in front whose kinds are from `low` to `high`
abbrev pub run_of : ℕ → ℕ → List ℕ → List ℕ
run_of low high ws = take_while (of_kinds low high) ws

-- the position behind that run from `from` on
abbrev pub behind_run : ℕ → ℕ → List ℕ → ℕ → ℕ
behind_run low high ws from = from + length (run_of low high (drop from ws))

-- the parts of a chunk from its head's position, and where its ops and extras begin and it ends
abbrev pub parts_from : List ℕ → ℕ → ℕ → ℕ → ℕ → Parts
parts_from ws at ops extras end =
    record { locals = field_a (get_or ws at 0); mode = field_b (get_or ws at 0); constants = at + 1; ops = ops; extras = extras; end = end }

-- the parts of the chunk whose head stands at a position: constants of kinds 202 and 203, ops of kinds 0 to 65, extras of kind 204
abbrev pub parts_at : List ℕ → ℕ → Parts
parts_at ws at =
    let ops = behind_run K.integer K.other ws (at + 1) in
    let extras = behind_run K.const K.call_external_native ws ops in
    parts_from ws at ops extras (behind_run K.extra K.extra ws extras)

-- the words from one position up to another
abbrev pub part_of : ℕ → ℕ → List ℕ → List ℕ
part_of from to ws = take (to - from) (drop from ws)

-- the chunks of a reading; of a refusal none
abbrev pub chunks_read : Result (List Chunk) → List Chunk
chunks_read (ok cs) = cs
chunks_read (no n p) = []

-- the chunks of words that are a module; of other words none
abbrev pub chunks_in : List ℕ → List Chunk
chunks_in ws = chunks_read (read ws)

-- where the head of the chunk of an index stands: behind the module's head and the chunks before it
abbrev pub head_at : List Chunk → ℕ → ℕ
head_at cs c = suc (length (flat_map chunk_words (take c cs)))

-- What the parts of a chunk say of it: the crates above know a chunk by this alone.
pub record PartsOf (ws : List ℕ) (p : Parts) (c : Chunk) : Type 0 where
  pub locals : p.locals ≡ c.locals
  pub mode : p.mode ≡ c.type
  pub constants : constants_of (part_of p.constants p.ops ws) ≡ c.constants
  pub ops : part_of p.ops p.extras ws ≡ c.ops
  pub extras : extras_of (part_of p.extras p.end ws) ≡ c.extras
  pub constants_first : p.constants ≤ p.ops
  pub ops_next : p.ops ≤ p.extras
  pub extras-last : p.extras ≤ p.end
  pub within : p.end ≤ length ws

-- the parts of a chunk that fits the form, in words within the limit: what the walks of one chunk ask for
pub record PartsFit (ws : List ℕ) (p : Parts) : Type 0 where
  pub chunk : Chunk
  pub parts : PartsOf ws p chunk
  pub fits : ChunkFits chunk
  pub short : length ws ≤ most_words
