-- Document 01's limits and the units of a word's fields by their names. The code has the same names in `words::limits` and `words::fields`.
use Rattle.std.specs.Prelude.{ℕ}

-- "A 32-bit word is kind (bits 24..31), b (bits 16..23), a (bits 0..15)": the units of kind and b, and how many values b has
abbrev pub kind_unit : ℕ
kind_unit = 16777216

abbrev pub b_unit : ℕ
b_unit = 65536

abbrev pub b_values : ℕ
b_values = 256

-- "At most 16,384 words."
abbrev pub most_words : ℕ
most_words = 16384

-- "chunk count 1..256"
abbrev pub most_chunks : ℕ
most_chunks = 256

-- "256 blocks in one another are walked. At the 257th: refusal 7."
abbrev pub deepest : ℕ
deepest = 256

-- "locals + peak over 134,217,727"
abbrev pub most_slots : ℕ
most_slots = 134217727

-- 4,294,967,295 has four meanings. "all sums and products stop at 4,294,967,295"
abbrev pub cycle_cap : ℕ
cycle_cap = 4294967295

-- "8 open text: charged op with the greatest extra"
abbrev pub open_text : ℕ
open_text = 4294967295

-- "none if that .. passes 4,294,967,295", and 2.7: "with the 32-bit limit on that quotient"
abbrev pub most_passes : ℕ
most_passes = 4294967295

-- what stands past the end of a list of ops: a word that is no op
abbrev pub no_op : ℕ
no_op = 4294967295
