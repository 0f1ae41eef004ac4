-- An outcome as one number, for a caller in another language.
use Rattle.std.specs.Prelude.{Bool, true, false, List, [], ◌∷◌, ℕ, ◌+◌, ◌*◌, ◌%◌, ℤ, pos}
use Rattle.rules.specs.Outcome.{Outcome, answer, refused}
use Rattle.rules.specs.Cycles.{Cycles}
use Rattle.rules.specs.Stack.{Stack, Delta, offset, ends}
use Rattle.rules.specs.Yields.{Coverage, reached, never}

-- how many numbers, chunks and places a refusal is kept whole for: 2^8, 2^24 and 2^32
abbrev pub numbers : ℕ
numbers = 256

abbrev pub chunks : ℕ
chunks = 16777216

abbrev pub places : ℕ
places = 4294967296

-- what a refusal's number stands for: 2^56
abbrev pub number_unit : ℕ
number_unit = chunks * places

-- A refusal: number, chunk and place in 8, 24 and 32 bits. Numbers are 1 to 16, chunks and positions of a module end at 16,384; a chunk or a position that
-- is handed in is kept modulo 2^24 and 2^32. No answer reaches the bits of the number.
abbrev pub packed_refusal : ℕ → ℕ → ℕ → ℕ
packed_refusal n c p = n % numbers * number_unit + c % chunks * places + p % places

-- an answer that is a number: the chunks of the reader, a count, how many chunks stand in a tray
abbrev pub packed_number : Outcome ℕ → ℕ
packed_number (answer n) = n
packed_number (refused n c p) = packed_refusal n c p

-- flags above 32 bits of cycles: that the row ends, and that the cycles are cut
abbrev pub ends_flag : ℕ
ends_flag = 4294967296

abbrev pub cut_flag : ℕ
cut_flag = 8589934592

abbrev pub flagged : Bool → ℕ → ℕ
flagged true value = value
flagged false value = 0

abbrev pub packed_cycles : Outcome Cycles → ℕ
packed_cycles (answer k) = k.cycles + flagged k.ends ends_flag + flagged k.cut cut_flag
packed_cycles (refused n c p) = packed_refusal n c p

-- yield coverage: no, yes, never
abbrev pub coverage_number : Coverage → ℕ
coverage_number (reached false) = 0
coverage_number (reached true) = 1
coverage_number never = 2

abbrev pub packed_coverage : Outcome Coverage → ℕ
packed_coverage (answer k) = coverage_number k
packed_coverage (refused n c p) = packed_refusal n c p

-- the stack walk: whether the row ends
abbrev pub ends_mark : Delta → ℕ
ends_mark (offset d) = 0
ends_mark ends = 1

abbrev pub packed_stack : Outcome Stack → ℕ
packed_stack (answer s) = ends_mark s.delta
packed_stack (refused n c p) = packed_refusal n c p

-- the three numbers that a stack walk leaves: peak, delta (0 where the row ends) and bytes
abbrev pub delta_number : Delta → ℤ
delta_number (offset d) = d
delta_number ends = pos 0

abbrev pub stack_numbers : Outcome Stack → List ℤ → List ℤ
stack_numbers (answer s) out = pos s.peak ∷ delta_number s.delta ∷ pos s.bytes ∷ []
stack_numbers (refused n c p) out = out
