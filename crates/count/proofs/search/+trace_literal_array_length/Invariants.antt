-- `trace_literal_array_length` answers the length of the array in a slot. The position falls at each call of itself.
-- Assumes nothing.
use Rattle.count.proofs.search.+trace_literal_array_length.Given as goal

abbrev pub decreases-trace_literal_array_length : goal.decreases-trace_literal_array_length
decreases-trace_literal_array_length l = l.before
