-- The greatest fields of an op kind.
use Rattle.std.specs.Prelude.{cond, ℕ}
use Rattle.rules.specs.Ops.{uses_a, greatest_b}
use Rattle.writer.specs.declared.fits.Greatest.{Greatest}

-- what is read past the list's end
abbrev pub no_fields : Greatest
no_fields = record { a = 0; b = 0 }

-- the greatest a and b of kind k
abbrev pub fields_of : ℕ → Greatest
fields_of k = record { a = cond (uses_a k) 65535 0; b = greatest_b k }
