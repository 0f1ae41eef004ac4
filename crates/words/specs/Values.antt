-- What the code's constants stand for in document 01.
use Rattle.std.specs.Prelude.{ℤ, Option, Some, None}
use Rattle.rules.specs.Form.{Constant, integer, other}

abbrev pub constant_is : Option ℤ → Constant
constant_is (Some z) = integer z
constant_is None = other
