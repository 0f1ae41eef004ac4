-- What the answers of the entry point stand for in the rules.
use Rattle.std.specs.Prelude.{true, false}
use Rattle.rules.specs.Yields as R
use Rattle.yields.specs.declared.entry.Coverage.{Coverage}
use Rattle.yields.specs.declared.entry.Coverage.TheVariants.{Yes, No, Never}

abbrev pub coverage_is : Coverage → R.Coverage
coverage_is Yes = R.reached true
coverage_is No = R.reached false
coverage_is Never = R.never
