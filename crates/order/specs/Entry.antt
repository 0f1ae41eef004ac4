-- What the call order tells: how many chunks stand in the tray.
use Rattle.std.specs.Prelude.{List, ℕ, length}
use Rattle.rules.specs.Outcome.{Outcome, answer, refused}

abbrev pub length_of : Outcome (List ℕ) → Outcome ℕ
length_of (answer order) = answer (length order)
length_of (refused n c p) = refused n c p
