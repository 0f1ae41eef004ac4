-- What the lines' groups are printed as.
use Rattle.std.specs.Prelude.{List, ℕ, Option, Result, Ok, Err}
use Rattle.rules.specs.Numbers as N
use Rattle.rules.specs.Outcome.{refused}
use Rattle.rules.specs.Text.{outcome_text}
use Rattle.rules.specs.Table.{table_rows}
use Rattle.groups.specs.declared.line.Figures.{Figures}
use Rattle.groups.specs.Rows.{figures_at}

abbrev pub groups_text : Result (List (Option Figures)) ℕ → List ℕ
groups_text (Ok table) = table_rows (λ k. figures_at table k)
groups_text (Err line) = outcome_text (refused N.bad_word 0 line)
