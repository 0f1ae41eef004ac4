-- "Refusing": the numbers by their words. The code has the same names in `words::refusals`; cited as `N.no_count`.
use Rattle.std.specs.Prelude.{ℕ}

abbrev pub bad_head : ℕ
bad_head = 1

abbrev pub bad_word : ℕ
bad_word = 2

abbrev pub no_stream : ℕ
no_stream = 3

abbrev pub no_reset : ℕ
no_reset = 4

abbrev pub backward : ℕ
backward = 5

abbrev pub crossed : ℕ
crossed = 6

abbrev pub too_deep : ℕ
too_deep = 7

abbrev pub open_text : ℕ
open_text = 8

abbrev pub no_count : ℕ
no_count = 9

abbrev pub ring : ℕ
ring = 10

abbrev pub too_tall : ℕ
too_tall = 11

abbrev pub no_such_chunk : ℕ
no_such_chunk = 12

abbrev pub short_tray : ℕ
short_tray = 13

-- document 02's
abbrev pub unfit_part : ℕ
unfit_part = 14

abbrev pub stray_break : ℕ
stray_break = 15

abbrev pub unsure_count : ℕ
unsure_count = 16
