-- What the program `sheet` prints, from the bytes that it read.
use Rattle.std.specs.Prelude.{Bool, true, false, List, [], ◌∷◌, ◌++◌, ℕ, zero, suc, ◌+◌, ◌*◌, ◌/◌, ◌%◌, eqb, ltb, length, get_or}
use Prim.Native.Char.{code}
use Prim.Native.String.{String, len, char_at}
use Rattle.rules.specs.Limits.{most_chunks}
use Rattle.rules.specs.Numbers as N
use Rattle.rules.specs.Outcome.{Outcome, answer, refused}
use Rattle.rules.specs.Sheet.{Line, no_line, Sheet, sheet_outcome, sheet_room}

-- "reads little-endian words"
unfoldable pub words_of : List ℕ → List ℕ
words_of [] = []
words_of (a ∷ []) = []
words_of (a ∷ b ∷ []) = []
words_of (a ∷ b ∷ c ∷ []) = []
words_of (a ∷ b ∷ c ∷ d ∷ bytes) = (a + 256 * (b + 256 * (c + 256 * d))) ∷ words_of bytes

-- the bytes of words, the lowest first
unfoldable pub bytes_in : List ℕ → List ℕ
bytes_in [] = []
bytes_in (w ∷ ws) = w % 256 ∷ w / 256 % 256 ∷ w / 65536 % 256 ∷ w / 16777216 ∷ bytes_in ws

-- the digits of a number, the last one being that of its remainder by ten; n digits are room enough for n
abbrev pub on_small : Bool → (ℕ → List ℕ) → ℕ → List ℕ
on_small true more n = (48 + n) ∷ []
on_small false more n = more (n / 10) ++ ((48 + n % 10) ∷ [])

unfoldable pub digits : ℕ → ℕ → List ℕ
digits zero n = []
digits (suc f) n = on_small (ltb n 10) (λ m. digits f m) n

abbrev pub decimal : ℕ → List ℕ
decimal n = digits (suc n) n

abbrev pub space : ℕ
space = 32

abbrev pub newline : ℕ
newline = 10

abbrev pub plus_sign : ℕ
plus_sign = 43

-- n bytes of a quoted text from place i on; all of them
abbrev pub text_from : ℕ → String → ℕ → List ℕ
text_from zero s i = []
text_from (suc n) s i = code (char_at s i) ∷ text_from n s (suc i)

abbrev pub text_of : String → List ℕ
text_of s = text_from (len s) s 0

-- the first line that `sheet` prints; 2.1's field is "named last in the heading too"
abbrev pub heading : List ℕ
heading = text_of "chunk cycles peak bytes whole\n"

abbrev pub refused_word : List ℕ
refused_word = text_of "refused"

-- 2.5: "A cut cycles figure is printed with a plus sign behind it."
abbrev pub plus_if : Bool → List ℕ
plus_if true = plus_sign ∷ []
plus_if false = []

-- "Chunk index, cycles, peak in slots, stack bytes", and 2.1's fifth field
abbrev pub line_text : ℕ → Line → List ℕ
line_text c l =
    decimal c ++ (space ∷ decimal l.cycles ++ (plus_if l.cut ++ (space ∷ decimal l.peak ++ (space ∷ decimal l.bytes
    ++ (space ∷ decimal l.whole ++ (newline ∷ []))))))

-- the most bytes of a line: its five fields, each of at most 10 digits and one byte behind them, and a plus sign; and of a heading and 256 lines
abbrev pub line_most : ℕ
line_most = 11 * 5 + 1

abbrev pub sheet_most : ℕ
sheet_most = length heading + most_chunks * line_most

-- "one line a chunk, in call order"
unfoldable pub lines_text : List ℕ → List Line → List ℕ
lines_text [] lines = []
lines_text (c ∷ order) lines = line_text c (get_or lines c no_line) ++ lines_text order lines

-- "A refusal prints only `refused N C P`: number, chunk, place."
abbrev pub outcome_text : Outcome Sheet → List ℕ
outcome_text (answer s) = heading ++ lines_text s.order s.lines
outcome_text (refused n c p) =
    refused_word ++ (space ∷ decimal n ++ (space ∷ decimal c ++ (space ∷ decimal p ++ (newline ∷ []))))

-- "A byte count that four doesn't divide is refusal 1." A list of over 16,384 words is one too. The tray is the program's own, and
-- large enough for 256 chunks.
abbrev pub bytes_outcome : Bool → List ℕ → Outcome Sheet
bytes_outcome true bytes = sheet_outcome (words_of bytes) sheet_room
bytes_outcome false bytes = refused N.bad_head 0 0

abbrev pub sheet_text : List ℕ → List ℕ
sheet_text bytes = outcome_text (bytes_outcome (eqb (length bytes % 4) 0) bytes)
