-- Worked cases of request 2.6, from the bytes read to the bytes printed. proofs/Checked proves the list by computation.
use Rattle.std.specs.Prelude.{◌≡◌, List, [], ◌∷◌, ◌++◌, map, ℕ, take, drop}
use Prim.Native.String.{String}
use Rattle.rules.specs.Ops.{Group, group, figures}
use Rattle.rules.specs.Order.{up_from}
use Rattle.rules.specs.Text.{text_of}
use Rattle.rules.specs.Table.{table_line, table_rows, table_text}
use Rattle.rules.specs.TableClaims.{group_lines, unended, built_in}
use Rattle.rules.specs.Cases.{Case}

abbrev pub printed : String → List ℕ
printed s = table_text (text_of s)

-- every kind costs 1/0/0
abbrev pub ones : List ℕ
ones = table_rows (λ k. figures 1 0 0)

abbrev pub bad_line0 : List ℕ
bad_line0 = text_of "refused 2 0 0\n"

abbrev pub bad_line1 : List ℕ
bad_line1 = text_of "refused 2 0 1\n"

abbrev pub bad_line2 : List ℕ
bad_line2 = text_of "refused 2 0 2\n"

-- one group for each of the kinds below 66
abbrev pub singles : List Group
singles = map (λ k. group k k 1 0 0) (up_from 0 66)

-- the row that is built in for a kind
abbrev pub row : ℕ → List ℕ
row k = table_line k (built_in k)

-- Request 2.6 question by question (docs/DECISIONS.md has the readings by number)
abbrev pub grouped : List Case
grouped =
    record { name = "reading 54: the last line may lack its newline"; claim = printed "0 65 1 0 0" ≡ ones }
    ∷ record { name = "reading 54: and may have it"; claim = printed "0 65 1 0 0\n" ≡ ones }
    ∷ record { name = "reading 54: the rows of kinds 0 and 1, as text"; claim = take 16 (printed "0 65 1 0 0") ≡ text_of "0 1 0 0\n1 1 0 0\n" }
    ∷ record { name = "reading 54: and of kinds 64 and 65, the last"; claim = drop 566 (printed "0 65 1 0 0") ≡ text_of "64 1 0 0\n65 1 0 0\n" }
    ∷ record { name = "reading 54: no bytes are no line"; claim = printed "" ≡ bad_line0 }
    ∷ record { name = "reading 55: an empty line is no group"; claim = printed "\n" ≡ bad_line0 }
    ∷ record { name = "reading 55: nor is one behind the last newline but one"; claim = printed "0 65 1 0 0\n\n" ≡ bad_line1 }
    ∷ record { name = "reading 56: four numbers"; claim = printed "0 65 1 0" ≡ bad_line0 }
    ∷ record { name = "reading 56: six numbers"; claim = printed "0 65 1 0 0 0" ≡ bad_line0 }
    ∷ record { name = "reading 56: a space before"; claim = printed " 0 65 1 0 0" ≡ bad_line0 }
    ∷ record { name = "reading 56: a space behind"; claim = printed "0 65 1 0 0 " ≡ bad_line0 }
    ∷ record { name = "reading 56: two spaces"; claim = printed "0  65 1 0 0" ≡ bad_line0 }
    ∷ record { name = "reading 56: a carriage return"; claim = printed "0 65 1 0 0\r" ≡ bad_line0 }
    ∷ record { name = "reading 56: a tab"; claim = printed "0\t65 1 0 0" ≡ bad_line0 }
    ∷ record { name = "reading 56: a sign"; claim = printed "0 65 +1 0 0" ≡ bad_line0 }
    ∷ record { name = "reading 56: a byte 0"; claim = table_text (text_of "0 65 1 0 0" ++ (0 ∷ [])) ≡ bad_line0 }
    ∷ record { name = "reading 57: a zero before a number"; claim = printed "0 65 01 0 0" ≡ bad_line0 }
    ∷ record { name = "reading 57: two zeros"; claim = printed "0 65 1 00 0" ≡ bad_line0 }
    ∷ record { name = "reading 58: the greatest number"; claim = printed "0 65 4294967295 0 0" ≡ table_rows (λ k. figures 4294967295 0 0) }
    ∷ record { name = "reading 58: one more"; claim = printed "0 65 4294967296 0 0" ≡ bad_line0 }
    ∷ record { name = "reading 58: one over 64 bits"; claim = printed "0 65 18446744073709551617 0 0" ≡ bad_line0 }
    ∷ record { name = "reading 59: an end below its first kind"; claim = printed "5 4 1 0 0" ≡ bad_line0 }
    ∷ record { name = "reading 59: an end past kind 65"; claim = printed "0 66 1 0 0" ≡ bad_line0 }
    ∷ record { name = "reading 59: and a first kind past it"; claim = printed "66 66 1 0 0" ≡ bad_line0 }
    ∷ record { name = "reading 60: a kind that the first line has"; claim = printed "0 40 1 0 0\n41 65 1 0 0\n3 3 1 0 0" ≡ bad_line2 }
    ∷ record { name = "reading 60: around a line before"; claim = printed "3 3 1 0 0\n0 65 1 0 0" ≡ bad_line1 }
    ∷ record { name = "reading 61: an overlap before a line that is none"; claim = printed "0 3 1 0 0\n3 65 1 0 0\nx" ≡ bad_line1 }
    ∷ record { name = "reading 61: and behind one"; claim = printed "0 3 1 0 0\nx\n3 65 1 0 0" ≡ bad_line1 }
    ∷ record { name = "reading 62: kind 65 left out"; claim = printed "0 64 1 0 0" ≡ bad_line1 }
    ∷ record { name = "reading 62: with a newline"; claim = printed "0 64 1 0 0\n" ≡ bad_line1 }
    ∷ record { name = "reading 63: the rows come by kind"; claim = take 16 (printed "1 65 1 0 0\n0 0 2 0 0") ≡ text_of "0 2 0 0\n1 1 0 0\n" }
    ∷ record { name = "reading 64: 30 Call"; claim = row 30 ≡ text_of "30 10 1 0\n" }
    ∷ record { name = "reading 64: 34 NewComposite"; claim = row 34 ≡ text_of "34 5 1 0\n" }
    ∷ record { name = "reading 64: 36 GetIndex"; claim = row 36 ≡ text_of "36 2 0 1\n" }
    ∷ record { name = "reading 64: 50 Trap"; claim = row 50 ≡ text_of "50 1 0 0\n" }
    ∷ record { name = "reading 64: 58 PopN"; claim = row 58 ≡ text_of "58 1 0 0\n" }
    ∷ record { name = "reading 64: 64 CallVerifiedNative"; claim = row 64 ≡ text_of "64 10 1 0\n" }
    ∷ record { name = "reading 64: 65 CallExternalNative"; claim = row 65 ≡ text_of "65 10 1 0\n" }
    ∷ record { name = "reading 65: 66 lines"; claim = table_text (group_lines singles) ≡ ones }
    ∷ record { name = "reading 65: 67 lines"; claim = table_text (group_lines singles ++ unended (group 0 0 1 0 0 ∷ [])) ≡ text_of "refused 2 0 66\n" }
    ∷ []
