-- Worked cases of request 2.7: counts of loops that step by other numbers than 1, from filed words to the count, the walks' answers, the sheet and its text.
-- proofs/Checked proves the list by computation.
use Rattle.std.specs.Prelude.{◌≡◌, true, false, List, [], ◌∷◌, ◌++◌, ℕ, ◌-◌, ◌^◌, ℤ, pos, negsuc, replicate}
use Rattle.rules.specs.Limits.{open_text}
use Rattle.rules.specs.Outcome.{Outcome, ok, answer, refused}
use Rattle.rules.specs.Form.{integer, other, Chunk}
use Rattle.rules.specs.Stack.{ends}
use Rattle.rules.specs.Sheet.{Sheet, count_outcome, stack_outcome}
use Rattle.rules.specs.Text.{text_of}
use Rattle.rules.specs.Cases.{Case, func, chunk_l, alone, one, one_cut, sheet, stack}
use Rattle.rules.specs.CalleeCases.{printed}
use Rattle.rules.specs.MarkCases.{with_extras}
use Rattle.rules.specs.StepClaims.{undivided_cycles}

-- the count and the sheet of chunk L with its three constants
abbrev pub count_l : ℤ → ℤ → ℤ → Outcome ℕ
count_l start stop step = count_outcome (alone (chunk_l start stop step)) 0 4

abbrev pub sheet_l : ℤ → ℤ → ℤ → Outcome Sheet
sheet_l start stop step = sheet (chunk_l start stop step)

-- the least and the greatest signed 64-bit number
abbrev pub least : ℤ
least = negsuc (2 ^ 63 - 1)

abbrev pub greatest : ℤ
greatest = pos (2 ^ 63 - 1)

-- chunk L with a step that is no integer
abbrev pub no_step : Chunk
no_step = let c = chunk_l (pos 0) (pos 3) (pos 1) in func c.locals (integer (pos 0) ∷ integer (pos 3) ∷ other ∷ []) c.ops []

-- Request 2.7 row by row (docs/DECISIONS.md has the readings by number)
abbrev pub stepped : List Case
stepped =
    record { name = "reading 68: three by steps of 1"; claim = sheet_l (pos 0) (pos 3) (pos 1) ≡ one 48 3 160 }
    ∷ record { name = "reading 68: of 2, rounded up"; claim = sheet_l (pos 0) (pos 3) (pos 2) ≡ one 36 3 160 }
    ∷ record { name = "reading 68: of 3"; claim = sheet_l (pos 0) (pos 3) (pos 3) ≡ one 24 3 160 }
    ∷ record { name = "reading 68: of 4"; claim = sheet_l (pos 0) (pos 3) (pos 4) ≡ one 24 3 160 }
    ∷ record { name = "reading 68: of 2^62"; claim = sheet_l (pos 0) (pos 3) (pos (2 ^ 62)) ≡ one 24 3 160 }
    ∷ record { name = "reading 66: no distance"; claim = sheet_l (pos 7) (pos 7) greatest ≡ one 12 3 160 }
    ∷ record { name = "reading 66: the end below the start"; claim = sheet_l (pos 3) (pos 0) (pos 2) ≡ one 12 3 160 }
    ∷ record { name = "reading 66: by more than 64 bits hold"; claim = sheet_l greatest least (pos 5) ≡ one 12 3 160 }
    ∷ record { name = "reading 68: the limit is not on the distance"; claim = sheet_l (pos 0) (pos (2 ^ 33)) (pos (2 ^ 33)) ≡ one 24 3 160 }
    ∷ record { name = "reading 67: the greatest distance, in two"; claim = count_l (pos 0) greatest (pos (2 ^ 62)) ≡ answer 2 }
    ∷ record { name = "reading 67: in one"; claim = count_l (pos 0) greatest greatest ≡ answer 1 }
    ∷ record { name = "reading 67: one short of it, in two"; claim = count_l (pos 0) greatest (pos (2 ^ 63 - 2)) ≡ answer 2 }
    ∷ record { name = "reading 67: from below 0"; claim = count_l (negsuc 0) (pos (2 ^ 63 - 2)) greatest ≡ answer 1 }
    ∷ record { name = "reading 67: a distance of 2^63, by 1"; claim = sheet_l (negsuc 0) greatest (pos 1) ≡ refused 9 0 4 }
    ∷ record { name = "reading 67: by 2"; claim = sheet_l (negsuc 0) greatest (pos 2) ≡ refused 9 0 4 }
    ∷ record { name = "reading 67: by the greatest step"; claim = sheet_l (negsuc 0) greatest greatest ≡ refused 9 0 4 }
    ∷ record { name = "reading 67: from the least number to 0"; claim = sheet_l least (pos 0) (pos (2 ^ 62)) ≡ refused 9 0 4 }
    ∷ record { name = "reading 68: 4,294,967,295 passes"; claim = count_l (pos 0) (pos 8589934590) (pos 2) ≡ answer 4294967295 }
    ∷ record { name = "reading 68: their sheet is cut"; claim = sheet_l (pos 0) (pos 8589934590) (pos 2) ≡ one_cut 4294967295 3 160 }
    ∷ record {
      name = "and its text";
      claim = printed (chunk_l (pos 0) (pos 8589934590) (pos 2) ∷ []) ≡ text_of "chunk cycles peak bytes whole\n0 4294967295+ 3 160 4294967295\n";
    }
    ∷ record { name = "reading 68: rounded up it is 2^32"; claim = sheet_l (pos 0) (pos 8589934591) (pos 2) ≡ refused 9 0 4 }
    ∷ record { name = "reading 68: rounded down it would be 4,294,967,295"; claim = sheet_l (pos 0) greatest (pos (2 ^ 31)) ≡ refused 9 0 4 }
    ∷ record { name = "reading 68: the greatest distance with a count"; claim = count_l (pos 0) greatest (pos 2147483649) ≡ answer 4294967295 }
    ∷ record { name = "a step of 0"; claim = sheet_l (pos 0) (pos 3) (pos 0) ≡ refused 9 0 4 }
    ∷ record { name = "of -1"; claim = sheet_l (pos 0) (pos 3) (negsuc 0) ≡ refused 9 0 4 }
    ∷ record { name = "that is no integer"; claim = sheet no_step ≡ refused 9 0 4 }
    ∷ record {
      name = "reading 69: the walk goes on and meets another refusal";
      claim = sheet (with_extras (chunk_l (pos 0) (pos (2 ^ 33)) (pos (2 ^ 33))) (replicate 14 0 ++ (open_text ∷ []))) ≡ refused 8 0 14;
    }
    ∷ record {
      name = "reading 69: so does the stack walk";
      claim = stack_outcome (alone (chunk_l (pos 0) (pos (2 ^ 33)) (pos (2 ^ 33)))) 0 [] ≡ stack 3 ends 160;
    }
    ∷ record {
      name = "the Rust's figure, which is above ours";
      claim = undivided_cycles (chunk_l (pos 0) (pos 3) (pos 2)) ≡ ok (record { cycles = 48; ends = true; cut = false });
    }
    ∷ []
