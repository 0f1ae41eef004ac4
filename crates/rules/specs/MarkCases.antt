-- Worked cases of request 2.5: which figures are marked, from filed words to the walk's answer, the sheet, its tray and its text. proofs/Checked proves the
-- list by computation.
use Rattle.std.specs.Prelude.{◌≡◌, true, false, List, [], ◌∷◌, ◌++◌, ℕ, pos, replicate}
use Rattle.rules.specs.Kinds as K
use Rattle.rules.specs.Outcome.{Outcome, refused}
use Rattle.rules.specs.Form.{Chunk, module_words}
use Rattle.rules.specs.Cycles.{Cycles}
use Rattle.rules.specs.Sheet.{cycles_outcome, sheet_outcome, sheet_tray}
use Rattle.rules.specs.Text.{text_of}
use Rattle.rules.specs.Cases.{Case, op, func, chunk_l, alone, one, one_cut, walked, sheet}
use Rattle.rules.specs.CalleeCases.{printed, call_with, at_the_cap, longer_l}

-- a chunk with these extras
abbrev pub with_extras : Chunk → List ℕ → Chunk
with_extras c extras = record { locals = c.locals; type = c.type; constants = c.constants; ops = c.ops; extras = extras }

-- the greatest extra that is no open text, for one op behind n others: with one cycle it is at the cap, with two it is over
abbrev pub behind : ℕ → List ℕ
behind n = replicate n 0 ++ (4294967294 ∷ [])

-- over the cap by one cycle: `Return`, whose own charge is, and `Yield, Yield`, of which the first is at the cap
abbrev pub over_at_once : Chunk
over_at_once = func 0 [] (op K.return 0 ∷ []) (behind 0)

abbrev pub over_by_one : Chunk
over_by_one = func 0 [] (op K.yield 0 ∷ op K.yield 0 ∷ []) (behind 0)

-- chunk L with the end 357,913,940 and an extra on op 0: 4,294,967,292 cycles and that extra
abbrev pub near_l : ℕ → Chunk
near_l extra = with_extras (chunk_l (pos 0) (pos 357913940) (pos 1)) (extra ∷ [])

-- what the cycle walk of a chunk alone answers
abbrev pub walk : Chunk → Outcome Cycles
walk c = cycles_outcome (alone c) 0

-- what the sheet of a chunk alone leaves in a tray of so many nines
abbrev pub tray : Chunk → ℕ → List ℕ
tray c n = sheet_tray (sheet_outcome (alone c) n) (replicate n 9)

-- Request 2.5 question by question (docs/DECISIONS.md has the readings by number)
abbrev pub marked : List Case
marked =
    record { name = "reading 48: 4,294,967,295 exactly has no mark"; claim = sheet at_the_cap ≡ one 4294967295 0 0 }
    ∷ record { name = "reading 48: the cycle walk's answer neither"; claim = walk at_the_cap ≡ walked 4294967295 false false }
    ∷ record { name = "reading 48: one cycle more"; claim = sheet over_by_one ≡ one_cut 4294967295 0 0 }
    ∷ record { name = "reading 48: the cycle walk's answer too"; claim = walk over_by_one ≡ walked 4294967295 false true }
    ∷ record { name = "reading 48: a single charge can be cut"; claim = walk over_at_once ≡ walked 4294967295 true true }
    ∷ record { name = "reading 48: chunk L, 4,294,967,295 exactly"; claim = sheet (near_l 3) ≡ one 4294967295 3 160 }
    ∷ record { name = "reading 48: chunk L, one cycle more"; claim = sheet (near_l 4) ≡ one_cut 4294967295 3 160 }
    ∷ record {
      name = "reading 49: a body at the cap, passed 0 times: 12 cycles";
      claim = sheet (with_extras (longer_l (pos 0) (op K.yield 0 ∷ [])) (behind 9)) ≡ one 12 3 160;
    }
    ∷ record {
      name = "reading 49: passed once";
      claim = sheet (with_extras (longer_l (pos 1) (op K.yield 0 ∷ [])) (behind 9)) ≡ one_cut 4294967295 3 160;
    }
    ∷ record {
      name = "reading 49: behind a Return";
      claim = walk (func 0 [] (op K.return 0 ∷ op K.yield 0 ∷ []) (behind 1)) ≡ walked 2 true false;
    }
    ∷ record {
      name = "reading 49: the costliest break counts though the body is passed 0 times";
      claim = sheet (with_extras (longer_l (pos 0) (op K.if 12 ∷ op K.yield 0 ∷ op K.break 19 ∷ op K.end_if 0 ∷ [])) (behind 10)) ≡ one_cut 4294967295 2 128;
    }
    ∷ record {
      name = "reading 49: an arm";
      claim = walk (func 0 [] (op K.const 0 ∷ op K.if 4 ∷ op K.yield 0 ∷ op K.else 5 ∷ op K.yield 0 ∷ op K.end_if 0 ∷ []) (behind 4)) ≡ walked 4294967295 false true;
    }
    ∷ record {
      name = "reading 49: a body that never reaches its end";
      claim = walk (func 0 [] (op K.loop 4 ∷ op K.yield 0 ∷ op K.break 4 ∷ op K.end_loop 0 ∷ []) (behind 1)) ≡ walked 4294967295 false true;
    }
    ∷ record {
      name = "chunk L with end 4,294,967,295 as text";
      claim = printed (chunk_l (pos 0) (pos 4294967295) (pos 1) ∷ []) ≡ text_of "chunk cycles peak bytes whole\n0 4294967295+ 3 160 4294967295\n";
    }
    ∷ record {
      name = "reading 51: the plus sign stands right behind the cycles";
      claim = printed (over_by_one ∷ []) ≡ text_of "chunk cycles peak bytes whole\n0 4294967295+ 0 0 4294967295\n";
    }
    ∷ record {
      name = "reading 51: exact cycles have none";
      claim = printed (at_the_cap ∷ []) ≡ text_of "chunk cycles peak bytes whole\n0 4294967295 0 0 4294967295\n";
    }
    ∷ record {
      name = "reading 50: a callee that is cut does not touch its caller's mark";
      claim = printed (call_with 0 ∷ over_by_one ∷ []) ≡ text_of "chunk cycles peak bytes whole\n1 4294967295+ 0 0 4294967295\n0 10 1 32 4294967295\n";
    }
    ∷ record {
      name = "reading 50: nor does a whole figure that is cut";
      claim = printed (call_with 1 ∷ at_the_cap ∷ []) ≡ text_of "chunk cycles peak bytes whole\n1 4294967295 0 0 4294967295\n0 11 1 32 4294967295\n";
    }
    ∷ record { name = "reading 52: the tray, and what lies beyond"; claim = tray over_by_one 7 ≡ 4294967295 ∷ 1 ∷ 0 ∷ 0 ∷ 4294967295 ∷ 9 ∷ 9 ∷ [] }
    ∷ record { name = "reading 52: with exact cycles"; claim = tray (near_l 3) 5 ≡ 4294967295 ∷ 0 ∷ 3 ∷ 160 ∷ 4294967295 ∷ [] }
    ∷ record { name = "reading 52: a tray of four numbers is short"; claim = sheet_outcome (alone over_by_one) 4 ≡ refused 13 0 0 }
    ∷ record {
      name = "reading 52: and one of nine for two chunks";
      claim = sheet_outcome (module_words (call_with 0 ∷ over_by_one ∷ [])) 9 ≡ refused 13 0 0;
    }
    ∷ record { name = "a refusal has no figure and no mark"; claim = walk (func 0 [] (op K.yield 0 ∷ op K.yield 0 ∷ []) (4294967294 ∷ 4294967295 ∷ [])) ≡ refused 8 0 1 }
    ∷ []
