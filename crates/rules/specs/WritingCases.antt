-- Worked cases of request 2.2: lent lists, and the words or the refusal. proofs/Checked proves the list by computation.
use Rattle.std.specs.Prelude.{◌≡◌, ℕ, negsuc, length, take, replicate}
use mathlib.Core.List.{List, [], ◌∷◌, ◌++◌, flat_map}
use Rattle.rules.specs.Kinds as K
use Rattle.rules.specs.Limits as M
use Rattle.rules.specs.Outcome.{Outcome, answer, refused, ok}
use Rattle.rules.specs.Ops.{word}
use Rattle.rules.specs.Form.{integer, other, extra_words}
use Rattle.rules.specs.Reading.{read}
use Rattle.rules.specs.Text.{text_of, bytes_in}
use Rattle.rules.specs.Writing.{Op, lent_op, write_outcome, how_many, write_tray}
use Rattle.rules.specs.Shelf.{shelf_bytes}
use Rattle.rules.specs.Cases.{Case, op, func, caller, alone}

abbrev pub op_of : ℕ → ℕ → ℕ → Op
op_of k a b = record { kind = k; a = a; b = b }

-- one chunk without constants, lent with these ops and extras to a tray of 16,384 words
abbrev pub one_chunk : ℕ → ℕ → List Op → List ℕ → Outcome (List ℕ)
one_chunk locals type ops extras =
    write_outcome (locals ∷ type ∷ 0 ∷ length ops ∷ length extras ∷ []) [] (flat_map lent_op ops) extras M.most_words

abbrev pub of_op : Op → Outcome (List ℕ)
of_op o = one_chunk 0 0 (o ∷ []) []

-- n Yields with these extras
abbrev pub yields : ℕ → List ℕ → Outcome (List ℕ)
yields n extras = one_chunk 0 0 (replicate n (op_of K.yield 0 0)) extras

-- one chunk with these three numbers for a constant
abbrev pub of_constant : List ℕ → Outcome (List ℕ)
of_constant ns = write_outcome (0 ∷ 0 ∷ 1 ∷ 0 ∷ 0 ∷ []) ns [] [] M.most_words

abbrev pub unfit : Outcome (List ℕ)
unfit = refused 14 0 0

abbrev pub empty_chunk : List ℕ
empty_chunk = 0 ∷ 0 ∷ 0 ∷ 0 ∷ 0 ∷ []

-- a Yield alone, filed with an extra of 0 behind it
abbrev pub zero_behind : List ℕ
zero_behind = alone (caller (op K.yield 0 ∷ [])) ++ extra_words 0

-- Request 2.2 sentence by sentence (docs/DECISIONS.md has the readings): zeros, what no readable list has, no module, fields, chunk count, what is not
-- tested, the tray, what is readable, and the program.
abbrev pub shelved : List Case
shelved =
    record { name = "zeros at the end go, an inner one stays: three Yields, extras 0, 5, 0"; claim = yields 3 (0 ∷ 5 ∷ 0 ∷ []) ≡ answer (alone (func 0 [] (op K.yield 0 ∷ op K.yield 0 ∷ op K.yield 0 ∷ []) (0 ∷ 5 ∷ []))) }
    ∷ record { name = "these are 9 words"; claim = how_many (yields 3 (0 ∷ 5 ∷ 0 ∷ [])) ≡ answer 9 }
    ∷ record { name = "extras 0, 0, 0: 5 words"; claim = how_many (yields 3 (0 ∷ 0 ∷ 0 ∷ [])) ≡ answer 5 }
    ∷ record { name = "zeros go before extras are counted: one Yield, extras 0, 0"; claim = yields 1 (0 ∷ 0 ∷ []) ≡ answer (word K.module 0 1 ∷ word K.chunk 0 0 ∷ word K.yield 0 0 ∷ []) }
    ∷ record { name = "an extra beyond the ops that is not 0: one Yield, extras 0, 7"; claim = yields 1 (0 ∷ 7 ∷ []) ≡ unfit }
    ∷ record { name = "zeros go before words are counted: 16,382 Yields and extras of 0"; claim = how_many (yields 16382 (replicate 16382 0)) ≡ answer 16384 }
    ∷ record { name = "an extra of no chunk, though it is 0"; claim = write_outcome empty_chunk [] [] (0 ∷ []) 2 ≡ unfit }
    ∷ record { name = "a chunk without its ops"; claim = write_outcome (0 ∷ 0 ∷ 0 ∷ 4294967295 ∷ 0 ∷ []) [] [] [] 2 ≡ unfit }
    ∷ record { name = "a list of chunks that five does not divide"; claim = write_outcome (0 ∷ 0 ∷ 0 ∷ 0 ∷ []) [] [] [] 2 ≡ unfit }
    ∷ record { name = "a constant of neither form: 2, 0, 0"; claim = of_constant (2 ∷ 0 ∷ 0 ∷ []) ≡ unfit }
    ∷ record { name = "and 1, 0, 1"; claim = of_constant (1 ∷ 0 ∷ 1 ∷ []) ≡ unfit }
    ∷ record { name = "a constant that is no integer"; claim = of_constant (1 ∷ 0 ∷ 0 ∷ []) ≡ answer (alone (func 0 (other ∷ []) [] [])) }
    ∷ record { name = "the constant -1"; claim = of_constant (0 ∷ 4294967295 ∷ 4294967295 ∷ []) ≡ answer (alone (func 0 (integer (negsuc 0) ∷ []) [] [])) }
    ∷ record { name = "locals 65,536"; claim = one_chunk 65536 0 [] [] ≡ unfit }
    ∷ record { name = "type 3"; claim = one_chunk 0 3 [] [] ≡ unfit }
    ∷ record { name = "a of 65,536"; claim = of_op (op_of 0 65536 0) ≡ unfit }
    ∷ record { name = "kind 256"; claim = of_op (op_of 256 0 0) ≡ unfit }
    ∷ record { name = "b of 256"; claim = of_op (op_of 30 0 256) ≡ unfit }
    ∷ record { name = "a field that GetData does not use"; claim = of_op (op_of 3 1 0) ≡ unfit }
    ∷ record { name = "a b that NewComposite does not take"; claim = of_op (op_of 34 0 4) ≡ unfit }
    ∷ record { name = "kind 66"; claim = of_op (op_of 66 0 0) ≡ unfit }
    ∷ record { name = "no chunk"; claim = write_outcome [] [] [] [] M.most_words ≡ unfit }
    ∷ record { name = "256 empty chunks: 257 words"; claim = how_many (write_outcome (replicate 1280 0) [] [] [] 257) ≡ answer 257 }
    ∷ record { name = "257 chunks"; claim = write_outcome (replicate 1285 0) [] [] [] M.most_words ≡ unfit }
    ∷ record {
      name = "what only a walk minds: a Stream chunk without Stream, a target of 65,535, the greatest extra";
      claim = one_chunk 0 2 (op_of K.if 65535 0 ∷ []) (M.open_text ∷ []) ≡ answer (alone (record { locals = 0; type = 2; constants = []; ops = op K.if 65535 ∷ []; extras = M.open_text ∷ [] }));
    }
    ∷ record { name = "14 comes before the tray"; claim = write_outcome (0 ∷ 3 ∷ 0 ∷ 0 ∷ 0 ∷ []) [] [] [] 0 ≡ unfit }
    ∷ record { name = "a tray of one"; claim = write_outcome empty_chunk [] [] [] 1 ≡ refused 13 0 0 }
    ∷ record { name = "what lies beyond is left"; claim = write_tray (write_outcome empty_chunk [] [] [] 3) (7 ∷ 7 ∷ 9 ∷ []) ≡ word K.module 0 1 ∷ word K.chunk 0 0 ∷ 9 ∷ [] }
    ∷ record { name = "and a refusal writes nothing"; claim = write_tray (write_outcome empty_chunk [] [] [] 1) (7 ∷ []) ≡ 7 ∷ [] }
    ∷ record { name = "an extra of 0 at the end stays readable"; claim = read zero_behind ≡ ok (func 0 [] (op K.yield 0 ∷ []) (0 ∷ []) ∷ []) }
    ∷ record { name = "and is written as the first three words"; claim = yields 1 (0 ∷ []) ≡ answer (take 3 zero_behind) }
    ∷ record {
      name = "the program: one Yield with extras 0, 0";
      claim = shelf_bytes (bytes_in (0 ∷ 5 ∷ 0 ∷ 3 ∷ 2 ∷ 0 ∷ 0 ∷ 0 ∷ 1 ∷ 2 ∷ 32 ∷ 0 ∷ 0 ∷ 0 ∷ 0 ∷ [])) ≡ 1 ∷ 0 ∷ 0 ∷ 199 ∷ 0 ∷ 0 ∷ 0 ∷ 200 ∷ 0 ∷ 0 ∷ 0 ∷ 32 ∷ [];
    }
    ∷ record { name = "a head's b of 1 is not one of its forms"; claim = shelf_bytes (bytes_in (1 ∷ 5 ∷ 0 ∷ 0 ∷ 0 ∷ empty_chunk)) ≡ text_of "refused 14 0 0\n" }
    ∷ record { name = "a number too many"; claim = shelf_bytes (bytes_in (0 ∷ 5 ∷ 0 ∷ 0 ∷ 0 ∷ 0 ∷ empty_chunk)) ≡ text_of "refused 14 0 0\n" }
    ∷ record { name = "a byte too many"; claim = shelf_bytes (bytes_in (0 ∷ 5 ∷ 0 ∷ 0 ∷ 0 ∷ empty_chunk) ++ (0 ∷ [])) ≡ text_of "refused 14 0 0\n" }
    ∷ []
