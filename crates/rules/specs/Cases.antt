-- The cases of document 01 that are marked P, from filed words to what comes of them, worked cases of the readings of its sentences, and those of requests
-- 2.3 and 2.4.
-- proofs/Checked proves each list as a whole, by computation.
use Rattle.std.specs.Prelude.{◌≡◌, Bool, true, false, List, [], ◌∷◌, ◌++◌, ℕ, zero, suc, ◌+◌, ◌-◌, ◌*◌, ◌^◌, ℤ, pos, negsuc, length}
use Prim.Native.String.{String}
use Rattle.rules.specs.Kinds as K
use Rattle.rules.specs.Limits as M
use Rattle.rules.specs.Outcome.{Outcome, answer, refused}
use Rattle.rules.specs.Ops.{word}
use Rattle.rules.specs.Form.{Constant, integer, Chunk, module_words}
use Rattle.rules.specs.Cycles.{Cycles}
use Rattle.rules.specs.Stack.{Stack, Delta, offset}
use Rattle.rules.specs.Sheet.{Sheet, read_outcome, count_outcome, cycles_outcome, stack_outcome, order_outcome, line_width, sheet_outcome}
use Rattle.rules.specs.Text.{bytes_in, text_of, sheet_text}

-- a case: what it is called, and what it says
pub record Case : Type 1 where
  pub name : String
  pub claim : Type 0

-- every case of a list holds
abbrev pub AllHold : List Case → Type 0
AllHold [] = Unit {0}
AllHold (c ∷ cs) = c.claim × AllHold cs

-- an op with b = 0
abbrev pub op : ℕ → ℕ → ℕ
op k a = word k 0 a

-- a chunk of type Func
abbrev pub func : ℕ → List Constant → List ℕ → List ℕ → Chunk
func locals constants ops extras =
    record { locals = locals; type = 0; constants = constants; ops = ops; extras = extras }

-- "Chunk L: locals 2, constants 0, 3, 1, type Func, ops: `Const 0, SetLocal 0, Const 1, SetLocal 1, Loop 15, GetLocal 0, GetLocal 1,
-- CmpGe, BreakIf 15, GetLocal 0, Const 2, CheckedAdd, PopN 2, SetLocal 0, EndLoop 5, Return`", with its three constants and the operand of its
-- BreakIf left open
abbrev pub header_to : ℕ → ℤ → ℤ → ℤ → Chunk
header_to target start stop step =
    func 2 (integer start ∷ integer stop ∷ integer step ∷ [])
    (op K.const 0 ∷ op K.set_local 0 ∷ op K.const 1 ∷ op K.set_local 1 ∷ op K.loop 15 ∷ op K.get_local 0 ∷ op K.get_local 1 ∷ op K.cmp_ge 0 ∷ op K.break_if target
    ∷ op K.get_local 0 ∷ op K.const 2 ∷ op K.checked_add 0 ∷ word K.pop_n 2 0 ∷ op K.set_local 0 ∷ op K.end_loop 5 ∷ op K.return 0 ∷ [])
    []

abbrev pub chunk_l : ℤ → ℤ → ℤ → Chunk
chunk_l start stop step = header_to 15 start stop step

-- a chunk alone as a module, in words and in bytes
abbrev pub alone : Chunk → List ℕ
alone c = module_words (c ∷ [])

-- the sheet of a module of one chunk, whose cycles are its whole figure: it calls no chunk of the module. Its cycles are exact, or 2.5: cut
abbrev pub one_line : Bool → ℕ → ℕ → ℕ → Outcome Sheet
one_line m c p b = answer (record { order = 0 ∷ []; lines = record { cycles = c; cut = m; peak = p; bytes = b; whole = c } ∷ [] })

abbrev pub one : ℕ → ℕ → ℕ → Outcome Sheet
one c p b = one_line false c p b

abbrev pub one_cut : ℕ → ℕ → ℕ → Outcome Sheet
one_cut c p b = one_line true c p b

abbrev pub L : ℤ → Outcome Sheet
L stop = sheet_outcome (alone (chunk_l (pos 0) stop (pos 1))) line_width

-- "`Const, If 4, Trap 0, Else 5, Yield, EndIf, Return`"
abbrev pub ended_arm : Chunk
ended_arm = func 0 [] (op K.const 0 ∷ op K.if 4 ∷ op K.trap 0 ∷ op K.else 5 ∷ op K.yield 0 ∷ op K.end_if 0 ∷ op K.return 0 ∷ []) []

-- "a Stream chunk with Reset before Stream"
abbrev pub reset_first : Chunk
reset_first = record { locals = 1; type = K.stream_type; constants = []; ops = op K.reset 0 ∷ op K.yield 0 ∷ op K.stream 0 ∷ op K.yield 0 ∷ []; extras = [] }

-- Yield with the greatest extra, and the same behind a Return
abbrev pub open_text : Chunk
open_text = func 0 [] (op K.yield 0 ∷ []) (M.open_text ∷ [])

abbrev pub open_text_behind : Chunk
open_text_behind = func 0 [] (op K.return 0 ∷ op K.yield 0 ∷ []) (0 ∷ M.open_text ∷ [])

-- "no locals, one Call without arguments", and the same with so many locals
abbrev pub one_call : ℕ → Chunk
one_call locals = func locals [] (op K.call 0 ∷ []) []

-- what the walks of one chunk answer; the cycles with their mark, or exact
abbrev pub walked : ℕ → Bool → Bool → Outcome Cycles
walked c e m = answer (record { cycles = c; ends = e; cut = m })

abbrev pub cycles : ℕ → Bool → Outcome Cycles
cycles c e = walked c e false

abbrev pub stack : ℕ → Delta → ℕ → Outcome Stack
stack p d b = answer (record { peak = p; delta = d; bytes = b })

abbrev pub sheet : Chunk → Outcome Sheet
sheet c = sheet_outcome (alone c) line_width

-- The cases marked P, in the order of document 01. The first is 2.1's: "L's line becomes `0 48 3 160 48`".
abbrev pub documented : List Case
documented =
    record {
      name = "L alone as a module: the bytes read, and the bytes printed";
      claim = sheet_text
          (1 ∷ 0 ∷ 0 ∷ 199 ∷ 2 ∷ 0 ∷ 0 ∷ 200 ∷ 0 ∷ 0 ∷ 0 ∷ 202 ∷ 0 ∷ 0 ∷ 1 ∷ 202 ∷ 0 ∷ 0 ∷ 2 ∷ 202
          ∷ 0 ∷ 0 ∷ 3 ∷ 202 ∷ 3 ∷ 0 ∷ 0 ∷ 202 ∷ 0 ∷ 0 ∷ 1 ∷ 202 ∷ 0 ∷ 0 ∷ 2 ∷ 202 ∷ 0 ∷ 0 ∷ 3 ∷ 202
          ∷ 1 ∷ 0 ∷ 0 ∷ 202 ∷ 0 ∷ 0 ∷ 1 ∷ 202 ∷ 0 ∷ 0 ∷ 2 ∷ 202 ∷ 0 ∷ 0 ∷ 3 ∷ 202 ∷ 0 ∷ 0 ∷ 0 ∷ 0
          ∷ 0 ∷ 0 ∷ 0 ∷ 2 ∷ 1 ∷ 0 ∷ 0 ∷ 0 ∷ 1 ∷ 0 ∷ 0 ∷ 2 ∷ 15 ∷ 0 ∷ 0 ∷ 24 ∷ 0 ∷ 0 ∷ 0 ∷ 1
          ∷ 1 ∷ 0 ∷ 0 ∷ 1 ∷ 0 ∷ 0 ∷ 0 ∷ 19 ∷ 15 ∷ 0 ∷ 0 ∷ 27 ∷ 0 ∷ 0 ∷ 0 ∷ 1 ∷ 2 ∷ 0 ∷ 0 ∷ 0
          ∷ 0 ∷ 0 ∷ 0 ∷ 51 ∷ 0 ∷ 0 ∷ 2 ∷ 58 ∷ 0 ∷ 0 ∷ 0 ∷ 2 ∷ 5 ∷ 0 ∷ 0 ∷ 25 ∷ 0 ∷ 0 ∷ 0 ∷ 31 ∷ [])
          ≡ 99 ∷ 104 ∷ 117 ∷ 110 ∷ 107 ∷ 32 ∷ 99 ∷ 121 ∷ 99 ∷ 108 ∷ 101 ∷ 115 ∷ 32 ∷ 112 ∷ 101 ∷ 97 ∷ 107 ∷ 32
          ∷ 98 ∷ 121 ∷ 116 ∷ 101 ∷ 115 ∷ 32 ∷ 119 ∷ 104 ∷ 111 ∷ 108 ∷ 101 ∷ 10
          ∷ 48 ∷ 32 ∷ 52 ∷ 56 ∷ 32 ∷ 51 ∷ 32 ∷ 49 ∷ 54 ∷ 48 ∷ 32 ∷ 52 ∷ 56 ∷ 10 ∷ [];
    }
    ∷ record {
      name = "L alone as a module: the text";
      claim = sheet_text (bytes_in (alone (chunk_l (pos 0) (pos 3) (pos 1)))) ≡ text_of "chunk cycles peak bytes whole\n0 48 3 160 48\n";
    }
    ∷ record { name = "constant 1 made 0: 12 cycles"; claim = L (pos 0) ≡ one 12 3 160 }
    ∷ record { name = "made -1 (end below start): 12"; claim = L (negsuc 0) ≡ one 12 3 160 }
    ∷ record { name = "made 4,294,967,295: cycles 4,294,967,295"; claim = L (pos 4294967295) ≡ one_cut 4294967295 3 160 }
    ∷ record { name = "made 4,294,967,296: refusal 9 at 4"; claim = L (pos 4294967296) ≡ refused 9 0 4 }
    ∷ record {
      name = "start -1, end 2^63-1: the subtraction leaves 64 bits, refusal 9";
      claim = sheet (chunk_l (negsuc 0) (pos (2 ^ 63 - 1)) (pos 1)) ≡ refused 9 0 4;
    }
    ∷ record { name = "Else is charged to an arm that has ended: 7 cycles"; claim = cycles_outcome (alone ended_arm) 0 ≡ cycles 7 true }
    ∷ record { name = "no ops, locals 3: cycles 0, peak 0, bytes 96"; claim = sheet (func 3 [] [] []) ≡ one 0 0 96 }
    ∷ record { name = "no ops, locals 3: delta 0"; claim = stack_outcome (alone (func 3 [] [] [])) 0 [] ≡ stack 0 (offset (pos 0)) 96 }
    ∷ record { name = "extra 4,294,967,295 on a visited op: refusal 8"; claim = sheet open_text ≡ refused 8 0 0 }
    ∷ record { name = "after a Return: never looked at"; claim = sheet open_text_behind ≡ one 2 0 0 }
    ∷ record { name = "a Stream chunk with Reset before Stream walks an empty range"; claim = sheet reset_first ≡ one 0 0 32 }
    ∷ record {
      name = "no locals, one Call without arguments, callee bytes 4,294,967,295: peak 134,217,727";
      claim = stack_outcome (alone (one_call 0)) 0 (4294967295 ∷ []) ≡ stack 134217727 (offset (pos 1)) 4294967264;
    }
    ∷ record { name = "with one local: refusal 11"; claim = stack_outcome (alone (one_call 1)) 0 (4294967295 ∷ []) ≡ refused 11 0 0 }
    ∷ []

-- chunks of no locals and no constants
abbrev pub caller : List ℕ → Chunk
caller ops = func 0 [] ops []

abbrev pub stream : List ℕ → Chunk
stream ops = record { locals = 0; type = K.stream_type; constants = []; ops = ops; extras = [] }

-- Where the words of document 01 leave a choice, what was chosen (docs/DECISIONS.md has the readings by number), and the errors that it wants
-- ruled out.
abbrev pub settled : List Case
settled =
    record {
      name = "reading 1: the lent list alone decides, Call 1 over 0 and 64 bytes: peak 2";
      claim = stack_outcome (alone (caller (op K.call 1 ∷ []))) 0 (0 ∷ 64 ∷ []) ≡ stack 2 (offset (pos 1)) 64;
    }
    ∷ record {
      name = "reading 2: the first word of the other kind is the bad word";
      claim = read_outcome (word K.module 0 1 ∷ word K.chunk 0 0 ∷ word K.integer 0 5 ∷ word K.other 1 0 ∷ []) ≡ refused 2 0 3;
    }
    ∷ record { name = "reading 3: GetData with a = 1 is refusal 2"; claim = read_outcome (alone (caller (op K.get_data 1 ∷ []))) ≡ refused 2 0 2 }
    ∷ record { name = "reading 4: the chunk of refusal 12 is the index handed in"; claim = cycles_outcome (alone (caller [])) 7 ≡ refused 12 7 0 }
    ∷ record {
      name = "reading 5: Stream and Reset themselves are not charged";
      claim = sheet (stream (op K.stream 0 ∷ op K.yield 0 ∷ op K.reset 0 ∷ [])) ≡ one 1 0 0;
    }
    ∷ record {
      name = "reading 6: a Break between Stream and Reset is crossed";
      claim = sheet (stream (op K.break 0 ∷ op K.stream 0 ∷ op K.break 0 ∷ op K.reset 0 ∷ [])) ≡ refused 6 0 0;
    }
    ∷ record {
      name = "reading 6: a Break before Stream is no matter";
      claim = sheet (stream (op K.break 0 ∷ op K.stream 0 ∷ op K.yield 0 ∷ op K.reset 0 ∷ [])) ≡ one 1 0 0;
    }
    ∷ record {
      name = "reading 7: Loop 4, Return, Break 4, EndLoop, Yield gives 3 cycles and ends";
      claim = cycles_outcome (alone (caller (op K.loop 4 ∷ op K.return 0 ∷ op K.break 4 ∷ op K.end_loop 0 ∷ op K.yield 0 ∷ []))) 0 ≡ cycles 3 true;
    }
    ∷ record {
      name = "reading 10: PopN 9, If 3, Const 0, EndIf has peak 1";
      claim = stack_outcome (alone (caller (word K.pop_n 9 0 ∷ op K.if 3 ∷ op K.const 0 ∷ op K.end_if 0 ∷ []))) 0 [] ≡ stack 1 (offset (negsuc 8)) 32;
    }
    ∷ record {
      name = "reading 10: flat PopN 9, Const 0 has peak 0";
      claim = stack_outcome (alone (caller (word K.pop_n 9 0 ∷ op K.const 0 ∷ []))) 0 [] ≡ stack 0 (offset (negsuc 7)) 0;
    }
    ∷ record {
      name = "reading 13: a loop with no count and the greatest extra on its EndLoop is 9";
      claim = sheet (func 0 [] (op K.loop 2 ∷ op K.end_loop 0 ∷ []) (0 ∷ M.open_text ∷ [])) ≡ refused 9 0 0;
    }
    ∷ record {
      name = "reading 14: end below start, the difference outside 64 bits: count 0";
      claim = sheet (chunk_l (pos (2 ^ 63 - 1)) (negsuc 1) (pos 1)) ≡ one 12 3 160;
    }
    ∷ record {
      name = "reading 15: 0 calls 1, 1 calls 2, 2 calls 1: ring, chunk 1";
      claim = order_outcome (module_words (caller (op K.call 1 ∷ []) ∷ caller (op K.call 2 ∷ []) ∷ caller (op K.call 1 ∷ []) ∷ [])) 3 ≡ refused 10 1 0;
    }
    ∷ record { name = "an If whose target is the length is refusal 6"; claim = sheet (caller (op K.if 1 ∷ [])) ≡ refused 6 0 0 }
    ∷ record {
      name = "EndLoop is not charged to a body that never gets there; Loop's target may be the length";
      claim = sheet (caller (op K.loop 3 ∷ op K.break 3 ∷ op K.end_loop 0 ∷ [])) ≡ one 2 0 0;
    }
    ∷ record {
      name = "an arm that has ended has no delta: Const 0, Const 0, If 5, Trap 0, Else 6, SetLocal 0, EndIf";
      claim = stack_outcome (alone (caller (op K.const 0 ∷ op K.const 0 ∷ op K.if 5 ∷ op K.trap 0 ∷ op K.else 6 ∷ op K.set_local 0 ∷ op K.end_if 0 ∷ []))) 0 []
          ≡ stack 2 (offset (pos 0)) 64;
    }
    ∷ record {
      name = "a refusal as text: the loop of L without a count";
      claim = sheet_text (bytes_in (alone (chunk_l (pos 0) (pos 4294967296) (pos 1)))) ≡ text_of "refused 9 0 4\n";
    }
    ∷ record { name = "a byte count that four doesn't divide is refusal 1"; claim = sheet_text (1 ∷ 0 ∷ 0 ∷ 199 ∷ 0 ∷ []) ≡ text_of "refused 1 0 0\n" }
    ∷ record {
      name = "two chunks in call order: Call 1 and Yield";
      claim = sheet_text (bytes_in (module_words (caller (op K.call 1 ∷ []) ∷ caller (op K.yield 0 ∷ []) ∷ [])))
          ≡ text_of "chunk cycles peak bytes whole\n1 1 0 0 1\n0 10 1 32 11\n";
    }
    ∷ []

-- n Ifs in one another from position i on, with some ops in the inmost, their EndIfs, and some ops behind them
abbrev pub ifs_at : ℕ → ℕ → List ℕ → List ℕ → List ℕ
ifs_at i zero inmost behind = inmost ++ behind
ifs_at i (suc n) inmost behind = op K.if (i + 2 * n + length inmost + 1) ∷ ifs_at (suc i) n inmost (op K.end_if 0 ∷ behind)

-- n Loops in one another from position i on, then for each, from the inmost, a Break with its target and its EndLoop
abbrev pub loops_at : ℕ → ℕ → List ℕ → List ℕ
loops_at i zero behind = behind
loops_at i (suc n) behind = op K.loop (i + 3 * suc n) ∷ loops_at (suc i) n (op K.break (i + 3 * suc n) ∷ op K.end_loop (suc i) ∷ behind)

-- so many of them, alone as a module
abbrev pub ifs : ℕ → List ℕ
ifs n = alone (caller (ifs_at 0 n [] []))

abbrev pub loops : ℕ → List ℕ
loops n = alone (caller (loops_at 0 n []))

-- 2.3: "Levels run from 0 to 257", document 01: "256 blocks in one another are walked. At the 257th: refusal 7." Level 0 is the range, 256 the deepest
-- body that is walked, 257 the one that both walks refuse. What no walk visits has no level.
abbrev pub levelled : List Case
levelled =
    record { name = "256 Ifs in one another: cycles 512"; claim = cycles_outcome (ifs 256) 0 ≡ cycles 512 false }
    ∷ record { name = "256 Ifs in one another: peak 0, delta -1"; claim = stack_outcome (ifs 256) 0 [] ≡ stack 0 (offset (negsuc 0)) 0 }
    ∷ record { name = "257 Ifs in one another: refusal 7 of the cycle walk"; claim = cycles_outcome (ifs 257) 0 ≡ refused 7 0 0 }
    ∷ record { name = "257 Ifs in one another: refusal 7 of the stack walk"; claim = stack_outcome (ifs 257) 0 [] ≡ refused 7 0 0 }
    ∷ record { name = "256 Loops in one another: cycles 512"; claim = cycles_outcome (loops 256) 0 ≡ cycles 512 false }
    ∷ record { name = "257 Loops in one another: refusal 7 of the cycle walk"; claim = cycles_outcome (loops 257) 0 ≡ refused 7 0 0 }
    ∷ record { name = "257 Loops in one another: refusal 7 of the stack walk"; claim = stack_outcome (loops 257) 0 [] ≡ refused 7 0 0 }
    ∷ record { name = "257 Ifs behind a Return: 2 cycles"; claim = cycles_outcome (alone (caller (op K.return 0 ∷ ifs_at 1 257 [] []))) 0 ≡ cycles 2 true }
    ∷ []

-- "`Loop 3, Break 0, EndLoop`", whose Break names no Loop
abbrev pub stray_loop : List ℕ
stray_loop = op K.loop 3 ∷ op K.break 0 ∷ op K.end_loop 0 ∷ []

-- 2.4: "the operand of Break and BreakIf must be the target of the innermost Loop around it"; else "15 stray break, place the first such op of the range,
-- tested after 6". docs/DECISIONS.md has the readings by number.
abbrev pub strayed : List Case
strayed =
    record {
      name = "a Break that names the outer Loop: 15 at 2";
      claim = sheet (caller (op K.loop 6 ∷ op K.loop 4 ∷ op K.break 6 ∷ op K.end_loop 0 ∷ op K.break 6 ∷ op K.end_loop 0 ∷ [])) ≡ refused 15 0 2;
    }
    ∷ record {
      name = "with the inner Loop's target: 4 cycles";
      claim = sheet (caller (op K.loop 6 ∷ op K.loop 4 ∷ op K.break 4 ∷ op K.end_loop 0 ∷ op K.break 6 ∷ op K.end_loop 0 ∷ [])) ≡ one 4 0 0;
    }
    ∷ record {
      name = "reading 41: an arm is inside the Loop around its If: no 15, and no count";
      claim = sheet (caller (op K.loop 5 ∷ op K.if 3 ∷ op K.break 5 ∷ op K.end_if 0 ∷ op K.end_loop 0 ∷ [])) ≡ refused 9 0 0;
    }
    ∷ record {
      name = "reading 41: so the arm's Break may not name the position behind the If";
      claim = sheet (caller (op K.loop 5 ∷ op K.if 3 ∷ op K.break 4 ∷ op K.end_if 0 ∷ op K.end_loop 0 ∷ [])) ≡ refused 15 0 2;
    }
    ∷ record {
      name = "reading 42: a dead Break: 15 at 2";
      claim = cycles_outcome (alone (caller (op K.loop 4 ∷ op K.return 0 ∷ op K.break 0 ∷ op K.end_loop 0 ∷ []))) 0 ≡ refused 15 0 2;
    }
    ∷ record {
      name = "reading 42: what lies outside the range is not looked at: Break 7, Stream, Yield, Reset";
      claim = sheet (stream (op K.break 7 ∷ op K.stream 0 ∷ op K.yield 0 ∷ op K.reset 0 ∷ [])) ≡ one 1 0 0;
    }
    ∷ record {
      name = "reading 43: 6 comes first wherever its ops stand";
      claim = sheet (caller (stray_loop ++ op K.if 5 ∷ op K.yield 0 ∷ [])) ≡ refused 6 0 0;
    }
    ∷ record {
      name = "reading 43: 8 comes behind it: Yield with the greatest extra, Loop 4, BreakIf 0, EndLoop";
      claim = sheet (func 0 [] (op K.yield 0 ∷ op K.loop 4 ∷ op K.break_if 0 ∷ op K.end_loop 0 ∷ []) (M.open_text ∷ [])) ≡ refused 15 0 2;
    }
    ∷ record {
      name = "reading 43: 7 comes behind it: 257 Ifs around a stray break";
      claim = cycles_outcome (alone (caller (ifs_at 0 257 (op K.loop 260 ∷ op K.break 0 ∷ op K.end_loop 0 ∷ []) []))) 0 ≡ refused 15 0 258;
    }
    ∷ record {
      name = "reading 44: a chunk after the other in call order: Loop 3, Break 0, EndLoop, Call 1 and Loop 3, Break 0, EndLoop";
      claim = sheet_outcome (module_words (caller (stray_loop ++ op K.call 1 ∷ []) ∷ caller stray_loop ∷ [])) (2 * line_width) ≡ refused 15 1 1;
    }
    ∷ record {
      name = "reading 44: the 9 of an earlier chunk comes first";
      claim = sheet_outcome (module_words (caller (stray_loop ++ op K.call 1 ∷ []) ∷ caller (op K.loop 2 ∷ op K.end_loop 0 ∷ []) ∷ [])) (2 * line_width)
          ≡ refused 9 1 0;
    }
    ∷ record { name = "reading 45: L with BreakIf 0 is read"; claim = read_outcome (alone (header_to 0 (pos 0) (pos 3) (pos 1))) ≡ answer 1 }
    ∷ record { name = "reading 45: it has its count"; claim = count_outcome (alone (header_to 0 (pos 0) (pos 3) (pos 1))) 0 4 ≡ answer 3 }
    ∷ record { name = "reading 45: it has its order"; claim = order_outcome (alone (header_to 0 (pos 0) (pos 3) (pos 1))) 1 ≡ answer (0 ∷ []) }
    ∷ record { name = "reading 45: its cycle walk is 15"; claim = cycles_outcome (alone (header_to 0 (pos 0) (pos 3) (pos 1))) 0 ≡ refused 15 0 8 }
    ∷ record { name = "reading 45: its stack walk is 15"; claim = stack_outcome (alone (header_to 0 (pos 0) (pos 3) (pos 1))) 0 [] ≡ refused 15 0 8 }
    ∷ record {
      name = "reading 46: the operand of EndLoop is not read";
      claim = sheet (caller (op K.loop 3 ∷ op K.break 3 ∷ op K.end_loop 65535 ∷ [])) ≡ one 2 0 0;
    }
    ∷ record {
      name = "reading 46: the reader leaves the operands of all three free";
      claim = read_outcome (alone (caller (op K.break 65535 ∷ op K.break_if 65535 ∷ op K.end_loop 65535 ∷ []))) ≡ answer 1;
    }
    ∷ record {
      name = "the loop of reading 7 with Break 0: 15 at 2";
      claim = cycles_outcome (alone (caller (op K.loop 4 ∷ op K.return 0 ∷ op K.break 0 ∷ op K.end_loop 0 ∷ op K.yield 0 ∷ []))) 0 ≡ refused 15 0 2;
    }
    ∷ record { name = "the body that never gets to EndLoop, with Break 0: 15 at 1"; claim = sheet (caller stray_loop) ≡ refused 15 0 1 }
    ∷ []
