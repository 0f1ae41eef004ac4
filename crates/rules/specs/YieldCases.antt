-- Worked cases of request 2.9: the answers of rows, from filed words, the refusals before them, and which paths reach the end of their range. proofs/Checked
-- proves the list by computation; proofs/YieldWitness has the paths of the two deep rows.
use Rattle.std.specs.Prelude.{◌≡◌, true, false, List, [], ◌∷◌, ℕ, ◌+◌, ◌*◌, length}
use Rattle.rules.specs.Kinds as K
use Rattle.rules.specs.Limits as M
use Rattle.rules.specs.Outcome.{Result, ok, Outcome, answer, refused, and_then}
use Rattle.rules.specs.Form.{Chunk}
use Rattle.rules.specs.Rows.{end, chunk_row}
use Rattle.rules.specs.Sheet.{cycles_outcome}
use Rattle.rules.specs.Paths.{Way, on, aside, begin, path}
use Rattle.rules.specs.Yields.{Coverage, reached, never, no_break, row_cover, coverage_of, yield_outcome, depth_of, reaches_end, gives_up}
use Rattle.rules.specs.Cases.{Case, op, func, alone, sheet, caller, stream, ifs_at, stray_loop}
use Rattle.rules.specs.SureCases.{end_in_arm}

-- a chunk of these ops alone as a module, over a list
abbrev pub asked : List ℕ → List ℕ → Outcome Coverage
asked lent ops = yield_outcome (alone (caller ops)) 0 lent

-- its answer over a list that lends nothing
abbrev pub IsYes : List ℕ → Type 0
IsYes ops = asked [] ops ≡ answer (reached true)

abbrev pub IsNo : List ℕ → Type 0
IsNo ops = asked [] ops ≡ answer (reached false)

abbrev pub IsNever : List ℕ → Type 0
IsNever ops = asked [] ops ≡ answer never

-- a path of it by these ways reaches the end, or doesn't
abbrev pub Ends : List ℕ → List Way → Type 0
Ends ops ways = reaches_end (caller ops ∷ []) 0 ways ≡ true

abbrev pub EndsNot : List ℕ → List Way → Type 0
EndsNot ops ways = reaches_end (caller ops ∷ []) 0 ways ≡ false

-- and gives up its turn on the way, or doesn't
abbrev pub Gives : List ℕ → List Way → Type 0
Gives ops ways = gives_up (caller ops ∷ []) [] (path (caller ops ∷ []) false (begin (caller ops ∷ []) 0) ways) ≡ true

abbrev pub GivesNot : List ℕ → List Way → Type 0
GivesNot ops ways = gives_up (caller ops ∷ []) [] (path (caller ops ∷ []) false (begin (caller ops ∷ []) 0) ways) ≡ false

-- the answer of a row, and how many of its blocks lie in one another
abbrev pub measured : List ℕ → Result (Coverage × ℕ)
measured ops = and_then (chunk_row (caller ops)) (λ r. ok (coverage_of (caller ops) [] r, depth_of r))

-- a Loop at position i around n Ifs in one another around its Break, and some ops behind it
abbrev pub around : ℕ → ℕ → List ℕ → List ℕ
around i n behind =
    let target = i + 2 * n + 3 in
    op K.loop target ∷ ifs_at (i + 1) n (op K.break target ∷ []) (op K.end_loop 0 ∷ behind)

-- `If, Yield, Else, (such a Loop), EndIf`
abbrev pub armed : ℕ → List ℕ
armed n = op K.if 3 ∷ op K.yield 0 ∷ op K.else (2 * n + 6) ∷ around 3 n (op K.end_if 0 ∷ [])

-- `Yield`, and n Ifs in one another
abbrev pub yield_then : ℕ → List ℕ
yield_then n = op K.yield 0 ∷ ifs_at 1 n [] []

-- an If with Else whose arms both yield and break, and a BreakIf behind it, in a Loop
abbrev pub both_break : List ℕ
both_break =
    op K.loop 10 ∷ op K.if 5 ∷ op K.yield 0 ∷ op K.break 10 ∷ op K.else 7 ∷ op K.yield 0 ∷ op K.break 10 ∷ op K.end_if 0 ∷ op K.break_if 10
    ∷ op K.end_loop 0 ∷ []

-- `Loop 4, Yield, BreakIf 4, EndLoop`, which has no count
abbrev pub uncounted : List ℕ
uncounted = op K.loop 4 ∷ op K.yield 0 ∷ op K.break_if 4 ∷ op K.end_loop 0 ∷ []

-- `Loop 7, Yield, If 4, Break 7, EndIf, BreakIf 7, EndLoop`
abbrev pub served : List ℕ
served = op K.loop 7 ∷ op K.yield 0 ∷ op K.if 4 ∷ op K.break 7 ∷ op K.end_if 0 ∷ op K.break_if 7 ∷ op K.end_loop 0 ∷ []

-- past its arm, one whole pass, and out by the arm's Break
abbrev pub twice : List Way
twice = on ∷ on ∷ aside ∷ on ∷ on ∷ on ∷ on ∷ on ∷ on ∷ []

-- `Reset, Yield, Stream, Yield` as a Stream chunk, whose range is empty
abbrev pub empty_stream : Chunk
empty_stream = stream (op K.reset 0 ∷ op K.yield 0 ∷ op K.stream 0 ∷ op K.yield 0 ∷ [])

-- The Rust's rules op by op, and request 2.9 sentence by sentence (docs/DECISIONS.md has the readings by number).
abbrev pub yielded : List Case
yielded =
    record { name = "Yield"; claim = IsYes (op K.yield 0 ∷ []) }
    ∷ record { name = "another plain op"; claim = IsNo (op K.len 0 ∷ []) }
    ∷ record { name = "Break is noted with the flag: Loop 3, Break 3, EndLoop"; claim = IsNo (op K.loop 3 ∷ op K.break 3 ∷ op K.end_loop 0 ∷ []) }
    ∷ record { name = "with Yield before it"; claim = IsYes (op K.loop 4 ∷ op K.yield 0 ∷ op K.break 4 ∷ op K.end_loop 0 ∷ []) }
    ∷ record { name = "behind a loop that is never left nothing is looked at"; claim = IsNever (op K.loop 2 ∷ op K.end_loop 0 ∷ op K.yield 0 ∷ []) }
    ∷ record { name = "nor behind both arms that never end theirs"; claim = IsYes both_break }
    ∷ record { name = "BreakIf is noted with the flag: Loop 4, Yield, BreakIf 4, EndLoop"; claim = IsYes uncounted }
    ∷ record {
      name = "behind a loop its breaks count and not its body's end: Loop 4, BreakIf 4, Yield, EndLoop";
      claim = IsNo (op K.loop 4 ∷ op K.break_if 4 ∷ op K.yield 0 ∷ op K.end_loop 0 ∷ []);
    }
    ∷ record { name = "the body begins with the present flag"; claim = IsYes (op K.yield 0 ∷ op K.loop 4 ∷ op K.break 4 ∷ op K.end_loop 0 ∷ []) }
    ∷ record {
      name = "the breaks of a loop inside are not those of the loop around";
      claim = IsYes (op K.loop 7 ∷ op K.loop 4 ∷ op K.break 4 ∷ op K.end_loop 0 ∷ op K.yield 0 ∷ op K.break_if 7 ∷ op K.end_loop 0 ∷ []);
    }
    ∷ record { name = "If alone: If 2, Yield, EndIf"; claim = IsNo (op K.if 2 ∷ op K.yield 0 ∷ op K.end_if 0 ∷ []) }
    ∷ record { name = "an arm that never ends leaves a flag"; claim = IsYes (op K.yield 0 ∷ op K.if 4 ∷ op K.loop 4 ∷ op K.end_loop 0 ∷ op K.end_if 0 ∷ []) }
    ∷ record { name = "and none"; claim = IsNo (op K.if 3 ∷ op K.loop 3 ∷ op K.end_loop 0 ∷ op K.end_if 0 ∷ []) }
    ∷ record { name = "If, Else: both arms"; claim = IsYes (op K.if 3 ∷ op K.yield 0 ∷ op K.else 4 ∷ op K.yield 0 ∷ op K.end_if 0 ∷ []) }
    ∷ record { name = "one of two"; claim = IsNo (op K.if 3 ∷ op K.yield 0 ∷ op K.else 3 ∷ op K.end_if 0 ∷ []) }
    ∷ record {
      name = "the one that ends its row";
      claim = IsYes (op K.if 4 ∷ op K.loop 3 ∷ op K.end_loop 0 ∷ op K.else 5 ∷ op K.yield 0 ∷ op K.end_if 0 ∷ []);
    }
    ∷ record {
      name = "neither";
      claim = IsNever (op K.if 4 ∷ op K.loop 3 ∷ op K.end_loop 0 ∷ op K.else 6 ∷ op K.loop 6 ∷ op K.end_loop 0 ∷ op K.end_if 0 ∷ []);
    }
    ∷ record {
      name = "Return is a plain op: If 3, Return, Else 4, Yield, EndIf";
      claim = IsNo (op K.if 3 ∷ op K.return 0 ∷ op K.else 4 ∷ op K.yield 0 ∷ op K.end_if 0 ∷ []);
    }
    ∷ record { name = "what is behind it is looked at: Return, Yield"; claim = IsYes (op K.return 0 ∷ op K.yield 0 ∷ []) }
    ∷ record { name = "and behind Trap"; claim = IsYes (op K.trap 0 ∷ op K.yield 0 ∷ []) }
    ∷ record { name = "reading 83: the start has not yielded"; claim = (row_cover (λ i. false) end M.deepest false no_break).coverage ≡ reached false }
    ∷ record {
      name = "reading 83: the walk below begins with either flag";
      claim = (row_cover (λ i. false) end M.deepest true no_break).coverage ≡ reached true;
    }
    ∷ record { name = "reading 84: Yield leads to the end"; claim = Ends (op K.yield 0 ∷ []) (on ∷ []) × Gives (op K.yield 0 ∷ []) (on ∷ []) }
    ∷ record {
      name = "reading 84: a path may stop before it, and none goes on behind it";
      claim = EndsNot (op K.yield 0 ∷ []) [] × EndsNot (op K.yield 0 ∷ []) (on ∷ on ∷ []);
    }
    ∷ record { name = "reading 84: Return and Trap don't lead there"; claim = EndsNot (op K.return 0 ∷ []) (on ∷ []) × EndsNot (op K.trap 0 ∷ []) (on ∷ []) }
    ∷ record { name = "reading 84: EndIf does, past the arm of an If"; claim = Ends (op K.if 1 ∷ op K.end_if 0 ∷ []) (aside ∷ on ∷ []) }
    ∷ record { name = "reading 84: so does a break, in a second pass"; claim = Ends served twice × Gives served twice }
    ∷ record { name = "reading 84: no count is kept"; claim = Ends uncounted (on ∷ on ∷ on ∷ on ∷ on ∷ aside ∷ []) }
    ∷ record { name = "reading 85: an empty range is no, and its empty path is at the end"; claim = IsNo [] × Ends [] [] × GivesNot [] [] }
    ∷ record {
      name = "reading 85: that of a Stream chunk with Reset before Stream";
      claim = (yield_outcome (alone empty_stream) 0 [] ≡ answer (reached false)) × (reaches_end (empty_stream ∷ []) 0 [] ≡ true);
    }
    ∷ record { name = "reading 86: Call 1 over (0, 1), in a module of one chunk"; claim = asked (0 ∷ 1 ∷ []) (op K.call 1 ∷ []) ≡ answer (reached true) }
    ∷ record { name = "reading 86: over (0, 2)"; claim = asked (0 ∷ 2 ∷ []) (op K.call 1 ∷ []) ≡ answer (reached false) }
    ∷ record { name = "reading 86: over (0, 4,294,967,295)"; claim = asked (0 ∷ 4294967295 ∷ []) (op K.call 1 ∷ []) ≡ answer (reached false) }
    ∷ record { name = "reading 86: over (0)"; claim = asked (0 ∷ []) (op K.call 1 ∷ []) ≡ answer (reached false) }
    ∷ record { name = "reading 86: the chunk itself, Call 0 over (1)"; claim = asked (1 ∷ []) (op K.call 0 ∷ []) ≡ answer (reached true) }
    ∷ record { name = "reading 86: a native never counts"; claim = asked (1 ∷ 1 ∷ []) (op K.call_verified_native 1 ∷ []) ≡ answer (reached false) }
    ∷ record { name = "reading 86: nor an external one"; claim = asked (1 ∷ 1 ∷ []) (op K.call_external_native 1 ∷ []) ≡ answer (reached false) }
    ∷ record { name = "reading 87: Yield, 256 Ifs in one another"; claim = measured (yield_then 256) ≡ ok (reached true, 256) }
    ∷ record { name = "reading 87: 257 of them"; claim = measured (yield_then 257) ≡ ok (reached false, 257) }
    ∷ record {
      name = "reading 87: dead ones lie as deep, and what is behind Break is not looked at: Loop, Yield, Break, 257 Ifs, BreakIf, EndLoop";
      claim = measured
          (op K.loop 519 ∷ op K.yield 0 ∷ op K.break 519 ∷ ifs_at 3 257 [] (op K.break_if 519 ∷ op K.end_loop 0 ∷ [])) ≡ ok (reached true, 258);
    }
    ∷ record {
      name = "reading 89: a Loop around 256 Ifs around its Break, of 515 ops, is never";
      claim = (length (around 0 256 []) ≡ 515) × IsNever (around 0 256 []);
    }
    ∷ record { name = "reading 89: with one If less it is no"; claim = IsNo (around 0 255 []) }
    ∷ record {
      name = "reading 89: If, Yield, Else, a Loop around 255 Ifs around its Break, EndIf, of 517 ops, is yes";
      claim = (length (armed 255) ≡ 517) × IsYes (armed 255);
    }
    ∷ record { name = "reading 89: with one If less it is no"; claim = IsNo (armed 254) }
    ∷ record { name = "reading 90: Loop 2, EndLoop"; claim = IsNever (op K.loop 2 ∷ op K.end_loop 0 ∷ []) }
    ∷ record { name = "reading 90: Return is no, though no path reaches its end"; claim = IsNo (op K.return 0 ∷ []) }
    ∷ record { name = "reading 91: 1, no words"; claim = yield_outcome [] 0 [] ≡ refused 1 0 0 }
    ∷ record { name = "reading 91: 2, a bad word"; claim = asked [] (op K.get_data 1 ∷ []) ≡ refused 2 0 2 }
    ∷ record { name = "reading 91: 12, no such chunk"; claim = yield_outcome (alone (caller [])) 7 [] ≡ refused 12 7 0 }
    ∷ record { name = "reading 91: 3, no Stream"; claim = yield_outcome (alone (stream (op K.reset 0 ∷ []))) 0 [] ≡ refused 3 0 0 }
    ∷ record { name = "reading 91: 4, no Reset"; claim = yield_outcome (alone (stream (op K.stream 0 ∷ []))) 0 [] ≡ refused 4 0 0 }
    ∷ record { name = "reading 91: 5, an If that leads to itself"; claim = asked [] (op K.yield 0 ∷ op K.if 1 ∷ []) ≡ refused 5 0 1 }
    ∷ record { name = "reading 91: 6, an EndIf of no If"; claim = asked [] (op K.yield 0 ∷ op K.end_if 0 ∷ []) ≡ refused 6 0 0 }
    ∷ record { name = "reading 91: 15, a stray break"; claim = asked [] stray_loop ≡ refused 15 0 1 }
    ∷ record { name = "reading 91: no 9, a loop that has no count"; claim = (cycles_outcome (alone (caller uncounted)) 0 ≡ refused 9 0 0) × IsYes uncounted }
    ∷ record { name = "reading 91: no 7, 257 blocks in one another"; claim = IsNo (ifs_at 0 257 [] []) }
    ∷ record {
      name = "reading 91: no 8, the greatest extra";
      claim = yield_outcome (alone (func 0 [] (op K.yield 0 ∷ []) (M.open_text ∷ []))) 0 [] ≡ answer (reached true);
    }
    ∷ record {
      name = "reading 91: no 10, a ring";
      claim = (sheet (caller (op K.call 0 ∷ [])) ≡ refused 10 0 0) × (asked (1 ∷ []) (op K.call 0 ∷ []) ≡ answer (reached true));
    }
    ∷ record { name = "reading 91: no 16, an unsure count"; claim = yield_outcome (alone (end_in_arm 1)) 0 [] ≡ answer (reached false) }
    ∷ []
