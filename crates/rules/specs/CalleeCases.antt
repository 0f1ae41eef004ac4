-- Worked cases of request 2.1: modules of several chunks, and their cycles and whole figures by chunk index. proofs/Checked proves the list by computation.
use Rattle.std.specs.Prelude.{◌≡◌, List, [], ◌∷◌, ◌++◌, map, ℕ, zero, suc, ◌+◌, ◌-◌, ◌*◌, ◌^◌, ℤ, pos, length}
use Rattle.rules.specs.Kinds as K
use Rattle.rules.specs.Limits as M
use Rattle.rules.specs.Outcome.{Outcome, answer, refused, followed_by}
use Rattle.rules.specs.Ops.{word}
use Rattle.rules.specs.Form.{integer, Chunk, module_words}
use Rattle.rules.specs.Sheet.{line_width, sheet_outcome}
use Rattle.rules.specs.Text.{bytes_in, text_of, sheet_text}
use Rattle.rules.specs.Cases.{Case, op, func, one, sheet, caller, stream}

-- the cycles and the whole figures of a module's chunks
pub record Figures : Type 0 where
  pub cycles : List ℕ
  pub wholes : List ℕ

abbrev pub figures : List Chunk → Outcome Figures
figures cs =
    followed_by (sheet_outcome (module_words cs) (line_width * length cs))
    (λ s. answer (record { cycles = map (λ l. l.cycles) s.lines; wholes = map (λ l. l.whole) s.lines }))

abbrev pub are : List ℕ → List ℕ → Outcome Figures
are c w = answer (record { cycles = c; wholes = w })

abbrev pub printed : List Chunk → List ℕ
printed cs = sheet_text (bytes_in (module_words cs))

-- a chunk of one Call, with that extra
abbrev pub call_with : ℕ → Chunk
call_with extra = func 0 [] (op K.call 1 ∷ []) (extra ∷ [])

-- "`Yield` with extra 4,294,967,294": one cycle more and it would be open text, and with its own cycle it is at the cap
abbrev pub at_the_cap : Chunk
at_the_cap = func 0 [] (op K.yield 0 ∷ []) ((M.open_text - 1) ∷ [])

-- chunk L with its end left open and some ops behind its BreakIf, targets moved
abbrev pub longer_l : ℤ → List ℕ → Chunk
longer_l stop more =
    func 2 (integer (pos 0) ∷ integer stop ∷ integer (pos 1) ∷ [])
    (op K.const 0 ∷ op K.set_local 0 ∷ op K.const 1 ∷ op K.set_local 1 ∷ op K.loop (15 + length more) ∷ op K.get_local 0 ∷ op K.get_local 1 ∷ op K.cmp_ge 0
    ∷ op K.break_if (15 + length more) ∷ more
    ++ (op K.get_local 0 ∷ op K.const 2 ∷ op K.checked_add 0 ∷ word K.pop_n 2 0 ∷ op K.set_local 0 ∷ op K.end_loop 5 ∷ op K.return 0 ∷ []))
    []

-- n chunks from chunk c on, each with two Calls of the next, and an empty one behind them
abbrev pub doubling : ℕ → ℕ → List Chunk
doubling zero c = caller [] ∷ []
doubling (suc n) c = caller (op K.call (suc c) ∷ op K.call (suc c) ∷ []) ∷ doubling n (suc c)

-- what their wholes come to, uncapped up to 27 Calls deep
abbrev pub doubled : ℕ → List ℕ
doubled zero = 0 ∷ []
doubled (suc k) = 20 * (2 ^ suc k - 1) ∷ doubled k

-- and their cycles
abbrev pub two_calls : ℕ → List ℕ
two_calls zero = 0 ∷ []
two_calls (suc n) = 20 ∷ two_calls n

-- Request 2.1 sentence by sentence (docs/DECISIONS.md has the readings by number): which figure, which Calls, callees outside, the cap, open text, blocks
abbrev pub shared : List Case
shared =
    record {
      name = "the callee's whole, not its cycles: Call 1, Call 2, Yield as chunks 0, 1, 2";
      claim = figures (caller (op K.call 1 ∷ []) ∷ caller (op K.call 2 ∷ []) ∷ caller (op K.yield 0 ∷ []) ∷ []) ≡ are (10 ∷ 10 ∷ 1 ∷ []) (21 ∷ 11 ∷ 1 ∷ []);
    }
    ∷ record {
      name = "the Calls that the walk visits: Return, Call 1 over Yield";
      claim = printed (caller (op K.return 0 ∷ op K.call 1 ∷ []) ∷ caller (op K.yield 0 ∷ []) ∷ [])
          ≡ text_of "chunk cycles peak bytes whole\n1 1 0 0 1\n0 2 0 0 2\n";
    }
    ∷ record { name = "a callee outside the module adds 0: Call 1 alone"; claim = sheet (caller (op K.call 1 ∷ [])) ≡ one 10 1 32 }
    ∷ record {
      name = "a callee that never returns: Call 1, Yield over Trap 0";
      claim = figures (caller (op K.call 1 ∷ op K.yield 0 ∷ []) ∷ caller (op K.trap 0 ∷ []) ∷ []) ≡ are (11 ∷ 1 ∷ []) (12 ∷ 1 ∷ []);
    }
    ∷ record {
      name = "of a Stream callee the range alone: Call 1 over Yield, Stream, SetDataIndexed, Reset";
      claim = figures (caller (op K.call 1 ∷ []) ∷ stream (op K.yield 0 ∷ op K.stream 0 ∷ op K.set_data_indexed 0 ∷ op K.reset 0 ∷ []) ∷ []) ≡ are (10 ∷ 8 ∷ []) (18 ∷ 8 ∷ []);
    }
    ∷ record {
      name = "30 deep, cut from 28 on";
      claim = figures (doubling 30 0) ≡ are (two_calls 30) (M.cycle_cap ∷ M.cycle_cap ∷ M.cycle_cap ∷ doubled 27);
    }
    ∷ record {
      name = "a callee at the cap is a great number";
      claim = printed (call_with 0 ∷ at_the_cap ∷ []) ≡ text_of "chunk cycles peak bytes whole\n1 4294967295 0 0 4294967295\n0 10 1 32 4294967295\n";
    }
    ∷ record { name = "the Call's own extra is open text"; claim = printed (call_with M.open_text ∷ at_the_cap ∷ []) ≡ text_of "refused 8 0 0\n" }
    ∷ record {
      name = "a callee at the cap in a loop passed 0 times";
      claim = figures (longer_l (pos 0) (op K.call 1 ∷ word K.pop_n 1 0 ∷ []) ∷ at_the_cap ∷ []) ≡ are (12 ∷ 4294967295 ∷ []) (12 ∷ 4294967295 ∷ []);
    }
    ∷ record {
      name = "a loop without a count refuses as before: Loop 3, Call 1, EndLoop over Trap 0";
      claim = figures (caller (op K.loop 3 ∷ op K.call 1 ∷ op K.end_loop 0 ∷ []) ∷ caller (op K.trap 0 ∷ []) ∷ []) ≡ refused 9 0 0;
    }
    ∷ record {
      name = "in a counted body: Call 1, PopN 1 over Yield, Yield, Return";
      claim = figures (longer_l (pos 3) (op K.call 1 ∷ word K.pop_n 1 0 ∷ []) ∷ caller (op K.yield 0 ∷ op K.yield 0 ∷ op K.return 0 ∷ []) ∷ [])
          ≡ are (81 ∷ 4 ∷ []) (93 ∷ 4 ∷ []);
    }
    ∷ record {
      name = "in the costliest break: BreakIf behind that PopN too";
      claim = figures (longer_l (pos 3) (op K.call 1 ∷ word K.pop_n 1 0 ∷ op K.break_if 18 ∷ []) ∷ caller (op K.yield 0 ∷ op K.yield 0 ∷ op K.return 0 ∷ []) ∷ [])
          ≡ are (96 ∷ 4 ∷ []) (112 ∷ 4 ∷ []);
    }
    ∷ record {
      name = "the callee makes the other arm the greater";
      claim = figures
          (caller (op K.const 0 ∷ op K.if 4 ∷ op K.call 1 ∷ op K.else 7 ∷ op K.set_data_indexed 0 ∷ op K.set_data_indexed 0 ∷ op K.set_data_indexed 0 ∷ op K.end_if 0 ∷ op K.return 0 ∷ [])
          ∷ caller (op K.call 9 ∷ op K.call 9 ∷ []) ∷ [])
          ≡ are (29 ∷ 20 ∷ []) (36 ∷ 20 ∷ []);
    }
    ∷ []
