-- The documents' numbers of the refusals, and what an answer or a refusal stands for in document 01.
use Rattle.std.specs.Prelude.{ℕ, Result, Ok, Err}
use Rattle.rules.specs.Numbers as N
use Rattle.rules.specs.Outcome as O
use Rattle.words.specs.declared.refusals.Refusal.{Refusal}
use Rattle.words.specs.declared.refusals.Refusal.TheVariants.{BadHead, BadWord, NoStream, NoReset, Backward, Crossed, TooDeep, OpenText, NoCount, Ring, TooTall, NoSuchChunk, ShortTray, UnfitPart, StrayBreak, UnsureCount}
use Rattle.words.specs.declared.refusals.Fault.{Fault}
use Rattle.words.specs.declared.refusals.Refused.{Refused}

-- the number of each refusal
abbrev pub refusal_number : Refusal → ℕ
refusal_number BadHead = N.bad_head
refusal_number BadWord = N.bad_word
refusal_number NoStream = N.no_stream
refusal_number NoReset = N.no_reset
refusal_number Backward = N.backward
refusal_number Crossed = N.crossed
refusal_number TooDeep = N.too_deep
refusal_number OpenText = N.open_text
refusal_number NoCount = N.no_count
refusal_number Ring = N.ring
refusal_number TooTall = N.too_tall
refusal_number NoSuchChunk = N.no_such_chunk
refusal_number ShortTray = N.short_tray
refusal_number UnfitPart = N.unfit_part
refusal_number StrayBreak = N.stray_break
refusal_number UnsureCount = N.unsure_count

module _ {A B : Type 0} (f : A → B) where
  -- inside one chunk, with what the value stands for
  abbrev pub result_of : Result A Fault → O.Result B
  result_of (Ok a) = O.ok (f a)
  result_of (Err e) = O.no (refusal_number e.refusal) e.place

  -- of a whole call
  abbrev pub outcome_of : Result A Refused → O.Outcome B
  outcome_of (Ok a) = O.answer (f a)
  outcome_of (Err e) = O.refused (refusal_number e.refusal) e.chunk e.place
