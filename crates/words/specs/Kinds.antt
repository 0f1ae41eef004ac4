-- The documents' numbers of the kinds that the code names.
use Rattle.std.specs.Prelude.{ℕ}
use Rattle.rules.specs.Kinds as K
use Rattle.words.specs.declared.kinds.Kind.{Kind}
use Rattle.words.specs.declared.kinds.Kind.TheVariants.{Const, GetLocal, SetLocal, CmpGe, If, Else, EndIf, Loop, EndLoop, Break, BreakIf, Stream, Reset, Call, Return, Yield, NewComposite, GetIndex, Len, Trap, CheckedAdd, PopN, CallVerifiedNative, CallExternalNative, Module, Chunk, Integer, Other, Extra}

abbrev pub kind_number : Kind → ℕ
kind_number Const = K.const
kind_number GetLocal = K.get_local
kind_number SetLocal = K.set_local
kind_number CmpGe = K.cmp_ge
kind_number If = K.if
kind_number Else = K.else
kind_number EndIf = K.end_if
kind_number Loop = K.loop
kind_number EndLoop = K.end_loop
kind_number Break = K.break
kind_number BreakIf = K.break_if
kind_number Stream = K.stream
kind_number Reset = K.reset
kind_number Call = K.call
kind_number Return = K.return
kind_number Yield = K.yield
kind_number NewComposite = K.new_composite
kind_number GetIndex = K.get_index
kind_number Len = K.len
kind_number Trap = K.trap
kind_number CheckedAdd = K.checked_add
kind_number PopN = K.pop_n
kind_number CallVerifiedNative = K.call_verified_native
kind_number CallExternalNative = K.call_external_native
kind_number Module = K.«module»
kind_number Chunk = K.chunk
kind_number Integer = K.integer
kind_number Other = K.other
kind_number Extra = K.extra
