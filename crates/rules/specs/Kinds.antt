-- Document 01's names for the kinds of words. The code has the same names in `words::kinds`; cited as `K.if`.
use Rattle.std.specs.Prelude.{ℕ}

-- "Ops as kind": those that a rule or a case names; `Ops.table` has all.
abbrev pub const : ℕ
const = 0

abbrev pub get_local : ℕ
get_local = 1

abbrev pub set_local : ℕ
set_local = 2

abbrev pub get_data : ℕ
get_data = 3

abbrev pub set_data_indexed : ℕ
set_data_indexed = 6

abbrev pub cmp_ge : ℕ
cmp_ge = 19

abbrev pub if : ℕ
if = 21

abbrev pub else : ℕ
else = 22

abbrev pub end_if : ℕ
end_if = 23

abbrev pub loop : ℕ
loop = 24

abbrev pub end_loop : ℕ
end_loop = 25

abbrev pub break : ℕ
break = 26

abbrev pub break_if : ℕ
break_if = 27

abbrev pub stream : ℕ
stream = 28

abbrev pub reset : ℕ
reset = 29

abbrev pub call : ℕ
call = 30

abbrev pub return : ℕ
return = 31

abbrev pub yield : ℕ
yield = 32

abbrev pub new_composite : ℕ
new_composite = 34

abbrev pub get_index : ℕ
get_index = 36

abbrev pub len : ℕ
len = 39

abbrev pub trap : ℕ
trap = 50

abbrev pub checked_add : ℕ
checked_add = 51

abbrev pub pop_n : ℕ
pop_n = 58

abbrev pub call_verified_native : ℕ
call_verified_native = 64

abbrev pub call_external_native : ℕ
call_external_native = 65

-- "A module is one word of kind 199", a chunk 200, a constant 202 or 203, an extra 204.
abbrev pub «module» : ℕ
«module» = 199

abbrev pub chunk : ℕ
chunk = 200

abbrev pub integer : ℕ
integer = 202

abbrev pub other : ℕ
other = 203

abbrev pub extra : ℕ
extra = 204

-- "b: 0 Func, 1 Reentrant, 2 Stream": the type of a chunk
abbrev pub stream_type : ℕ
stream_type = 2
