-- How much the program's buffers hold.
use Rattle.std.specs.Prelude.{ℕ}

-- the numbers of a tray, or of a callee list
abbrev pub tray_room : ℕ
tray_room = 1536

-- one word more than a module may have
abbrev pub word_room : ℕ
word_room = 16385
