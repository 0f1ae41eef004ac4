-- What is left of a list behind the parts passed over. Assumes nothing.
use mathlib.Core.Path.{◌≡◌, refl}
use mathlib.Core.List.{List}
use Prim.Native.Nat.{ℕ, ◌+◌, ◌-◌, ◌≤◌}
use native.Mathlib.Omega.{arith}
use lib.ListN.{length, take, drop, length-drop}
use lib.Seq.{drop-drop}
use Rattle.std.proofs.lemmas.List.{take_rest}

-- the list ends with these words, from `from` or later on
pub record EndOf (ws : List ℕ) (from : ℕ) (rest : List ℕ) : Type 0 where
  pub within : from + length rest ≤ length ws
  pub stands : rest ≡ drop (length ws - length rest) ws

-- the list from a position on
pub from_on : (ws : List ℕ) (from : ℕ) → from ≤ length ws → let rest = take (length ws - from) (drop from ws) in
    EndOf ws from rest × (rest ≡ drop from ws) × (length ws - length rest ≡ from)
from_on ws from h =
    let same = take_rest ws from in
    let long = length-drop from ws in
    let here : length ws - (length ws - from) ≡ from = omega arith in
    rw (same, long, here) (record { within = omega (arith, long); stands = rw (long, here) }, refl, refl)

-- the same behind the first n of them
pub behind : (ws : List ℕ) (from n : ℕ) (rest : List ℕ) → EndOf ws from rest → n ≤ length rest → let left = take (length rest - n) (drop n rest) in
    EndOf ws from left × (left ≡ drop n rest) × (length ws - length left ≡ length ws - length rest + n)
behind ws from n rest e h =
    let same = take_rest rest n in
    let long = length-drop n rest in
    let at : length ws - (length rest - n) ≡ length ws - length rest + n = omega (arith, e.within) in
    rw (same, long, at) (record { within = omega (arith, e.within, long); stands = rw (long, at, ← drop-drop n (length ws - length rest) ws, ← e.stands) }, refl, refl)
