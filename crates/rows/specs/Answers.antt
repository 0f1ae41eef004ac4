-- What an op opens, as the row check tells it.
use Rattle.std.specs.Prelude.{Bool, true, false, cond, ◌&&◌, ◌||◌, ℕ, suc, ◌-◌, eqb, leb, ltb}
use Rattle.rules.specs.Ops.{kind, field_a}
use Rattle.rows.specs.declared.check.Opening.{Opening}
use Rattle.rows.specs.declared.check.Opening.TheVariants.{Plain, Block, Loop, Crossed}

-- a block that ends at e, where a test holds
abbrev pub block_if : Bool → ℕ → Opening
block_if true e = Block e
block_if false e = Crossed

-- a Loop whose EndLoop is e, where a test holds
abbrev pub loop_if : Bool → ℕ → Opening
loop_if true e = Loop e
loop_if false e = Crossed

-- an If opens a block that ends at its Else, or at its EndIf
abbrev pub opens_if : (ℕ → ℕ) → ℕ → ℕ → ℕ → Opening
opens_if op i t to =
    cond (ltb i t && leb t to)
    (cond (eqb (kind (op (t - 1))) 22)
    (block_if (ltb (t - 1) (field_a (op (t - 1))) && ltb (field_a (op (t - 1))) to && eqb (kind (op (field_a (op (t - 1))))) 23) (t - 1))
    (block_if (ltb t to && eqb (kind (op t)) 23) t))
    Crossed

-- a Loop opens one that ends at its EndLoop
abbrev pub opens_loop : (ℕ → ℕ) → ℕ → ℕ → ℕ → Opening
opens_loop op i t to = loop_if (ltb (suc i) t && leb t to && eqb (kind (op (t - 1))) 25) (t - 1)

-- Break and BreakIf stand only inside a Loop, and Else, EndIf and EndLoop only where a block's part ends
abbrev pub opens_at : (ℕ → ℕ) → ℕ → ℕ → Bool → Opening
opens_at op i to in_loop =
    cond (ltb (kind (op i)) 21 || ltb 27 (kind (op i))) Plain
    (cond (eqb (kind (op i)) 21) (opens_if op i (field_a (op i)) to)
    (cond (eqb (kind (op i)) 24) (opens_loop op i (field_a (op i)) to)
    (cond (leb 26 (kind (op i)) && in_loop) Plain Crossed)))
