-- What a row that is not empty is, by its first op: its parts, and its tree made of theirs.
use Rattle.std.specs.Prelude.{◌≡◌, Bool, true, false, List, ℕ, suc, ◌-◌, ◌<◌, ◌≤◌, eqb, length}
use Rattle.rules.specs.Kinds as K
use Rattle.rules.specs.Limits.{most_words}
use Rattle.rules.specs.Ops.{kind, field_a, op_at}
use Rattle.rules.specs.Rows.{Row, step, stop, leave, leave_if, if_then, if_else, loop}
use Rattle.rows.specs.Tree.{HasRow, tree_of}
use Rattle.rows.specs.declared.block.Block.{Block}
use Rattle.rows.specs.declared.block.Block.TheVariants.{Plain, Call, Ends, Break, BreakIf, If, IfElse, Loop}

module _ (op : ℕ → ℕ) (l : Bool) (i to : ℕ) where
  -- one op, and the rest
  pub record Behind (first : ℕ → Row → Row) : Type 0 where
    pub rest : HasRow op l (suc i) to
    pub tree : tree_of op i to ≡ first i (tree_of op (suc i) to)

  pub record BreakAt (first : ℕ → Row → Row) : Type 0 where
    pub in_loop : l ≡ true
    pub behind : Behind first

  -- If t with EndIf at t
  pub record IfAt (t : ℕ) : Type 0 where
    pub target : i < t
    pub within : t < to
    pub closed : kind (op t) ≡ K.end_if
    pub no_else : eqb (kind (op (t - 1))) K.else ≡ false
    pub arm : HasRow op l (suc i) t
    pub rest : HasRow op l (suc t) to
    pub tree : tree_of op i to ≡ if_then i t (tree_of op (suc i) t) (tree_of op (suc t) to)

  -- If with Else at e and EndIf at f
  pub record ElseAt (e f : ℕ) : Type 0 where
    pub target : i < e
    pub else_behind : e < f
    pub within : f < to
    pub is_else : eqb (kind (op e)) K.else ≡ true
    pub closed : kind (op f) ≡ K.end_if
    pub arm : HasRow op l (suc i) e
    pub other : HasRow op l (suc e) f
    pub rest : HasRow op l (suc f) to
    pub tree : tree_of op i to ≡ if_else i e f (tree_of op (suc i) e) (tree_of op (suc e) f) (tree_of op (suc f) to)

  -- Loop with EndLoop at e
  pub record LoopAt (e : ℕ) : Type 0 where
    pub target : i < e
    pub within : e < to
    pub closed : kind (op e) ≡ K.end_loop
    pub body : HasRow op true (suc i) e
    pub rest : HasRow op l (suc e) to
    pub tree : tree_of op i to ≡ loop i e (tree_of op (suc i) e) (tree_of op (suc e) to)

-- the row that ends at `to`, opened as the code tells it
abbrev pub Opens : List ℕ → ℕ → ℕ → Block → Type 0
Opens ops i to Plain = Behind (op_at ops) true i to step
Opens ops i to (Call k) = Behind (op_at ops) true i to step
Opens ops i to Ends = Behind (op_at ops) true i to stop
Opens ops i to Break = BreakAt (op_at ops) true i to leave
Opens ops i to BreakIf = BreakAt (op_at ops) true i to leave_if
Opens ops i to (If t) = IfAt (op_at ops) true i to t
Opens ops i to (IfElse e f) = ElseAt (op_at ops) true i to e f
Opens ops i to (Loop e) = LoopAt (op_at ops) true i to e

-- a word is a Call of this chunk, or it is no Call
abbrev pub TellsCall : ℕ → Block → Type 0
TellsCall w Plain = kind w ≡ K.call → ⊥
TellsCall w (Call k) = (kind w ≡ K.call) × (field_a w ≡ k)
TellsCall w Ends = kind w ≡ K.call → ⊥
TellsCall w Break = kind w ≡ K.call → ⊥
TellsCall w BreakIf = kind w ≡ K.call → ⊥
TellsCall w (If t) = kind w ≡ K.call → ⊥
TellsCall w (IfElse e f) = kind w ≡ K.call → ⊥
TellsCall w (Loop e) = kind w ≡ K.call → ⊥

-- a row stands from i up to `to`, inside the ops
pub record RowFits (ops : List ℕ) (i to : ℕ) : Type 0 where
  pub within : to ≤ length ops
  pub short : length ops ≤ most_words
  pub has_row : HasRow (op_at ops) true i to

-- the same, with an op at i
pub record StepFits (ops : List ℕ) (i to : ℕ) : Type 0 where
  pub here : i < to
  pub row : RowFits ops i to

-- an If at i whose EndIf is at t
pub record IfFits (ops : List ℕ) (i t to : ℕ) : Type 0 where
  pub row : RowFits ops i to
  pub at : IfAt (op_at ops) true i to t

-- an If at i whose Else is at e and whose EndIf is at f
pub record ElseFits (ops : List ℕ) (i e f to : ℕ) : Type 0 where
  pub row : RowFits ops i to
  pub at : ElseAt (op_at ops) true i to e f

-- a Loop at i whose EndLoop is at e
pub record LoopFits (ops : List ℕ) (i e to : ℕ) : Type 0 where
  pub row : RowFits ops i to
  pub at : LoopAt (op_at ops) true i to e
