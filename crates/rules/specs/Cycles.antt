-- "Cycles (`wcet_region`, clamp off)": the cycle walk over the tree of a row, for any charge and any count.
use Rattle.std.specs.Prelude.{Bool, true, false, cond, ◌&&◌, List, [], ℕ, zero, suc, ◌+◌, ◌*◌, min, max, eqb, ltb, get_or}
use Rattle.rules.specs.Kinds as K
use Rattle.rules.specs.Limits.{deepest, cycle_cap, open_text}
use Rattle.rules.specs.Numbers as N
use Rattle.rules.specs.Outcome.{Result, ok, no, and_then}
use Rattle.rules.specs.Ops.{kind, field_a, figures_of, op_at}
use Rattle.rules.specs.Form.{Chunk}
use Rattle.rules.specs.Reading.{extra_at}
use Rattle.rules.specs.Rows.{Row, end, step, stop, leave, leave_if, if_then, if_else, loop, chunk_row}
use Rattle.rules.specs.Sure.{sure_count_of}

-- the breaks met so far: none, or the costliest
pub data Breaks : Type 0 where
  unbroken : Breaks
  costliest : ℕ → Breaks

abbrev pub note_break : Breaks → ℕ → Breaks
note_break unbroken c = costliest c
note_break (costliest b) c = costliest (max b c)

abbrev pub break_cost : Breaks → ℕ
break_cost unbroken = 0
break_cost (costliest b) = b

-- what the walk of a row gives: its cycles, whether it ends (no way leads to the row's end), and the breaks out of the loop around it
pub record Cost : Type 0 where
  pub cycles : ℕ
  pub ends : Bool
  pub breaks : Breaks

abbrev pub costs : ℕ → Bool → Breaks → Cost
costs c e b = record { cycles = c; ends = e; breaks = b }

-- "7 too deep: visited body past 256, place 0": one level less for a body
abbrev pub inner : {A : Type 0} → ℕ → (ℕ → Result A) → Result A
inner zero walk = no N.too_deep 0
inner (suc left) walk = walk left

-- "it ends the row if both arms do", else the rest follows
abbrev pub unless_ends : Bool → ℕ → Breaks → (ℕ → Breaks → Result Cost) → Result Cost
unless_ends true cost breaks rest = ok (costs cost true breaks)
unless_ends false cost breaks rest = rest cost breaks

-- The walk. `cut` is what is done to each sum and product: nothing for the uncapped figure, the minimum with a cap for one that stops there. `charge` and
-- `count` give by position what an op costs and how often a loop passes, or a refusal.
module _ (cut : ℕ → ℕ) (charge count : ℕ → Result ℕ) where
  -- a cost and one op's charge more
  abbrev pub plus : ℕ → ℕ → ℕ
  plus cost c = cut (cost + cut c)

  -- "a body ending without a break is charged once and ends the row"; "passes are 1 for a body that can't reach its end (greater of body
  -- and costliest break)"
  abbrev pub one_pass : Breaks → ℕ → ℕ → Breaks → (ℕ → Breaks → Result Cost) → Result Cost
  one_pass unbroken cost body outer rest = ok (costs (cut (cost + body)) true outer)
  one_pass (costliest b) cost body outer rest = rest (cut (cost + max body b)) outer

  -- "or the count: (body + EndLoop) times count, plus costliest break"; "for a loop own charge, body, count, EndLoop"
  abbrev pub passes_cost : Bool → ℕ → ℕ → Cost → ℕ → Breaks → (ℕ → Breaks → Result Cost) → Result Cost
  passes_cost true i e body cost outer rest = one_pass body.breaks cost body.cycles outer rest
  passes_cost false i e body cost outer rest =
      and_then (count i)
      (λ n. and_then (charge e)
      (λ d. rest (cut (cost + cut (cut (plus body.cycles d * n) + break_cost body.breaks))) outer))

  -- A row with `left` levels of nesting left inside it, from the cost since its start and the breaks met so far. "A break's cost is
  -- counted from its own row's start." "Order: own charge, first arm, second arm, Else, EndIf".
  unfoldable pub row_cost : Row → ℕ → ℕ → Breaks → Result Cost
  row_cost end left cost breaks = ok (costs cost false breaks)
  row_cost (step i r) left cost breaks = and_then (charge i) (λ c. row_cost r left (plus cost c) breaks)
  row_cost (stop i r) left cost breaks = and_then (charge i) (λ c. ok (costs (plus cost c) true breaks))
  row_cost (leave i r) left cost breaks =
      and_then (charge i) (λ c. ok (costs (plus cost c) true (note_break breaks (plus cost c))))
  row_cost (leave_if i r) left cost breaks =
      and_then (charge i) (λ c. row_cost r left (plus cost c) (note_break breaks (plus cost c)))
  -- "If alone costs If, arm, EndIf."
  row_cost (if_then i t p r) left cost breaks =
      and_then (charge i)
      (λ c. and_then (inner left (λ l. row_cost p l 0 breaks))
      (λ arm. and_then (charge t) (λ d. row_cost r left (plus (cut (plus cost c + arm.cycles)) d) arm.breaks)))
  -- "If/Else costs If, the greater of (then arm + Else) and else arm, EndIf"
  row_cost (if_else i e t p q r) left cost breaks =
      and_then (charge i)
      (λ c. and_then (inner left (λ l. row_cost p l 0 breaks))
      (λ arm. and_then (inner left (λ l. row_cost q l 0 arm.breaks))
      (λ other. and_then (charge e)
      (λ d. and_then (charge t)
      (λ f. unless_ends (arm.ends && other.ends) (plus (cut (plus cost c + max (plus arm.cycles d) other.cycles)) f)
      other.breaks (λ cost' breaks'. row_cost r left cost' breaks'))))))
  -- "Loop costs Loop and its passes"
  row_cost (loop i e b r) left cost breaks =
      and_then (charge i)
      (λ c. and_then (inner left (λ l. row_cost b l 0 unbroken))
      (λ body. passes_cost body.ends i e body (plus cost c) breaks (λ cost' breaks'. row_cost r left cost' breaks')))

-- "8 open text: charged op with the greatest extra"
abbrev pub text_charge : Bool → ℕ → ℕ → Result ℕ
text_charge true i c = no N.open_text i
text_charge false i c = ok c

-- 2.1: "each Call also charged the callee's whole figure", from a list by chunk index. "A callee outside the module adds 0": so does any past the
-- list's end. For the cycles alone the list is empty.
abbrev pub callee_whole : List ℕ → ℕ → ℕ
callee_whole wholes w = cond (eqb (kind w) K.call) (get_or wholes (field_a w) 0) 0

-- "charge is cycles plus extra", and what a callee adds. 2.1: "A callee figure at the cap is no open text": the extra alone is asked.
abbrev pub charge_of : Chunk → List ℕ → ℕ → Result ℕ
charge_of c wholes i =
    text_charge (eqb (extra_at c.extras i) open_text) i
    ((figures_of (op_at c.ops i)).cycles + extra_at c.extras i + callee_whole wholes (op_at c.ops i))

-- the uncapped figure, and the one that stops at a cap, over the whole figures of the callees. For any cap, to stop on the way is to cut the uncapped figure
-- once at the end (proofs/Capped).
abbrev pub exact_cost : Chunk → List ℕ → Row → Result Cost
exact_cost c wholes r = row_cost (λ n. n) (charge_of c wholes) (sure_count_of c r) r deepest 0 unbroken

abbrev pub capped_cost : ℕ → Chunk → List ℕ → Row → Result Cost
capped_cost cap c wholes r = row_cost (min cap) (charge_of c wholes) (sure_count_of c r) r deepest 0 unbroken

-- the answer of the cycle walk: the cycles, whether the row ends, and 2.5's mark. No break leads out of a range, so none is left to tell.
pub record Cycles : Type 0 where
  pub cycles : ℕ
  pub ends : Bool
  pub cut : Bool

-- "all sums and products stop at 4,294,967,295", and 2.5: "a yes or no that is yes exactly if the uncapped figure is greater than 4,294,967,295"
abbrev pub cycles_of : Cost → Cycles
cycles_of k = record { cycles = min cycle_cap k.cycles; ends = k.ends; cut = ltb cycle_cap k.cycles }

-- the cycle walk of a row over the whole figures of the callees: 7, 8, 9, 16 as the walk meets them
abbrev pub row_cycles : Chunk → List ℕ → Row → Result Cycles
row_cycles c wholes r = and_then (exact_cost c wholes r) (λ k. ok (cycles_of k))

-- the cycle walk of a chunk: 3, 4, 5, 6, 15, then those of its row, no callee charged
abbrev pub chunk_cycles : Chunk → Result Cycles
chunk_cycles c = and_then (chunk_row c) (λ r. row_cycles c [] r)
