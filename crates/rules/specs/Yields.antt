-- Request 2.9, "Does every way through give up its turn": the Rust's `analyze_yield_coverage` over the tree of a row, for any positions that give up the turn;
-- and what paths have to do with it: which of them reach the end of their range, and which give up their turn on the way.
use Rattle.std.specs.Prelude.{Bool, false, ◌&&◌, ◌||◌, List, [], ◌∷◌, ℕ, zero, suc, max, eqb, get_or}
use Rattle.rules.specs.Kinds as K
use Rattle.rules.specs.Limits.{deepest}
use Rattle.rules.specs.Outcome.{Result, ok, Outcome, Found, found, nothing, and_then, followed_by, in_chunk}
use Rattle.rules.specs.Ops.{kind, field_a, op_at}
use Rattle.rules.specs.Form.{Chunk}
use Rattle.rules.specs.Rows.{Shape, plain, trap, returns, if_to, else_to, end_if, loop_to, end_loop, breaks, breaks_if, calls, shape_of}
use Rattle.rules.specs.Rows.{Row, end, step, stop, leave, leave_if, if_then, if_else, loop, chunk_row}
use Rattle.rules.specs.Sheet.{chunk_outcome}
use Rattle.rules.specs.Paths.{Way, on, aside, Entry, Frame, Spot, here, over, range_at, op_of, go, begin}

-- "Its answers are yes, no, and 'never reaches the end'": `reached true`, `reached false` and `never`; the Rust's `Some(true)`, `Some(false)` and `None`
pub data Coverage : Type 0 where
  reached : Bool → Coverage
  never : Coverage

-- the breaks out of a loop that were met so far: none, or whether all of them had yielded (the Rust keeps a list of flags)
pub data Noted : Type 0 where
  no_break : Noted
  all_yielded : Bool → Noted

-- one break more, met with the flag y
abbrev pub note_flag : Noted → Bool → Noted
note_flag no_break y = all_yielded y
note_flag (all_yielded a) y = all_yielded (a && y)

-- what the walk of a row gives: its answer, and the breaks out of the loop around it
pub record Cover : Type 0 where
  pub coverage : Coverage
  pub breaks : Noted

abbrev pub cover : Coverage → Noted → Cover
cover c b = record { coverage = c; breaks = b }

-- "with its depth limit": past it a body isn't looked at. It reaches its end, has not yielded, and none of its breaks is noted.
abbrev pub inner_cover : ℕ → Noted → (ℕ → Cover) → Cover
inner_cover zero b walk = cover (reached false) b
inner_cover (suc left) b walk = walk left

-- If alone: the flag behind it is of both ways, by the arm and past it; an arm that never reaches its end leaves the flag
abbrev pub after_arm : Coverage → Bool → Bool
after_arm (reached a) y = a && y
after_arm never y = y

-- If, Else: of both arms, if both reach their ends; else of the one that does; if none does the row never reaches its end
abbrev pub after_arms : Coverage → Coverage → Coverage
after_arms (reached a) (reached b) = reached (a && b)
after_arms (reached a) never = reached a
after_arms never (reached b) = reached b
after_arms never never = never

abbrev pub unless_never : Coverage → Noted → (Bool → Cover) → Cover
unless_never (reached y) b rest = rest y
unless_never never b rest = cover never b

-- Loop: what its breaks had, whatever the body's end says; with none noted the row never reaches its end. b are the breaks of the loop around.
abbrev pub after_loop : Noted → Noted → (Bool → Cover) → Cover
after_loop no_break b rest = cover never b
after_loop (all_yielded y) b rest = rest y

-- The walk, for any positions at which the turn is given up: with `left` levels of nesting left, the flag y (yielded or not) and the breaks met so far.
module _ (gives : ℕ → Bool) where
  unfoldable pub row_cover : Row → ℕ → Bool → Noted → Cover
  row_cover end left y b = cover (reached y) b
  row_cover (step i r) left y b = row_cover r left (y || gives i) b
  -- Trap and Return are plain ops here: the walk goes on
  row_cover (stop i r) left y b = row_cover r left y b
  -- Break is noted with the flag, and what is behind it is not looked at
  row_cover (leave i r) left y b = cover never (note_flag b y)
  -- BreakIf is noted with the flag, and the walk goes on
  row_cover (leave_if i r) left y b = row_cover r left y (note_flag b y)
  row_cover (if_then i t p r) left y b =
      let arm = inner_cover left b (λ l. row_cover p l y b) in
      row_cover r left (after_arm arm.coverage y) arm.breaks
  row_cover (if_else i e t p q r) left y b =
      let arm = inner_cover left b (λ l. row_cover p l y b) in
      let other = inner_cover left arm.breaks (λ l. row_cover q l y arm.breaks) in
      unless_never (after_arms arm.coverage other.coverage) other.breaks (λ z. row_cover r left z other.breaks)
  -- the body from the present flag with no break met
  row_cover (loop i e p r) left y b =
      let body = inner_cover left no_break (λ l. row_cover p l y no_break) in
      after_loop body.breaks b (λ z. row_cover r left z b)

-- "without a Yield or a call to a callee listed as 1"; "A callee with another number, or past the list's end, is one that need not."
abbrev pub gives_turn : List ℕ → ℕ → Bool
gives_turn lent w = eqb (kind w) K.yield || (eqb (kind w) K.call && eqb (get_or lent (field_a w) 0) 1)

-- the answer of a chunk's row, over a list by chunk index, "from a start that hasn't yielded"
abbrev pub coverage_of : Chunk → List ℕ → Row → Coverage
coverage_of c lent r = (row_cover (λ i. gives_turn lent (op_at c.ops i)) r deepest false no_break).coverage

abbrev pub chunk_coverage : Chunk → List ℕ → Result Coverage
chunk_coverage c lent = and_then (chunk_row c) (λ r. ok (coverage_of c lent r))

-- "It tests 1, 2, 12, 3, 4, 5, 6 and 15, and nothing else."
abbrev pub yield_outcome : List ℕ → ℕ → List ℕ → Outcome Coverage
yield_outcome ws c lent = followed_by (chunk_outcome ws c) (λ k. in_chunk c (chunk_coverage k lent))

-- "Where no block lies more than 256 deep": how many blocks of a tree lie in one another, dead ones too
unfoldable pub depth_of : Row → ℕ
depth_of end = 0
depth_of (step i r) = depth_of r
depth_of (stop i r) = depth_of r
depth_of (leave i r) = depth_of r
depth_of (leave_if i r) = depth_of r
depth_of (if_then i t p r) = max (suc (depth_of p)) (depth_of r)
depth_of (if_else i e t p q r) = max (suc (max (depth_of p) (depth_of q))) (depth_of r)
depth_of (loop i e p r) = max (suc (depth_of p)) (depth_of r)

-- Where an op leads, no callee run: to a position of its range or to the range's end. `Paths.go` has no word for the latter: a path that stands there is over.
abbrev pub either_way : Way → ℕ → ℕ → Found
either_way on i t = found i
either_way aside i t = found t

abbrev pub out_of : List Entry → Found
out_of [] = nothing
out_of (e ∷ es) = found e.target

abbrev pub back_to : List Entry → Found
back_to [] = nothing
back_to (e ∷ es) = found (suc e.loop)

abbrev pub on_or_out : Way → ℕ → List Entry → Found
on_or_out on i es = found i
on_or_out aside i es = out_of es

-- nowhere behind Trap and Return, which end a path before the range's end
abbrev pub leads_to : Shape → Frame → Way → Found
leads_to plain f w = found (suc f.at)
leads_to trap f w = nothing
leads_to returns f w = nothing
leads_to (if_to t) f w = either_way w (suc f.at) t
leads_to (else_to e) f w = found e
leads_to end_if f w = found (suc f.at)
leads_to (loop_to t) f w = found (suc f.at)
leads_to end_loop f w = back_to f.entries
leads_to breaks f w = out_of f.entries
leads_to breaks_if f w = on_or_out w (suc f.at) f.entries
leads_to (calls k) f w = found (suc f.at)

abbrev pub is_at : Found → ℕ → Bool
is_at (found i) e = eqb i e
is_at nothing e = false

module _ (cs : List Chunk) where
  -- the last op that these ways take leads to the end of its range
  unfoldable pub ends_at : Spot → List Way → Bool
  ends_at s [] = false
  ends_at over (w ∷ ws) = false
  ends_at (here f gs) (w ∷ []) = is_at (leads_to (shape_of (op_of cs f)) f w) (range_at cs f.chunk).to
  ends_at (here f gs) (w ∷ v ∷ ws) = ends_at (go cs false f gs w) (v ∷ ws)

  -- "reaches the end of the range": a path of chunk c by these ways, no callee run, whose last op leads there; or the empty one of an empty range
  abbrev pub reaches_end : ℕ → List Way → Bool
  reaches_end c [] = eqb (range_at cs c).from (range_at cs c).to
  reaches_end c (w ∷ ws) = ends_at (begin cs c) (w ∷ ws)

  -- some op of a path gives up the turn
  unfoldable pub gives_up : List ℕ → List Frame → Bool
  gives_up lent [] = false
  gives_up lent (f ∷ fs) = gives_turn lent (op_of cs f) || gives_up lent fs
