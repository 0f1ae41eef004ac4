-- "Blocks and paths": the shape of an op, the range of a chunk, forward targets, and rows as trees; and the stray breaks of request 2.4.
use Rattle.std.specs.Prelude.{◌≡◌, Bool, true, false, cond, ◌&&◌, ◌||◌, List, [], ◌∷◌, ℕ, zero, suc, ◌-◌, ◌<◌, max, eqb, leb, ltb, length}
use Rattle.rules.specs.Kinds as K
use Rattle.rules.specs.Numbers as N
use Rattle.rules.specs.Outcome.{Result, ok, no, Found, found, nothing, and_then}
use Rattle.rules.specs.Ops.{kind, field_a, op_at}
use Rattle.rules.specs.Form.{Chunk}

-- What rows, walks and paths ask of an op: where it may lead.
pub data Shape : Type 0 where
  plain : Shape
  trap : Shape
  returns : Shape
  if_to : ℕ → Shape
  else_to : ℕ → Shape
  end_if : Shape
  loop_to : ℕ → Shape
  end_loop : Shape
  breaks : Shape
  breaks_if : Shape
  calls : ℕ → Shape

-- 50 Trap, 31 Return, 21 If, 22 Else, 23 EndIf, 24 Loop, 25 EndLoop, 26 Break, 27 BreakIf, 30 Call; any other op is plain. "The
-- operands of EndLoop, Break and BreakIf are not read": of the last two since 2.4 only by `stray_break`.
abbrev pub shape_of : ℕ → Shape
shape_of w =
    cond (eqb (kind w) K.if) (if_to (field_a w))
    (cond (eqb (kind w) K.else) (else_to (field_a w))
    (cond (eqb (kind w) K.end_if) end_if
    (cond (eqb (kind w) K.loop) (loop_to (field_a w))
    (cond (eqb (kind w) K.end_loop) end_loop
    (cond (eqb (kind w) K.break) breaks
    (cond (eqb (kind w) K.break_if) breaks_if
    (cond (eqb (kind w) K.call) (calls (field_a w)) (cond (eqb (kind w) K.return) returns (cond (eqb (kind w) K.trap) trap plain)))))))))

-- A row: its ops from the first on, each with its position; what stands inside an If, an Else or a Loop is a row again.
pub data Row : Type 0 where
  -- no op is left
  end : Row
  -- a plain op or a Call, and the rest
  step : ℕ → Row → Row
  -- Trap or Return, and the rest, which is never taken
  stop : ℕ → Row → Row
  -- Break, and the rest, which is never taken
  leave : ℕ → Row → Row
  -- BreakIf, and the rest
  leave_if : ℕ → Row → Row
  -- If, EndIf: the arm, and the rest
  if_then : ℕ → ℕ → Row → Row → Row
  -- If, Else, EndIf: the two arms, and the rest
  if_else : ℕ → ℕ → ℕ → Row → Row → Row → Row
  -- Loop, EndLoop: the body, and the rest
  loop : ℕ → ℕ → Row → Row → Row

-- The ops that a row takes as they come: plain ops (a Call is one here), and those that end it.
abbrev pub Plain : Shape → Type 0
Plain plain = Unit {0}
Plain trap = ⊥
Plain returns = ⊥
Plain (if_to t) = ⊥
Plain (else_to e) = ⊥
Plain end_if = ⊥
Plain (loop_to t) = ⊥
Plain end_loop = ⊥
Plain breaks = ⊥
Plain breaks_if = ⊥
Plain (calls k) = Unit {0}

abbrev pub Ending : Shape → Type 0
Ending plain = ⊥
Ending trap = Unit {0}
Ending returns = Unit {0}
Ending (if_to t) = ⊥
Ending (else_to e) = ⊥
Ending end_if = ⊥
Ending (loop_to t) = ⊥
Ending end_loop = ⊥
Ending breaks = ⊥
Ending breaks_if = ⊥
Ending (calls k) = ⊥

-- "It must be a row: plain ops; If t with EndIf at t; If t with Else e at t-1 and EndIf at e; Loop t with EndLoop at t-1; the parts
-- between are rows again, every end in the range, Break and BreakIf only inside a Loop." The tree r is one for the positions from i up
-- to `to`, of ops given by their positions; `in_loop` says whether a Loop of the range is around.
abbrev pub IsRow : (ℕ → ℕ) → Bool → ℕ → ℕ → Row → Type 0
IsRow op in_loop i to end = i ≡ to
IsRow op in_loop i to (step j r) = (j ≡ i) × (i < to) × Plain (shape_of (op i)) × IsRow op in_loop (suc i) to r
IsRow op in_loop i to (stop j r) = (j ≡ i) × (i < to) × Ending (shape_of (op i)) × IsRow op in_loop (suc i) to r
IsRow op in_loop i to (leave j r) =
    (j ≡ i) × (i < to) × (shape_of (op i) ≡ breaks) × (in_loop ≡ true) × IsRow op in_loop (suc i) to r
IsRow op in_loop i to (leave_if j r) =
    (j ≡ i) × (i < to) × (shape_of (op i) ≡ breaks_if) × (in_loop ≡ true) × IsRow op in_loop (suc i) to r
IsRow op in_loop i to (if_then j t p r) =
    (j ≡ i) × (shape_of (op i) ≡ if_to t) × (i < t) × (t < to) × (shape_of (op t) ≡ end_if)
    × IsRow op in_loop (suc i) t p × IsRow op in_loop (suc t) to r
IsRow op in_loop i to (if_else j e t p q r) =
    (j ≡ i) × (shape_of (op i) ≡ if_to (suc e)) × (i < e) × (e < t) × (t < to) × (shape_of (op e) ≡ else_to t) × (shape_of (op t) ≡ end_if)
    × IsRow op in_loop (suc i) e p × IsRow op in_loop (suc e) t q × IsRow op in_loop (suc t) to r
IsRow op in_loop i to (loop j e b r) =
    (j ≡ i) × (shape_of (op i) ≡ loop_to (suc e)) × (i < e) × (e < to) × (shape_of (op e) ≡ end_loop)
    × IsRow op true (suc i) e b × IsRow op in_loop (suc e) to r

-- the tree of a range, if it has one
pub data Parsed : Type 0 where
  row : Row → Parsed
  crossed : Parsed

abbrev pub on_row : Parsed → (Row → Parsed) → Parsed
on_row (row r) next = next r
on_row crossed next = crossed

abbrev pub parsed_if : Bool → (ℕ → Parsed) → ℕ → Parsed
parsed_if true next i = next i
parsed_if false next i = crossed

-- `rows in_loop from to` is the tree of the positions from `from` up to `to`.
abbrev pub parse_if : (ℕ → ℕ) → (ℕ → ℕ → Parsed) → ℕ → ℕ → ℕ → Parsed
parse_if op rows i t to =
    parsed_if (ltb t to && eqb (kind (op t)) K.end_if)
    (λ j. on_row (rows (suc j) t) (λ p. on_row (rows (suc t) to) (λ r. row (if_then j t p r)))) i

abbrev pub parse_else : (ℕ → ℕ) → (ℕ → ℕ → Parsed) → ℕ → ℕ → ℕ → ℕ → Parsed
parse_else op rows i e t to =
    parsed_if (ltb e t && ltb t to && eqb (kind (op t)) K.end_if)
    (λ j. on_row (rows (suc j) e) (λ p. on_row (rows (suc e) t) (λ q. on_row (rows (suc t) to) (λ r. row (if_else j e t p q r))))) i

abbrev pub parse_either : Bool → (ℕ → ℕ) → (ℕ → ℕ → Parsed) → ℕ → ℕ → ℕ → Parsed
parse_either true op rows i t to = parse_else op rows i (t - 1) (field_a (op (t - 1))) to
parse_either false op rows i t to = parse_if op rows i t to

abbrev pub parse_loop : (ℕ → ℕ) → (Bool → ℕ → ℕ → Parsed) → Bool → ℕ → ℕ → ℕ → Parsed
parse_loop op rows in_loop i e to =
    parsed_if (ltb i e && ltb e to && eqb (kind (op e)) K.end_loop)
    (λ j. on_row (rows true (suc j) e) (λ b. on_row (rows in_loop (suc e) to) (λ r. row (loop j e b r)))) i

abbrev pub parse_op : Shape → (ℕ → ℕ) → (Bool → ℕ → ℕ → Parsed) → Bool → ℕ → ℕ → Parsed
parse_op plain op rows in_loop i to = on_row (rows in_loop (suc i) to) (λ r. row (step i r))
parse_op trap op rows in_loop i to = on_row (rows in_loop (suc i) to) (λ r. row (stop i r))
parse_op returns op rows in_loop i to = on_row (rows in_loop (suc i) to) (λ r. row (stop i r))
parse_op (if_to t) op rows in_loop i to =
    parsed_if (ltb i t) (λ j. parse_either (eqb (kind (op (t - 1))) K.else) op (rows in_loop) j t to) i
parse_op (else_to e) op rows in_loop i to = crossed
parse_op end_if op rows in_loop i to = crossed
parse_op (loop_to t) op rows in_loop i to = parse_loop op rows in_loop i (t - 1) to
parse_op end_loop op rows in_loop i to = crossed
parse_op breaks op rows in_loop i to = parsed_if in_loop (λ j. on_row (rows in_loop (suc j) to) (λ r. row (leave j r))) i
parse_op breaks_if op rows in_loop i to = parsed_if in_loop (λ j. on_row (rows in_loop (suc j) to) (λ r. row (leave_if j r))) i
parse_op (calls k) op rows in_loop i to = on_row (rows in_loop (suc i) to) (λ r. row (step i r))

abbrev pub parse_in : Bool → (ℕ → ℕ) → (Bool → ℕ → ℕ → Parsed) → Bool → ℕ → ℕ → Parsed
parse_in true op rows in_loop i to = parse_op (shape_of (op i)) op rows in_loop i to
parse_in false op rows in_loop i to = row end

-- One op takes one unit of the number that falls, so as many units as there are positions are enough; proofs/RowTree shows that the
-- answer is the tree of `IsRow`, and none exactly where there is none.
unfoldable pub parse : ℕ → (ℕ → ℕ) → Bool → ℕ → ℕ → Parsed
parse zero op in_loop i to = cond (ltb i to) crossed (row end)
parse (suc f) op in_loop i to = parse_in (ltb i to) op (λ l j e. parse f op l j e) in_loop i to

-- a stretch of positions, the end not included
pub record Range : Type 0 where
  pub from : ℕ
  pub to : ℕ

-- the position of the first op of that kind
unfoldable pub first_of : ℕ → List ℕ → ℕ → Found
first_of k [] i = nothing
first_of k (w ∷ ws) i = cond (eqb (kind w) k) (found i) (first_of k ws (suc i))

abbrev pub or_refuse : Found → ℕ → Result ℕ
or_refuse (found i) n = ok i
or_refuse nothing n = no n 0

-- "The range is all ops, or in a Stream chunk those after the first Stream and before the first Reset": 28 Stream, 29 Reset; refusals
-- "3 no stream" and "4 no reset". Where Reset comes first no position is in between.
abbrev pub stream_range : List ℕ → Result Range
stream_range ops =
    and_then (or_refuse (first_of K.stream ops 0) N.no_stream)
    (λ s. and_then (or_refuse (first_of K.reset ops 0) N.no_reset) (λ r. ok (record { from = suc s; to = max (suc s) r })))

abbrev pub range_if : Bool → List ℕ → Result Range
range_if true ops = stream_range ops
range_if false ops = ok (record { from = 0; to = length ops })

-- of a chunk's type and its ops
abbrev pub range_by : ℕ → List ℕ → Result Range
range_by type ops = range_if (eqb type K.stream_type) ops

abbrev pub range_of : Chunk → Result Range
range_of c = range_by c.type c.ops

-- "5 backward: any If, Else, Loop target not after it, or past the length": `n` is the length, i the position of the first op at hand
abbrev pub has_target : ℕ → Bool
has_target k = eqb k K.if || eqb k K.else || eqb k K.loop

abbrev pub is_backward : ℕ → ℕ → ℕ → Bool
is_backward n i w = has_target (kind w) && (leb (field_a w) i || ltb n (field_a w))

unfoldable pub first_backward : ℕ → ℕ → List ℕ → Found
first_backward n i [] = nothing
first_backward n i (w ∷ ws) = cond (is_backward n i w) (found i) (first_backward n (suc i) ws)

abbrev pub unless_found : Found → ℕ → Result ℕ
unless_found (found i) n = no n i
unless_found nothing n = ok 0

-- `check_forward_control_flow_targets`: "5 .. first such op"
abbrev pub forward_targets : List ℕ → Result ℕ
forward_targets ops = unless_found (first_backward (length ops) 0 ops) N.backward

abbrev pub or_crossed : Parsed → Result Row
or_crossed (row r) = ok r
or_crossed crossed = no N.crossed 0

-- "6 crossed: range no row"
abbrev pub row_of : List ℕ → Range → Result Row
row_of ops g = or_crossed (parse (g.to - g.from) (op_at ops) false g.from g.to)

-- an op that keeps the rule of request 2.4 is passed over, another is found
abbrev pub unless_stray : Bool → ℕ → (ℕ → Found) → Found
unless_stray true i rest = rest i
unless_stray false i rest = found i

-- what the first of two searches finds, or else the second
abbrev pub or_else : Found → (ℕ → Found) → Found
or_else (found i) rest = found i
or_else nothing rest = rest 0

-- 2.4: "the operand of Break and BreakIf must be the target of the innermost Loop around it": the first op of a tree that breaks this, by position and
-- dead ops too. t is the target of the innermost Loop around the tree; outside every Loop no row has a break.
unfoldable pub stray_break : (ℕ → ℕ) → ℕ → Row → Found
stray_break op t end = nothing
stray_break op t (step i r) = stray_break op t r
stray_break op t (stop i r) = stray_break op t r
stray_break op t (leave i r) = unless_stray (eqb (field_a (op i)) t) i (λ u. stray_break op t r)
stray_break op t (leave_if i r) = unless_stray (eqb (field_a (op i)) t) i (λ u. stray_break op t r)
stray_break op t (if_then i e p r) = or_else (stray_break op t p) (λ u. stray_break op t r)
stray_break op t (if_else i e f p q r) = or_else (stray_break op t p) (λ u. or_else (stray_break op t q) (λ v. stray_break op t r))
stray_break op t (loop i e b r) = or_else (stray_break op (suc e) b) (λ u. stray_break op t r)

-- 2.4: "15 stray break, place the first such op of the range"
abbrev pub own_targets : List ℕ → Row → Result Row
own_targets ops r = and_then (unless_found (stray_break (op_at ops) 0 r) N.stray_break) (λ u. ok r)

-- what may be walked: a range, and its tree
pub record Walkable : Type 0 where
  pub range : Range
  pub tree : Row

-- The tests before a walk, in their order: 3, 4, 5, 6, and 15, "tested after 6"; of a chunk's type and its ops.
abbrev pub walkable : ℕ → List ℕ → Result Walkable
walkable type ops =
    and_then (range_by type ops)
    (λ g. and_then (forward_targets ops)
    (λ u. and_then (row_of ops g) (λ r. and_then (own_targets ops r) (λ own. ok (record { range = g; tree = own })))))

abbrev pub chunk_row : Chunk → Result Row
chunk_row c = and_then (walkable c.type c.ops) (λ w. ok w.tree)
