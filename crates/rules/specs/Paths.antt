-- "Blocks and paths": the paths through a chunk, what they cost, how deep they go, and what is asked of their loops.
use Rattle.std.specs.Prelude.{◌≡◌, Bool, true, false, cond, ◌&&◌, List, [], ◌∷◌, ℕ, suc, ◌+◌, ◌-◌, ◌≤◌, max, eqb, leb, ltb, ℤ, pos, ◌+ℤ◌, ◌-ℤ◌, length}
use Rattle.std.specs.Int.Signed.{le_z}
use Rattle.rules.specs.Kinds as K
use Rattle.rules.specs.Outcome.{Result, ok, no, found}
use Rattle.rules.specs.Ops.{kind, field_a, field_b, figures_of, op_at}
use Rattle.rules.specs.Form.{Chunk}
use Rattle.rules.specs.Reading.{extra_at}
use Rattle.rules.specs.Rows.{Shape, plain, trap, returns, if_to, else_to, end_if, loop_to, end_loop, breaks, breaks_if, calls, shape_of, Range, range_of}
use Rattle.rules.specs.Count.{has_header, count_at}
use Rattle.rules.specs.Stack.{at_least_zero, bytes_of}
use Rattle.rules.specs.Order.{chunk_at}

-- Where the rules leave a choice: If and BreakIf go on one position, or aside to a target.
pub data Way : Type 0 where
  on : Way
  aside : Way

-- "An entry to a loop runs from its Loop until the path leaves the loop": its Loop's position and target, "the depth at that entry is the
-- one behind Loop", and how often its header test was passed since.
pub record Entry : Type 0 where
  pub loop : ℕ
  pub target : ℕ
  pub depth : ℤ
  pub passed : ℕ

-- A chunk that is being run: the op that comes next, the signed depth before it, what is added to that depth ("callee depth begins at 0
-- and, less the arguments and plus the callee's locals, is added to the depth before the Call"), and the entries to loops that are
-- open, the innermost first.
pub record Frame : Type 0 where
  pub chunk : ℕ
  pub at : ℕ
  pub depth : ℤ
  pub base : ℤ
  pub entries : List Entry

-- where a path stands: before an op, with the callers' frames behind it, each at the op behind its Call; or it can take no op any more
pub data Spot : Type 0 where
  here : Frame → List Frame → Spot
  over : Spot

abbrev pub range_found : Result Range → Range
range_found (ok g) = g
range_found (no n p) = record { from = 0; to = 0 }

abbrev pub pick : Way → Spot → Spot → Spot
pick on s t = s
pick aside s t = t

abbrev pub some_entry : List Entry → Bool
some_entry [] = false
some_entry (e ∷ es) = true

-- a loop is open there
abbrev pub in_loop : Spot → Bool
in_loop (here f gs) = some_entry f.entries
in_loop over = false

abbrev pub stands_at : ℕ → Spot → Bool
stands_at e (here f gs) = eqb f.at e
stands_at e over = false

-- The rules for the chunks `cs` of a module; `run` says whether callees are run.
module _ (cs : List Chunk) where
  abbrev pub range_at : ℕ → Range
  range_at k = range_found (range_of (chunk_at cs k))

  abbrev pub op_of : Frame → ℕ
  op_of f = op_at (chunk_at cs f.chunk).ops f.at

  abbrev pub growth_of : Frame → ℤ
  growth_of f = pos (figures_of (op_of f)).growth

  -- "Depth at an op counts its growth."
  abbrev pub depth_at : Frame → ℤ
  depth_at f = f.base +ℤ (f.depth +ℤ growth_of f)

  -- "Depth moves by growth less shrink behind each op"
  abbrev pub depth_behind : Frame → ℤ
  depth_behind f = f.depth +ℤ (growth_of f -ℤ pos (figures_of (op_of f)).shrink)

  -- behind the op at hand, at position i with these entries open
  abbrev pub moved_to : ℕ → List Entry → Frame → Frame
  moved_to i es f = record { chunk = f.chunk; at = i; depth = depth_behind f; base = f.base; entries = es }

  abbrev pub in_range : Frame → Bool
  in_range f = leb (range_at f.chunk).from f.at && ltb f.at (range_at f.chunk).to

  -- "takes only ops of that range"; "A callee that returns or reaches its range's end leaves one result, and the path goes on behind the
  -- Call."
  unfoldable pub settle : Frame → List Frame → Spot
  settle f [] = cond (in_range f) (here f []) over
  settle f (g ∷ gs) = cond (in_range f) (here f (g ∷ gs)) (settle g gs)

  -- Return: the path is over, or goes on in the caller
  abbrev pub returned : List Frame → Spot
  returned [] = over
  returned (g ∷ gs) = settle g gs

  -- "Break, and if taken BreakIf, to the innermost Loop's target"
  abbrev pub leave_loop : List Entry → Frame → List Frame → Spot
  leave_loop [] f gs = over
  leave_loop (e ∷ es) f gs = settle (moved_to e.target es f) gs

  -- "EndLoop to just after its Loop"
  abbrev pub repeat_loop : List Entry → Frame → List Frame → Spot
  repeat_loop [] f gs = over
  repeat_loop (e ∷ es) f gs = settle (moved_to (suc e.loop) (e ∷ es) f) gs

  -- the entry that Loop t begins
  abbrev pub entry_at : ℕ → Frame → Entry
  entry_at t f = record { loop = f.at; target = t; depth = depth_behind f; passed = 0 }

  abbrev pub count_pass : Bool → Entry → Entry
  count_pass true e = record { loop = e.loop; target = e.target; depth = e.depth; passed = suc e.passed }
  count_pass false e = e

  -- "the header test, passed when the path goes on to the position behind that BreakIf"
  abbrev pub pass_header : List Entry → Frame → List Entry
  pass_header [] f = []
  pass_header (e ∷ es) f =
      count_pass (eqb f.at (e.loop + 4) && has_header (chunk_at cs f.chunk).ops e.loop) e ∷ es

  -- "A Call turns its arguments into the callee's first locals: depth less arguments plus callee locals plus callee depth."
  abbrev pub callee_frame : ℕ → Frame → Frame
  callee_frame k f =
      record {
        chunk = k;
        at = (range_at k).from;
        depth = pos 0;
        base = f.base +ℤ (f.depth -ℤ pos (field_b (op_of f))) +ℤ pos (chunk_at cs k).locals;
        entries = [];
      }

  -- "Unless callees are run, and for a callee outside the module, a Call goes on one position."
  abbrev pub entered : Bool → ℕ → Frame → List Frame → Spot
  entered true k f gs = settle (callee_frame k f) (moved_to (suc f.at) f.entries f ∷ gs)
  entered false k f gs = settle (moved_to (suc f.at) f.entries f) gs

  -- "It goes on one position, but: If t may go to t; Else e must go to e, EndLoop ..; Break ..; Trap and Return end it."
  abbrev pub go_by : Shape → Bool → Frame → List Frame → Way → Spot
  go_by plain run f gs w = settle (moved_to (suc f.at) f.entries f) gs
  go_by trap run f gs w = over
  go_by returns run f gs w = returned gs
  go_by (if_to t) run f gs w =
      pick w (settle (moved_to (suc f.at) f.entries f) gs) (settle (moved_to t f.entries f) gs)
  go_by (else_to e) run f gs w = settle (moved_to e f.entries f) gs
  go_by end_if run f gs w = settle (moved_to (suc f.at) f.entries f) gs
  go_by (loop_to t) run f gs w = settle (moved_to (suc f.at) (entry_at t f ∷ f.entries) f) gs
  go_by end_loop run f gs w = repeat_loop f.entries f gs
  go_by breaks run f gs w = leave_loop f.entries f gs
  go_by breaks_if run f gs w =
      pick w (settle (moved_to (suc f.at) (pass_header f.entries f) f) gs) (leave_loop f.entries f gs)
  go_by (calls k) run f gs w = entered (run && ltb k (length cs)) k f gs

  abbrev pub go : Bool → Frame → List Frame → Way → Spot
  go run f gs w = go_by (shape_of (op_of f)) run f gs w

  -- "A path, like each callee run on it, starts at the start of its chunk's range", "begun with 0 cycles and a signed depth of 0"
  abbrev pub begin : ℕ → Spot
  begin c = settle (record { chunk = c; at = (range_at c).from; depth = pos 0; base = pos 0; entries = [] }) []

  -- "A path is the list of ops it takes, of any length": each as the frame that takes it. One way is asked for at each op, and where
  -- they give out the path stops: "the path may stop after any op". Every list of ways gives a path, and every path has one.
  unfoldable pub path : Bool → Spot → List Way → List Frame
  path run s [] = []
  path run over (w ∷ ws) = []
  path run (here f gs) (w ∷ ws) = f ∷ path run (go run f gs w) ws

  -- "Its cycles are cycles plus extra of each op, summed as often as the op stands there."
  abbrev pub op_cycles : Frame → ℕ
  op_cycles f = (figures_of (op_of f)).cycles + extra_at (chunk_at cs f.chunk).extras f.at

  unfoldable pub path_cycles : List Frame → ℕ
  path_cycles [] = 0
  path_cycles (f ∷ fs) = op_cycles f + path_cycles fs

  -- the depth at the start of the callee that the op runs, at least 0; callees are run
  abbrev pub start_depth : Frame → ℕ
  start_depth f =
      cond (eqb (kind (op_of f)) K.call && ltb (field_a (op_of f)) (length cs)) (at_least_zero (callee_frame (field_a (op_of f)) f).base) 0

  -- "the greatest depth, at least 0, at any op or callee's start", callees run
  unfoldable pub path_depth : List Frame → ℕ
  path_depth [] = 0
  path_depth (f ∷ fs) = max (max (at_least_zero (depth_at f)) (start_depth f)) (path_depth fs)

  -- "Stack bytes are 32 times (the chunk's locals + the greatest depth ..)"
  abbrev pub path_bytes : ℕ → List Frame → ℕ
  path_bytes c fs = bytes_of ((chunk_at cs c).locals + path_depth fs)

  -- The conditions on loops. "A body can reach its end if the rules, with no callee run and no count kept, allow a way from its Loop to its
  -- EndLoop that doesn't leave the loop before": from behind the Loop of chunk k at p, where its entry is the only one that is open.
  abbrev pub behind_loop : ℕ → ℕ → Spot
  behind_loop k p = go false (record { chunk = k; at = p; depth = pos 0; base = pos 0; entries = [] }) [] on

  abbrev pub go_from : Spot → Way → Spot
  go_from (here f gs) w = go false f gs w
  go_from over w = over

  unfoldable pub reaches : ℕ → Spot → List Way → Bool
  reaches e s [] = stands_at e s
  reaches e s (w ∷ ws) = in_loop (go_from s w) && reaches e (go_from s w) ws

  abbrev pub CanReachEnd : ℕ → ℕ → Type 0
  CanReachEnd k p =
      (ways : List Way) × (reaches (field_a (op_at (chunk_at cs k).ops p) - 1) (behind_loop k p) ways ≡ true)

  -- An entry keeps its count: a loop whose body can reach its end has its header passed no more often than counted.
  abbrev pub EntryKept : Chunk → ℕ → List Entry → Type 0
  EntryKept c k [] = Unit {0}
  EntryKept c k (e ∷ es) =
      CanReachEnd k e.loop → (n : ℕ) → count_at c.constants c.ops e.loop ≡ found n → e.passed ≤ n

  -- Every op is taken with its innermost entry keeping its count. A pass counts once an op behind the BreakIf is taken: "passed when the
  -- path goes on to the position behind that BreakIf, and not by one that stops on it".
  unfoldable pub KeepsCounts : Bool → Spot → List Way → Type 0
  KeepsCounts run s [] = Unit {0}
  KeepsCounts run over (w ∷ ws) = Unit {0}
  KeepsCounts run (here f gs) (w ∷ ws) =
      EntryKept (chunk_at cs f.chunk) f.chunk f.entries × KeepsCounts run (go run f gs w) ws

  -- "A whole pass or a break leaves the depth behind EndLoop, Break or the taken BreakIf": no more than the depth at that entry.
  abbrev pub leaves_at_most : List Entry → Frame → Bool
  leaves_at_most [] f = true
  leaves_at_most (e ∷ es) f = le_z (depth_behind f) e.depth

  abbrev pub if_aside : Way → Bool → Bool
  if_aside on b = true
  if_aside aside b = b

  abbrev pub depth_kept : Shape → Frame → Way → Bool
  depth_kept plain f w = true
  depth_kept trap f w = true
  depth_kept returns f w = true
  depth_kept (if_to t) f w = true
  depth_kept (else_to e) f w = true
  depth_kept end_if f w = true
  depth_kept (loop_to t) f w = true
  depth_kept end_loop f w = leaves_at_most f.entries f
  depth_kept breaks f w = leaves_at_most f.entries f
  depth_kept breaks_if f w = if_aside w (leaves_at_most f.entries f)
  depth_kept (calls k) f w = true

  -- Nothing is asked of the way on from the last op.
  unfoldable pub KeepsDepths : Bool → Spot → List Way → Type 0
  KeepsDepths run s [] = Unit {0}
  KeepsDepths run over (w ∷ ws) = Unit {0}
  KeepsDepths run (here f gs) (w ∷ []) = Unit {0}
  KeepsDepths run (here f gs) (w ∷ v ∷ ws) =
      (depth_kept (shape_of (op_of f)) f w ≡ true) × KeepsDepths run (go run f gs w) (v ∷ ws)
