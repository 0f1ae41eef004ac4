-- The lines of an answered sheet: each was worked out over the final lines of the chunks that its chunk calls. Assumes nothing.
use mathlib.Core.Path.{◌≡◌, refl, sym, ap, ◌∙◌}
use mathlib.Core.Bool.{Bool, true, false}
use mathlib.Core.List.{List, [], ◌∷◌, ◌++◌}
use mathlib.Core.Logic.{⊎_elim}
use Prim.Native.Nat.{ℕ, ◌*◌, ◌≤◌, ◌<◌}
use native.Mathlib.Omega.{arith}
use lib.Dec.{leb}
use lib.ListN.{length, get_or, set, replicate, length-set, length-replicate, get_or-eq_default, get_or-map}
use lib.Seq.{get_or-set_same, get_or-set_other}
use Rattle.rules.specs.Outcome.{ok, answer, followed_by, in_chunk, demand}
use Rattle.rules.specs.Form.{Chunk}
use Rattle.rules.specs.Rows.{Row, chunk_row}
use Rattle.rules.specs.Cycles.{Cost, exact_cost, cycles_of, row_cycles}
use Rattle.rules.specs.Stack.{Stack, row_stack}
use Rattle.rules.specs.Order.{Listing, listed, ring, call_order, chunk_at, member, Calls, Distinct}
use Rattle.rules.specs.Sheet.{line_width, Line, line_of, chunk_line, no_line, bytes_list, whole_list, lines_in, Sheet, sheet_of, ring_outcome}
use Rattle.rules.specs.Claims.{Accepted}
use Rattle.rules.proofs.Answers.{from_ok, from_answer, from_chunk}
use Rattle.rules.proofs.Members.{In, none, apart, not-nil, in_cons, in_head, in_tail, in_behind}
use Rattle.rules.proofs.CallOrder.{order_sound}

-- The line of chunk c: its row, what the two walks answered, and the callee list that the stack walk read.
pub record LineOf (cs : List Chunk) (lines : List Line) (c : ℕ) : Type 0 where
  pub row : Row
  pub is_row : chunk_row (chunk_at cs c) ≡ ok row
  pub cost : Cost
  pub walked : exact_cost (chunk_at cs c) [] row ≡ ok cost
  pub wholes : List ℕ
  pub full : Cost
  pub charged : exact_cost (chunk_at cs c) wholes row ≡ ok full
  pub callees : List ℕ
  pub stack : Stack
  pub climbed : row_stack (chunk_at cs c) callees row ≡ ok stack
  pub line : get_or lines c no_line ≡ line_of (cycles_of cost) (cycles_of full) stack
  pub known : (k : ℕ) → Calls cs c k → get_or callees k 0 ≡ (get_or lines k no_line).bytes
  pub outside : (k : ℕ) → length cs ≤ k → get_or callees k 0 ≡ 0
  pub known_whole : (k : ℕ) → Calls cs c k → get_or wholes k 0 ≡ (get_or lines k no_line).whole

-- a member's place in a list
pub split : (c : ℕ) (xs : List ℕ) → In c xs → (ys : List ℕ) × (zs : List ℕ) × (xs ≡ ys ++ (c ∷ zs))
split c [] h = absurd (not-nil c h)
split c (x ∷ xs) h =
    ⊎_elim (λ e. ([], xs, cc)) (λ m. let s = split c xs m in (x ∷ s.0, s.1, ap (λ (l : List ℕ). x ∷ l) s.2)) (in_cons c x xs h)

-- different numbers: none before a place stands again behind it
once_only : (xs ys : List ℕ) → Distinct (xs ++ ys) → (k : ℕ) → In k xs → member k ys ≡ false
once_only [] ys d k h = absurd (not-nil k h)
once_only (x ∷ xs) ys d k h =
    ⊎_elim (λ e. none k ys (λ m. apart x (xs ++ ys) d.0 (in_behind x xs ys (rw e at m)))) (λ m. once_only xs ys d.1 k m) (in_cons k x xs h)

distinct_behind : (xs ys : List ℕ) → Distinct (xs ++ ys) → Distinct ys
distinct_behind [] ys d = d
distinct_behind (x ∷ xs) ys d = distinct_behind xs ys d.1

module _ (cs : List Chunk) (final : List Line) where
  -- the first chunk's line, and the lines behind it
  first_line : (c : ℕ) (order : List ℕ) (lines : List Line) → lines_in (c ∷ order) cs lines ≡ answer final
      → (l : Line) × (chunk_line (chunk_at cs c) (bytes_list lines) (whole_list lines) ≡ ok l) × (lines_in order cs (set lines c l) ≡ answer final)
  unfolding lines_in
  first_line c order lines e =
      let a = from_answer (in_chunk c (chunk_line (chunk_at cs c) (bytes_list lines) (whole_list lines))) (λ l. lines_in order cs (set lines c l)) e in
      (a.0, from_chunk c (chunk_line (chunk_at cs c) (bytes_list lines) (whole_list lines)) a.1, a.2)

  -- the lines when the first chunks of an order are done
  lines_between : (xs ys : List ℕ) (lines : List Line) → lines_in (xs ++ ys) cs lines ≡ answer final
      → (mid : List Line) × (length mid ≡ length lines) × (lines_in ys cs mid ≡ answer final)
  lines_between [] ys lines e = (lines, refl, e)
  lines_between (x ∷ xs) ys lines e =
      let a = first_line x (xs ++ ys) lines e in
      let b = lines_between xs ys (set lines x a.0) a.2 in
      (b.0, b.1 ∙ simp length-set, b.2)

  -- a chunk that is no more in the order keeps its line
  line_kept : (order : List ℕ) (lines : List Line) (k : ℕ) → lines_in order cs lines ≡ answer final → member k order ≡ false
      → get_or final k no_line ≡ get_or lines k no_line
  unfolding lines_in
  line_kept [] lines k e m = let same : final ≡ lines = cc in rw same
  line_kept (c ∷ order) lines k e m =
      let a = first_line c order lines e in
      let rest = line_kept order (set lines c a.0) k a.2 (none k order (λ h. apart k (c ∷ order) m (in_tail k c order h))) in
      rest ∙ get_or-set_other lines c k a.0 no_line (λ s. apart k (c ∷ order) m (in_head k c order s))

  -- so each chunk's line was worked out over lines that are final for the chunks before it
  line_final : (xs ys : List ℕ) (c : ℕ) (lines : List Line) → Distinct (xs ++ (c ∷ ys)) → c < length lines → lines_in (xs ++ (c ∷ ys)) cs lines ≡ answer final
      → (mid : List Line) × (length mid ≡ length lines) × (chunk_line (chunk_at cs c) (bytes_list mid) (whole_list mid) ≡ ok (get_or final c no_line))
      × ((k : ℕ) → In k xs → get_or mid k no_line ≡ get_or final k no_line)
  line_final xs ys c lines d lt e =
      let a = lines_between xs (c ∷ ys) lines e in
      let b = first_line c ys a.0 a.2 in
      let missing = (distinct_behind xs (c ∷ ys) d).0 in
      let here : get_or final c no_line ≡ b.0 = line_kept ys (set a.0 c b.0) c b.2 missing ∙ get_or-set_same a.0 c b.0 no_line (omega arith) in
      (a.0, a.1, rw here b.1, λ k h. sym (line_kept (c ∷ ys) a.0 k a.2 (once_only xs (c ∷ ys) d k h)))

-- the steps of a chunk's line
line_parts : (cs : List Chunk) (lines mid : List Line) (c : ℕ) → length mid ≡ length cs → chunk_line (chunk_at cs c) (bytes_list mid) (whole_list mid) ≡ ok (get_or lines c no_line)
    → ((k : ℕ) → Calls cs c k → get_or mid k no_line ≡ get_or lines k no_line) → LineOf cs lines c
line_parts cs lines mid c size e same =
    let a = from_ok (chunk_row (chunk_at cs c)) _ e in
    let b = from_ok (row_cycles (chunk_at cs c) [] a.0) _ a.2 in
    let w = from_ok (row_cycles (chunk_at cs c) (whole_list mid) a.0) _ b.2 in
    let s = from_ok (row_stack (chunk_at cs c) (bytes_list mid) a.0) _ w.2 in
    let k = from_ok (exact_cost (chunk_at cs c) [] a.0) _ b.1 in
    let f = from_ok (exact_cost (chunk_at cs c) (whole_list mid) a.0) _ w.1 in
    record {
      row = a.0;
      is_row = a.1;
      cost = k.0;
      walked = k.1;
      wholes = whole_list mid;
      full = f.0;
      charged = f.1;
      callees = bytes_list mid;
      stack = s.0;
      climbed = s.1;
      line = cc (s.2, k.2, f.2);
      known = λ k calls. get_or-map (λ (l : Line). l.bytes) mid k no_line ∙ ap (λ (l : Line). l.bytes) (same k calls);
      outside = λ k h. get_or-map (λ (l : Line). l.bytes) mid k no_line
          ∙ ap (λ (l : Line). l.bytes) (get_or-eq_default mid no_line (omega arith));
      known_whole = λ k calls. get_or-map (λ (l : Line). l.whole) mid k no_line ∙ ap (λ (l : Line). l.whole) (same k calls);
    }

pub from_listing : (p : Listing) {order : List ℕ} → ring_outcome p ≡ answer order → p ≡ listed order
from_listing (listed order) e = cc
from_listing (ring c) e = absurd (let z : ◌≡◌ {A = ℕ} 0 1 = cc in omega arith)

pub sheet_lines : (cs : List Chunk) (s : Sheet) → sheet_of cs ≡ answer s → (c : ℕ) → c < length cs → LineOf cs s.lines c
sheet_lines cs s e c lt =
    let a = from_answer (ring_outcome (call_order cs)) _ e in
    let b = from_answer (lines_in a.0 cs (replicate (length cs) no_line)) _ a.2 in
    let good = order_sound cs a.0 (from_listing (call_order cs) a.1) in
    let place = split c a.0 (good.every c lt) in
    let size = length-replicate (length cs) no_line in
    let final : b.0 ≡ s.lines = cc b.2 in
    let w : lines_in (place.0 ++ (c ∷ place.1)) cs (replicate (length cs) no_line) ≡ answer s.lines = rw (← place.2) (b.1 ∙ ap answer final) in
    let f = line_final cs s.lines place.0 place.1 c (replicate (length cs) no_line) (rw place.2 at good.once) (omega arith) w in
    line_parts cs s.lines f.0 c (omega (arith, f.1)) f.2 (λ k calls. f.3 k (good.behind place.0 place.1 c k place.2 calls))

pub accepted_sheet : {words : List ℕ} {room : ℕ} {cs : List Chunk} {s : Sheet} → Accepted words room cs s → sheet_of cs ≡ answer s
accepted_sheet {words} {room} {cs} {s} a = go (leb (line_width * length cs) room) (rw a.reads at a.answers)
  where
    go : (b : Bool) → followed_by (in_chunk 0 (demand b 13 0 cs)) (λ ds. sheet_of ds) ≡ answer s → sheet_of cs ≡ answer s
    go true e = e
    go false e = absurd (let z : ◌≡◌ {A = ℕ} 0 1 = cc in omega arith)
