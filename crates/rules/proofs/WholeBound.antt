-- The claim `WholeBounded`: with callees run, every path through a chunk that keeps its loops' counts costs, up to the cap, at most its line's whole figure. By
-- induction along the call order: a Call's fee has room for its callee, whatever callers are behind. Assumes nothing.
use mathlib.Core.Path.{◌≡◌, refl, ap, ◌∙◌}
use mathlib.Core.Bool.{Bool, true, false}
use mathlib.Core.List.{List, [], ◌∷◌, ◌++◌, append_assoc}
use Prim.Native.Nat.{ℕ, zero, suc, ◌+◌, ◌<◌}
use native.Mathlib.Omega.{arith}
use borrow.Author.Tests.{ltb-true}
use lib.Dec.{ltb}
use lib.IntN.{pos}
use lib.ListN.{length, get_or, length-append}
use Rattle.rules.specs.Limits.{cycle_cap}
use Rattle.rules.specs.Outcome.{answer}
use Rattle.rules.specs.Form.{Chunk}
use Rattle.rules.specs.Rows.{calls, shape_of, Plain}
use Rattle.rules.specs.Order.{call_order, chunk_at, Calls, Ordered}
use Rattle.rules.specs.Sheet.{Line, no_line, Sheet, sheet_of, ring_outcome}
use Rattle.rules.specs.Paths.{Entry, Frame, range_at, moved_to, returned, go, begin, path, op_cycles}
use Rattle.rules.specs.Claims.{WholeBounded}
use Rattle.rules.proofs.Answers.{from_answer}
use Rattle.rules.proofs.Shapes.{shape_tells, by_plain}
use Rattle.rules.proofs.Callees.{call_charged}
use Rattle.rules.proofs.CallOrder.{order_sound}
use Rattle.rules.proofs.SheetLines.{LineOf, split, from_listing, sheet_lines, accepted_sheet}
use Rattle.rules.proofs.ChunkTop.{called}
use Rattle.rules.proofs.Walked.{fee_of, chunk-walked}
use Rattle.rules.proofs.Moves.{placed, op_in}
use Rattle.rules.proofs.Safe.{over_safe, settled, more}
use Rattle.rules.proofs.CyclesBound.{Kept, SafeRun, Before, ChargedAs, keeps, prices, chunk_safe, plain_passed}

module _ (cs : List Chunk) (s : Sheet) (answered : sheet_of cs ≡ answer s) where
  abbrev whole_of : ℕ → ℕ
  whole_of c = (get_or s.lines c no_line).whole

  -- from the chunk's start: its whole figure, and what follows its return
  abbrev Bounded : ℕ → Type 0
  Bounded c = (gs : List Frame) (z : ℕ) → SafeRun cs true cycle_cap (returned cs gs) z → Before cs true cycle_cap c gs z (range_at cs c).from [] (whole_of c)

  module _ (c : ℕ) (l : LineOf cs s.lines c) (callees : (k : ℕ) → Calls cs c k → Bounded k) where
    abbrev fee : ℕ → ℕ
    fee i = fee_of (chunk_at cs c) l.wholes i

    -- a Call, with its callee run
    call_passed : (k : ℕ) (gs : List Frame) (z i n : ℕ) (es : List Entry) → SafeRun cs true cycle_cap (returned cs gs) z → shape_of (op_in cs c i) ≡ calls k
        → ltb k (length cs) ≡ true → Before cs true cycle_cap c gs z (suc i) es n → Before cs true cycle_cap c gs z i es (fee i + n)
    call_passed k gs z i n es back e inside next d b =
        let w = shape_tells (op_in cs c i) (calls k) e in
        let known : Calls cs c k = (ltb-true k (length cs) inside, rw w.1 at (called (chunk_at cs c).ops i w.0)) in
        let room = call_charged l.wholes (op_in cs c i) k w.0 w.1 ∙ l.known_whole k known in
        settled cs true cycle_cap (op_cycles cs) (Kept cs) (placed c i d b es) gs (fee i + n + z)
        (λ kept v ws keep.
        let a : SafeRun cs true cycle_cap (go cs true (placed c i d b es) gs v) (whole_of k + (n + z)) =
        rw (e, inside) (callees k known (moved_to cs (suc i) es (placed c i d b es) ∷ gs) (n + z) (next _ _) (pos 0) _) in
        omega (arith, a ws keep, room)) (more cs true cycle_cap (op_cycles cs) (Kept cs) _ z _ (omega arith) back)

    passed : (gs : List Frame) (z i n : ℕ) (es : List Entry) → SafeRun cs true cycle_cap (returned cs gs) z → Plain (shape_of (op_in cs c i))
        → Before cs true cycle_cap c gs z (suc i) es n → Before cs true cycle_cap c gs z i es (fee i + n)
    passed gs z i n es back p next =
        by_plain (λ t. shape_of (op_in cs c i) ≡ t → Before cs true cycle_cap c gs z i es (fee i + n))
        (λ e. plain_passed cs true cycle_cap c fee gs z i n es back (λ d b w. rw e) (λ d b. omega arith) next)
        (λ k e. by k e (ltb k (length cs)) refl) (shape_of (op_in cs c i)) p refl
      where
        by : (k : ℕ) → shape_of (op_in cs c i) ≡ calls k → (x : Bool) → ltb k (length cs) ≡ x → Before cs true cycle_cap c gs z i es (fee i + n)
        by k e true inside = call_passed k gs z i n es back e inside next
        by k e false outside = plain_passed cs true cycle_cap c fee gs z i n es back (λ d b w. rw (e, outside)) (λ d b. omega arith) next

    whole_charged : ChargedAs cs true cycle_cap fee c
    whole_charged =
        record {
          own = λ i d b es. omega arith;
          passed = passed;
          header = λ p n k. k.0;
          limit = λ i d b e es n kept reach k. kept reach n k.1;
        }

    line_bounded : Bounded c
    line_bounded gs z back d b ways keep =
        let walked = chunk-walked (chunk_at cs c) l.wholes l.row l.full l.charged in
        let safe = chunk_safe cs true cycle_cap fee c l.row l.full l.is_row walked whole_charged gs z back d b ways keep in
        let figure = ap (λ (x : Line). x.whole) l.line in
        omega (arith, safe, figure)

  -- along the call order: at most n chunks stand before c
  along : (order : List ℕ) → Ordered cs order → (n : ℕ) (xs ys : List ℕ) (c : ℕ) → order ≡ xs ++ (c ∷ ys) → length xs < n → c < length cs → Bounded c
  along order good zero xs ys c place lt h = absurd (omega arith)
  along order good (suc n) xs ys c place lt h =
      line_bounded c (sheet_lines cs s answered c h) (λ k known.
      let (us, vs, e) = split k xs (good.behind xs ys c k place known) in
      let size = ap (λ (x : List ℕ). length x) e ∙ length-append us (k ∷ vs) in
      along order good n us (vs ++ (c ∷ ys)) k (place ∙ ap (λ (x : List ℕ). x ++ (c ∷ ys)) e ∙ append_assoc us (k ∷ vs) (c ∷ ys)) (omega (arith, size)) known.0)

  every-chunk : (c : ℕ) → c < length cs → Bounded c
  every-chunk c h =
      let a = from_answer (ring_outcome (call_order cs)) _ answered in
      let good = order_sound cs a.0 (from_listing (call_order cs) a.1) in
      let (us, vs, e) = split c a.0 (good.every c h) in
      along a.0 good (suc (length us)) us vs c e (omega arith) h

pub whole_bounded : WholeBounded
whole_bounded words room cs s accepted c lt ways kept =
    let safe = every-chunk cs s (accepted_sheet accepted) c lt [] 0 (over_safe cs true cycle_cap (op_cycles cs) (Kept cs) 0) (pos 0) (pos 0) in
    omega (arith, prices cs (path cs true (begin cs c) ways), safe ways (keeps cs true cycle_cap (begin cs c) ways kept))
