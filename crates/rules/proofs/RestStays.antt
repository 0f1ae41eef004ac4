-- Requests 2.1 and 2.5 leave the rest of the sheet as it was: the refusals, the order, and of each line the cycles, peak and bytes are those of document 01's
-- sheet, which works out no whole figure, has no mark, and whose sums and products all stop at the cap. Counts are those of 2.7, and 2.8's refusal is in both.
-- Assumes nothing.
use mathlib.Core.Path.{◌≡◌, refl, sym, ap, ◌∙◌}
use mathlib.Core.List.{List, [], ◌∷◌, map}
use mathlib.Core.Logic.{inl, inr}
use Prim.Native.Nat.{ℕ}
use native.Mathlib.Omega.{arith}
use lib.ListN.{length, set, replicate}
use Rattle.rules.specs.Limits.{cycle_cap}
use Rattle.rules.specs.Outcome.{Result, ok, no, Outcome, answer, refused, and_then, followed_by, in_chunk}
use Rattle.rules.specs.Form.{Chunk}
use Rattle.rules.specs.Rows.{Row, chunk_row}
use Rattle.rules.specs.Cycles.{Cost, exact_cost, capped_cost, cycles_of, row_cycles}
use Rattle.rules.specs.Stack.{Stack, row_stack}
use Rattle.rules.specs.Order.{call_order, chunk_at}
use Rattle.rules.specs.Sheet.{Line, line_of, chunk_line, no_line, bytes_list, whole_list, lines_in, Sheet, sheet_of, ring_outcome}
use Rattle.rules.proofs.Mapped.{map_alike, map-set}
use Rattle.rules.proofs.Capped.{cap_cost, cap_result, chunk_capped}
use Rattle.rules.proofs.Below.{Below, never, LessCost}
use Rattle.rules.proofs.Callees.{callees_add}

-- a line, the lines and the sheet of document 01, without whole figures and marks
pub record BaseLine : Type 0 where
  pub cycles : ℕ
  pub peak : ℕ
  pub bytes : ℕ

abbrev base_of : Cost → Stack → BaseLine
base_of k s = record { cycles = k.cycles; peak = s.peak; bytes = s.bytes }

abbrev pub line_without : Chunk → List ℕ → Result BaseLine
line_without c callees = and_then (chunk_row c) (λ r. and_then (capped_cost cycle_cap c [] r) (λ k. and_then (row_stack c callees r) (λ s. ok (base_of k s))))

unfoldable pub lines_without : List ℕ → List Chunk → List BaseLine → Outcome (List BaseLine)
lines_without [] cs lines = answer lines
lines_without (c ∷ order) cs lines =
    followed_by (in_chunk c (line_without (chunk_at cs c) (map (λ l. l.bytes) lines))) (λ l. lines_without order cs (set lines c l))

pub record BaseSheet : Type 0 where
  pub order : List ℕ
  pub lines : List BaseLine

abbrev pub sheet_without : List Chunk → Outcome BaseSheet
sheet_without cs =
    followed_by (ring_outcome (call_order cs))
    (λ order. followed_by (lines_without order cs (replicate (length cs) (record { cycles = 0; peak = 0; bytes = 0 })))
    (λ lines. answer (record { order = order; lines = lines })))

-- what stays of a line, and of a sheet
abbrev pub rest : Line → BaseLine
rest l = record { cycles = l.cycles; peak = l.peak; bytes = l.bytes }

abbrev pub rest_of : Sheet → BaseSheet
rest_of s = record { order = s.order; lines = map rest s.lines }

line_stays : (c : Chunk) (callees wholes : List ℕ) → and_then (chunk_line c callees wholes) (λ l. ok (rest l)) ≡ line_without c callees
line_stays c callees wholes = by_row (chunk_row c)
  where
    by_stack : (k w : Cost) (x : Result Stack)
        → and_then (and_then x (λ s. ok (line_of (cycles_of k) (cycles_of w) s))) (λ l. ok (rest l)) ≡ and_then x (λ s. ok (base_of (cap_cost cycle_cap k) s))
    by_stack k w (ok s) = refl
    by_stack k w (no n p) = refl

    by_walks : (y : Result Stack) (x w : Result Cost) → Below never LessCost x w
        → and_then (and_then (and_then x (λ k. ok (cycles_of k))) (λ k. and_then (and_then w (λ f. ok (cycles_of f))) (λ f. and_then y (λ s. ok (line_of k f s)))))
        (λ l. ok (rest l))
        ≡ and_then (cap_result cycle_cap x) (λ k. and_then y (λ s. ok (base_of k s)))
    by_walks y (ok k) (ok w) h = by_stack k w y
    by_walks y (ok k) (no n p) (inl e) = absurd (let z : ◌≡◌ {A = ℕ} 0 1 = cc in omega arith)
    by_walks y (ok k) (no n p) (inr s) = absurd s
    by_walks y (no n p) w h = refl

    by_row : (x : Result Row)
        → and_then (and_then x (λ r. and_then (row_cycles c [] r) (λ k. and_then (row_cycles c wholes r)
        (λ w. and_then (row_stack c callees r) (λ s. ok (line_of k w s)))))) (λ l. ok (rest l))
        ≡ and_then x (λ r. and_then (capped_cost cycle_cap c [] r) (λ k. and_then (row_stack c callees r) (λ s. ok (base_of k s))))
    by_row (ok r) =
        rw (chunk_capped cycle_cap c [] r) (by_walks (row_stack c callees r) (exact_cost c [] r) (exact_cost c wholes r) (callees_add c wholes r))
    by_row (no n p) = refl

rest_bytes : (ls : List Line) → map (λ (m : BaseLine). m.bytes) (map rest ls) ≡ bytes_list ls
rest_bytes [] = refl
rest_bytes (x ∷ ls) = ap (λ (bs : List ℕ). x.bytes ∷ bs) (rest_bytes ls)

module _ (cs : List Chunk) where
  lines_stay : (order : List ℕ) (ls : List Line) → followed_by (lines_in order cs ls) (λ ms. answer (map rest ms)) ≡ lines_without order cs (map rest ls)
  unfolding lines_in lines_without
  lines_stay [] ls = refl
  lines_stay (c ∷ order) ls =
      by_line (chunk_line (chunk_at cs c) (bytes_list ls) (whole_list ls))
      (line_stays (chunk_at cs c) (bytes_list ls) (whole_list ls) ∙ ap (λ (bs : List ℕ). line_without (chunk_at cs c) bs) (sym (rest_bytes ls)))
      (λ l. lines_stay order (set ls c l) ∙ ap (λ (ms : List BaseLine). lines_without order cs ms) (map-set rest ls c l))
    where
      by_line : (x : Result Line) → and_then x (λ l. ok (rest l)) ≡ line_without (chunk_at cs c) (map (λ m. m.bytes) (map rest ls))
          → ((l : Line) → followed_by (lines_in order cs (set ls c l)) (λ ms. answer (map rest ms)) ≡ lines_without order cs (set (map rest ls) c (rest l)))
          → followed_by (followed_by (in_chunk c x) (λ l. lines_in order cs (set ls c l))) (λ ms. answer (map rest ms))
          ≡ followed_by (in_chunk c (line_without (chunk_at cs c) (map (λ m. m.bytes) (map rest ls)))) (λ l. lines_without order cs (set (map rest ls) c l))
      by_line (ok l) e next = rw (← e) (next l)
      by_line (no n p) e next = rw (← e)

  pub sheet_stays : followed_by (sheet_of cs) (λ s. answer (rest_of s)) ≡ sheet_without cs
  sheet_stays = by_order (ring_outcome (call_order cs))
    where
      by_lines : (order : List ℕ) (x : Outcome (List Line))
          → followed_by (followed_by x (λ ls. answer (record { order = order; lines = ls }))) (λ s. answer (rest_of s))
          ≡ followed_by (followed_by x (λ ls. answer (map rest ls))) (λ ms. answer (record { order = order; lines = ms }))
      by_lines order (answer ls) = refl
      by_lines order (refused n c p) = refl

      by_order : (x : Outcome (List ℕ))
          → followed_by (followed_by x (λ order. followed_by (lines_in order cs (replicate (length cs) no_line))
          (λ lines. answer (record { order = order; lines = lines })))) (λ s. answer (rest_of s))
          ≡ followed_by x (λ order. followed_by (lines_without order cs (replicate (length cs) (rest no_line)))
          (λ lines. answer (record { order = order; lines = lines })))
      by_order (answer order) =
          by_lines order (lines_in order cs (replicate (length cs) no_line))
          ∙ ap (λ (x : Outcome (List BaseLine)). followed_by x (λ ms. answer (record { order = order; lines = ms })))
          (lines_stay order (replicate (length cs) no_line) ∙ ap (λ (ms : List BaseLine). lines_without order cs ms) (map_alike rest (length cs) no_line))
      by_order (refused n c p) = refl
