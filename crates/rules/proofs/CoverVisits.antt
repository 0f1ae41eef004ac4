-- What the walk of request 2.9 tells of a row, as its visit by paths that pass certain ops only, for any flags that count: where no block lies deeper than the
-- walk looks, such a path comes to the row's end only if the answer has a flag that counts, and out by a break only if the breaks have one. Assumes nothing.
use mathlib.Core.Path.{◌≡◌, refl}
use mathlib.Core.Bool.{Bool, ◌&&◌, ◌||◌}
use mathlib.Core.Logic.{◌⊎◌, inl, inr}
use Prim.Native.Nat.{ℕ, zero, suc, ◌≤◌}
use native.Mathlib.Omega.{arith}
use Rattle.rules.specs.Rows.{Row, end, step, stop, leave, leave_if, if_then, if_else, loop}
use Rattle.rules.specs.Yields.{Coverage, reached, never, Noted, no_break, all_yielded, note_flag, Cover, inner_cover, after_arm, after_arms, unless_never}
use Rattle.rules.specs.Yields.{after_loop, row_cover, depth_of}
use Rattle.rules.proofs.Visits.{Visits}

-- The positions that give up the turn. A flag counts if one of two that it was made of does, and behind an op that is passed.
module _ (gives : ℕ → Bool) (Counts : Bool → Type 0) (Passes : ℕ → Type 0) (one : (a b : Bool) → Counts a → Counts (a && b))
    (other_one : (a b : Bool) → Counts b → Counts (a && b)) (goes_on : (y : Bool) (i : ℕ) → Counts y → Passes i → Counts (y || gives i)) where
  -- the end is reached, or a break was met, with a flag that counts
  abbrev Ended : Coverage → Type 0
  Ended (reached y) = Counts y
  Ended never = ⊥

  abbrev Broken : Noted → Type 0
  Broken no_break = ⊥
  Broken (all_yielded y) = Counts y

  noted : (b : Noted) (y : Bool) → Counts y → Broken (note_flag b y)
  noted no_break y h = h
  noted (all_yielded a) y h = other_one a y h

  -- a break that was met stays so
  kept : (b : Noted) (y : Bool) → Broken b → Broken (note_flag b y)
  kept no_break y m = absurd m
  kept (all_yielded a) y m = one a y m

  inner_kept : (left : ℕ) (b : Noted) (walk : ℕ → Cover) → ((l : ℕ) → Broken (walk l).breaks) → Broken b → Broken (inner_cover left b walk).breaks
  inner_kept zero b walk more m = m
  inner_kept (suc left) b walk more m = more left

  arms_kept : (k : Coverage) (b : Noted) (rest : Bool → Cover) → ((z : Bool) → Broken (rest z).breaks) → Broken b → Broken (unless_never k b rest).breaks
  arms_kept (reached z) b rest more m = more z
  arms_kept never b rest more m = m

  loop_kept : (n b : Noted) (rest : Bool → Cover) → ((z : Bool) → Broken (rest z).breaks) → Broken b → Broken (after_loop n b rest).breaks
  loop_kept no_break b rest more m = m
  loop_kept (all_yielded z) b rest more m = more z

  row_kept : (r : Row) (left : ℕ) (y : Bool) (b : Noted) → Broken b → Broken (row_cover gives r left y b).breaks
  unfolding row_cover
  row_kept end left y b m = m
  row_kept (step i r) left y b m = row_kept r left (y || gives i) b m
  row_kept (stop i r) left y b m = row_kept r left y b m
  row_kept (leave i r) left y b m = kept b y m
  row_kept (leave_if i r) left y b m = row_kept r left y (note_flag b y) (kept b y m)
  row_kept (if_then i t p r) left y b m =
      let walk : ℕ → Cover = λ l. row_cover gives p l y b in
      let arm = inner_cover left b walk in
      row_kept r left (after_arm arm.coverage y) arm.breaks (inner_kept left b walk (λ l. row_kept p l y b m) m)
  row_kept (if_else i e t p q r) left y b m =
      let first : ℕ → Cover = λ l. row_cover gives p l y b in
      let arm = inner_cover left b first in
      let second : ℕ → Cover = λ l. row_cover gives q l y arm.breaks in
      let other = inner_cover left arm.breaks second in
      let rest : Bool → Cover = λ z. row_cover gives r left z other.breaks in
      let n = inner_kept left b first (λ l. row_kept p l y b m) m in
      let o = inner_kept left arm.breaks second (λ l. row_kept q l y arm.breaks n) n in
      arms_kept (after_arms arm.coverage other.coverage) other.breaks rest (λ z. row_kept r left z other.breaks o) o
  row_kept (loop i e p r) left y b m =
      let body = inner_cover left no_break (λ l. row_cover gives p l y no_break) in
      let rest : Bool → Cover = λ z. row_cover gives r left z b in
      loop_kept body.breaks b rest (λ z. row_kept r left z b m) m

  -- behind an arm, behind both arms, and behind a loop: with a flag that counts
  past_arm : (k : Coverage) (y : Bool) → Counts y → Counts (after_arm k y)
  past_arm (reached a) y h = other_one a y h
  past_arm never y h = h

  abbrev Rest : Cover → (Bool → Cover) → Type 0
  Rest k rest = (z : Bool) × Counts z × (k ≡ rest z)

  past_arms : (j k : Coverage) (b : Noted) (rest : Bool → Cover) → Ended j ⊎ Ended k → Rest (unless_never (after_arms j k) b rest) rest
  past_arms (reached x) (reached y) b rest (inl h) = (x && y, one x y h, refl)
  past_arms (reached x) (reached y) b rest (inr h) = (x && y, other_one x y h, refl)
  past_arms (reached x) never b rest (inl h) = (x, h, refl)
  past_arms (reached x) never b rest (inr h) = absurd h
  past_arms never (reached y) b rest (inl h) = absurd h
  past_arms never (reached y) b rest (inr h) = (y, h, refl)
  past_arms never never b rest (inl h) = absurd h
  past_arms never never b rest (inr h) = absurd h

  past_loop : (n b : Noted) (rest : Bool → Cover) → Broken n → Rest (after_loop n b rest) rest
  past_loop no_break b rest m = absurd m
  past_loop (all_yielded z) b rest m = (z, m, refl)

  -- the visit: A holds at the row's end, and B behind its breaks
  abbrev Seen : Type 0 → Type 0 → Row → Type 0
  Seen A B r = Visits (λ i. Unit {0}) Passes A B r

  pub seen : (r : Row) (left : ℕ) (y : Bool) (b : Noted) (A B : Type 0) → Counts y → depth_of r ≤ left
      → (Ended (row_cover gives r left y b).coverage → A) → (Broken (row_cover gives r left y b).breaks → B) → Seen A B r
  unfolding row_cover depth_of
  seen end left y b A B h d a o = a h
  seen (step i r) left y b A B h d a o = λ passes. seen r left (y || gives i) b A B (goes_on y i h passes) d a o
  seen (stop i r) left y b A B h d a o = tt
  seen (leave i r) left y b A B h d a o = o (noted b y h)
  seen (leave_if i r) left y b A B h d a o =
      (o (row_kept r left y (note_flag b y) (noted b y h)), seen r left y (note_flag b y) A B h d a o)
  seen (if_then i t p r) zero y b A B h d a o = absurd (omega arith)
  seen (if_then i t p r) (suc left) y b A B h d a o =
      let arm = row_cover gives p left y b in
      let z = after_arm arm.coverage y in
      let rest = seen r (suc left) z arm.breaks A B (past_arm arm.coverage y h) (omega arith) a o in
      (seen p left y b (Seen A B r) B h (omega arith) (λ e. rest) (λ m. o (row_kept r (suc left) z arm.breaks m)), rest)
  seen (if_else i e t p q r) zero y b A B h d a o = absurd (omega arith)
  seen (if_else i e t p q r) (suc left) y b A B h d a o =
      let arm = row_cover gives p left y b in
      let other = row_cover gives q left y arm.breaks in
      let rest : Bool → Cover = λ z. row_cover gives r (suc left) z other.breaks in
      let behind : Ended arm.coverage ⊎ Ended other.coverage → Seen A B r = λ e.
      let (z, n, same) = past_arms arm.coverage other.coverage other.breaks rest e in
      seen r (suc left) z other.breaks A B n (omega arith) (rw same at a) (rw same at o) in
      let out : Broken other.breaks → B = λ m.
      o (arms_kept (after_arms arm.coverage other.coverage) other.breaks rest (λ z. row_kept r (suc left) z other.breaks m) m) in (
        seen p left y b (Seen A B r) B h (omega arith) (λ e. behind (inl e)) (λ m. out (row_kept q left y arm.breaks m)),
        seen q left y arm.breaks (Seen A B r) B h (omega arith) (λ e. behind (inr e)) out,
      )
  seen (loop i e p r) zero y b A B h d a o = absurd (omega arith)
  seen (loop i e p r) (suc left) y b A B h d a o =
      let body = row_cover gives p left y no_break in
      let rest : Bool → Cover = λ z. row_cover gives r (suc left) z b in
      let behind : Broken body.breaks → Seen A B r = λ m.
      let (z, n, same) = past_loop body.breaks b rest m in
      seen r (suc left) z b A B n (omega arith) (rw same at a) (rw same at o) in
      (tt, seen p left y no_break (Unit {0}) (Seen A B r) h (omega arith) (λ e. tt) behind)
