-- What charging the callees changes of a chunk's walk: it refuses where the walk without them does and nowhere else, ends where that does, and its figure
-- is at least that one's; where no Call is charged for a callee it is the same. Assumes nothing.
use mathlib.Core.Path.{◌≡◌, refl, ap, fun_ext}
use mathlib.Core.Bool.{Bool, true, false, cond}
use mathlib.Core.List.{List, []}
use mathlib.Core.Logic.{inl}
use Prim.Native.Nat.{ℕ, ◌+◌, ◌<◌, ◌≤◌}
use native.Mathlib.Omega.{arith}
use borrow.Author.Tests.{ne_eqb}
use lib.Dec.{eqb}
use lib.ListN.{length, get_or}
use Rattle.rules.specs.Kinds as K
use Rattle.rules.specs.Limits.{deepest, open_text}
use Rattle.rules.specs.Outcome.{Result, ok, answer}
use Rattle.rules.specs.Ops.{kind, field_a, figures_of, op_at}
use Rattle.rules.specs.Form.{Chunk}
use Rattle.rules.specs.Reading.{extra_at}
use Rattle.rules.specs.Rows.{Row}
use Rattle.rules.specs.Sure.{sure_count_of}
use Rattle.rules.specs.Cycles.{unbroken, text_charge, callee_whole, charge_of, row_cost, exact_cost}
use Rattle.rules.specs.Order.{chunk_at}
use Rattle.rules.specs.Sheet.{no_line, Sheet, sheet_of}
use Rattle.rules.proofs.Below.{Below, never, less_n, LessCost, same_below, walk_below}
use Rattle.rules.proofs.SheetLines.{sheet_lines}

-- an empty list charges nothing
pub none_charged : (w : ℕ) → callee_whole [] w ≡ 0
none_charged w = go (eqb (kind w) K.call)
  where
    go : (b : Bool) → cond {A = ℕ} b (get_or [] (field_a w) 0) 0 ≡ 0
    go true = refl
    go false = refl

-- a Call is charged its callee's figure, any other op none
pub call_charged : (wholes : List ℕ) (w k : ℕ) → kind w ≡ K.call → field_a w ≡ k → callee_whole wholes w ≡ get_or wholes k 0
call_charged wholes w k e same = simp (e, same)

pub other_charged : (wholes : List ℕ) (w : ℕ) → (kind w ≡ K.call → ⊥) → callee_whole wholes w ≡ 0
other_charged wholes w n = rw (ne_eqb (kind w) K.call n)

module _ (c : Chunk) (wholes : List ℕ) where
  charge_below : (i : ℕ) → Below never less_n (charge_of c [] i) (charge_of c wholes i)
  charge_below i = go (eqb (extra_at c.extras i) open_text)
    where
      own : ℕ
      own = (figures_of (op_at c.ops i)).cycles + extra_at c.extras i

      go : (b : Bool) → Below never less_n (text_charge b i (own + callee_whole [] (op_at c.ops i))) (text_charge b i (own + callee_whole wholes (op_at c.ops i)))
      go true = inl refl
      go false = omega (arith, none_charged (op_at c.ops i))

  pub callees_add : (r : Row) → Below never LessCost (exact_cost c [] r) (exact_cost c wholes r)
  callees_add r =
      walk_below never (charge_of c []) (charge_of c wholes) (sure_count_of c r) (sure_count_of c r) charge_below
      (λ p. same_below never less_n (λ n. omega arith) (sure_count_of c r p)) r deepest 0 0 unbroken unbroken (omega arith) tt

  -- where no op is charged for a callee
  pub callees_free : ((i : ℕ) → callee_whole wholes (op_at c.ops i) ≡ 0) → (r : Row) → exact_cost c wholes r ≡ exact_cost c [] r
  callees_free free r =
      ap (λ (f : ℕ → Result ℕ). row_cost (λ n. n) f (sure_count_of c r) r deepest 0 unbroken)
      (fun_ext same)
    where
      same : (i : ℕ) → charge_of c wholes i ≡ charge_of c [] i
      same i = rw (free i, none_charged (op_at c.ops i))

-- of an accepted module's lines: the cycles are at most the whole figure
pub cycles_in_whole : (cs : List Chunk) (s : Sheet) → sheet_of cs ≡ answer s → (c : ℕ) → c < length cs → (get_or s.lines c no_line).cycles ≤ (get_or s.lines c no_line).whole
cycles_in_whole cs s e c lt =
    let l = sheet_lines cs s e c lt in
    let less : Below never LessCost (ok l.cost) (ok l.full) = rw (l.walked, l.charged) at (callees_add (chunk_at cs c) l.wholes l.row) in
    rw l.line (omega (arith, less.0))
