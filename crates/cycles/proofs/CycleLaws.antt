-- A break noted, an empty stretch, a charge as the code has it and with a callee, and an op with open text: what the functions' proofs cite.
-- Assumes nothing.
use mathlib.Core.Path.{◌≡◌, refl, sym, ap, ◌∙◌}
use mathlib.Core.Bool.{Bool, true, false}
use mathlib.Core.List.{List, []}
use mathlib.Core.Logic.{⊎_elim}
use Prim.Native.Nat.{ℕ, ◌+◌, ◌-◌, ◌^◌, ◌<◌, min}
use native.Mathlib.Omega.{arith}
use lib.Dec.{eqb}
use lib.ListN.{get_or}
use Rattle.std.specs.Prelude.{Option, Some, None, unwrap_or}
use Rattle.std.specs.Option.{option_cmp}
use Rattle.std.specs.Ordering.{ord_max, nat_cmp}
use Rattle.std.proofs.lemmas.Bool.Decides.{nat_tests}
use Rattle.rules.specs.Kinds as K
use Rattle.rules.specs.Limits.{open_text}
use Rattle.rules.specs.Outcome.{ok, no}
use Rattle.rules.specs.Reading.{extra_at}
use Rattle.rules.specs.Ops.{kind, field_a, figures_of, op_at}
use Rattle.rules.specs.Form as F
use Rattle.rules.specs.Rows.{Shape, plain, trap, returns, if_to, else_to, end_if, loop_to, end_loop, breaks, breaks_if, calls, shape_of}
use Rattle.rules.specs.Cycles as R
use Rattle.rules.specs.Cycles.{row_cost, costs}
use Rattle.rules.proofs.Callees.{none_charged, call_charged, other_charged}
use Rattle.words.specs.Chunks.{chunk_of}
use Rattle.words.specs.declared.chunk.Chunk.{Chunk}
use Rattle.words.proofs.Cases.{result}
use Rattle.rows.specs.Tree.{HasRow}
use Rattle.rows.proofs.TreeLaws.{OpensAs, tree_empty}
use Rattle.rows.proofs.Openings.{opened}
use Rattle.cycles.specs.Answers.{breaks_of, charge_at, region_cost}
use Rattle.cycles.specs.Steps.{cut}

-- the greatest of the breaks so far and of one more is that one noted
pub noted : (b : Option ℕ) (cost : ℕ) → breaks_of (ord_max (option_cmp nat_cmp) b (Some cost)) ≡ R.note_break (breaks_of b) cost
noted None cost = refl
noted (Some c) cost = grind (arith, nat_tests)

-- the costliest break, 0 where there is none
pub break_is : (b : Option ℕ) → unwrap_or b 0 ≡ R.break_cost (breaks_of b)
break_is None = refl
break_is (Some c) = refl

-- a sum or a product that stops at what 64 bits hold is cut
pub saturated : (n r : ℕ) → r ≡ min n (2 ^ 64 - 1) → r ≡ cut n
saturated n r e = omega arith

-- an empty stretch costs nothing more
pub region_end : (c : F.Chunk) (wholes : List ℕ) (start i to left cost : ℕ) (b : R.Breaks) → i ≡ to
    → ok (costs cost false b) ≡ region_cost c wholes start i to left cost b
unfolding row_cost
region_end c wholes start i to left cost b e = rw (e, tree_empty (op_at c.ops) to)

module _ (k : Chunk) (wholes : List ℕ) where
  -- the chunk in document 01
  abbrev C : F.Chunk
  C = chunk_of k

  -- a charge that the code has is the definition's without callees, cut
  pub charge_is : {P : Type 0} (i x : ℕ) → ok x ≡ charge_at k.ops.now k.extras.now i → ((d : ℕ) → R.charge_of C [] i ≡ ok d → x ≡ cut d → P) → P
  charge_is i x e f =
      result (R.charge_of C [] i) (λ d p. f d p (cc (rw p at e))) (λ n k p. absurd (let g = rw p at e in let z : ◌≡◌ {A = ℕ} 0 1 = cc in omega arith))

  -- and where the code refuses, so does the definition
  pub charge_refused : (i n p : ℕ) → no n p ≡ charge_at k.ops.now k.extras.now i → R.charge_of C [] i ≡ no n p
  charge_refused i n p e =
      result (R.charge_of C [] i) (λ d p. absurd (let f = rw p at e in let z : ◌≡◌ {A = ℕ} 0 1 = cc in omega arith)) (λ n k p. p ∙ sym (rw p at e))

  -- cycles plus extra
  abbrev own : ℕ → ℕ
  own i = (figures_of (op_at k.ops.now i)).cycles + extra_at C.extras i

  -- with callees, open text is open text
  refused_too : (i n p : ℕ) → R.charge_of C [] i ≡ no n p → R.charge_of C wholes i ≡ no n p
  refused_too i n p e = go (eqb (extra_at C.extras i) open_text) _ (own i + R.callee_whole wholes (op_at k.ops.now i)) e
    where
      go : (b : Bool) (x y : ℕ) → R.text_charge b i x ≡ no n p → R.text_charge b i y ≡ no n p
      go true x y h = h
      go false x y h = absurd (let z : ◌≡◌ {A = ℕ} 0 1 = cc in omega arith)

  -- with callees, an op that is no Call is charged as without them
  pub uncalled : (i : ℕ) → (kind (op_at k.ops.now i) ≡ K.call → ⊥) → R.charge_of C wholes i ≡ R.charge_of C [] i
  uncalled i n = rw (other_charged wholes (op_at k.ops.now i) n, none_charged (op_at k.ops.now i))

  -- with callees, a Call is charged its callee's figure more
  pub called : (i callee d : ℕ) → kind (op_at k.ops.now i) ≡ K.call → field_a (op_at k.ops.now i) ≡ callee → R.charge_of C [] i ≡ ok d
      → R.charge_of C wholes i ≡ ok (d + get_or wholes callee 0)
  called i callee d c a e =
      go (eqb (extra_at C.extras i) open_text) (own i) _ _ (none_charged (op_at k.ops.now i)) (call_charged wholes (op_at k.ops.now i) callee c a) e
    where
      go : (b : Bool) (n x y : ℕ) → x ≡ 0 → y ≡ get_or wholes callee 0 → R.text_charge b i (n + x) ≡ ok d
          → R.text_charge b i (n + y) ≡ ok (d + get_or wholes callee 0)
      go true n x y p q h = absurd (let z : ◌≡◌ {A = ℕ} 0 1 = cc in omega arith)
      go false n x y p q h = let z : n + x ≡ d = cc in ap ok (omega arith)

  module _ (start i to left cost : ℕ) (b : R.Breaks) where
    -- an op whose charge is refused refuses the row, whatever op it is
    pub region_refused : (n p : ℕ) → HasRow (op_at k.ops.now) true i to → i < to → R.charge_of C [] i ≡ no n p
        → region_cost C wholes start i to left cost b ≡ no n p
    unfolding row_cost
    region_refused n p h lt none = go (shape_of (op_at k.ops.now i)) (opened (op_at k.ops.now) true i to h lt)
      where
        e : R.charge_of C wholes i ≡ no n p
        e = refused_too i n p none

        go : (s : Shape) → OpensAs (op_at k.ops.now) true i to s → region_cost C wholes start i to left cost b ≡ no n p
        go plain o = rw (o.tree, e)
        go trap o = rw (o.tree, e)
        go returns o = rw (o.tree, e)
        go (if_to t) o = ⊎_elim (λ a. rw (a.tree, e)) (λ a. rw (a.tree, e)) o
        go (else_to f) o = absurd o
        go end_if o = absurd o
        go (loop_to t) o = rw (o.tree, e)
        go end_loop o = absurd o
        go breaks o = rw (o.behind.tree, e)
        go breaks_if o = rw (o.behind.tree, e)
        go (calls k) o = rw (o.tree, e)
