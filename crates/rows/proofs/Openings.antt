-- How a row that is not empty opens: by the shape of its first op, what the walks cite, and by the words that the code reads, what `block_at` cites.
-- Assumes nothing.
use mathlib.Core.Path.{◌≡◌, refl, subst}
use mathlib.Core.Bool.{Bool, true}
use mathlib.Core.List.{List}
use mathlib.Core.Logic.{◌⊎◌, inl, inr}
use Prim.Native.Nat.{ℕ, ◌-◌, ◌<◌, ◌≤◌}
use native.Mathlib.Omega.{arith}
use borrow.Author.Tests.{eqb-true, eqb-false}
use lib.ListN.{length, get_or}
use Rattle.rules.specs.Kinds as K
use Rattle.rules.specs.Ops.{kind, field_a, op_at}
use Rattle.rules.specs.Rows.{Shape, trap, returns, if_to, loop_to, breaks, breaks_if, calls, shape_of}
use Rattle.rules.proofs.Shapes.{by_kind}
use Rattle.words.proofs.OpLaws.{read_op}
use Rattle.rows.specs.Tree.{HasRow}
use Rattle.rows.specs.Opens.{IfAt, ElseAt, Opens, StepFits}
use Rattle.rows.specs.declared.block.Block.TheVariants.{Plain, Call, Ends, Break, BreakIf, If, IfElse, Loop}
use Rattle.rows.proofs.TreeLaws.{OpensAs, opens}

module _ (op : ℕ → ℕ) (l : Bool) (i to : ℕ) (h : HasRow op l i to) (lt : i < to) where
  -- a row that is not empty opens by the shape of its first op
  pub opened : OpensAs op l i to (shape_of (op i))
  opened = opens op l i to h.0 h.1 lt

  -- the same, where the shape is known
  pub shaped : (s : Shape) → shape_of (op i) ≡ s → OpensAs op l i to s
  shaped s e = subst (OpensAs op l i to) e opened

module _ {ops : List ℕ} {i to : ℕ} (s : StepFits ops i to) where
  -- the word that the code reads at i
  abbrev word : ℕ
  word = get_or ops i 0

  -- by the shape of the word that the code reads
  here : (t : Shape) → shape_of word ≡ t → OpensAs (op_at ops) true i to t
  here t e = shaped (op_at ops) true i to s.row.has_row s.here t (rw (read_op ops i (omega (arith, s.here, s.row.within))) e)

  -- an If has EndIf at its target, or Else before it
  either : kind word ≡ K.if → IfAt (op_at ops) true i to (field_a word) ⊎ ElseAt (op_at ops) true i to (field_a word - 1) (field_a (op_at ops (field_a word - 1)))
  either k = here (if_to (field_a word)) (simp k)

  -- an If leads forward, inside the row
  pub if_reach : kind word ≡ K.if → (1 ≤ field_a word) × (field_a word ≤ to) × (to ≤ length ops)
  if_reach k = elim (either k) [ inl a ↦ omega arith | inr a ↦ omega arith ]

  -- a Loop has EndLoop before its target
  pub at_loop : kind word ≡ K.loop → Opens ops i to (Loop (field_a word - 1))
  at_loop k = here (loop_to (field_a word)) (simp k)

  -- and so its target is not 0
  pub loop_reach : kind word ≡ K.loop → 1 ≤ field_a word
  loop_reach k = omega (arith, at_loop k)

  -- the word that the code reads before an If's target
  abbrev last : ℕ
  last = get_or ops (field_a word - 1) 0

  -- it is the op there
  read_last : kind word ≡ K.if → op_at ops (field_a word - 1) ≡ last
  read_last k = read_op ops _ (omega (arith, if_reach k))

  -- an If with Else there is one with two arms
  pub at_else : kind word ≡ K.if → kind last ≡ K.else → Opens ops i to (IfElse (field_a word - 1) (field_a last))
  at_else k e = elim (either k) [ inl a ↦ absurd (eqb-false _ K.else (rw (read_last k) at a.no_else) e) | inr a ↦ rw (read_last k) at a ]

  -- an If with no Else there has one arm
  pub at_if : kind word ≡ K.if → (kind last ≡ K.else → ⊥) → Opens ops i to (If (field_a word))
  at_if k n = elim (either k) [ inl a ↦ a | inr a ↦ absurd (n (eqb-true _ K.else (rw (read_last k) at a.is_else))) ]

  -- a Break
  pub at_break : kind word ≡ K.break → Opens ops i to Break
  at_break k = here breaks (simp k)

  -- a BreakIf
  pub at_break_if : kind word ≡ K.break_if → Opens ops i to BreakIf
  at_break_if k = here breaks_if (simp k)

  -- Return and Trap end the row
  pub at_end : (kind word ≡ K.return) ⊎ (kind word ≡ K.trap) → Opens ops i to Ends
  at_end = elim [ inl k ↦ here returns (simp k) | inr k ↦ here trap (simp k) ]

  -- a Call, with its callee
  pub at_call : kind word ≡ K.call → Opens ops i to (Call (field_a word))
  at_call k = here (calls (field_a word)) (simp k)

  -- an op of none of these kinds is passed over
  pub at_plain : (kind word ≡ K.if → ⊥) → (kind word ≡ K.loop → ⊥) → (kind word ≡ K.break → ⊥) → (kind word ≡ K.break_if → ⊥)
      → (kind word ≡ K.return → ⊥) → (kind word ≡ K.trap → ⊥) → Opens ops i to Plain
  at_plain p q r t u v =
      by_kind word (λ x. OpensAs (op_at ops) true i to x → Opens ops i to Plain)
      (λ k. absurd (p k)) (λ k o. absurd o) (λ k o. absurd o) (λ k. absurd (q k)) (λ k o. absurd o) (λ k. absurd (r k)) (λ k. absurd (t k)) (λ k o. o)
      (λ k. absurd (u k)) (λ k. absurd (v k)) (λ n o. o) (here (shape_of word) refl)
