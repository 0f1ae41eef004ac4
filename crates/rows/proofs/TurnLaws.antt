-- What the decision at the first op of a stretch says of its rows: how a row goes on behind the op, or that there is none.
-- Assumes nothing.
use mathlib.Core.Path.{◌≡◌, refl, ap, ◌∙◌}
use mathlib.Core.Bool.{Bool, true, false, cond, ◌&&◌, ◌||◌, and-eq-true_iff}
use mathlib.Core.Logic.{◌⊎◌, inl, inr, ◌↔◌}
use Prim.Native.Nat.{ℕ, suc, ◌-◌, ◌<◌, ◌≤◌}
use native.Mathlib.Omega.{arith}
use borrow.Author.Tests.{ltb-true, ltb-false, leb-true, eqb-true, eqb-false, lt-ltb, le-leb, both_ways}
use lib.Dec.{eqb, leb, ltb}
use Rattle.rules.specs.Ops.{kind, field_a}
use Rattle.rules.specs.Rows.{Shape, plain, trap, returns, if_to, else_to, end_if, loop_to, end_loop, breaks, breaks_if, calls, shape_of}
use Rattle.rules.specs.Rows.{Row, step, stop, leave, leave_if, if_then, if_else, loop, IsRow}
use Rattle.rules.proofs.Shapes.{shape_tells, end_if_shape, end_loop_shape, else_shape, by_kind}
use Rattle.rows.specs.declared.check.Opening.{Opening}
use Rattle.rows.specs.declared.check.Opening.TheVariants.{Plain, Block, Loop, Crossed}
use Rattle.rows.specs.Tree.{HasRow}
use Rattle.rows.specs.Opens.{BreakAt, IfAt, ElseAt}
use Rattle.rows.specs.Answers.{block_if, loop_if, opens_if, opens_at}
use Rattle.rows.proofs.TreeLaws.{OpensAs}
use Rattle.rows.proofs.Openings.{shaped}

-- What is left behind the end e of a part, in a stretch that ends at b: an Else has its own part first.
abbrev RestBy : Bool → (ℕ → ℕ) → Bool → ℕ → ℕ → Type 0
RestBy true op l e b = HasRow op l (suc e) (field_a (op e)) × HasRow op l (suc (field_a (op e))) b
RestBy false op l e b = HasRow op l (suc e) b

-- the same, by the kind of the op at e
abbrev pub Rest : (ℕ → ℕ) → Bool → ℕ → ℕ → Type 0
Rest op l e b = RestBy (eqb (kind (op e)) 22) op l e b

-- an Else at e has its target behind it, in the stretch that ends at b, and EndIf stands there
pub record ElseFits (op : ℕ → ℕ) (e b : ℕ) : Type 0 where
  pub behind : e < field_a (op e)
  pub within : field_a (op e) < b
  pub closed : kind (op (field_a (op e))) ≡ 23

-- an op opens a Loop whose part ends at e, or another block
abbrev pub opening : Bool → ℕ → Opening
opening true e = Loop e
opening false e = Block e

module _ (op : ℕ → ℕ) (l : Bool) (i b : ℕ) where
  -- the op at i opens a block, or a loop, whose part ends at e
  pub record Opened (loops : Bool) (e : ℕ) : Type 0 where
    pub behind : i < e
    pub within : e < b
    pub is_loop : eqb (kind (op e)) 25 ≡ loops
    pub fits : kind (op e) ≡ 22 → ElseFits op e b
    pub split : HasRow op l i b ↔ (HasRow op (loops || l) (suc i) e × Rest op l e b)

  -- what each decision says of the rows from i on
  abbrev pub Turn : Opening → Type 0
  Turn Plain = HasRow op l i b ↔ HasRow op l (suc i) b
  Turn (Block e) = Opened false e
  Turn (Loop e) = Opened true e
  Turn Crossed = HasRow op l i b → ⊥

  -- a decision that opens a block says so
  pub as_opened : (c : Bool) (e : ℕ) → Turn (opening c e) → Opened c e
  as_opened c e = elim c as (λ c. Turn (opening c e) → Opened c e) [ true ↦ λ t. t | false ↦ λ t. t ]

  -- the part ends at an EndIf or at an EndLoop
  closed_at : (c : Bool) (e : ℕ) → i < e → e < b → eqb (kind (op e)) 25 ≡ c → eqb (kind (op e)) 22 ≡ false
      → (HasRow op l i b ↔ (HasRow op (c || l) (suc i) e × HasRow op l (suc e) b)) → Opened c e
  closed_at c e behind within k n s =
      record { behind = behind; within = within; is_loop = k; fits = λ j. absurd (eqb-false _ 22 n j); split = rw n s }

  -- a test of the decision
  tested : (x : Bool → Opening) (t : Bool) → (t ≡ true → Turn (x true)) → (t ≡ false → Turn (x false)) → Turn (x t)
  tested x t yes-then no-then = (elim t as (λ c. t ≡ c → Turn (x c)) [ true ↦ yes-then | false ↦ no-then ]) refl

  module _ (lt : i < b) where
    -- a row from i on opens by the shape of its first op
    open_as : (s : Shape) → shape_of (op i) ≡ s → HasRow op l i b → OpensAs op l i b s
    open_as s e h = shaped op l i b h lt s e

    module _ (t : ℕ) (is-if : shape_of (op i) ≡ if_to t) where
      -- at an If it has EndIf at the target, or Else before it
      as_if : HasRow op l i b → IfAt op l i b t ⊎ ElseAt op l i b (t - 1) (field_a (op (t - 1)))
      as_if h = open_as (if_to t) is-if h

      -- an If leads forward, inside the stretch
      if_outside : ltb i t && leb t b ≡ false → HasRow op l i b → ⊥
      if_outside n h =
          let p : (i < t) × (t ≤ b) = elim (as_if h) [ inl o ↦ omega arith | inr o ↦ omega arith ] in
          both_ways _ n (simp (lt-ltb i t p.0, le-leb t b p.1))

      -- an Else stands before the target
      module _ (is_else : eqb (kind (op (t - 1))) 22 ≡ true) where
        -- with Else before the target, behind the If, and EndIf where that leads, the part ends at the Else
        else_opened : i < t → let f = field_a (op (t - 1)) in ltb (t - 1) f && ltb f b && eqb (kind (op f)) 23 ≡ true → Opened false (t - 1)
        else_opened h y =
            let e = t - 1 in
            let f = field_a (op e) in
            let p = (and-eq-true_iff (ltb e f && ltb f b) (eqb (kind (op f)) 23)).0 y in
            let q = (and-eq-true_iff (ltb e f) (ltb f b)).0 p.0 in
            let k = eqb-true (kind (op e)) 22 is_else in
            let other : i ≡ e → ⊥ = λ same. let j = (shape_tells (op i) (if_to t) is-if).0 in let z : ◌≡◌ {A = ℕ} 21 22 = cc in omega arith in
            let behind : i < e = omega arith in
            let after = ltb-true e f q.0 in
            let before = ltb-true f b q.1 in
            let closed = eqb-true (kind (op f)) 23 p.1 in
            let target : t ≡ suc e = omega arith in
            record {
              behind = behind;
              within = omega arith;
              is_loop = simp k;
              fits = λ _. record { behind = after; within = before; closed = closed };
              split = rw is_else (
                λ r. elim (as_if r) [ inl o ↦ absurd (both_ways _ o.no_else is_else) | inr o ↦ (o.arm, (o.other, o.rest)) ],
                λ (p, r). (
                  if_else i e f p.0 r.0.0 r.1.0,
                  (refl, is-if ∙ ap if_to target, behind, after, before, else_shape (op e) k, end_if_shape (op f) closed, p.1, r.0.1, r.1.1),
                ),
              );
            }

        -- with Else before the target and no EndIf where that leads there is no row
        else_crossed : let f = field_a (op (t - 1)) in ltb (t - 1) f && ltb f b && eqb (kind (op f)) 23 ≡ false → HasRow op l i b → ⊥
        else_crossed y h = elim (as_if h) [
          | inl o ↦ both_ways _ o.no_else is_else
          | inr o ↦ both_ways _ y (simp (lt-ltb _ _ o.else_behind, lt-ltb _ _ o.within, o.closed))
        ]

      module _ (no_else : eqb (kind (op (t - 1))) 22 ≡ false) where
        -- with EndIf at the target the part ends there
        end_opened : i < t → ltb t b && eqb (kind (op t)) 23 ≡ true → Opened false t
        end_opened h y =
            let p = (and-eq-true_iff (ltb t b) (eqb (kind (op t)) 23)).0 y in
            let before = ltb-true t b p.0 in
            let closed = eqb-true (kind (op t)) 23 p.1 in
            closed_at false t h before (simp closed) (simp closed) (
              λ r. elim (as_if r) [ inl o ↦ (o.arm, o.rest) | inr o ↦ absurd (both_ways _ no_else o.is_else) ],
              λ (p, r). (if_then i t p.0 r.0, (refl, is-if, h, before, end_if_shape (op t) closed, p.1, r.1)),
            )

        -- with no Else before the target and no EndIf at it there is no row
        end_crossed : ltb t b && eqb (kind (op t)) 23 ≡ false → HasRow op l i b → ⊥
        end_crossed y h = elim (as_if h) [ inl o ↦ both_ways _ y (simp (lt-ltb t b o.within, o.closed)) | inr o ↦ both_ways _ no_else o.is_else ]

      -- the decision at an If
      if_turn : Turn (opens_if op i t b)
      if_turn =
          tested (λ _. opens_if op i t b) (ltb i t && leb t b)
          (λ a. let h = ltb-true i t ((and-eq-true_iff (ltb i t) (leb t b)).0 a).0 in tested (λ _. opens_if op i t b) (eqb (kind (op (t - 1))) 22)
          (λ e. rw (a, e) (tested (λ c. block_if c (t - 1)) _ (else_opened e h) (else_crossed e)))
          (λ e. rw (a, e) (tested (λ c. block_if c t) _ (end_opened e h) (end_crossed e))))
          (λ a. rw a (if_outside a))

    module _ (t : ℕ) (is_loop : shape_of (op i) ≡ loop_to t) where
      -- with EndLoop before the target of a Loop the part ends there
      loop_opened : ltb (suc i) t && leb t b && eqb (kind (op (t - 1))) 25 ≡ true → Opened true (t - 1)
      loop_opened y =
          let e = t - 1 in
          let p = (and-eq-true_iff (ltb (suc i) t && leb t b) (eqb (kind (op e)) 25)).0 y in
          let q = (and-eq-true_iff (ltb (suc i) t) (leb t b)).0 p.0 in
          let first = ltb-true (suc i) t q.0 in
          let last = leb-true t b q.1 in
          let behind : i < e = omega arith in
          let before : e < b = omega arith in
          let closed = eqb-true (kind (op e)) 25 p.1 in
          let target : t ≡ suc e = omega arith in
          closed_at true e behind before p.1 (simp closed) (
            λ r. let o = open_as (loop_to t) is_loop r in (o.body, o.rest),
            λ (p, r). (loop i e p.0 r.0, (refl, is_loop ∙ ap loop_to target, behind, before, end_loop_shape (op e) closed, p.1, r.1)),
          )

      -- with no EndLoop before the target there is no row
      loop_crossed : ltb (suc i) t && leb t b && eqb (kind (op (t - 1))) 25 ≡ false → HasRow op l i b → ⊥
      loop_crossed y h =
          let o = open_as (loop_to t) is_loop h in
          both_ways _ y (simp (lt-ltb (suc i) t (omega arith), le-leb t b (omega arith), o.closed))

    -- Break and BreakIf, which stand in a Loop
    break_turn : (first : ℕ → Row → Row) → (HasRow op l i b → BreakAt op l i b first)
        → ((r : Row) → l ≡ true → IsRow op l (suc i) b r → IsRow op l i b (first i r)) → Turn (cond l Plain Crossed)
    break_turn first goes back =
        tested (λ c. cond c Plain Crossed) l (λ y. (λ h. (goes h).behind.rest, λ h. (first i h.0, back h.0 y h.1)))
        (λ n h. both_ways _ n (goes h).in_loop)

    -- the decision at any op
    pub turn : Turn (opens_at op i b l)
    turn =
        by_kind (op i) (λ s. shape_of (op i) ≡ s → Turn (opens_at op i b l))
        (λ k e. rw k (if_turn (field_a (op i)) e))
        (λ k e. rw k (open_as (else_to (field_a (op i))) e))
        (λ k e. rw k (open_as end_if e))
        (λ k e. rw k (tested (λ c. loop_if c (field_a (op i) - 1)) _ (loop_opened (field_a (op i)) e) (loop_crossed (field_a (op i)) e)))
        (λ k e. rw k (open_as end_loop e))
        (λ k e. rw k (break_turn leave (open_as breaks e) (λ r y w. (refl, lt, e, y, w))))
        (λ k e. rw k (break_turn leave_if (open_as breaks_if e) (λ r y w. (refl, lt, e, y, w))))
        (λ k e. rw k (λ h. (open_as (calls (field_a (op i))) e h).rest, λ h. (step i h.0, (refl, lt, rw e tt, h.1))))
        (λ k e. rw k (λ h. (open_as returns e h).rest, λ h. (stop i h.0, (refl, lt, rw e tt, h.1))))
        (λ k e. rw k (λ h. (open_as trap e h).rest, λ h. (stop i h.0, (refl, lt, rw e tt, h.1))))
        (λ n e. rw (far (kind (op i)) n) (λ h. (open_as plain e h).rest, λ h. (step i h.0, (refl, lt, rw e tt, h.1)))) refl
      where
        -- a kind before If or past BreakIf is told apart by the tests
        far : (k : ℕ) → (21 ≤ k → k ≤ 27 → ⊥) → ltb k 21 || ltb 27 k ≡ true
        far k n =
            (elim (ltb k 21) as (λ c. ltb k 21 ≡ c → c || ltb 27 k ≡ true)
            [ true ↦ λ _. refl | false ↦ λ e. let p = n (ltb-false k 21 e) in lt-ltb 27 k (omega arith) ]) refl
