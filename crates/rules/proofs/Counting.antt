-- A loop with a sure count along a path that does as its ops say: the end stays, the counter is the start and so many steps as there were passes, and the
-- passes are no more than counted. Assumes nothing.
use mathlib.Core.Path.{◌≡◌, refl, sym, ap, ◌∙◌}
use mathlib.Core.Bool.{Bool, true, false}
use mathlib.Core.Logic.{◌⊎◌, inl, inr}
use Prim.Native.Nat.{ℕ, suc, ◌+◌, ◌*◌, ◌^◌, ◌≤◌, ◌<◌}
use native.Mathlib.Omega.{arith}
use borrow.Author.Tests.{eqb-true, eqb-false, ltb-true, ltb-false}
use lib.Dec.{eqb, ltb}
use lib.IntN.{ℤ, pos, negsuc, neg_ℤ, ◌+ℤ◌, ◌-ℤ◌, +ℤ_idr, +ℤ_assoc, pos-+ℤ-pos}
use lib.Signed.{mag, le_z}
use Rattle.rules.specs.Kinds as K
use Rattle.rules.specs.Outcome.{found}
use Rattle.rules.specs.Ops.{kind, op_at}
use Rattle.rules.specs.Form.{Chunk}
use Rattle.rules.specs.Rows.{Shape, plain, trap, returns, if_to, else_to, end_if, loop_to, end_loop, breaks, breaks_if, calls, shape_of, Row, Plain}
use Rattle.rules.specs.Count.{is_set_local, count_at}
use Rattle.rules.specs.Stack.{at_least_zero}
use Rattle.rules.specs.Paths.{on}
use Rattle.rules.specs.Values.{number, Memory, Fits, way_for, AtLeast, WhereCounted}
use Rattle.rules.proofs.SignedOrder.{under, sum_parts, minus_parts, le_at_most, not_le_parts}
use Rattle.rules.proofs.StepCount.{count_least}
use Rattle.rules.proofs.Header.{load_shape, compare_shape, test_shape, HeaderKinds, header_kinds}
use Rattle.rules.proofs.Effects.{Kept, no_set}
use Rattle.rules.proofs.SureLoop.{counter, limit, SureLoop}

fits_parts : (z : ℤ) → at_least_zero z < 2 ^ 63 + under z → under z ≤ 2 ^ 63 + at_least_zero z → mag z < 2 ^ 63
fits_parts (pos n) h k = omega arith
fits_parts (negsuc n) h k = omega arith

-- Else, Loop and EndLoop: behind one of these a path may come from elsewhere
abbrev pub Marks : Shape → Type 0
Marks plain = ⊥
Marks trap = ⊥
Marks returns = ⊥
Marks (if_to t) = ⊥
Marks (else_to e) = Unit {0}
Marks end_if = ⊥
Marks (loop_to t) = Unit {0}
Marks end_loop = Unit {0}
Marks breaks = ⊥
Marks breaks_if = ⊥
Marks (calls k) = ⊥

pub set_shape : (w : ℕ) → kind w ≡ K.set_local → shape_of w ≡ plain
set_shape w h = simp h

module _ (c : Chunk) where
  -- the op at a position
  abbrev op : ℕ → ℕ
  op i = op_at c.ops i

  -- how a path comes from i to j inside a chunk: one on, to an EndIf, or behind a mark
  pub data Lands (i j : ℕ) : Type 0 where
    next : j ≡ suc i → Lands i j
    into : shape_of (op j) ≡ end_if → i < j → (Plain (shape_of (op i)) → ⊥) → Lands i j
    past : (k : ℕ) → j ≡ suc k → Marks (shape_of (op k)) → (Plain (shape_of (op i)) → ⊥) → Lands i j

  module _ {top : Row} {p e n : ℕ} (s : SureLoop c top p e n) where
    -- the counter behind k steps
    abbrev pub after : ℕ → ℤ
    after k = s.start +ℤ pos (k * s.step)

    pub after_next : (k : ℕ) → after k +ℤ pos s.step ≡ after (suc k)
    after_next k =
        let same : k * s.step + s.step ≡ suc k * s.step = omega arith in
        +ℤ_assoc s.start (pos (k * s.step)) (pos s.step) ∙ ap (λ (z : ℤ). s.start +ℤ z) (pos-+ℤ-pos (k * s.step) s.step ∙ ap pos same)

    -- q passes so far, before position i: the counter up to its test, behind it, where it was below the end, and at EndLoop
    pub record Counting (q i : ℕ) (m : Memory) : Type 0 where
      pub stays : m.locals (limit c top p) ≡ number s.stop
      pub few : q ≤ n
      pub early : i ≤ p + 4 → m.locals (counter c top p) ≡ number (after q)
      pub late : p + 5 ≤ i → i < e → (k : ℕ) × (q ≡ suc k) × (m.locals (counter c top p) ≡ number (after k)) × (le_z s.stop (after k) ≡ false)
      pub last : i ≡ e → m.locals (counter c top p) ≡ number (after q)

    pub counting_start : (m : Memory) → m.locals (counter c top p) ≡ number s.start → m.locals (limit c top p) ≡ number s.stop → Counting 0 (suc p) m
    counting_start m a b =
        let none : 0 * s.step ≡ 0 = omega arith in
        let far : p + 10 ≤ e = omega (arith, s.at, s.room) in
        record {
          stays = b;
          few = omega arith;
          early = λ le. a ∙ ap number (sym (+ℤ_idr s.start) ∙ ap (λ (z : ℕ). s.start +ℤ pos z) (sym none));
          late = λ le lt. absurd (omega arith);
          last = λ same. absurd (omega (arith, same, far));
        }

    -- the ops of the header
    head : HeaderKinds op p
    head = header_kinds c.ops p s.header

    head_op : (i : ℕ) → p < i → i < p + 4 → (kind (op i) ≡ K.get_local) ⊎ (kind (op i) ≡ K.cmp_ge)
    head_op i lt lt' = at (eqb i (p + 1)) (eqb i (p + 2)) refl refl
      where
        at : (a b : Bool) → eqb i (p + 1) ≡ a → eqb i (p + 2) ≡ b → (kind (op i) ≡ K.get_local) ⊎ (kind (op i) ≡ K.cmp_ge)
        at true b h k = inl (rw (eqb-true i (p + 1) h) head.first)
        at false true h k = inl (rw (eqb-true i (p + 2) k) head.second)
        at false false h k =
            let x = eqb-false i (p + 1) h in
            let y = eqb-false i (p + 2) k in
            let same : i ≡ p + 3 = omega (arith, x, y, lt, lt') in
            inr (rw same head.third)

    pub head_plain : (i : ℕ) → p < i → i < p + 4 → shape_of (op i) ≡ plain
    head_plain i lt lt' = by (head_op i lt lt')
      where
        by : (kind (op i) ≡ K.get_local) ⊎ (kind (op i) ≡ K.cmp_ge) → shape_of (op i) ≡ plain
        by (inl h) = load_shape (op i) h
        by (inr h) = compare_shape (op i) h

    pub head_unset : (i : ℕ) → p < i → i < p + 4 → (x : ℕ) → is_set_local x (op i) ≡ false
    head_unset i lt lt' x = by (head_op i lt lt')
      where
        by : (kind (op i) ≡ K.get_local) ⊎ (kind (op i) ≡ K.cmp_ge) → is_set_local x (op i) ≡ false
        by (inl h) = no_set c i K.get_local h refl x
        by (inr h) = no_set c i K.cmp_ge h refl x

    -- no mark stands in the header
    pub behind_head : (k : ℕ) → p < k → Marks (shape_of (op k)) → p + 5 ≤ k
    behind_head k lt h = by (ltb k (p + 5)) refl
      where
        test : kind (op (p + 4)) ≡ K.break_if → k ≡ p + 4 → ⊥
        test f same = let z : Marks (shape_of (op (p + 4))) = rw same at h in let y : Marks breaks_if = rw (test_shape (op (p + 4)) f) at z in y

        by : (b : Bool) → ltb k (p + 5) ≡ b → p + 5 ≤ k
        by false e = ltb-false k (p + 5) e
        by true e = at (eqb k (p + 4)) refl
          where
            at : (b : Bool) → eqb k (p + 4) ≡ b → p + 5 ≤ k
            at true f = absurd (test head.fourth (eqb-true k (p + 4) f))
            at false f =
                let ne = eqb-false k (p + 4) f in
                let y : Marks plain = rw (head_plain k lt (omega (arith, ne, ltb-true k (p + 5) e))) at h in
                absurd y

    -- the next sum is a number of 64 bits
    pub next_fits : (k : ℕ) → suc k ≤ n → le_z s.stop (after k) ≡ false → Fits (after k +ℤ pos s.step)
    next_fits k few below =
        let z = after k +ℤ pos s.step in
        let w = (s.stop -ℤ pos 1) +ℤ pos s.step in
        let top' = le_at_most w _ (s.fits (omega arith)) in
        let one = minus_parts (pos 1) in
        fits_parts z
        (omega (
          arith,
          not_le_parts s.stop (after k) below,
          top',
          one.0,
          one.1,
          sum_parts s.stop (neg_ℤ (pos 1)),
          sum_parts (s.stop -ℤ pos 1) (pos s.step),
          sum_parts (after k) (pos s.step),
        ))
        (omega (arith, s.low, sum_parts (after k) (pos s.step), sum_parts s.start (pos (k * s.step))))

    -- the header test is passed
    pub counting_pass : (q : ℕ) (m m' : Memory) → Counting q (p + 4) m → Kept c (p + 4) m m'
        → WhereCounted (count_at c.constants c.ops p) (AtLeast (m.locals (counter c top p)) (m.locals (limit c top p)) on)
        → Counting (suc q) (suc (p + 4)) m'
    counting_pass q m m' k kept way =
        let v = k.early (omega arith) in
        let unset : (x : ℕ) → is_set_local x (op (p + 4)) ≡ false = no_set c (p + 4) K.break_if head.fourth refl in
        let asked : WhereCounted (found n) (AtLeast (number (after q)) (number s.stop) on) = rw (s.counted, v, k.stays) at way in
        let below = not_yet (le_z s.stop (after q)) asked in
        let reached = (count_least s.start s.stop s.step n s.positive s.passing).0 in
        record {
          stays = kept (limit c top p) (unset (limit c top p)) ∙ k.stays;
          few = more q k.few below reached (ltb q n) refl;
          early = λ le. absurd (omega arith);
          late = λ le lt. (q, refl, kept (counter c top p) (unset (counter c top p)) ∙ v, below);
          last = λ same. absurd (omega (arith, same, s.at, s.room));
        }
      where
        not_yet : (b : Bool) → on ≡ way_for b → b ≡ false
        not_yet true h = absurd (let z : ◌≡◌ {A = ℕ} 0 1 = cc in omega arith)
        not_yet false h = refl

        more : (q : ℕ) → q ≤ n → le_z s.stop (after q) ≡ false → le_z s.stop (after n) ≡ true → (b : Bool) → ltb q n ≡ b → suc q ≤ n
        more q le below reached true lt = ltb-true q n lt
        more q le below reached false lt =
            let same : q ≡ n = omega (arith, le, ltb-false q n lt) in
            let z : le_z s.stop (after n) ≡ false = rw same at below in
            absurd (let o : ◌≡◌ {A = ℕ} 0 1 = cc in omega arith)

    -- EndLoop leads back
    pub counting_again : (q : ℕ) (m m' : Memory) → Counting q e m → Kept c e m m' → Counting q (suc p) m'
    counting_again q m m' k kept =
        let unset : (x : ℕ) → is_set_local x (op e) ≡ false = no_set c e K.end_loop s.closes refl in
        record {
          stays = kept (limit c top p) (unset (limit c top p)) ∙ k.stays;
          few = k.few;
          early = λ le. kept (counter c top p) (unset (counter c top p)) ∙ k.last refl;
          late = λ le lt. absurd (omega arith);
          last = λ same. absurd (omega (arith, same, s.at, s.room));
        }

    pub test_kind : shape_of (op (p + 4)) ≡ breaks_if
    test_kind = test_shape (op (p + 4)) head.fourth
