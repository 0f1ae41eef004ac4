-- A loop with a sure count, one op on inside it: its header, the SetLocal of its tail, and any other op of its body. Assumes nothing.
use mathlib.Core.Path.{◌≡◌, refl, ap, ◌∙◌}
use mathlib.Core.Bool.{Bool, true, false}
use Prim.Native.Nat.{ℕ, suc, ◌+◌, ◌≤◌, ◌<◌}
use native.Mathlib.Omega.{arith}
use borrow.Author.Tests.{eqb-true, eqb-false, ltb-true, ltb-false}
use lib.Dec.{eqb, ltb}
use lib.IntN.{pos}
use Rattle.rules.specs.Kinds as K
use Rattle.rules.specs.Ops.{kind, field_a, op_at}
use Rattle.rules.specs.Form.{Chunk}
use Rattle.rules.specs.Rows.{plain, end_if, shape_of, Row, Plain}
use Rattle.rules.specs.Count.{is_set_local}
use Rattle.rules.specs.Values.{number, Memory, effect_at, Stored, Leaves}
use Rattle.rules.proofs.Shapes.{end_loop_shape}
use Rattle.rules.proofs.Effects.{set_tells, store_effect, leaves_kept}
use Rattle.rules.proofs.Operands.{stored_is, Recent, RecentAt}
use Rattle.rules.proofs.SureLoop.{counter, limit, SureLoop}
use Rattle.rules.proofs.Counting.{Marks, Lands, next, into, past, Counting, after, after_next, head_plain, head_unset, behind_head, set_shape, next_fits}

module _ (c : Chunk) {top : Row} {p e n : ℕ} (s : SureLoop c top p e n) (q i j : ℕ) (m m' : Memory) (k : Counting c s q i m) (l : Leaves (effect_at c i) m m')
    (recent : RecentAt c i m) (lands : Lands c i j) (inside : p < i) (before : i < e) (no_test : i ≡ p + 4 → ⊥) (onward : suc p < j) (to : j ≤ e) where
  -- the op at a position
  abbrev op : ℕ → ℕ
  op i = op_at c.ops i

  -- where the SetLocal of the tail is, right before EndLoop
  abbrev last_at : ℕ
  last_at = suc (suc (suc (suc s.g)))

  last_kind : (kind (op last_at) ≡ K.set_local) × (field_a (op last_at) ≡ counter c top p)
  last_kind = set_tells (counter c top p) (op last_at) s.set

  -- a plain op leads one on
  plain_on : shape_of (op i) ≡ plain → j ≡ suc i
  plain_on h = by lands
    where
      is_plain : Plain (shape_of (op i))
      is_plain = rw h tt

      by : Lands c i j → j ≡ suc i
      by (next f) = f
      by (into a b d) = absurd (d is_plain)
      by (past t a b d) = absurd (d is_plain)

  kept : (x : ℕ) → is_set_local x (op i) ≡ false → m'.locals x ≡ m.locals x
  kept = leaves_kept c i m m' l

  in_head : i < p + 4 → Counting c s q j m'
  in_head lt =
      let one = plain_on (head_plain c s i inside lt) in
      record {
        stays = kept (limit c top p) (head_unset c s i inside lt (limit c top p)) ∙ k.stays;
        few = k.few;
        early = λ le. kept (counter c top p) (head_unset c s i inside lt (counter c top p)) ∙ k.early (omega arith);
        late = λ le lt'. absurd (omega (arith, one, le, lt));
        last = λ same. absurd (omega (arith, same, one, lt, s.at, s.room));
      }

  -- the SetLocal right before EndLoop
  at_set : p + 5 ≤ i → i ≡ last_at → Counting c s q j m'
  at_set le same =
      let w = last_kind in
      let one = plain_on (rw same (set_shape (op last_at) w.0)) in
      let (t, is_q, v, below) = k.late le before in
      let r : Recent c (suc (suc (suc s.g))) m =
      recent (suc (suc (suc s.g))) same (λ f.
      let f' : shape_of (op last_at) ≡ end_if = rw same at f in
      let f'' = set_shape (op last_at) w.0 in
      let o : ◌≡◌ {A = ℕ} 0 1 = cc in omega arith) in
      let fits = next_fits c s t (omega (arith, is_q, k.few)) below in
      let (xs, u) = r.total s.g (counter c top p) (after c s t) (pos s.step) refl s.drop s.add s.const s.load v fits in
      let l' : Leaves (effect_at c last_at) m m' = rw same at l in
      let l'' : Stored m.operands (field_a (op last_at)) m m' = rw (store_effect c last_at w.0) at l' in
      let now = stored_is _ xs m.operands (counter c top p) m m' u (rw w.1 at l'') in
      record {
        stays = kept (limit c top p) (s.quiet_end i le before) ∙ k.stays;
        few = k.few;
        early = λ le'. absurd (omega (arith, one, le, le'));
        late = λ le' lt. absurd (omega (arith, one, same, lt, s.at));
        last = λ f. rw is_q (now ∙ ap number (after_next c s t));
      }

  -- any other op of the body
  in_body : p + 5 ≤ i → (i ≡ last_at → ⊥) → Counting c s q j m'
  in_body le ne =
      let b = by lands in
      let (t, is_q, v, below) = k.late le before in
      let short : i < last_at = omega (arith, ne, before, s.at) in
      record {
        stays = kept (limit c top p) (s.quiet_end i le before) ∙ k.stays;
        few = k.few;
        early = λ le'. absurd (omega (arith, b.0, le'));
        late = λ le' lt. (t, is_q, kept (counter c top p) (s.quiet i le short) ∙ v, below);
        last = λ f. absurd (omega (arith, b.1, f));
      }
    where
      by : Lands c i j → (p + 5 ≤ j) × (j < e)
      by (next f) = (omega arith, omega (arith, f, ne, before, s.at))
      by (into a b d) = (omega arith, short (eqb j e) refl)
        where
          short : (x : Bool) → eqb j e ≡ x → j < e
          short true f =
              let a' : shape_of (op e) ≡ end_if = rw (eqb-true j e f) at a in
              let a'' = end_loop_shape (op e) s.closes in
              absurd (let o : ◌≡◌ {A = ℕ} 0 1 = cc in omega arith)
          short false f = let ne' = eqb-false j e f in omega (arith, ne', to)
      by (past t a b d) = let low = behind_head c s t (omega (arith, a, onward)) b in (omega (arith, low, a), short (eqb j e) refl)
        where
          short : (x : Bool) → eqb j e ≡ x → j < e
          short true f =
              let same : t ≡ last_at = omega (arith, eqb-true j e f, a, s.at) in
              let b' : Marks (shape_of (op last_at)) = rw same at b in
              let b'' : Marks plain = rw (set_shape (op last_at) last_kind.0) at b' in
              absurd b''
          short false f = let ne' = eqb-false j e f in omega (arith, ne', to)

  pub counting_on : Counting c s q j m'
  counting_on = by (ltb i (p + 4)) refl
    where
      behind : (b : Bool) → eqb i last_at ≡ b → p + 5 ≤ i → Counting c s q j m'
      behind true f le = at_set le (eqb-true i last_at f)
      behind false f le = in_body le (eqb-false i last_at f)

      by : (b : Bool) → ltb i (p + 4) ≡ b → Counting c s q j m'
      by true f = in_head (ltb-true i (p + 4) f)
      by false f = behind (eqb i last_at) refl (omega (arith, ltb-false i (p + 4) f, no_test))
