-- What a sure count tells of its loop: the ops of its header and its tail, that nothing else sets its two locals, their values, and that its sums fit.
-- Assumes nothing.
use mathlib.Core.Path.{◌≡◌, refl, sym, ap, ◌∙◌}
use mathlib.Core.Bool.{Bool, true, false, not, ◌&&◌}
use mathlib.Core.List.{List, [], ◌∷◌, ◌++◌}
use mathlib.Core.Logic.{⊎_elim}
use Prim.Native.Nat.{ℕ, zero, suc, ◌+◌, ◌-◌, ◌^◌, ◌≤◌, ◌<◌}
use native.Mathlib.Omega.{arith}
use borrow.Author.Tests.{eqb-true, eqb-false, not-true}
use lib.Dec.{eqb}
use lib.IntN.{ℤ, pos}
use lib.ListN.{get_or}
use Rattle.rules.specs.Kinds as K
use Rattle.rules.specs.Outcome.{ok, found}
use Rattle.rules.specs.Ops.{kind, field_a, field_b, op_at}
use Rattle.rules.specs.Form.{integer, other, Chunk, Each, ConstantFits}
use Rattle.rules.specs.Rows.{Row}
use Rattle.rules.specs.Count.{Value, is, unknown, is_set_local, value_of, has_header, never_sets, tail_constant, has_tail, passes, count_up, count_if, step_at, count_at}
use Rattle.rules.specs.Sure.{same_row, stops_of, all_in_row, fits_sum, sum_fits, is_sure, sure_count_of}
use Rattle.rules.specs.Values.{gives, loads, adds, drops, effect_at}
use Rattle.rules.proofs.Flags.{both, either}
use Rattle.rules.proofs.SignedOrder.{under}
use Rattle.rules.proofs.Walked.{chunk_counted, sure_counted}
use Rattle.rules.proofs.TailStep.{TailOps, tail_ops}
use Rattle.rules.proofs.Effects.{load_effect}
use Rattle.rules.proofs.ValueLow.{value_low}

-- no op of a stretch is a SetLocal of the slot
never_set : (ops : List ℕ) (x n a i : ℕ) → never_sets ops x n a ≡ true → a ≤ i → i < a + n → is_set_local x (op_at ops i) ≡ false
unfolding never_sets
never_set ops x zero a i h le lt = absurd (omega arith)
never_set ops x (suc n) a i h le lt =
    let b = both (not (is_set_local x (op_at ops a))) (never_sets ops x n (suc a)) h in
    by (eqb a i) refl b.0 (λ l. never_set ops x n (suc a) i b.1 l (omega arith))
  where
    by : (b : Bool) → eqb a i ≡ b → not (is_set_local x (op_at ops a)) ≡ true → (suc a ≤ i → is_set_local x (op_at ops i) ≡ false) → is_set_local x (op_at ops i) ≡ false
    by true e f next = let same = eqb-true a i e in rw same at (not-true (is_set_local x (op_at ops a)) f)
    by false e f next = let ne = eqb-false a i e in next (omega (arith, ne, le))

in_rows : (r : Row) (p : ℕ) (ss ts : List ℕ) → all_in_row r p (ss ++ ts) ≡ true → (all_in_row r p ss ≡ true) × (all_in_row r p ts ≡ true)
unfolding all_in_row
in_rows r p [] ts h = (refl, h)
in_rows r p (s ∷ ss) ts h =
    let a = both (same_row r s p) (all_in_row r p (ss ++ ts)) h in
    let b = in_rows r p ss ts a.1 in
    (rw a.0 b.0, b.1)

-- the values, and the count from them
count_values : (a b : Value) (k n : ℕ) → count_up a b k ≡ found n → (start : ℤ) × (stop : ℤ) × (a ≡ is start) × (b ≡ is stop) × (passes start stop k ≡ found n)
count_values (is x) (is y) k n h = (x, y, refl, refl, h)
count_values (is x) unknown k n h = absurd (let o : ◌≡◌ {A = ℕ} 0 1 = cc in omega arith)
count_values unknown (is y) k n h = absurd (let o : ◌≡◌ {A = ℕ} 0 1 = cc in omega arith)
count_values unknown unknown k n h = absurd (let o : ◌≡◌ {A = ℕ} 0 1 = cc in omega arith)

module _ (c : Chunk) (top : Row) (p : ℕ) where
  -- the op at a position
  abbrev op : ℕ → ℕ
  op i = op_at c.ops i

  -- the counter and the end
  abbrev pub counter : ℕ
  counter = field_a (op (p + 1))

  abbrev pub limit : ℕ
  limit = field_a (op (p + 2))

  -- the loop at p, EndLoop at e, its tail from g on, counted n
  pub record SureLoop (e n : ℕ) : Type 0 where
    pub g : ℕ
    pub at : e ≡ suc (suc (suc (suc (suc g))))
    pub room : p + 5 ≤ g
    pub start : ℤ
    pub stop : ℤ
    pub step : ℕ
    pub header : has_header c.ops p ≡ true
    pub counted : count_at c.constants c.ops p ≡ found n
    pub value : value_of c.constants c.ops p counter ≡ is start
    pub end_value : value_of c.constants c.ops p limit ≡ is stop
    pub held : all_in_row top p (stops_of c.ops p counter) ≡ true
    pub end_held : all_in_row top p (stops_of c.ops p limit) ≡ true
    pub positive : 0 < step
    pub passing : passes start stop step ≡ found n
    pub low : under start ≤ 2 ^ 63
    pub fits : 0 < n → fits_sum (is stop) step ≡ true
    pub load : effect_at c g ≡ loads counter
    pub const : effect_at c (suc g) ≡ gives (pos step)
    pub add : effect_at c (suc (suc g)) ≡ adds
    pub drop : effect_at c (suc (suc (suc g))) ≡ drops
    pub set : is_set_local counter (op (suc (suc (suc (suc g))))) ≡ true
    pub closes : kind (op e) ≡ K.end_loop
    pub quiet_end : (i : ℕ) → p + 5 ≤ i → i < e → is_set_local limit (op i) ≡ false
    pub quiet : (i : ℕ) → p + 5 ≤ i → i < suc (suc (suc (suc g))) → is_set_local counter (op i) ≡ false

  add_effect : (i : ℕ) → kind (op i) ≡ K.checked_add → kind (op (suc i)) ≡ K.pop_n → field_b (op (suc i)) ≡ 2 → effect_at c i ≡ adds
  add_effect i h k b = simp (h, k, b)

  drop_effect : (i : ℕ) → kind (op i) ≡ K.checked_add → kind (op (suc i)) ≡ K.pop_n → field_b (op (suc i)) ≡ 2 → effect_at c (suc i) ≡ drops
  drop_effect i h k b = let back : suc i - 1 ≡ i = omega arith in simp (back, h, k, b)

  step_effect : (i k : ℕ) → kind (op i) ≡ K.const → get_or c.constants (field_a (op i)) other ≡ integer (pos k) → effect_at c i ≡ gives (pos k)
  step_effect i k h e = simp (h, e)

  -- what is counted passes its two tests
  count_tests : (b : Bool) (k n : ℕ) → count_if b c.constants c.ops p counter limit k ≡ found n
      → (b ≡ true) × (count_up (value_of c.constants c.ops p counter) (value_of c.constants c.ops p limit) k ≡ found n)
  count_tests true k n h = (refl, h)
  count_tests false k n h = absurd (let o : ◌≡◌ {A = ℕ} 0 1 = cc in omega arith)

  end_fits : (n k : ℕ) (stop : ℤ) → value_of c.constants c.ops p limit ≡ is stop → step_at c.constants c.ops p ≡ k → sum_fits c p n ≡ true → 0 < n
      → fits_sum (is stop) k ≡ true
  end_fits n k stop end_value is_step h some =
      ⊎_elim (λ z. absurd (let none = eqb-true n 0 z in omega (arith, none, some))) (λ f. f) (either (eqb n 0) (fits_sum (is stop) k) (rw (end_value, is_step) at h))

  build : (e n g k : ℕ) (start stop : ℤ) → e ≡ suc (suc (suc (suc (suc g)))) → TailOps c.constants c.ops p e counter limit
      → tail_constant c.constants c.ops e ≡ integer (pos k) → step_at c.constants c.ops p ≡ k → 0 < k → has_header c.ops p ≡ true
      → count_at c.constants c.ops p ≡ found n → value_of c.constants c.ops p counter ≡ is start → value_of c.constants c.ops p limit ≡ is stop
      → passes start stop k ≡ found n → is_sure c top p n ≡ true → Each ConstantFits c.constants → SureLoop e n
  build e n g k start stop at t is_k is_step positive header counted value end_value passing sure fit =
      let e₅ : e - 5 ≡ g = omega (arith, at) in
      let e₄ : e - 4 ≡ suc g = omega (arith, at) in
      let e₃ : e - 3 ≡ suc (suc g) = omega (arith, at) in
      let e₂ : e - 2 ≡ suc (suc (suc g)) = omega (arith, at) in
      let e₁ : e - 1 ≡ suc (suc (suc (suc g))) = omega (arith, at) in
      let s = both (all_in_row top p (stops_of c.ops p counter ++ stops_of c.ops p limit)) (sum_fits c p n) sure in
      let held = in_rows top p (stops_of c.ops p counter) (stops_of c.ops p limit) s.0 in
      let loaded = both (eqb (kind (op g)) K.get_local) (eqb (field_a (op g)) counter) (rw e₅ at t.load) in
      let add = rw e₃ at t.add in
      let drop = rw e₂ at t.drop in
      let two = rw e₂ at t.two in
      record {
        g = g;
        at = at;
        room = omega (arith, at, t.far);
        start = start;
        stop = stop;
        step = k;
        header = header;
        counted = counted;
        value = value;
        end_value = end_value;
        held = held.0;
        end_held = held.1;
        positive = positive;
        passing = passing;
        low = value_low c.constants c.ops p counter start fit value;
        fits = end_fits n k stop end_value is_step s.1;
        load = load_effect c g (eqb-true (kind (op g)) K.get_local loaded.0) ∙ ap loads (eqb-true (field_a (op g)) counter loaded.1);
        const = step_effect (suc g) k (rw e₄ at t.const) (rw e₄ at is_k);
        add = add_effect (suc (suc g)) add drop two;
        drop = drop_effect (suc (suc g)) add drop two;
        set = rw e₁ at t.set;
        closes = t.closes;
        quiet_end = λ i le lt. never_set c.ops limit (e - (p + 5)) (p + 5) i t.end_unset le (omega arith);
        quiet = λ i le lt. never_set c.ops counter (e - (p + 6)) (p + 5) i t.unset le (omega (arith, lt, at, le));
      }

  pub sure_loop : (e n : ℕ) → field_a (op p) ≡ suc e → Each ConstantFits c.constants → sure_count_of c top p ≡ ok n → SureLoop e n
  sure_loop e n target fit h =
      let (is_count, sure) = sure_counted c top p n h in
      let (header, counted) = chunk_counted c p n is_count in
      let step = step_at c.constants c.ops p in
      let ends = field_a (op p) - 1 in
      let (tests, up) = count_tests (has_header c.ops p && has_tail c.constants c.ops p ends counter limit) step n counted in
      let tails = (both (has_header c.ops p) (has_tail c.constants c.ops p ends counter limit) tests).1 in
      let (start, stop, value, end_value, passing) =
      count_values (value_of c.constants c.ops p counter) (value_of c.constants c.ops p limit) step n up in
      let same : field_a (op p) - 1 ≡ e = omega (arith, target) in
      let t = tail_ops c.constants c.ops p ends counter limit tails in
      let t' : TailOps c.constants c.ops p e counter limit = rw same at t in
      let is_step = sym (ap (λ (m : ℕ). tail_constant c.constants c.ops m) same) ∙ t.step.0 in
      build e n (e - 5) step start stop (omega (arith, t'.far)) t' is_step refl t.step.1 header counted value end_value passing sure fit
