-- Where the cycle walk says that a loop's body goes on, some way leads to its end. Assumes nothing.
use mathlib.Core.Path.{◌≡◌, refl}
use mathlib.Core.Bool.{Bool, true, false, ◌&&◌}
use mathlib.Core.List.{List, [], ◌∷◌}
use Prim.Native.Nat.{ℕ, suc, ◌+◌, ◌-◌, ◌<◌}
use native.Mathlib.Omega.{arith}
use borrow.Author.Tests.{le-leb, lt-ltb, eq-eqb}
use lib.Dec.{eqb}
use lib.IntN.{ℤ, pos}
use Rattle.rules.specs.Ops.{field_a}
use Rattle.rules.specs.Form.{Chunk}
use Rattle.rules.specs.Rows.{Shape, if_to, else_to, end_if, loop_to, breaks, breaks_if, shape_of}
use Rattle.rules.specs.Rows.{Row, end, step, stop, leave, leave_if, if_then, if_else, loop, Plain, IsRow}
use Rattle.rules.specs.Count.{has_header}
use Rattle.rules.specs.Cycles.{Breaks, unbroken, costliest, Cost, costs}
use Rattle.rules.specs.Order.{chunk_at}
use Rattle.rules.specs.Paths.{Way, on, aside, Entry, Spot, here, in_loop, depth_behind, entry_at, settle, go_by, leave_loop, count_pass, reaches, CanReachEnd}
use Rattle.rules.proofs.Shapes.{shape_tells}
use Rattle.rules.proofs.Walked.{Broken, still_broken, AfterArms, AfterPass, AfterLoop, Walked, grows}
use Rattle.rules.proofs.Moves.{placed, op_in, Inside, plain_goes}
use Rattle.rules.proofs.Header.{header_tested, behind_header}

-- the targets of the loops that are open, the innermost first
abbrev Targets : List Entry → List ℕ → Type 0
Targets [] [] = Unit {0}
Targets [] (t ∷ ts) = ⊥
Targets (e ∷ es) [] = ⊥
Targets (e ∷ es) (t ∷ ts) = (e.target ≡ t) × Targets es ts

both_hold : (a b : Bool) → a ≡ true → b ≡ true → a && b ≡ true
both_hold a b h k = rw (h, k)

module _ (cs : List Chunk) (c : ℕ) where
  -- a position of the range
  stands : (i : ℕ) (d b : ℤ) (es : List Entry) → Inside cs c i (suc i) → settle cs (placed c i d b es) [] ≡ here (placed c i d b es) []
  unfolding settle
  stands i d b es h = simp (le-leb _ _ h.0, lt-ltb _ _ h.1)

  -- Some ways lead to position g, a loop open all along.
  module _ (g : ℕ) where
    abbrev CanGo : Spot → Type 0
    CanGo s = (in_loop s ≡ true) × (ways : List Way) × (reaches cs g s ways ≡ true)

    abbrev ReachAt : ℕ → List ℕ → Type 0
    ReachAt i ts = (d b : ℤ) (es : List Entry) → Targets es ts → CanGo (settle cs (placed c i d b es) [])

    -- one op, whose shape is s, taken by the way w
    op_reach : (s : Shape) (i t : ℕ) (ts : List ℕ) (w : Way) → shape_of (op_in cs c i) ≡ s → Inside cs c i (suc i)
        → ((d b : ℤ) (es : List Entry) → Targets es (t ∷ ts) → CanGo (go_by cs s false (placed c i d b es) [] w)) → ReachAt i (t ∷ ts)
    unfolding reaches
    op_reach s i t ts w e h next d b [] k = absurd k
    op_reach s i t ts w e h next d b (x ∷ es) k =
        let a = next d b (x ∷ es) k in
        rw (stands i d b (x ∷ es) h) (refl, w ∷ a.1, rw e (both_hold _ _ a.0 a.2))

    plain_reach : (i t : ℕ) (ts : List ℕ) → Plain (shape_of (op_in cs c i)) → Inside cs c i (suc i) → ReachAt (suc i) (t ∷ ts) → ReachAt i (t ∷ ts)
    plain_reach i t ts p h next =
        op_reach (shape_of (op_in cs c i)) i t ts on refl h (λ d b es k. rw (plain_goes cs (shape_of (op_in cs c i)) p (placed c i d b es) [] on) (next _ _ es k))

    -- behind a BreakIf that is not taken, and out of the innermost loop
    passes : (i t : ℕ) (ts : List ℕ) → ReachAt (suc i) (t ∷ ts) → (d b : ℤ) (es : List Entry) → Targets es (t ∷ ts)
        → CanGo (go_by cs breaks_if false (placed c i d b es) [] on)
    passes i t ts next d b [] k = absurd k
    passes i t ts next d b (x ∷ es) k = next _ _ _ (kept (eqb i (x.loop + 4) && has_header (chunk_at cs c).ops x.loop), k.1)
      where
        kept : (a : Bool) → (count_pass cs a x).target ≡ t
        kept true = k.0
        kept false = k.0

    leaves : (i t : ℕ) (ts : List ℕ) → ReachAt t ts → (d b : ℤ) (es : List Entry) → Targets es (t ∷ ts)
        → CanGo (leave_loop cs es (placed c i d b es) [])
    leaves i t ts next d b [] k = absurd k
    leaves i t ts next d b (x ∷ es) k = rw k.0 (next _ _ es k.1)

    -- What is aimed at from a row's start: its end, or a way out of the innermost loop around.
    abbrev Aim : Bool → ℕ → Breaks → Cost → ℕ → List ℕ → Type 0
    Aim true to br k t ts = (k.ends ≡ false) × ReachAt to (t ∷ ts)
    Aim false to br k t ts = (br ≡ unbroken) × Broken k.breaks × ReachAt t ts

    -- a row that ends and has met no other break reaches neither
    no_aim : {P : Type 0} (m : Bool) (to cost : ℕ) (br : Breaks) (k : Cost) (t : ℕ) (ts : List ℕ) → k ≡ costs cost true br → Aim m to br k t ts → P
    no_aim true to cost br k t ts e a = absurd (let z : ◌≡◌ {A = ℕ} 0 1 = cc in omega arith)
    no_aim false to cost br k t ts e a = let z : k.breaks ≡ unbroken = cc in absurd (rw z at a.1)

    -- If with Else: one of the arms goes on
    through_arms : (i e u t : ℕ) (ts : List ℕ) (x y : Bool) → shape_of (op_in cs c i) ≡ if_to (suc e) → shape_of (op_in cs c e) ≡ else_to u
        → Inside cs c i (suc i) → Inside cs c e (suc e) → (x && y) ≡ false → (x ≡ false → ReachAt e (t ∷ ts) → ReachAt (suc i) (t ∷ ts))
        → (y ≡ false → ReachAt u (t ∷ ts) → ReachAt (suc e) (t ∷ ts)) → ReachAt u (t ∷ ts) → ReachAt i (t ∷ ts)
    through_arms i e u t ts false y s n h j f first second next =
        op_reach (if_to (suc e)) i t ts on s h (λ d b es k. first refl (op_reach (else_to u) e t ts on n j (λ d b es k. next _ _ es k)) _ _ es k)
    through_arms i e u t ts true y s n h j f first second next =
        op_reach (if_to (suc e)) i t ts aside s h (λ d b es k. second f next _ _ es k)

    -- a row, walked for any charge, and with counts where there is a header test
    module _ (fee : ℕ → ℕ) (Counted : ℕ → ℕ → Type 0) (tested : (p n : ℕ) → Counted p n → has_header (chunk_at cs c).ops p ≡ true) where
      abbrev RowReach : Row → Type 0
      RowReach r =
          (m l : Bool) (i to cost : ℕ) (br : Breaks) (k : Cost) (t : ℕ) (ts : List ℕ) → Inside cs c i to → IsRow (op_in cs c) l i to r
          → Walked fee Counted r cost br k → Aim m to br k t ts → ReachAt i (t ∷ ts)

      if_reach : (j u : ℕ) (p r : Row) → RowReach p → RowReach r → RowReach (if_then j u p r)
      if_reach j u p r on-p on-r m l i to cost br k t ts h w (arm, x, y) a = go m arm.breaks refl a
        where
          skips : ReachAt (suc u) (t ∷ ts) → ReachAt i (t ∷ ts)
          skips next =
              op_reach (if_to u) i t ts aside w.1 (omega arith)
              (λ d b es z. op_reach end_if u t ts on w.4 (omega arith) (λ d b es z. next _ _ es z) _ _ es z)

          go : (m : Bool) (z : Breaks) → arm.breaks ≡ z → Aim m to br k t ts → ReachAt i (t ∷ ts)
          go true z e a = skips (on-r true l (suc u) to _ arm.breaks k t ts (omega arith) w.6 y a)
          go false unbroken e a = skips (on-r false l (suc u) to _ arm.breaks k t ts (omega arith) w.6 y (e, a.1, a.2))
          go false (costliest n) e a =
              let inside = on-p false l (suc i) u 0 br arm t ts (omega arith) w.5 x (a.0, rw e tt, a.2) in
              op_reach (if_to u) i t ts on w.1 (omega arith) (λ d b es z. inside _ _ es z)

      else_reach : (j e u : ℕ) (p q r : Row) → RowReach p → RowReach q → RowReach r → RowReach (if_else j e u p q r)
      else_reach j e u p q r on-p on-q on-r m l i to cost br k t ts h w (arm, other, x, y, v) a = breaks_in m arm.breaks other.breaks refl refl a
        where
          -- the rest follows, whichever arm leads there
          rest : (n z : Bool) (cost : ℕ) → (arm.ends && other.ends) ≡ z → Aim n to other.breaks k t ts
              → AfterArms z cost other.breaks k (λ x b. Walked fee Counted r x b k) → ReachAt i (t ∷ ts)
          rest n true cost f a v = no_aim n to cost other.breaks k t ts v a
          rest n false cost f a v =
              let behind = on-r n l (suc u) to cost other.breaks k t ts (omega arith) w.9 v a in
              through_arms i e u t ts arm.ends other.ends w.1 w.5 (omega arith) (omega arith) f
              (λ f next. on-p true l (suc i) e 0 br arm t ts (omega arith) w.7 x (f, next))
              (λ f next. on-q true l (suc e) u 0 arm.breaks other t ts (omega arith) w.8 y (f, next))
              (op_reach end_if u t ts on w.6 (omega arith) (λ d b es z. behind _ _ es z))

          breaks_in : (n : Bool) (z o : Breaks) → arm.breaks ≡ z → other.breaks ≡ o → Aim n to br k t ts → ReachAt i (t ∷ ts)
          breaks_in true z o f g a = rest true (arm.ends && other.ends) _ refl a v
          breaks_in false unbroken unbroken f g a = rest false (arm.ends && other.ends) _ refl (g, a.1, a.2) v
          breaks_in false unbroken (costliest o) f g a =
              let inside = on-q false l (suc e) u 0 arm.breaks other t ts (omega arith) w.8 y (f, rw g tt, a.2) in
              op_reach (if_to (suc e)) i t ts aside w.1 (omega arith) (λ d b es z. inside _ _ es z)
          breaks_in false (costliest z) o f g a =
              let inside = on-p false l (suc i) e 0 br arm t ts (omega arith) w.7 x (a.0, rw f tt, a.2) in
              op_reach (if_to (suc e)) i t ts on w.1 (omega arith) (λ d b es z. inside _ _ es z)

      loop_reach : (j e : ℕ) (b r : Row) → RowReach b → RowReach r → RowReach (loop j e b r)
      loop_reach j e b r on-b on-r m l i to cost br k t ts h w (body, x, v) a = go body.ends v
        where
          -- in, and out by one of the body's breaks
          inside : Broken body.breaks → ReachAt (suc e) (t ∷ ts) → ReachAt i (t ∷ ts)
          inside z next =
              let out = on-b false true (suc i) e 0 unbroken body (suc e) (t ∷ ts) (omega arith) w.5 x (refl, z, next) in
              op_reach (loop_to (suc e)) i t ts on w.1 (omega arith) (λ d b es z. out _ _ _ (refl, z))

          behind : (n : ℕ) → Walked fee Counted r n br k → ReachAt (suc e) (t ∷ ts)
          behind n v = on-r m l (suc e) to n br k t ts (omega arith) w.6 v a

          one_pass_lem : (z : Breaks) → body.breaks ≡ z → AfterPass z body.cycles (cost + fee j) br k (λ n b. Walked fee Counted r n b k) → ReachAt i (t ∷ ts)
          one_pass_lem unbroken f v = no_aim m to _ br k t ts v a
          one_pass_lem (costliest n) f v = inside (rw f tt) (behind _ v)

          go : (z : Bool) → AfterLoop fee Counted z j e body (cost + fee j) br k (λ n b. Walked fee Counted r n b k) → ReachAt i (t ∷ ts)
          go true v = one_pass_lem body.breaks refl v
          go false v =
              let head = header_tested (chunk_at cs c).ops i (rw w.0 at (tested j v.0 v.1)) in
              let (s, _, y) = behind_header fee Counted (op_in cs c) true e w.4 body i b head w.5 x in
              inside (still_broken (costliest _) body.breaks (grows fee Counted s _ _ body y).1 tt) (behind _ v.2)

      row_reach : (r : Row) → RowReach r
      row_reach end true l i to cost br k t ts h w v a = rw w a.1
      row_reach end false l i to cost br k t ts h w v a = let z : k.breaks ≡ unbroken = cc in absurd (rw z at a.1)
      row_reach (step j r) m l i to cost br k t ts h w v a =
          plain_reach i t ts w.2 (omega arith) (row_reach r m l (suc i) to _ br k t ts (omega arith) w.3 v a)
      row_reach (stop j r) m l i to cost br k t ts h w v a = no_aim m to _ br k t ts v a
      row_reach (leave j r) true l i to cost br k t ts h w v a = no_aim true to _ _ k t ts v a
      row_reach (leave j r) false l i to cost br k t ts h w v a = op_reach breaks i t ts on w.2 (omega arith) (leaves i t ts a.2)
      row_reach (leave_if j r) true l i to cost br k t ts h w v a =
          op_reach breaks_if i t ts on w.2 (omega arith) (passes i t ts (row_reach r true l (suc i) to _ _ k t ts (omega arith) w.4 v a))
      row_reach (leave_if j r) false l i to cost br k t ts h w v a = op_reach breaks_if i t ts aside w.2 (omega arith) (leaves i t ts a.2)
      row_reach (if_then j u p r) m l i to cost br k t ts h w v a =
          if_reach j u p r (row_reach p) (row_reach r) m l i to cost br k t ts h w v a
      row_reach (if_else j e u p q r) m l i to cost br k t ts h w v a =
          else_reach j e u p q r (row_reach p) (row_reach q) (row_reach r) m l i to cost br k t ts h w v a
      row_reach (loop j e b r) m l i to cost br k t ts h w v a =
          loop_reach j e b r (row_reach b) (row_reach r) m l i to cost br k t ts h w v a

  at_end : (g t : ℕ) (ts : List ℕ) → Inside cs c g (suc g) → ReachAt g g (t ∷ ts)
  unfolding reaches
  at_end g t ts h d b [] k = absurd k
  at_end g t ts h d b (x ∷ es) k = rw (stands g d b (x ∷ es) h) (refl, [], eq-eqb g g refl)

  -- the loop at i, EndLoop at e
  pub can_reach : (fee : ℕ → ℕ) (Counted : ℕ → ℕ → Type 0) → ((p n : ℕ) → Counted p n → has_header (chunk_at cs c).ops p ≡ true)
      → (i e : ℕ) (b : Row) (body : Cost) → shape_of (op_in cs c i) ≡ loop_to (suc e) → Inside cs c i (suc e) → i < e
      → IsRow (op_in cs c) true (suc i) e b → Walked fee Counted b 0 unbroken body → body.ends ≡ false → CanReachEnd cs c i
  can_reach fee Counted tested i e b body s h lt w v f =
      let target = (shape_tells (op_in cs c i) (loop_to (suc e)) s).1 in
      let same : field_a (op_in cs c i) - 1 ≡ e = omega arith in
      let way = row_reach e fee Counted tested b true true (suc i) e 0 unbroken body (suc e) [] (omega arith) w v (f, at_end e (suc e) [] (omega arith)) in
      let first = placed c i (pos 0) (pos 0) [] in
      let found = way (depth_behind cs first) (pos 0) (entry_at cs (suc e) first ∷ []) (refl, tt) in
      rw (same, s) (found.1, found.2)
