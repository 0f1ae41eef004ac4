-- The rows that a walk visits, with what holds at each part's end, and that what the cycle walk answers tells its own: a part whose answer ends has no
-- way to its end, and a loop is visited once its row gets there. Assumes nothing.
use mathlib.Core.Path.{◌≡◌, refl, ap}
use mathlib.Core.Bool.{Bool, true, false, ◌&&◌, and-false}
use Prim.Native.Nat.{ℕ, suc, ◌+◌, ◌<◌, max}
use native.Mathlib.Omega.{arith}
use Rattle.rules.specs.Rows.{loop_to, shape_of}
use Rattle.rules.specs.Rows.{Row, end, step, stop, leave, leave_if, if_then, if_else, loop, IsRow}
use Rattle.rules.specs.Cycles.{Breaks, unbroken, costliest, note_break, Cost}
use Rattle.rules.proofs.Walked.{Broken, note_broken, still_broken, AfterArms, AfterPass, AfterLoop, Walked, grows}

-- a loop whose Loop is at i and whose EndLoop is at e, before `to`, with the body b
pub record LoopAt (op : ℕ → ℕ) (to i e : ℕ) (b : Row) : Type 0 where
  pub opens : shape_of (op i) ≡ loop_to (suc e)
  pub forward : i < e
  pub inside : e < to
  pub rows : IsRow op true (suc i) e b

-- What holds of each Loop that is met, and on what a plain op is passed.
module _ (Visited Passes : ℕ → Type 0) where
  -- A row as a walk visits it: each Loop that is met is `Visited`, what is behind a plain op is visited where the op `Passes`, A holds at the row's end, and B
  -- behind its breaks. At the end of a loop's body nothing is asked.
  abbrev pub Visits : Type 0 → Type 0 → Row → Type 0
  Visits A B end = A
  Visits A B (step i r) = Passes i → Visits A B r
  Visits A B (stop i r) = Unit {0}
  Visits A B (leave i r) = B
  Visits A B (leave_if i r) = B × Visits A B r
  Visits A B (if_then i t p r) = Visits (Visits A B r) B p × Visits A B r
  Visits A B (if_else i e t p q r) = Visits (Visits A B r) B p × Visits (Visits A B r) B q
  Visits A B (loop i e b r) = Visited i × Visits (Unit {0}) (Visits A B r) b

  -- A row up to `to`, inside a range up to `last`, walked to the answer k.
  module _ (fee : ℕ → ℕ) (Counted : ℕ → ℕ → Type 0) (op : ℕ → ℕ) (last : ℕ)
      (enters : (i e : ℕ) (b : Row) (body : Cost) → LoopAt op last i e b → Walked fee Counted b 0 unbroken body
      → (body.ends ≡ false → (n : ℕ) × Counted i n) → Visited i) where
    loop_ends : (x : Bool) (i e : ℕ) (body : Cost) (cost : ℕ) (br : Breaks) (k : Cost) (rest : ℕ → Breaks → Type 0)
        → AfterLoop fee Counted x i e body cost br k rest → x ≡ false → (n : ℕ) × Counted i n
    loop_ends true i e body cost br k rest v f = absurd (let o : ◌≡◌ {A = ℕ} 0 1 = cc in omega arith)
    loop_ends false i e body cost br k rest v f = (v.0, v.1)

    -- behind a loop that is left by a break
    loop_left : {P : Type 0} (x : Bool) (i e : ℕ) (body : Cost) (cost : ℕ) (br : Breaks) (k : Cost) (rest : ℕ → Breaks → Type 0)
        → ((n : ℕ) → rest n br → P) → AfterLoop fee Counted x i e body cost br k rest → Broken body.breaks → P
    loop_left {P} true i e body cost br k rest next v broken = by body.breaks v broken
      where
        by : (z : Breaks) → AfterPass z body.cycles cost br k rest → Broken z → P
        by unbroken v broken = absurd broken
        by (costliest z) v broken = next _ v
    loop_left false i e body cost br k rest next v broken = next _ v.2

    -- what is shown of a row, in whatever it stands
    abbrev RowVisits : Row → Type 1
    RowVisits r =
        (l : Bool) (i to cost : ℕ) (br : Breaks) (k : Cost) (A B : Type 0) → to < suc last → IsRow op l i to r
        → Walked fee Counted r cost br k → (k.ends ≡ false → A) → (Broken k.breaks → B) → Visits A B r

    else_visits : (j e t : ℕ) (p q r : Row) → RowVisits p → RowVisits q → RowVisits r → RowVisits (if_else j e t p q r)
    else_visits j e t p q r on_p on_q on_r l i to cost br k A B h w (arm, other, v, v', v'') a b = by (arm.ends && other.ends) refl v''
      where
        spent : ℕ
        spent = cost + fee j + max (arm.cycles + fee e) other.cycles + fee t

        arms : ((arm.ends && other.ends) ≡ false → Visits A B r) → (Broken other.breaks → B) → Visits A B (if_else j e t p q r)
        arms rest out =
            let g = (grows fee Counted q 0 arm.breaks other v').1 in (
              on_p l (suc i) e 0 br arm (Visits A B r) B (omega arith) w.7 v (λ f. rest (rw f))
                  (λ m. out (still_broken arm.breaks other.breaks g m)),
              on_q l (suc e) t 0 arm.breaks other (Visits A B r) B (omega arith) w.8 v' (λ f. rest (rw f (and-false arm.ends))) out,
            )

        by : (x : Bool) → (arm.ends && other.ends) ≡ x → AfterArms x spent other.breaks k (λ n z. Walked fee Counted r n z k)
            → Visits A B (if_else j e t p q r)
        by true f v = arms (λ m. absurd (let o : ◌≡◌ {A = ℕ} 0 1 = cc in omega arith)) (λ m. b (rw v m))
        by false f v =
            let g = grows fee Counted r spent other.breaks k v in
            arms (λ m. on_r l (suc t) to spent other.breaks k A B h w.9 v a b)
            (λ m. b (still_broken other.breaks k.breaks g.1 m))

    pub row_visits : (r : Row) → RowVisits r
    row_visits end l i to cost br k A B h w v a b = a (ap (λ (z : Cost). z.ends) v)
    row_visits (step j r) l i to cost br k A B h w v a b = λ passes. row_visits r l (suc i) to _ br k A B h w.3 v a b
    row_visits (stop j r) l i to cost br k A B h w v a b = tt
    row_visits (leave j r) l i to cost br k A B h w v a b = b (rw v (note_broken br (cost + fee j)))
    row_visits (leave_if j r) l i to cost br k A B h w v a b =
        let now = note_break br (cost + fee j) in (
          b (still_broken now k.breaks (grows fee Counted r _ now k v).1 (note_broken br (cost + fee j))),
          row_visits r l (suc i) to _ now k A B h w.4 v a b,
        )
    row_visits (if_then j t p r) l i to cost br k A B h w (arm, v, v') a b =
        let rest = row_visits r l (suc t) to _ arm.breaks k A B h w.6 v' a b in
        let g = grows fee Counted r _ arm.breaks k v' in (
          row_visits p l (suc i) t 0 br arm (Visits A B r) B (omega arith) w.5 v (λ f. rest)
              (λ m. b (still_broken arm.breaks k.breaks g.1 m)),
          rest,
        )
    row_visits (if_else j e t p q r) l i to cost br k A B h w v a b =
        else_visits j e t p q r (row_visits p) (row_visits q) (row_visits r) l i to cost br k A B h w v a b
    row_visits (loop j e q r) l i to cost br k A B h w (body, v, v') a b =
        let at : LoopAt op last j e q =
        record { opens = rw w.0 w.1; forward = rw w.0 w.2; inside = omega arith; rows = rw w.0 w.5 } in (
          enters j e q body at v (loop_ends body.ends j e body _ br k _ v'),
          row_visits q true (suc i) e 0 unbroken body (Unit {0}) (Visits A B r) (omega arith) w.5 v (λ f. tt)
              (loop_left body.ends j e body _ br k _ (λ n u. row_visits r l (suc e) to n br k A B h w.6 u a b) v'),
        )
