-- The uncapped cycle walk as a relation: what the walk answers is so related, and only grows along a row. Assumes nothing.
use mathlib.Core.Path.{◌≡◌, refl}
use mathlib.Core.Bool.{Bool, true, false, ◌&&◌}
use mathlib.Core.List.{List}
use Prim.Native.Nat.{ℕ, zero, suc, ◌+◌, ◌-◌, ◌*◌, ◌≤◌, max}
use native.Mathlib.Omega.{arith}
use lib.Dec.{eqb}
use Rattle.rules.specs.Numbers as N
use Rattle.rules.specs.Outcome.{Result, ok, no, Found, found, nothing, and_then, demand}
use Rattle.rules.specs.Ops.{field_a, figures_of, op_at}
use Rattle.rules.specs.Form.{Chunk}
use Rattle.rules.specs.Reading.{extra_at}
use Rattle.rules.specs.Count.{has_header, has_tail, count_at, count_if, or_no_count, count_of}
use Rattle.rules.specs.Sure.{is_sure, sure_count_of}
use Rattle.rules.specs.Rows.{Row, end, step, stop, leave, leave_if, if_then, if_else, loop}
use Rattle.rules.specs.Cycles.{Breaks, unbroken, costliest, note_break, break_cost, Cost, costs, inner, unless_ends, one_pass, passes_cost, row_cost}
use Rattle.rules.specs.Limits.{deepest, open_text}
use Rattle.rules.specs.Cycles.{text_charge, callee_whole, charge_of, exact_cost}

-- some break was met
abbrev pub Broken : Breaks → Type 0
Broken unbroken = ⊥
Broken (costliest b) = Unit {0}

-- the breaks met later hold those met before
abbrev pub Within : Breaks → Breaks → Type 0
Within unbroken b = Unit {0}
Within (costliest a) unbroken = ⊥
Within (costliest a) (costliest b) = a ≤ b

within_same : (a : Breaks) → Within a a
within_same unbroken = tt
within_same (costliest a) = omega arith

within_trans : (a b c : Breaks) → Within a b → Within b c → Within a c
within_trans unbroken b c h k = tt
within_trans (costliest a) unbroken c h k = absurd h
within_trans (costliest a) (costliest b) unbroken h k = absurd k
within_trans (costliest a) (costliest b) (costliest c) h k = omega arith

within_note : (a : Breaks) (c : ℕ) → Within a (note_break a c)
within_note unbroken c = tt
within_note (costliest a) c = omega arith

pub note_broken : (a : Breaks) (c : ℕ) → Broken (note_break a c)
note_broken unbroken c = tt
note_broken (costliest a) c = tt

pub still_broken : (a b : Breaks) → Within a b → Broken a → Broken b
still_broken unbroken b h k = absurd k
still_broken (costliest a) unbroken h k = absurd h
still_broken (costliest a) (costliest b) h k = tt

-- the cost only grows, and the breaks met stay
abbrev pub Grows : ℕ → Breaks → Cost → Type 0
Grows cost br k = (cost ≤ k.cycles) × Within br k.breaks

grown : (cost : ℕ) (br : Breaks) (e : Bool) (k : Cost) → k ≡ costs cost e br → Grows cost br k
grown cost br e k h = rw h (omega arith, within_same br)

grows_more : (c d : ℕ) (a b : Breaks) (k : Cost) → c ≤ d → Within a b → Grows d b k → Grows c a k
grows_more c d a b k h w g = (omega arith, within_trans a b k.breaks w g.1)

-- behind two arms: the row ends, or the rest follows
abbrev pub AfterArms : Bool → ℕ → Breaks → Cost → (ℕ → Breaks → Type 0) → Type 0
AfterArms true cost br k rest = k ≡ costs cost true br
AfterArms false cost br k rest = rest cost br

-- behind a loop whose body cannot reach its end
abbrev pub AfterPass : Breaks → ℕ → ℕ → Breaks → Cost → (ℕ → Breaks → Type 0) → Type 0
AfterPass unbroken body cost br k rest = k ≡ costs (cost + body) true br
AfterPass (costliest b) body cost br k rest = rest (cost + max body b) br

arms_grow : (e : Bool) (cost : ℕ) (br : Breaks) (k : Cost) (rest : ℕ → Breaks → Type 0) → ((c : ℕ) (b : Breaks) → rest c b → Grows c b k)
    → AfterArms e cost br k rest → Grows cost br k
arms_grow true cost br k rest h w = grown cost br true k w
arms_grow false cost br k rest h w = h cost br w

pass_grows : (x : Breaks) (body cost : ℕ) (br : Breaks) (k : Cost) (rest : ℕ → Breaks → Type 0) → ((c : ℕ) (b : Breaks) → rest c b → Grows c b k)
    → AfterPass x body cost br k rest → Grows cost br k
pass_grows unbroken body cost br k rest h w = grows_more cost (cost + body) br br k (omega arith) (within_same br) (grown _ br true k w)
pass_grows (costliest b) body cost br k rest h w = grows_more cost (cost + max body b) br br k (omega arith) (within_same br) (h _ br w)

-- The walk as a relation: `fee` is what an op costs, `Counted p n` says that the loop at p passes n times.
module _ (fee : ℕ → ℕ) (Counted : ℕ → ℕ → Type 0) where
  -- behind any loop, with Loop at i, EndLoop at e
  abbrev pub AfterLoop : Bool → ℕ → ℕ → Cost → ℕ → Breaks → Cost → (ℕ → Breaks → Type 0) → Type 0
  AfterLoop true i e body cost br k rest = AfterPass body.breaks body.cycles cost br k rest
  AfterLoop false i e body cost br k rest =
      (n : ℕ) × Counted i n × rest (cost + ((body.cycles + fee e) * n + break_cost body.breaks)) br

  abbrev pub Walked : Row → ℕ → Breaks → Cost → Type 0
  Walked end cost br k = k ≡ costs cost false br
  Walked (step i r) cost br k = Walked r (cost + fee i) br k
  Walked (stop i r) cost br k = k ≡ costs (cost + fee i) true br
  Walked (leave i r) cost br k = k ≡ costs (cost + fee i) true (note_break br (cost + fee i))
  Walked (leave_if i r) cost br k = Walked r (cost + fee i) (note_break br (cost + fee i)) k
  Walked (if_then i t p r) cost br k =
      (arm : Cost) × Walked p 0 br arm × Walked r (cost + fee i + arm.cycles + fee t) arm.breaks k
  Walked (if_else i e t p q r) cost br k =
      (arm : Cost) × (other : Cost) × Walked p 0 br arm × Walked q 0 arm.breaks other
      × AfterArms (arm.ends && other.ends) (cost + fee i + max (arm.cycles + fee e) other.cycles + fee t) other.breaks k
      (λ c b. Walked r c b k)
  Walked (loop i e b r) cost br k =
      (body : Cost) × Walked b 0 unbroken body × AfterLoop body.ends i e body (cost + fee i) br k (λ c b. Walked r c b k)

  loop_grows : (x : Bool) (i e : ℕ) (body : Cost) (cost : ℕ) (br : Breaks) (k : Cost) (rest : ℕ → Breaks → Type 0)
      → ((c : ℕ) (b : Breaks) → rest c b → Grows c b k) → AfterLoop x i e body cost br k rest → Grows cost br k
  loop_grows true i e body cost br k rest h w = pass_grows body.breaks body.cycles cost br k rest h w
  loop_grows false i e body cost br k rest h w = grows_more cost _ br br k (omega arith) (within_same br) (h _ br w.2)

  pub grows : (r : Row) (cost : ℕ) (br : Breaks) (k : Cost) → Walked r cost br k → Grows cost br k
  grows end cost br k w = grown cost br false k w
  grows (step i r) cost br k w = grows_more cost _ br br k (omega arith) (within_same br) (grows r _ br k w)
  grows (stop i r) cost br k w = grows_more cost _ br br k (omega arith) (within_same br) (grown (cost + fee i) br true k w)
  grows (leave i r) cost br k w = grows_more cost _ br _ k (omega arith) (within_note br (cost + fee i)) (grown (cost + fee i) _ true k w)
  grows (leave_if i r) cost br k w = grows_more cost _ br _ k (omega arith) (within_note br (cost + fee i)) (grows r (cost + fee i) _ k w)
  grows (if_then i t p r) cost br k (arm, a, w) = grows_more cost _ br arm.breaks k (omega arith) (grows p 0 br arm a).1 (grows r _ arm.breaks k w)
  grows (if_else i e t p q r) cost br k (arm, other, a, b, w) =
      let in_arms_lem = within_trans br arm.breaks other.breaks (grows p 0 br arm a).1 (grows q 0 arm.breaks other b).1 in
      let g = arms_grow (arm.ends && other.ends) _ other.breaks k _ (λ c x v. grows r c x k v) w in
      grows_more cost _ br other.breaks k (omega arith) in_arms_lem g
  grows (loop i e b r) cost br k (body, a, w) =
      grows_more cost _ br br k (omega arith) (within_same br) (loop_grows body.ends i e body _ br k _ (λ c x v. grows r c x k v) w)

-- What the walk answers is so related, where `fee` is what `charge` answers and `Counted` holds of what `count` answers.
module _ (fee : ℕ → ℕ) (Counted : ℕ → ℕ → Type 0) (charge count : ℕ → Result ℕ)
    (paid : (i c : ℕ) → charge i ≡ ok c → c ≡ fee i) (counted : (p n : ℕ) → count p ≡ ok n → Counted p n) where
  charged : (i : ℕ) (f : ℕ → Result Cost) (k : Cost) → and_then (charge i) f ≡ ok k → f (fee i) ≡ ok k
  charged i f k h = go (charge i) refl h
    where
      go : (x : Result ℕ) → charge i ≡ x → and_then x f ≡ ok k → f (fee i) ≡ ok k
      go (ok c) e h = rw (← paid i c e) h
      go (no n p) e h = absurd (let z : ◌≡◌ {A = ℕ} 0 1 = cc in omega arith)

  -- a part walked with one level less, and what follows it
  deeper : {P : Type 0} (left : ℕ) (walk : ℕ → Result Cost) (f : Cost → Result Cost) (k : Cost)
      → ((l : ℕ) (a : Cost) → walk l ≡ ok a → f a ≡ ok k → P) → and_then (inner left walk) f ≡ ok k → P
  deeper zero walk f k next h = absurd (let z : ◌≡◌ {A = ℕ} 0 1 = cc in omega arith)
  deeper {P} (suc l) walk f k next h = go (walk l) refl h
    where
      go : (x : Result Cost) → walk l ≡ x → and_then x f ≡ ok k → P
      go (ok a) e h = next l a e h
      go (no n p) e h = absurd (let z : ◌≡◌ {A = ℕ} 0 1 = cc in omega arith)

  module _ (k : Cost) (next : ℕ → Breaks → Result Cost) (rest : ℕ → Breaks → Type 0) (follows : (c : ℕ) (b : Breaks) → next c b ≡ ok k → rest c b) where
    after_arms : (e : Bool) (cost : ℕ) (br : Breaks) → unless_ends e cost br next ≡ ok k → AfterArms e cost br k rest
    after_arms true cost br h = cc
    after_arms false cost br h = follows cost br h

    after_pass : (x : Breaks) (body cost : ℕ) (br : Breaks) → one_pass (λ n. n) charge count x cost body br next ≡ ok k
        → AfterPass x body cost br k rest
    after_pass unbroken body cost br h = cc
    after_pass (costliest b) body cost br h = follows (cost + max body b) br h

    after_loop : (x : Bool) (i e : ℕ) (body : Cost) (cost : ℕ) (br : Breaks) → passes_cost (λ n. n) charge count x i e body cost br next ≡ ok k
        → AfterLoop fee Counted x i e body cost br k rest
    after_loop true i e body cost br h = after_pass body.breaks body.cycles cost br h
    after_loop false i e body cost br h = go (count i) refl h
      where
        go : (x : Result ℕ) → count i ≡ x
            → and_then x (λ n. and_then (charge e) (λ d. next (cost + ((body.cycles + d) * n + break_cost body.breaks)) br)) ≡ ok k
            → AfterLoop fee Counted false i e body cost br k rest
        go (ok n) a h = (n, counted i n a, follows _ br (charged e _ k h))
        go (no n p) a h = absurd (let z : ◌≡◌ {A = ℕ} 0 1 = cc in omega arith)

  pub walked : (r : Row) (left cost : ℕ) (br : Breaks) (k : Cost) → row_cost (λ n. n) charge count r left cost br ≡ ok k
      → Walked fee Counted r cost br k
  unfolding row_cost
  walked end left cost br k h = cc
  walked (step i r) left cost br k h = walked r left (cost + fee i) br k (charged i _ k h)
  walked (stop i r) left cost br k h = let z = charged i _ k h in cc
  walked (leave i r) left cost br k h = let z = charged i _ k h in cc
  walked (leave_if i r) left cost br k h = walked r left (cost + fee i) (note_break br (cost + fee i)) k (charged i _ k h)
  walked (if_then i t p r) left cost br k h =
      deeper left _ _ k (λ l arm a g. (arm, walked p l 0 br arm a, walked r left _ arm.breaks k (charged t _ k g))) (charged i _ k h)
  walked (if_else i e t p q r) left cost br k h =
      deeper left _ _ k (λ l arm a g. deeper left _ _ k (λ m other b f. (
        arm,
        other,
        walked p l 0 br arm a,
        walked q m 0 arm.breaks other b,
        after_arms k _ _ (λ c x v. walked r left c x k v) (arm.ends && other.ends) _ other.breaks (charged t _ k (charged e _ k f)),
      )) g)
      (charged i _ k h)
  walked (loop i e b r) left cost br k h =
      deeper left _ _ k (λ l body a g.
      (body, walked b l 0 unbroken body a, after_loop k _ _ (λ c x v. walked r left c x k v) body.ends i e body _ br g)) (charged i _ k h)

-- For a chunk: what an op costs, and that a loop has its header test and a count.
abbrev pub fee_of : Chunk → List ℕ → ℕ → ℕ
fee_of c wholes i = (figures_of (op_at c.ops i)).cycles + extra_at c.extras i + callee_whole wholes (op_at c.ops i)

abbrev pub CountedIn : Chunk → ℕ → ℕ → Type 0
CountedIn c p n = (has_header c.ops p ≡ true) × (count_at c.constants c.ops p ≡ found n)

pub chunk_paid : (c : Chunk) (wholes : List ℕ) (i n : ℕ) → charge_of c wholes i ≡ ok n → n ≡ fee_of c wholes i
chunk_paid c wholes i n h = go (eqb (extra_at c.extras i) open_text) h
  where
    go : (b : Bool) → text_charge b i (fee_of c wholes i) ≡ ok n → n ≡ fee_of c wholes i
    go true h = absurd (let z : ◌≡◌ {A = ℕ} 0 1 = cc in omega arith)
    go false h = cc

pub chunk_counted : (c : Chunk) (p n : ℕ) → count_of c p ≡ ok n → CountedIn c p n
chunk_counted c p n h =
    let is_found = asked (count_at c.constants c.ops p) h in
    let v = field_a (op_at c.ops (p + 1)) in
    let e = field_a (op_at c.ops (p + 2)) in
    (tested v e _ (has_header c.ops p) (has_tail c.constants c.ops p (field_a (op_at c.ops p) - 1) v e) is_found, is_found)
  where
    asked : (x : Found) → or_no_count x p ≡ ok n → x ≡ found n
    asked (found m) h = cc
    asked nothing h = absurd (let z : ◌≡◌ {A = ℕ} 0 1 = cc in omega arith)

    tested : (v e s : ℕ) (a b : Bool) → count_if (a && b) c.constants c.ops p v e s ≡ found n → a ≡ true
    tested v e s true b h = refl
    tested v e s false b h = absurd (let z : ◌≡◌ {A = ℕ} 0 1 = cc in omega arith)

-- a sure count is a count that meets the two conditions
pub sure_counted : (c : Chunk) (r : Row) (p n : ℕ) → sure_count_of c r p ≡ ok n → (count_of c p ≡ ok n) × (is_sure c r p n ≡ true)
sure_counted c r p n h = go (count_of c p) h
  where
    tested : (b : Bool) (m : ℕ) → is_sure c r p m ≡ b → demand b N.unsure_count p m ≡ ok n → (ok m ≡ ok n) × (is_sure c r p n ≡ true)
    tested true m e h = let same : m ≡ n = cc in (h, rw same at e)
    tested false m e h = absurd (let z : ◌≡◌ {A = ℕ} 0 1 = cc in omega arith)

    go : (x : Result ℕ) → and_then x (λ m. demand (is_sure c r p m) N.unsure_count p m) ≡ ok n → (x ≡ ok n) × (is_sure c r p n ≡ true)
    go (ok m) h = tested (is_sure c r p m) m refl h
    go (no a b) h = absurd (let z : ◌≡◌ {A = ℕ} 0 1 = cc in omega arith)

pub chunk-walked : (c : Chunk) (wholes : List ℕ) (r : Row) (k : Cost) → exact_cost c wholes r ≡ ok k → Walked (fee_of c wholes) (CountedIn c) r 0 unbroken k
chunk-walked c wholes r k h =
    walked (fee_of c wholes) (CountedIn c) (charge_of c wholes) (sure_count_of c r) (chunk_paid c wholes)
    (λ p n e. chunk_counted c p n (sure_counted c r p n e).0) r deepest 0 unbroken k h
