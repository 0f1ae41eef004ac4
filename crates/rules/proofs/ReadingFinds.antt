-- Words that the reading finds broken nowhere are the words of chunks that fit.
-- Assumes nothing.
use mathlib.Core.Path.{◌≡◌, refl, sym, ap, ap₂, ◌∙◌}
use mathlib.Core.Bool.{Bool, true, false, cond, false≢true}
use mathlib.Core.List.{List, [], ◌∷◌, ◌++◌, append_assoc, flat_map}
use Prim.Native.Nat.{ℕ, zero, suc, ◌+◌, ◌^◌, ◌<◌, ◌≤◌}
use native.Mathlib.Omega.{arith}
use borrow.Author.Tests.{eqb-true}
use lib.Dec.{eqb}
use lib.ListN.{length}
use Rattle.rules.specs.Outcome.{found, nothing}
use Rattle.rules.specs.Ops.{field_a, field_b, is_op}
use Rattle.rules.specs.Form.{Constant, Chunk, constant_words, chunk_words, Each, ConstantFits, ChunkFits}
use Rattle.rules.specs.Reading.{Stage, before_chunk, in_constants, in_constant, in_ops, in_extras, in_extra, Next, goes, stuck, only_if, or_else}
use Rattle.rules.specs.Reading.{is_chunk, is_constant, is_extra, chunk_next, constant_next, op_next, extra_next, step, may_end, on_next, broken_at}
use Rattle.rules.proofs.WordFields.{chunk_parts}
use Rattle.rules.proofs.ConstantWords.{integer_of, other_of, extra_of}
use Rattle.rules.proofs.ReadingParts.{from_constants, from_ops, from_chunk}

-- the chunk of a head and its parts
abbrev chunk : ℕ → List Constant → List ℕ → List ℕ → Chunk
chunk w ks os xs = record { locals = field_a w; type = field_b w; constants = ks; ops = os; extras = xs }

-- These words are the rest of a chunk that has k ops already, and n chunks more.
record Tail (k n : ℕ) (ks : List Constant) (os xs : List ℕ) (cs : List Chunk) (ws : List ℕ) : Type 0 where
  constants : Each ConstantFits ks
  ops : Each (λ w. is_op w ≡ true) os
  extras : Each (λ x. x < 2 ^ 32) xs
  enough : length xs ≤ k + length os
  count : length cs ≡ n
  chunks : Each ChunkFits cs
  words : from_constants ks os xs cs ≡ ws

-- One item more at the front: a chunk, an op, an extra, a constant.
module _ {n : ℕ} {xs : List ℕ} {cs : List Chunk} {ws : List ℕ} where
  add-chunk : {k : ℕ} {ks : List Constant} {os : List ℕ} (w : ℕ) → is_chunk w ≡ true → Tail 0 n ks os xs cs ws
      → Tail k (suc n) [] [] [] (chunk w ks os xs ∷ cs) (w ∷ ws)
  unfolding flat_map
  add-chunk {ks} {os} w e t =
      let p = chunk_parts w e in
      record {
        constants = tt;
        ops = tt;
        extras = tt;
        enough = omega arith;
        count = ap suc t.count;
        chunks = (
          record { locals = omega arith; type = p.1; constants = t.constants; ops = t.ops; extras = t.extras; enough = omega (arith, t.enough) },
          t.chunks,
        );
        words = from_chunk (chunk w ks os xs) cs ∙ ap₂ {C = List ℕ} (λ v vs. v ∷ vs) (sym p.0) t.words;
      }

  add_op : {k : ℕ} {os : List ℕ} (w : ℕ) → is_op w ≡ true → Tail (suc k) n [] os xs cs ws → Tail k n [] (w ∷ os) xs cs (w ∷ ws)
  unfolding flat_map
  add_op w e t =
      record {
        constants = tt;
        ops = (e, t.ops);
        extras = t.extras;
        enough = omega (arith, t.enough);
        count = t.count;
        chunks = t.chunks;
        words = ap {B = List ℕ} (λ vs. w ∷ vs) t.words;
      }

  add_extra : {k : ℕ} (u v : ℕ) → is_extra 0 u ≡ true → is_extra 1 v ≡ true → Tail k n [] [] xs cs ws
      → (x : ℕ) × Tail (suc k) n [] [] (x ∷ xs) cs (u ∷ v ∷ ws)
  unfolding flat_map
  add_extra u v e f t =
      let (x, small, g) = extra_of u v e f in (
        x,
        record {
          constants = tt;
          ops = tt;
          extras = (small, t.extras);
          enough = omega (arith, t.enough);
          count = t.count;
          chunks = t.chunks;
          words = ap₂ {C = List ℕ} (λ us vs. us ++ vs) g t.words;
        },
      )

  add_constant : {ks : List Constant} {os vs : List ℕ} (a : Constant) → ConstantFits a → constant_words a ≡ vs → Tail 0 n ks os xs cs ws
      → Tail 0 n (a ∷ ks) os xs cs (vs ++ ws)
  unfolding flat_map
  add_constant {ks} {os} a h e t =
      record {
        constants = (h, t.constants);
        ops = t.ops;
        extras = t.extras;
        enough = t.enough;
        count = t.count;
        chunks = t.chunks;
        words = append_assoc (constant_words a) (flat_map constant_words ks) (from_ops os xs cs) ∙ ap₂ {C = List ℕ} (λ us vs. us ++ vs) e t.words;
      }

-- from a chunk's head, its extras, its ops, its constants on
abbrev Chunks : ℕ → ℕ → List ℕ → Type 0
Chunks k n ws = (cs : List Chunk) × Tail k n [] [] [] cs ws

abbrev Extras : ℕ → ℕ → List ℕ → Type 0
Extras k n ws = (xs : List ℕ) × (cs : List Chunk) × Tail k n [] [] xs cs ws

abbrev Ops : ℕ → ℕ → List ℕ → Type 0
Ops k n ws = (os : List ℕ) × (xs : List ℕ) × (cs : List Chunk) × Tail k n [] os xs cs ws

abbrev Constants : ℕ → List ℕ → Type 0
Constants n ws = (ks : List Constant) × (os : List ℕ) × (xs : List ℕ) × (cs : List Chunk) × Tail 0 n ks os xs cs ws

-- inside a constant and inside an extra
abbrev Inside : ℕ → ℕ → ℕ → List ℕ → Type 0
Inside k b n [] = ⊥
Inside k b n (w ∷ ws) = (is_constant k b w ≡ true) × cond (eqb b 3) (Constants n ws) (Inside k (suc b) n ws)

abbrev Half : ℕ → ℕ → List ℕ → Type 0
Half k n [] = ⊥
Half k n (w ∷ ws) = (is_extra 1 w ≡ true) × Extras k n ws

-- what the words are that a stage wants
abbrev Rest : Stage → List ℕ → Type 0
Rest (before_chunk n) ws = Chunks 0 n ws
Rest (in_constants n) ws = Constants n ws
Rest (in_constant k b n) ws = Inside k b n ws
Rest (in_ops k n) ws = Ops k n ws
Rest (in_extras k n) ws = Extras k n ws
Rest (in_extra k n) ws = Half k n ws

abbrev After : Next → List ℕ → Type 0
After (goes s) ws = Rest s ws
After stuck ws = ⊥

-- What a step leads to tells what the words are with the one it read.
module _ (ws : List ℕ) where
  passed : (b : Bool) (s : Stage) → After (only_if b s) ws → (b ≡ true) × Rest s ws
  passed true s r = (refl, r)
  passed false s r = absurd r

  either : {C : Type 0} (m o : Next) → (After m ws → C) → (After o ws → C) → After (or_else m o) ws → C
  either (goes s) o f g r = f r
  either stuck o f g r = g r

  after_chunk : (k n w : ℕ) → After (chunk_next n w) ws → Chunks k n (w ∷ ws)
  after_chunk k zero w r = absurd r
  after_chunk k (suc n) w r =
      let (e, (ks, os, xs, cs, t)) = passed (is_chunk w) (in_constants n) r in
      (chunk w ks os xs ∷ cs, add-chunk w e t)

  after_op : (k n w : ℕ) → After (op_next k n w) ws → Ops k n (w ∷ ws)
  after_op k n w r =
      let (e, (os, xs, cs, t)) = passed (is_op w) (in_ops (suc k) n) r in
      (w ∷ os, xs, cs, add_op w e t)

half_extra : (k n w : ℕ) (ws : List ℕ) → is_extra 0 w ≡ true → Half k n ws → Extras (suc k) n (w ∷ ws)
half_extra k n w [] e h = absurd h
half_extra k n w (v ∷ ws) e h =
    let (f, (xs, cs, t)) = h in
    let (x, u) = add_extra w v e f t in
    (x ∷ xs, cs, u)

after_extra : (ws : List ℕ) (k n w : ℕ) → After (extra_next k n w) ws → Extras k n (w ∷ ws)
after_extra ws zero n w r = absurd r
after_extra ws (suc k) n w r =
    let (e, h) = passed ws (is_extra 0 w) (in_extra k n) r in
    half_extra k n w ws e h

-- four words of kind k make a constant
abbrev Makes : ℕ → Type 0
Makes k = (s t u v : ℕ) → is_constant k 0 s ≡ true → is_constant k 1 t ≡ true → is_constant k 2 u ≡ true → is_constant k 3 v ≡ true
    → (a : Constant) × ConstantFits a × (constant_words a ≡ s ∷ t ∷ u ∷ v ∷ [])

inside_constant : (k : ℕ) → Makes k → (n s : ℕ) (ws : List ℕ) → is_constant k 0 s ≡ true → Inside k 1 n ws → Constants n (s ∷ ws)
inside_constant k make n s [] e h = absurd h
inside_constant k make n s (t ∷ []) e h = absurd h.1
inside_constant k make n s (t ∷ u ∷ []) e h = absurd h.1.1
inside_constant k make n s (t ∷ u ∷ v ∷ ws) e h =
    let (a, fit, g) = make s t u v e h.0 h.1.0 h.1.1.0 in
    let (ks, os, xs, cs, r) = h.1.1.1 in
    (a ∷ ks, os, xs, cs, add_constant a fit g r)

after_constant : (ws : List ℕ) (n w : ℕ) → After (constant_next n w) ws → Constants n (w ∷ ws)
after_constant ws n w r = either ws (start 202) (start 203) (from 202 integer_of) (from 203 other_of) r
  where
    start : ℕ → Next
    start k = only_if (is_constant k 0 w) (in_constant k 1 n)

    from : (k : ℕ) → Makes k → After (start k) ws → Constants n (w ∷ ws)
    from k make q =
        let (e, h) = passed ws (is_constant k 0 w) (in_constant k 1 n) q in
        inside_constant k make n w ws e h

-- the same of a whole step
module _ (w : ℕ) (ws : List ℕ) (n : ℕ) where
  before-extras : (k : ℕ) → After (or_else (extra_next k n w) (chunk_next n w)) ws → Extras k n (w ∷ ws)
  before-extras k r =
      either ws (extra_next k n w) (chunk_next n w) (λ q. after_extra ws k n w q) (λ q. let (cs, t) = after_chunk ws k n w q in ([], cs, t)) r

  before-ops : (k : ℕ) → After (step (in_ops k n) w) ws → Ops k n (w ∷ ws)
  before-ops k r =
      either ws (op_next k n w) (step (in_extras k n) w) (λ q. after_op ws k n w q) (λ q. let (xs, cs, t) = before-extras k q in ([], xs, cs, t)) r

  before-constants : After (step (in_constants n) w) ws → Constants n (w ∷ ws)
  before-constants r =
      either ws (constant_next n w) (step (in_ops 0 n) w) (λ q. after_constant ws n w q) (λ q. let (os, xs, cs, t) = before-ops 0 q in ([], os, xs, cs, t)) r

before : (s : Stage) (w : ℕ) (ws : List ℕ) → After (step s w) ws → Rest s (w ∷ ws)
before (before_chunk n) w ws r = after_chunk ws 0 n w r
before (in_constants n) w ws r = before-constants w ws n r
before (in_constant k b n) w ws r =
    let (e, q) = passed ws (is_constant k b w) (cond (eqb b 3) (in_constants n) (in_constant k (suc b) n)) r in
    (e, both (eqb b 3) q)
  where
    both : (t : Bool) → Rest (cond t (in_constants n) (in_constant k (suc b) n)) ws → cond t (Constants n ws) (Inside k (suc b) n ws)
    both true q = q
    both false q = q
before (in_ops k n) w ws r = before-ops w ws n k r
before (in_extras k n) w ws r = before-extras w ws n k r
before (in_extra k n) w ws r = passed ws (is_extra 1 w) (in_extras k n) r

-- no word more
no_more : (k n : ℕ) → eqb n 0 ≡ true → Tail k n [] [] [] [] []
unfolding flat_map
no_more k n e = record { constants = tt; ops = tt; extras = tt; enough = omega arith; count = sym (eqb-true n 0 e); chunks = tt; words = refl }

end : (s : Stage) → may_end s ≡ true → Rest s []
end (before_chunk n) e = absurd (false≢true e)
end (in_constants n) e = ([], [], [], [], no_more 0 n e)
end (in_constant k b n) e = absurd (false≢true e)
end (in_ops k n) e = ([], [], [], no_more k n e)
end (in_extras k n) e = ([], [], no_more k n e)
end (in_extra k n) e = absurd (false≢true e)

rest : (s : Stage) (ws : List ℕ) (p : ℕ) → broken_at s ws p ≡ nothing → Rest s ws
unfolding broken_at
rest s [] p e = go (may_end s) refl e
  where
    go : (b : Bool) → may_end s ≡ b → cond b nothing (found p) ≡ nothing → Rest s []
    go true h q = end s h
    go false h q = absurd (let z : ◌≡◌ {A = ℕ} 0 1 = cc in omega arith)
rest s (w ∷ ws) p e = before s w ws (go (step s w) (λ t q. rest t ws (suc p) q) e)
  where
    go : (m : Next) → ((t : Stage) → broken_at t ws (suc p) ≡ nothing → Rest t ws) → on_next m (λ t. broken_at t ws (suc p)) p ≡ nothing → After m ws
    go (goes t) ih q = ih t q
    go stuck ih q = absurd (let z : ◌≡◌ {A = ℕ} 0 1 = cc in omega arith)

pub finds : (n : ℕ) (ws : List ℕ) (p : ℕ) → broken_at (before_chunk n) ws p ≡ nothing
    → (cs : List Chunk) × (length cs ≡ n) × Each ChunkFits cs × (flat_map chunk_words cs ≡ ws)
unfolding flat_map
finds n ws p e =
    let (cs, t) = rest (before_chunk n) ws p e in
    (cs, t.count, t.chunks, t.words)
