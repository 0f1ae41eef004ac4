-- The words of chunks that fit are in form: the reading finds them broken nowhere.
-- Assumes nothing.
use mathlib.Core.Path.{◌≡◌, refl}
use mathlib.Core.Bool.{true}
use mathlib.Mathlib.Data.Bool.Basic.{or-eq-false-eq-eq-false-and-eq-false}
use mathlib.Core.List.{List, [], ◌∷◌, ◌++◌, flat_map}
use Prim.Native.Nat.{ℕ, zero, suc, ◌+◌, ◌/◌, ◌%◌, ◌^◌, ◌<◌, ◌≤◌}
use native.Mathlib.Omega.{arith}
use lib.ListN.{length}
use Rattle.rules.specs.Outcome.{nothing}
use Rattle.rules.specs.Ops.{word, is_op}
use Rattle.rules.specs.Form.{Constant, integer, other, Chunk, bits, constant_words, extra_words, chunk_words, Each, ChunkFits}
use Rattle.rules.specs.Reading.{Stage, before_chunk, in_constants, in_ops, in_extras, in_extra, goes, step, broken_at}
use Rattle.rules.specs.Reading.{of_constants, of_ops, of_extras, is_chunk, is_constant}
use Rattle.rules.proofs.WordFields.{chunk_word, constant_word, extra_word}
use Rattle.rules.proofs.ReadingParts.{Stops, from_extras, from_constants, from_chunk, constants_stop, ops_stop, extras_stop}

-- nothing is broken in these words, whatever the place of the first
abbrev pub Accepts : Stage → List ℕ → Type 0
Accepts s ws = (p : ℕ) → broken_at s ws p ≡ nothing

pub accepts_step : (s t : Stage) (w : ℕ) (ws : List ℕ) → step s w ≡ goes t → Accepts t ws → Accepts s (w ∷ ws)
unfolding broken_at
accepts_step s t w ws e a p = rw e (a (suc p))

-- a part that is over is passed by
over_constants : (n : ℕ) (ws : List ℕ) → Stops of_constants ws → Accepts (in_ops 0 n) ws → Accepts (in_constants n) ws
unfolding broken_at
over_constants n [] s a p = a p
over_constants n (w ∷ ws) s a p = let h = simp or-eq-false-eq-eq-false-and-eq-false at s in simp (h.0, h.1) (a p)

over_ops : (k n : ℕ) (ws : List ℕ) → Stops of_ops ws → Accepts (in_extras k n) ws → Accepts (in_ops k n) ws
unfolding broken_at
over_ops k n [] s a p = a p
over_ops k n (w ∷ ws) s a p = simp s (a p)

over_extras : (k n : ℕ) (ws : List ℕ) → Stops of_extras ws → Accepts (in_extras 0 n) ws → Accepts (in_extras k n) ws
unfolding broken_at
over_extras k n [] s a p = a p
over_extras zero n (w ∷ ws) s a p = a p
over_extras (suc k) n (w ∷ ws) s a p = simp s (a p)

-- the parts of a chunk, whatever follows
module _ (n : ℕ) (ws : List ℕ) where
  accepts_constants : Accepts (in_constants n) ws → (ks : List Constant) → Accepts (in_constants n) (flat_map constant_words ks ++ ws)
  unfolding flat_map broken_at
  accepts_constants a [] p = a p
  accepts_constants a (integer z ∷ ks) p =
      let passes : (b m : ℕ) → b < 256 → is_constant 202 b (word 202 b (m % 65536)) ≡ true = λ b m l. constant_word 202 b (m % 65536) l (omega arith) refl in
      simp (
        passes 0 (bits z) (omega arith),
        passes 1 (bits z / 65536) (omega arith),
        passes 2 (bits z / 2 ^ 32) (omega arith),
        passes 3 (bits z / 2 ^ 48) (omega arith),
      )
      (accepts_constants a ks (suc (suc (suc (suc p)))))
  accepts_constants a (other ∷ ks) p = accepts_constants a ks (suc (suc (suc (suc p))))

  accepts_ops : (m : ℕ) → ((j : ℕ) → m ≤ j → Accepts (in_ops j n) ws)
      → (os : List ℕ) → Each (λ w. is_op w ≡ true) os → (k : ℕ) → m ≤ k + length os → Accepts (in_ops k n) (os ++ ws)
  accepts_ops m a [] h k l = a k (omega arith)
  accepts_ops m a (w ∷ os) h k l =
      accepts_step (in_ops k n) (in_ops (suc k) n) w (os ++ ws) (rw h.0) (accepts_ops m a os h.1 (suc k) (omega arith))

  accepts_extras : ((j : ℕ) → Accepts (in_extras j n) ws) → (xs : List ℕ) (k : ℕ) → length xs ≤ k → Accepts (in_extras k n) (flat_map extra_words xs ++ ws)
  unfolding flat_map
  accepts_extras a [] k l = a k
  accepts_extras a (x ∷ xs) zero l = absurd (omega arith)
  accepts_extras a (x ∷ xs) (suc k) l =
      accepts_step (in_extras (suc k) n) (in_extra k n) _ _ (rw (extra_word 0 (x % 65536) (omega arith) (omega arith)))
      (accepts_step (in_extra k n) (in_extras k n) _ _ (rw (extra_word 1 (x / 65536 % 65536) (omega arith) (omega arith))) (accepts_extras a xs k (omega arith)))

-- a chunk, with others behind it
module _ (c : Chunk) (cs : List Chunk) (fit : ChunkFits c) (fits : Each ChunkFits cs)
    (a : (k : ℕ) → Accepts (in_extras k (length cs)) (flat_map chunk_words cs)) where
  accepts_behind : (j : ℕ) → length c.extras ≤ j → Accepts (in_ops j (length cs)) (from_extras c.extras cs)
  accepts_behind j l = over_ops j (length cs) _ (ops_stop cs fits c.extras) (accepts_extras (length cs) _ a c.extras j l)

  accepts_body : Accepts (in_constants (length cs)) (from_constants c.constants c.ops c.extras cs)
  accepts_body =
      let ops = accepts_ops (length cs) _ (length c.extras) accepts_behind c.ops fit.ops 0 (omega arith) in
      accepts_constants (length cs) _ (over_constants (length cs) _ (constants_stop cs fits c.ops c.extras fit.ops) ops) c.constants

  abbrev head : ℕ
  head = word 200 c.type c.locals

  accepts_chunk : (s : Stage) → (is_chunk head ≡ true → step s head ≡ goes (in_constants (length cs))) → Accepts s (flat_map chunk_words (c ∷ cs))
  accepts_chunk s e =
      rw (from_chunk c cs) (accepts_step s (in_constants (length cs)) _ _ (e (chunk_word c.type c.locals fit.type fit.locals)) accepts_body)

accepts_chunks : (cs : List Chunk) → Each ChunkFits cs → (k : ℕ) → Accepts (in_extras k (length cs)) (flat_map chunk_words cs)
unfolding flat_map broken_at
accepts_chunks [] fits k = λ p. refl
accepts_chunks (c ∷ cs) fits k =
    over_extras k (suc (length cs)) (flat_map chunk_words (c ∷ cs)) (extras_stop (c ∷ cs) fits)
    (accepts_chunk c cs fits.0 fits.1 (accepts_chunks cs fits.1) (in_extras 0 (suc (length cs))) (λ e. rw e))

pub accepts_module : (cs : List Chunk) → Each ChunkFits cs → 1 ≤ length cs → Accepts (before_chunk (length cs)) (flat_map chunk_words cs)
accepts_module [] fits l = absurd (omega arith)
accepts_module (c ∷ cs) fits l =
    accepts_chunk c cs fits.0 fits.1 (accepts_chunks cs fits.1) (before_chunk (suc (length cs))) (λ e. rw e)
