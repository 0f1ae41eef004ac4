-- What the writer answers, from the chunk count and the size that was found. Assumes nothing.
use mathlib.Core.Path.{◌≡◌, refl, sym, ap, ap₂, ◌∙◌}
use mathlib.Core.Bool.{Bool, true, false, ◌&&◌, and-eq-true_iff}
use mathlib.Core.List.{List, [], ◌∷◌, ◌++◌, map, flat_map}
use Prim.Native.Nat.{ℕ, suc, ◌+◌, ◌*◌, ◌/◌, ◌<◌, ◌≤◌}
use native.Mathlib.Omega.{arith}
use borrow.Author.Tests.{le-leb, lt-leb, leb-true}
use lib.Dec.{eqb, leb}
use lib.ListN.{length, set, drop}
use Rattle.rules.specs.Limits.{most_words, most_chunks}
use Rattle.rules.specs.Outcome.{Outcome, answer, refused, found, nothing}
use Rattle.rules.specs.Ops.{word}
use Rattle.rules.specs.Form.{chunk_words}
use Rattle.rules.specs.Writing.{Draft, Held, holds, hold_none, held_if, held_first, filed, every, draft_fits, draft_words, module_fits, held_front, held, write_held, write_outcome, how_many, write_tray}
use Rattle.rules.proofs.Mapped.{map-length}
use Rattle.rules.proofs.Flags.{both}
use Rattle.words.proofs.Cases.{decide}
use Rattle.text.specs.Paste.{pasted}
use Rattle.text.proofs.PasteLaws.{pasted-one, pasted_first, pasted_twice}
use Rattle.words.specs.declared.refusals.Refusal.{Refusal}
use Rattle.words.specs.declared.refusals.Fault.{Fault}
use Rattle.words.specs.declared.refusals.Refused.{Refused}
use Rattle.words.specs.Refusals.{refusal_number}
use Rattle.writer.specs.Size.{filed_words, all_fit, all_words, size_from}
use Rattle.writer.proofs.SizeLaws.{size_told}

-- five numbers a chunk
abbrev InFives : Held (List Draft) → ℕ → Type 0
InFives (holds ds) n = n ≡ 5 * length ds
InFives hold_none n = Unit {0}

counted_first : (d : Held Draft) (ds : Held (List Draft)) (n : ℕ) → InFives ds n → InFives (held_first d ds) (suc (suc (suc (suc (suc n)))))
counted_first (holds d) (holds ds) n h = omega arith
counted_first (holds d) hold_none n h = tt
counted_first hold_none ds n h = tt

counted : (chunks ks os xs : List ℕ) → InFives (held chunks ks os xs) (length chunks)
unfolding held
counted [] ks os xs = go (eqb (length ks) 0 && eqb (length os) 0 && eqb (length xs) 0)
  where
    go : (b : Bool) → InFives (held_if b []) 0
    go true = refl
    go false = tt
counted (l ∷ []) ks os xs = tt
counted (l ∷ t ∷ []) ks os xs = tt
counted (l ∷ t ∷ k ∷ []) ks os xs = tt
counted (l ∷ t ∷ k ∷ o ∷ []) ks os xs = tt
counted (l ∷ t ∷ k ∷ o ∷ x ∷ ns) ks os xs =
    counted_first (held_front l t k o x ks os xs) (held ns (drop (3 * k) ks) (drop (3 * o) os) (drop x xs)) (length ns)
    (counted ns (drop (3 * k) ks) (drop (3 * o) os) (drop x xs))

-- the words of a module are its head and those of its chunks
flat_filed : (ds : List Draft) → flat_map chunk_words (map filed ds) ≡ flat_map filed_words ds
unfolding flat_map
flat_filed [] = refl
flat_filed (d ∷ ds) = ap (λ (ws : List ℕ). filed_words d ++ ws) (flat_filed ds)

module-words : (ds : List Draft) → draft_words ds ≡ word 199 0 (length ds) ∷ all_words (holds ds)
module-words ds = ap₂ {C = List ℕ} (λ n ws. word 199 0 n ∷ ws) (map-length filed ds) (flat_filed ds)

module _ (chunks ks os xs : List ℕ) (room : ℕ) where
  abbrev lent : Held (List Draft)
  lent = held chunks ks os xs

  -- where no module fits, it is refusal 14
  unfit : ((ds : List Draft) → lent ≡ holds ds → module_fits ds ≡ false) → refused 14 0 0 ≡ write_outcome chunks ks os xs room
  unfit h = go lent refl
    where
      go : (ds : Held (List Draft)) → lent ≡ ds → refused 14 0 0 ≡ write_outcome chunks ks os xs room
      go (holds ds) e = rw (e, h ds e)
      go hold_none e = rw e

  chunks_of : (ds : List Draft) → lent ≡ holds ds → length chunks ≡ 5 * length ds
  chunks_of ds e = rw e at (counted chunks ks os xs)

  pub no_chunk : length chunks / 5 ≡ 0 → refused 14 0 0 ≡ write_outcome chunks ks os xs room
  no_chunk h = unfit (λ ds e. rw (lt-leb 1 (length ds) (omega (arith, chunks_of ds e))))

  pub many_chunks : most_chunks < length chunks / 5 → refused 14 0 0 ≡ write_outcome chunks ks os xs room
  many_chunks h = unfit (λ ds e. let n = chunks_of ds e in rw (le-leb 1 (length ds) (omega arith), lt-leb (length ds) most_chunks (omega arith)))

  -- a size that is not told: some part does not fit, or the words are too many
  pub none_fits : size_from 1 lent ≡ nothing → refused 14 0 0 ≡ write_outcome chunks ks os xs room
  none_fits h = unfit (λ ds e. decide (module_fits ds) (λ f. absurd (told ds e f)) (λ f. f))
    where
      told : (ds : List Draft) → lent ≡ holds ds → module_fits ds ≡ true → ⊥
      told ds e f =
          let (((some, most), each), short) = simp and-eq-true_iff at f in
          let n : length (draft_words ds) ≡ 1 + length (all_words (holds ds)) = omega (arith, ap length (module-words ds)) in
          let fits : leb (1 + length (all_words (holds ds))) most_words ≡ true = ap (λ (m : ℕ). leb m most_words) (sym n) ∙ short in
          let is : nothing ≡ found (1 + length (all_words (holds ds))) = sym (ap (size_from 1) (sym e) ∙ h) ∙ rw (each, fits) in
          let z : ◌≡◌ {A = ℕ} 0 1 = cc in omega arith

  -- a size that is told: the words of the chunks, with the head
  module _ (n : ℕ) (some : length chunks / 5 ≡ 0 → ⊥) (most : length chunks / 5 ≤ most_chunks) (told : size_from 1 lent ≡ found n) where
    abbrev Sized : Type 0
    Sized = (all_fit lent ≡ true) × (n ≡ 1 + length (all_words lent)) × (n ≤ most_words)
        × (write_held lent ≡ answer (word 199 0 (length chunks / 5) ∷ all_words lent))

    pub size_is : Sized
    size_is = go lent refl
      where
        go : (ds : Held (List Draft)) → lent ≡ ds → Sized
        go hold_none e = absurd (let z : ◌≡◌ {A = ℕ} 0 1 = cc (ap (size_from 1) (sym e) ∙ told) in omega arith)
        go (holds ds) e =
            let (b, is) = size_told (every draft_fits ds && leb (1 + length (all_words (holds ds))) most_words) (1 + length (all_words (holds ds))) n (ap (size_from 1) (sym e) ∙ told) in
            let (each, short) = both (every draft_fits ds) (leb (1 + length (all_words (holds ds))) most_words) b in
            let c = chunks_of ds e in
            let m : length (draft_words ds) ≡ 1 + length (all_words (holds ds)) = omega (arith, ap length (module-words ds)) in
            let k : length chunks / 5 ≡ length ds = omega arith in
            let fits : module_fits ds ≡ true =
            rw (le-leb 1 (length ds) (omega (arith, some)), le-leb (length ds) most_chunks (omega (arith, most)), each, m, short) in
            rw e (each, sym is, omega (arith, leb-true (1 + length (all_words (holds ds))) most_words short), rw (fits, k) (ap answer (module-words ds)))

    pub short_tray_lem : room < n → refused 13 0 0 ≡ write_outcome chunks ks os xs room
    short_tray_lem h =
        let ws = word 199 0 (length chunks / 5) ∷ all_words lent in
        let (each, is, short, out) = size_is in
        rw (out, lt-leb (length ws) room (omega arith))

    pub written : n ≤ room → write_outcome chunks ks os xs room ≡ answer (word 199 0 (length chunks / 5) ∷ all_words lent)
    written h =
        let ws = word 199 0 (length chunks / 5) ∷ all_words lent in
        let (each, is, short, out) = size_is in
        rw (out, le-leb (length ws) room (omega arith))

-- the head and what is written behind it
pub head-put : (w : ℕ) (ws l : List ℕ) → 1 + length ws ≤ length l → pasted 1 ws (set l 0 w) ≡ (w ∷ ws) ++ drop (length (w ∷ ws)) l
head-put w ws l h =
    let fits : 1 ≤ length l = omega arith in
    rw (pasted-one 0 w l fits) (pasted_twice 0 (w ∷ []) l fits ws) ∙ pasted_first (w ∷ ws) l

-- what a refusal stands for
abbrev shown : Refused → Outcome ℕ
shown r = refused (refusal_number r.refusal) r.chunk r.place

-- a refusal as it is answered: the tray stays
pub refused_is : {f : Fault} {r : Refused} {which : Refusal} {o : Outcome (List ℕ)} (tray : List ℕ) → f ≡ record { refusal = which; place = 0 }
    → r ≡ record { refusal = f.refusal; chunk = 0; place = f.place } → refused (refusal_number which) 0 0 ≡ o
    → (shown r ≡ how_many o) × (tray ≡ write_tray o tray)
refused_is tray at chunk is =
    let place = ap (λ (f : Fault). shown (record { refusal = f.refusal; chunk = 0; place = f.place })) at in
    (ap shown chunk ∙ place ∙ ap how_many is, ap (λ (o : Outcome (List ℕ)). write_tray o tray) is)
