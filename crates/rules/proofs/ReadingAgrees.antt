-- The reading and the grammar agree: what is read are the chunks whose words were given, and the words of a module that fits are read as that module.
-- Assumes nothing.
use mathlib.Core.Path.{◌≡◌, refl}
use mathlib.Core.Bool.{Bool, true, false}
use mathlib.Core.List.{List, [], ◌∷◌}
use Prim.Native.Nat.{ℕ, ◌<◌, ◌≤◌}
use native.Mathlib.Omega.{arith}
use borrow.Author.Tests.{le-leb, lt-leb, leb-true}
use lib.Dec.{leb}
use lib.ListN.{length}
use Rattle.rules.specs.Outcome.{Result, ok, no, Found, found, nothing, and_then, demand}
use Rattle.rules.specs.Ops.{field_a}
use Rattle.rules.specs.Form.{Chunk, module_words, ModuleFits}
use Rattle.rules.specs.Reading.{before_chunk, is_head, broken_at, chunks_of, unless_broken, read_any, read}
use Rattle.rules.proofs.WordFields.{field_a-word, head_parts, head-word}
use Rattle.rules.proofs.ReadingDecodes.{decode_chunks}
use Rattle.rules.proofs.ReadingAccepts.{accepts_module}
use Rattle.rules.proofs.ReadingFinds.{finds}

-- how a reading may end
pub data Reading : List ℕ → Result (List Chunk) → Type 0 where
  empty : Reading [] (no 1 0)
  headless : {h : ℕ} {ws : List ℕ} → is_head h ≡ false → Reading (h ∷ ws) (no 1 0)
  broken : {h p : ℕ} {ws : List ℕ} → is_head h ≡ true → broken_at (before_chunk (field_a h)) ws 1 ≡ found p → Reading (h ∷ ws) (no 2 p)
  whole : {h : ℕ} {ws : List ℕ} → is_head h ≡ true → broken_at (before_chunk (field_a h)) ws 1 ≡ nothing → Reading (h ∷ ws) (ok (chunks_of (field_a h) ws))

pub reading : (ws : List ℕ) → Reading ws (read_any ws)
reading [] = empty
reading (h ∷ ws) = at_head (is_head h) refl
  where
    at_place : (f : Found) → is_head h ≡ true → broken_at (before_chunk (field_a h)) ws 1 ≡ f → Reading (h ∷ ws) (unless_broken f (λ u. chunks_of (field_a h) ws))
    at_place (found p) e g = broken e g
    at_place nothing e g = whole e g

    at_head : (b : Bool) → is_head h ≡ b
        → Reading (h ∷ ws) (and_then (demand b 1 0 h) (λ g. unless_broken (broken_at (before_chunk (field_a h)) ws 1) (λ u. chunks_of (field_a h) ws)))
    at_head true e = at_place (broken_at (before_chunk (field_a h)) ws 1) e refl
    at_head false e = headless e

pub read_sound : (ws : List ℕ) (cs : List Chunk) → read_any ws ≡ ok cs → ModuleFits cs × (module_words cs ≡ ws)
read_sound ws cs e = go (reading ws) e
  where
    go : {vs : List ℕ} {r : Result (List Chunk)} → Reading vs r → r ≡ ok cs → ModuleFits cs × (module_words cs ≡ vs)
    go empty q = absurd (let z : ◌≡◌ {A = ℕ} 0 1 = cc in omega arith)
    go (headless f) q = absurd (let z : ◌≡◌ {A = ℕ} 0 1 = cc in omega arith)
    go (broken f g) q = absurd (let z : ◌≡◌ {A = ℕ} 0 1 = cc in omega arith)
    go (whole {h} {ws = vs} f g) q =
        let (ds, count, each, words) = finds (field_a h) vs 1 g in
        let head = head_parts h f in
        let same : ds ≡ cs = cc (decode_chunks ds each) in
        let fits : ModuleFits ds = record { some = omega arith; most = omega arith; each = each } in
        let back : module_words ds ≡ h ∷ vs = cc in
        (rw same at fits, rw same at back)

pub read_complete : (cs : List Chunk) → ModuleFits cs → read_any (module_words cs) ≡ ok cs
read_complete cs fits =
    rw (
      head-word (length cs) fits.some fits.most,
      field_a-word 199 0 (length cs) (omega arith) (omega (arith, fits.most)),
      accepts_module cs fits.each fits.some 1,
      decode_chunks cs fits.each,
    )

pub read-within : (ws : List ℕ) → length ws ≤ 16384 → read ws ≡ read_any ws
read-within ws h = simp (le-leb (length ws) 16384 h)

pub read_over : (ws : List ℕ) → 16384 < length ws → read ws ≡ no 1 0
read_over ws h = simp (lt-leb (length ws) 16384 h)

-- all that a reading within the limit says
pub read_words : (ws : List ℕ) (cs : List Chunk) → read ws ≡ ok cs → (length ws ≤ 16384) × ModuleFits cs × (module_words cs ≡ ws)
read_words ws cs e = go (leb (length ws) 16384) refl e
  where
    go : (b : Bool) → leb (length ws) 16384 ≡ b → and_then (demand b 1 0 ws) (λ vs. read_any vs) ≡ ok cs
        → (length ws ≤ 16384) × ModuleFits cs × (module_words cs ≡ ws)
    go true t f = let s = read_sound ws cs f in (leb-true (length ws) 16384 t, s.0, s.1)
    go false t f = absurd (let z : ◌≡◌ {A = ℕ} 0 1 = cc in omega arith)
