-- The writer: what it writes reads as what was lent, it refuses exactly where no readable list has equal parts, and equal modules are written alike.
-- Assumes nothing.
use mathlib.Core.Path.{◌≡◌, refl, sym, ap, ap₂, ◌∙◌}
use mathlib.Core.Bool.{Bool, true, false, ◌&&◌, and-eq-true_iff}
use mathlib.Core.List.{List, [], ◌∷◌, map, flat_map}
use Prim.Native.Nat.{ℕ, suc, ◌+◌, ◌*◌, ◌^◌, ◌<◌, ◌≤◌}
use native.Mathlib.Omega.{arith}
use borrow.Author.Tests.{leb-true, ltb-true, le-leb, lt-ltb}
use lib.Dec.{ltb}
use lib.ListN.{length, length-append}
use lib.Signed.{mag}
use Rattle.rules.specs.Limits.{b_unit, b_values, most_words, most_chunks}
use Rattle.rules.specs.Outcome.{ok, no, demand}
use Rattle.rules.specs.Ops.{field_a, field_b, is_op}
use Rattle.rules.specs.Form.{Constant, integer, other, Chunk, constant_words, extra_words, chunk_words, module_words, ConstantFits, ChunkFits, ModuleFits, Each}
use Rattle.rules.specs.Reading.{read}
use Rattle.rules.specs.Writing.{Op, Draft, trimmed, op_word, op_in, filed, every, op_fits, constant_fits, draft_fits, draft_words, module_fits, write}
use Rattle.rules.specs.Writing.{SameChunk, SameDraft, Both}
use Rattle.rules.proofs.Mapped.{map-length}
use Rattle.rules.proofs.Flags.{both}
use Rattle.rules.proofs.Every.{every_each, each_every, each_map}
use Rattle.rules.proofs.Trimmed.{trimmed_at, trimmed_same, trimmed_short, each_trimmed}
use Rattle.rules.proofs.WordFields.{kind-word, field_a-word, field_b-word}
use Rattle.rules.proofs.ReadingAgrees.{read_complete, read-within, read_words}

constant_there : (k : Constant) → constant_fits k ≡ true → ConstantFits k
constant_there (integer z) e = ltb-true (mag z) (2 ^ 63) e
constant_there other e = tt

constant_back : (k : Constant) → ConstantFits k → constant_fits k ≡ true
constant_back (integer z) h = lt-ltb (mag z) (2 ^ 63) h
constant_back other h = refl

-- the fields of an op that fits are those of its word
op_same : (o : Op) → op_fits o ≡ true → (is_op (op_word o) ≡ true) × (op_in (op_word o) ≡ o)
op_same o h =
    let (ab, is) = both (ltb o.a b_unit && ltb o.b b_values) (is_op (op_word o)) h in
    let (a, b) = both (ltb o.a b_unit) (ltb o.b b_values) ab in
    let ha = ltb-true o.a b_unit a in
    let hb = ltb-true o.b b_values b in
    (is, simp (kind-word o.kind o.b o.a hb ha, field_a-word o.kind o.b o.a hb ha, field_b-word o.kind o.b o.a hb ha))

ops_same : (os : List Op) → every op_fits os ≡ true → os ≡ map op_in (map op_word os)
unfolding every
ops_same [] h = refl
ops_same (o ∷ os) h =
    let g = both (op_fits o) (every op_fits os) h in
    ap₂ {C = List Op} (λ p ps. p ∷ ps) (sym (op_same o g.0).1) (ops_same os g.1)

-- a draft that fits is filed as a chunk that fits and has its parts
draft_there : (d : Draft) → draft_fits d ≡ true → ChunkFits (filed d) × SameChunk d (filed d)
draft_there d h =
    let (((((locals, type), constants), ops), extras), enough) = simp and-eq-true_iff at h in
    let fits : ChunkFits (filed d) =
    record {
      locals = ltb-true d.locals b_unit locals;
      type = leb-true d.type 2 type;
      constants = every_each constant_there d.constants constants;
      ops = each_map (λ w. is_op w ≡ true) op_word d.ops (every_each (λ o f. (op_same o f).0) d.ops ops);
      extras = every_each (λ x f. ltb-true x (2 ^ 32) f) (trimmed d.extras) extras;
      enough = rw (map-length op_word d.ops) (leb-true (length (trimmed d.extras)) (length d.ops) enough);
    } in
    (fits, record { locals = refl; type = refl; constants = refl; ops = ops_same d.ops ops; extras = λ i. sym (trimmed_at d.extras i) })

drafts_there : (ds : List Draft) → every draft_fits ds ≡ true → Each ChunkFits (map filed ds) × Both SameChunk ds (map filed ds)
unfolding every
drafts_there [] h = (tt, tt)
drafts_there (d ∷ ds) h =
    let g = both (draft_fits d) (every draft_fits ds) h in
    let (fits, same) = draft_there d g.0 in
    let r = drafts_there ds g.1 in
    ((fits, r.0), (same, r.1))

-- "Reading the written words gives equal locals, type, constants, ops and extras, a dropped extra being 0."
pub write_reads : (ds : List Draft) (ws : List ℕ) → write ds ≡ ok ws → (cs : List Chunk) × (read ws ≡ ok cs) × Both SameChunk ds cs
write_reads ds ws h = go (module_fits ds) refl h
  where
    go : (b : Bool) → module_fits ds ≡ b → demand b 14 0 (draft_words ds) ≡ ok ws → (cs : List Chunk) × (read ws ≡ ok cs) × Both SameChunk ds cs
    go false f g = absurd (let z : ◌≡◌ {A = ℕ} 0 1 = cc in omega arith)
    go true f g =
        let (((some, most), each), short) = simp and-eq-true_iff at f in
        let same : draft_words ds ≡ ws = cc in
        let n = map-length filed ds in
        let t = drafts_there ds each in
        let fits : ModuleFits (map filed ds) =
        record { some = omega (arith, leb-true 1 (length ds) some); most = omega (arith, leb-true (length ds) most_chunks most); each = t.0 } in
        let r = read-within (draft_words ds) (leb-true (length (draft_words ds)) most_words short) ∙ read_complete (map filed ds) fits in
        (map filed ds, ap read (sym same) ∙ r, t.1)

-- Back: where some readable words have the parts, the drafts fit.
op_back : (w : ℕ) → is_op w ≡ true → op_fits (op_in w) ≡ true
op_back w h =
    let same : op_word (op_in w) ≡ w = omega arith in
    rw (lt-ltb (field_a w) b_unit (omega arith), lt-ltb (field_b w) b_values (omega arith), same) h

draft_back : (d : Draft) (c : Chunk) → ChunkFits c → SameChunk d c → draft_fits d ≡ true
draft_back d c fit same =
    rw (
      same.locals,
      same.type,
      same.constants,
      same.ops,
      trimmed_same d.extras c.extras same.extras,
      lt-ltb c.locals b_unit fit.locals,
      le-leb c.type 2 fit.type,
      each_every constant_back c.constants fit.constants,
      each_every {P = λ o. op_fits o ≡ true} (λ o h. h) (map op_in c.ops) (each_map (λ o. op_fits o ≡ true) op_in c.ops (all_back c.ops fit.ops)),
      each_every (λ x h. lt-ltb x (2 ^ 32) h) (trimmed c.extras) (each_trimmed (λ x. x < 2 ^ 32) c.extras fit.extras),
      map-length op_in c.ops,
      le-leb (length (trimmed c.extras)) (length c.ops) (omega (arith, trimmed_short c.extras, fit.enough)),
    )
  where
    all_back : (ws : List ℕ) → Each (λ w. is_op w ≡ true) ws → Each (λ w. op_fits (op_in w) ≡ true) ws
    all_back [] h = tt
    all_back (w ∷ ws) h = (op_back w h.0, all_back ws h.1)

-- and their words are no more
extras-length : (xs : List ℕ) → length (flat_map extra_words xs) ≡ 2 * length xs
unfolding flat_map
extras-length [] = refl
extras-length (x ∷ xs) = omega (arith, extras-length xs)

pub chunk-length : (c : Chunk) → length (chunk_words c) ≡ 1 + length (flat_map constant_words c.constants) + length c.ops + 2 * length c.extras
chunk-length c = simp (length-append, extras-length) (omega arith)

draft_shorter : (d : Draft) (c : Chunk) → SameChunk d c → length (chunk_words (filed d)) ≤ length (chunk_words c)
draft_shorter d c same =
    let t = trimmed_same d.extras c.extras same.extras in
    let n : length (map op_word d.ops) ≡ length c.ops = map-length op_word d.ops ∙ ap length same.ops ∙ map-length op_in c.ops in
    let k = ap (λ (ks : List Constant). length (flat_map constant_words ks)) same.constants in
    let x : length (trimmed d.extras) ≤ length c.extras = rw t (trimmed_short c.extras) in
    omega (arith, chunk-length (filed d), chunk-length c, n, k, x)

drafts_back : (ds : List Draft) (cs : List Chunk) → Each ChunkFits cs → Both SameChunk ds cs
    → (every draft_fits ds ≡ true) × (length ds ≡ length cs) × (length (flat_map chunk_words (map filed ds)) ≤ length (flat_map chunk_words cs))
unfolding every flat_map
drafts_back [] [] fits same = (refl, refl, omega arith)
drafts_back [] (c ∷ cs) fits same = absurd same
drafts_back (d ∷ ds) [] fits same = absurd same
drafts_back (d ∷ ds) (c ∷ cs) fits same =
    let r = drafts_back ds cs fits.1 same.1 in
    let l = draft_shorter d c same.0 in
    let a = length-append (chunk_words (filed d)) (flat_map chunk_words (map filed ds)) in
    let b = length-append (chunk_words c) (flat_map chunk_words cs) in
    (rw (draft_back d c fits.0 same.0) r.0, ap suc r.1, omega (arith, l, r.2, a, b))

-- "14 .. exactly where .. no readable word list has equal parts"
pub write-unfit : (ds : List Draft) (n p : ℕ) → write ds ≡ no n p → (ws : List ℕ) (cs : List Chunk) → read ws ≡ ok cs → Both SameChunk ds cs → ⊥
write-unfit ds n p h ws cs r same = absurd (let z : ◌≡◌ {A = ℕ} 0 1 = cc (rw fits at h) in omega arith)
  where
    all : (length ws ≤ most_words) × ModuleFits cs × (module_words cs ≡ ws)
    all = read_words ws cs r

    back : (every draft_fits ds ≡ true) × (length ds ≡ length cs) × (length (flat_map chunk_words (map filed ds)) ≤ length (flat_map chunk_words cs))
    back = drafts_back ds cs all.1.each same

    short : length (draft_words ds) ≤ most_words
    short = omega (arith, ap length all.2, back.2, all.0)

    fits : module_fits ds ≡ true
    fits =
        rw (
          le-leb 1 (length ds) (omega (arith, back.1, all.1.some)),
          le-leb (length ds) most_chunks (omega (arith, back.1, all.1.most)),
          back.0,
          le-leb (length (draft_words ds)) most_words short,
        )

-- "Two modules equal in this sense are written as equal words": what is filed, and what fits, is told by the parts.
drafts_alike : (ds es : List Draft) → Both SameDraft ds es
    → (map filed ds ≡ map filed es) × (every draft_fits ds ≡ every draft_fits es) × (length ds ≡ length es)
unfolding every
drafts_alike [] [] same = (refl, refl, refl)
drafts_alike [] (e ∷ es) same = absurd same
drafts_alike (d ∷ ds) [] same = absurd same
drafts_alike (d ∷ ds) (e ∷ es) same =
    let s = same.0 in
    let r = drafts_alike ds es same.1 in
    let t = trimmed_same d.extras e.extras s.extras in
    let one : filed d ≡ filed e = rw (s.locals, s.type, s.constants, s.ops, t) in
    let fits : draft_fits d ≡ draft_fits e = rw (s.locals, s.type, s.constants, s.ops, t) in
    (ap₂ {C = List Chunk} (λ b bs. b ∷ bs) one r.0, rw (fits, r.1), ap suc r.2)

pub write_same : (ds es : List Draft) → Both SameDraft ds es → write ds ≡ write es
write_same ds es same =
    let r = drafts_alike ds es same in
    rw (r.0, r.1, r.2)
