-- What the reader's answer says of the chunks, and a lookup's parts of a chunk: what the crates above cite.
-- Assumes nothing.
use mathlib.Core.Path.{◌≡◌, refl, sym}
use mathlib.Core.Bool.{true}
use mathlib.Core.List.{List}
use Prim.Native.Nat.{ℕ, ◌≤◌}
use native.Mathlib.Omega.{arith}
use borrow.Author.Tests.{ltb-true}
use lib.Dec.{ltb}
use lib.ListN.{length}
use Rattle.rules.specs.Outcome.{ok, answer, in_chunk, demand}
use Rattle.rules.specs.Form.{Chunk, ChunkFits}
use Rattle.rules.specs.Reading.{read}
use Rattle.rules.specs.Order.{chunk_at}
use Rattle.rules.specs.Sheet.{read_module, read_outcome, chunk_outcome}
use Rattle.rules.proofs.Answers.{from_answer, from_chunk}
use Rattle.rules.proofs.ReadingAgrees.{read_words}
use Rattle.words.specs.Chunks.{chunk_of}
use Rattle.words.specs.declared.chunk.Chunk as D
use Rattle.words.specs.declared.parts.Parts.{Parts}
use Rattle.words.specs.Parts.{parts_at, head_at, chunks_in, part_of, PartsOf}
use Rattle.words.specs.Lookup.{parts_outcome}
use Rattle.words.proofs.Cases.{decide}
use Rattle.words.proofs.PartLaws.{chunk_parts, chunk_fits}

-- an accepted module has its chunks, as many as the reader says
pub accepted : (ws : List ℕ) (n : ℕ) → answer n ≡ read_outcome ws → (read ws ≡ ok (chunks_in ws)) × (length (chunks_in ws) ≡ n)
accepted ws n e =
    let a = from_answer (read_module ws) _ (sym e) in
    let r = from_chunk 0 (read ws) a.1 in
    rw r (refl, cc a.2)

-- what a lookup that answers gives: the parts of document 01's chunk
pub record Chunked (ws : List ℕ) (c : ℕ) (p : Parts) : Type 0 where
  pub chunk : Chunk
  pub outcome : chunk_outcome ws c ≡ answer chunk
  pub parts : PartsOf ws p chunk
  pub fits : ChunkFits chunk
  pub short : length ws ≤ 16384

-- a lookup's parts are those of document 01's chunk
pub lookup_found : (ws : List ℕ) (c : ℕ) (p : Parts) → answer p ≡ parts_outcome ws c → Chunked ws c p
lookup_found ws c p e =
    let a = from_answer (read_module ws) _ (sym e) in
    decide (ltb c (length a.0)) (go a.0 (from_chunk 0 (read ws) a.1) a.2)
    (λ t. absurd (let f = rw t at a.2 in let z : ◌≡◌ {A = ℕ} 0 1 = cc in omega arith))
  where
    go : (cs : List Chunk) → read ws ≡ ok cs → in_chunk c (demand (ltb c (length cs)) 12 0 (parts_at ws (head_at cs c))) ≡ answer p → ltb c (length cs) ≡ true
        → Chunked ws c p
    go cs r f t =
        let lt = ltb-true c (length cs) t in
        let same : p ≡ parts_at ws (head_at cs c) = cc (rw t at f) in
        record {
          chunk = chunk_at cs c;
          outcome = rw (r, t);
          parts = rw same (chunk_parts ws cs r c lt);
          fits = chunk_fits ws cs r c lt;
          short = (read_words ws cs r).0;
        }

-- a chunk that is made of the parts that a lookup found is document 01's
pub same_chunk : {ws : List ℕ} {c : ℕ} {p : Parts} (found : Chunked ws c p) (k : D.Chunk) → (k.locals ≡ p.locals) × (k.mode ≡ p.mode)
    → k.constants.now ≡ part_of p.constants p.ops ws → k.ops.now ≡ part_of p.ops p.extras ws → k.extras.now ≡ part_of p.extras p.end ws → chunk_of k ≡ found.chunk
same_chunk found k fields constants ops extras =
    let f = found.parts in rw (fields.0, fields.1, constants, ops, extras, f.locals, f.mode, f.constants, f.ops, f.extras)
