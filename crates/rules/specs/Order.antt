-- "Order (`topological_call_order`)": the chunks of a module, each behind the chunks that it calls, or the ring.
use Rattle.std.specs.Prelude.{◌≡◌, Bool, true, false, ◌||◌, List, [], ◌∷◌, ◌++◌, ℕ, zero, suc, ◌<◌, eqb, ltb, length, get_or}
use Rattle.rules.specs.Kinds as K
use Rattle.rules.specs.Ops.{kind, field_a}
use Rattle.rules.specs.Form.{Chunk}

-- the chunks listed so far, or the chunk that makes the ring
pub data Listing : Type 0 where
  listed : List ℕ → Listing
  ring : ℕ → Listing

abbrev pub on_listed : Listing → (List ℕ → Listing) → Listing
on_listed (listed done) next = next done
on_listed (ring c) next = ring c

unfoldable pub member : ℕ → List ℕ → Bool
member c [] = false
member c (d ∷ ds) = eqb c d || member c ds

abbrev pub cons_if : Bool → ℕ → List ℕ → List ℕ
cons_if true k ks = k ∷ ks
cons_if false k ks = ks

-- "the callees of all its Calls by position"
unfoldable pub callees_in : List ℕ → List ℕ
callees_in [] = []
callees_in (w ∷ ws) = cons_if (eqb (kind w) K.call) (field_a w) (callees_in ws)

abbrev pub no_chunk : Chunk
no_chunk = record { locals = 0; type = 0; constants = []; ops = []; extras = [] }

abbrev pub chunk_at : List Chunk → ℕ → Chunk
chunk_at cs k = get_or cs k no_chunk

abbrev pub callees_of : List Chunk → ℕ → List ℕ
callees_of cs k = callees_in (chunk_at cs k).ops

abbrev pub visit_if : Bool → (ℕ → List ℕ → Listing) → ℕ → List ℕ → Listing
visit_if true visit k done = visit k done
visit_if false visit k done = listed done

-- each of these chunks is visited in turn; "a callee outside the module is skipped", n being the number of chunks
unfoldable pub visit_each : (ℕ → List ℕ → Listing) → ℕ → List ℕ → List ℕ → Listing
visit_each visit n [] done = listed done
visit_each visit n (k ∷ ks) done = on_listed (visit_if (ltb k n) visit k done) (λ d. visit_each visit n ks d)

abbrev pub by_marks : Bool → Bool → ℕ → List ℕ → (ℕ → Listing) → Listing
by_marks true isListed c done walk = ring c
by_marks false true c done walk = listed done
by_marks false false c done walk = walk c

-- "one not yet listed first visits the callees .., then is listed. A chunk met while its own visit is open makes the ring." `opened`
-- are the chunks whose visits are open. No two of them are the same, so the number that falls never runs out (proofs/CallOrder).
unfoldable pub visit : List Chunk → ℕ → List ℕ → ℕ → List ℕ → Listing
visit cs zero opened c done = ring c
visit cs (suc f) opened c done =
    by_marks (member c opened) (member c done) c done
    (λ k. on_listed (visit_each (λ e d. visit cs f (k ∷ opened) e d) (length cs) (callees_of cs k) done)
    (λ d. listed (d ++ (k ∷ []))))

-- n numbers from i up
unfoldable pub up_from : ℕ → ℕ → List ℕ
up_from i zero = []
up_from i (suc n) = i ∷ up_from (suc i) n

-- "chunks from 0 up"
abbrev pub call_order : List Chunk → Listing
call_order cs = visit_each (λ c d. visit cs (suc (length cs)) [] c d) (length cs) (up_from 0 (length cs)) []

-- What the order is for, as proofs/CallOrder shows it of every answer. Chunk c calls chunk k of the module:
abbrev pub Calls : List Chunk → ℕ → ℕ → Type 0
Calls cs c k = (k < length cs) × (member k (callees_of cs c) ≡ true)

-- calls one behind the other, from the first chunk to the second; "calls in a circle" is a chain from a chunk to itself
pub data Chain (cs : List Chunk) : ℕ → ℕ → Type 0 where
  link : {c k : ℕ} → Calls cs c k → Chain cs c k
  onward : {c k e : ℕ} → Calls cs c k → Chain cs k e → Chain cs c e

abbrev pub Distinct : List ℕ → Type 0
Distinct [] = Unit {0}
Distinct (c ∷ cs) = (member c cs ≡ false) × Distinct cs

-- every chunk stands in the order, once, behind the chunks that it calls
pub record Ordered (cs : List Chunk) (order : List ℕ) : Type 0 where
  pub every : (c : ℕ) → c < length cs → member c order ≡ true
  pub only : (c : ℕ) → member c order ≡ true → c < length cs
  pub once : Distinct order
  pub behind : (xs ys : List ℕ) (c k : ℕ) → order ≡ xs ++ (c ∷ ys) → Calls cs c k → member k xs ≡ true
