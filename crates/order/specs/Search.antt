-- How the search's marks stand for the lists of the definition.
use Rattle.std.specs.Prelude.{◌≡◌, true, false, List, ℕ, ⊤, ◌<◌, Result, Ok, Err, length, get_or}
use Rattle.rules.specs.Outcome.{ok}
use Rattle.rules.specs.Reading.{read}
use Rattle.rules.specs.Order.{Listing, listed, ring, member, Distinct}
use Rattle.words.specs.Parts.{parts_at, chunks_in, head_at}
use Rattle.words.specs.Places.{nowhere}
use Rattle.words.specs.declared.refusals.Refusal.TheVariants.{Ring as RingMet}
use Rattle.words.specs.declared.refusals.Refused.{Refused}
use Rattle.order.specs.declared.visit.Calls.{Calls}
use Rattle.order.specs.declared.visit.Ring.{Ring}
use Rattle.order.specs.declared.visit.Search.{Search}

-- "10 ring: calls in a circle, place 0; chunk met again"
abbrev pub ring_refused : Ring → Refused
ring_refused r = record { refusal = RingMet; chunk = r.chunk; place = 0 }

-- words that are a module of n chunks
pub record Readable (ws : List ℕ) (n : ℕ) : Type 0 where
  pub reads : read ws ≡ ok (chunks_in ws)
  pub chunks : n ≡ length (chunks_in ws)

-- the arrays have 256 places
pub record Sized (s : Search) : Type 0 where
  pub seen : length s.seen ≡ 256
  pub active : length s.active ≡ 256

-- the state shows these open visits and this list: marks by membership, the list, no open chunk in it
pub record Shows (s : Search) (n : ℕ) (opened done : List ℕ) : Type 0 where
  pub seen : (k : ℕ) → k < n → get_or s.seen k false ≡ member k done
  pub active : (k : ℕ) → k < n → get_or s.active k false ≡ member k opened
  pub order : s.order.items ≡ done
  pub once : Distinct done
  pub chunks : (k : ℕ) → member k done ≡ true → k < n
  pub open_chunks : (k : ℕ) → member k opened ≡ true → k < n
  pub apart : (k : ℕ) → member k opened ≡ true → member k done ≡ false
  pub sized : Sized s

-- the answer shows what a visit comes to
abbrev pub Shown : Result Search Ring → ℕ → List ℕ → Listing → Type 0
Shown (Ok s) n opened (listed done) = Shows s n opened done
Shown (Err r) n opened (ring c) = (r.chunk ≡ c) × (c < n)
Shown (Ok s) n opened (ring c) = ⊥
Shown (Err r) n opened (listed done) = ⊥

-- a visit's answer with the state that it leaves
abbrev pub left_in : Search → Result ⊤ Ring → Result Search Ring
left_in s (Ok done) = Ok s
left_in s (Err r) = Err r

-- words that are a module of as many chunks as there are places, and where the ops and the extras of each chunk begin
pub record Located (calls : Calls) : Type 0 where
  pub words : Readable calls.words.now (length calls.places.now)
  pub ops_at : (k : ℕ) → k < length calls.places.now → (get_or calls.places.now k nowhere).ops ≡ (parts_at calls.words.now (head_at (chunks_in calls.words.now) k)).ops
  pub extras_at : (k : ℕ) → k < length calls.places.now → (get_or calls.places.now k nowhere).extras ≡ (parts_at calls.words.now (head_at (chunks_in calls.words.now) k)).extras

-- what a visit of chunk c asks: the places of the chunks, one of the chunks, and a state that shows some lists
pub record Searchable (calls : Calls) (c : ℕ) (s : Search) : Type 0 where
  pub places : Located calls
  pub chunk : c < length calls.places.now
  pub opened : List ℕ
  pub done : List ℕ
  pub shows : Shows s (length calls.places.now) opened done
