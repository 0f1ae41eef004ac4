-- The op that a path takes from a place of SurePlaces, whichever it is, leads to such a place again; and a chunk starts at one. Assumes nothing.
use mathlib.Core.Path.{◌≡◌, refl}
use mathlib.Core.Bool.{Bool, true, false, ◌&&◌}
use mathlib.Core.List.{List, [], ◌∷◌}
use mathlib.Core.Logic.{inl}
use Prim.Native.Nat.{ℕ, suc, ◌+◌, ◌≤◌, ◌<◌}
use native.Mathlib.Omega.{arith}
use lib.Dec.{eqb}
use Rattle.rules.specs.Form.{Chunk}
use Rattle.rules.specs.Ops.{op_at}
use Rattle.rules.specs.Rows.{Shape, else_to, end_if, end_loop, breaks, breaks_if, shape_of}
use Rattle.rules.specs.Rows.{Row, end, step, stop, leave, leave_if, if_then, if_else, loop, Plain, IsRow}
use Rattle.rules.specs.Count.{has_header}
use Rattle.rules.specs.Order.{chunk_at}
use Rattle.rules.specs.Paths.{Way, on, aside, Entry, count_pass}
use Rattle.rules.specs.Values.{Memory, effect_at, Leaves, HeaderWay}
use Rattle.rules.proofs.Shapes.{by_plain, by_ending}
use Rattle.rules.proofs.RowTree.{row_forward}
use Rattle.rules.proofs.HeldRows.{held_range}
use Rattle.rules.proofs.RowTails.{Tail, tail_next, tail_test, whole_tail}
use Rattle.rules.proofs.Searches.{Known, known_start}
use Rattle.rules.proofs.Effects.{leaves_kept}
use Rattle.rules.proofs.Operands.{RecentAt}
use Rattle.rules.proofs.Counting.{Lands, next, into, past, counting_again}
use Rattle.rules.proofs.SurePlaces.{SurePart, root, arm, first, body, start_of, end_of, Rows, InPlace, Knows, CountedSoFar, EntryCounts, SurePlace, lands_recent, still_knows, counts_on, places_count}
use Rattle.rules.proofs.SureSteps.{To, end_tail, end_known, next_place, one_on, out, if_goes, else_goes, loop_goes}

plain_test : (s : Shape) → Plain s → s ≡ breaks_if → ⊥
plain_test s p e = let z : Plain breaks_if = rw e at p in z

module _ (cs : List Chunk) (c : ℕ) (top : Row) (from last : ℕ) where
  -- the chunk
  abbrev ck : Chunk
  ck = chunk_at cs c

  -- the op at a position
  abbrev op : ℕ → ℕ
  op i = op_at ck.ops i

  -- a path stands so before position i
  abbrev At : ℕ → List Entry → Memory → Type 0
  At i es m = SurePlace ck top from last i es m

  -- where an op of that shape leads, with memory n behind it
  abbrev Goes : Shape → Way → ℕ → List Entry → Memory → Type 0
  Goes s w i es n = To cs c top from last s w i es n

  -- the part is placed, with these entries open
  abbrev PlacedIn : SurePart → List Entry → Type 0
  PlacedIn k es = InPlace ck top from last k es

  -- no entry is open, so no loop counts
  none_counts : (k : SurePart) (j : ℕ) (n : Memory) → PlacedIn k [] → EntryCounts ck top from last k [] j n
  none_counts root j n p = tt
  none_counts (arm a t f r k) j n p = none_counts k j n p.2
  none_counts (first a e t f r k) j n p = none_counts k j n p.2
  none_counts (body q e b f r k) j n p = absurd p

  entry_passed : (b : Bool) (k : SurePart) (x : Entry) (es : List Entry) → PlacedIn k (x ∷ es) → PlacedIn k (count_pass cs b x ∷ es)
  entry_passed false k x es p = p
  entry_passed true root x es p = absurd (let z : ◌≡◌ {A = ℕ} 0 1 = cc in omega arith)
  entry_passed true (arm a t f r k) x es p = (p.0, p.1, entry_passed true k x es p.2, p.3, p.4, p.5, p.6)
  entry_passed true (first a e t f r k) x es p = (p.0, p.1, entry_passed true k x es p.2, p.3, p.4, p.5, p.6, p.7, p.8)
  entry_passed true (body q e b f r k) x es p = p

  -- The op at i.
  module _ (i : ℕ) (m n : Memory) (w : Way) (l : Leaves (effect_at ck i) m n) (recent : RecentAt ck i m) where
    module _ (k : SurePart) (full : Row) where
      -- the end of the part
      abbrev end_at : ℕ
      end_at = end_of ck top from last k

      tests : (es : List Entry) (w : Way) (r : Row) → PlacedIn k es → start_of ck top from last k ≤ i → Known ck full i m → Knows ck top from last k m
          → EntryCounts ck top from last k es i m → Rows ck top from last (suc i) end_at r → Tail top full r (suc i) end_at → i < end_at → shape_of (op i) ≡ breaks_if
          → HeaderWay ck es i m w → Goes breaks_if w i es n
      tests [] on r p begun known around counts is tail lt shape way =
          next_place cs c top from last i [] m n l recent k full p begun known around counts r [] is tail lt p (none_counts k (suc i) n p)
      tests (x ∷ es) on r p begun known around counts is tail lt shape way =
          next_place cs c top from last i (x ∷ es) m n l recent k full p begun known around counts r _ is tail lt
          (entry_passed (eqb i (x.loop + 4) && has_header ck.ops x.loop) k x es p)
          (places_count ck top from last i m n l recent cs k es x p begun lt way counts)
      tests es aside r p begun known around counts is tail lt shape way =
          out cs c top from last i es m n l recent k full p begun known around counts (λ h. let z : Plain breaks_if = rw shape at h in z) lt

    -- at the end of its part a path stands before EndIf, Else or EndLoop
    end_taken : (k : SurePart) (es : List Entry) → i ≡ end_of ck top from last k → i < last → PlacedIn k es → start_of ck top from last k ≤ i → Knows ck top from last k m
        → EntryCounts ck top from last k es i m → Goes (shape_of (op i)) w i es n
    end_taken root es e lt p begun around counts = absurd (omega arith)
    end_taken (arm a t f r k) es e lt p begun around counts =
        let fwd = row_forward op r p.1.0 (suc t) (end_of ck top from last k) p.1.1 in
        let know = still_knows ck top from last i m n l recent (arm a t f r k) es p begun (omega arith) around in
        let lands : Lands ck i (suc t) = next (omega arith) in
        let shape : shape_of (op i) ≡ end_if = rw e p.0 in
        let counted =
        counts_on ck top from last i m n l recent k es (suc t) i p.2 (omega (arith, p.3, begun)) (omega (arith, fwd, e)) (omega (arith, p.3, begun)) (omega arith) fwd lands
        (inl (λ g. let o : ◌≡◌ {A = ℕ} 0 1 = cc in omega arith)) counts in
        let later = lands_recent ck top from last i m n l recent (suc t) lands in
        rw (e, p.0)
        (record {
          part = k;
          full = f;
          row = r;
          is = p.1;
          begun = omega (arith, p.3, p.4);
          tail = p.6;
          placed = p.2;
          known = know.0;
          around = know.1;
          counts = counted;
          recent = later;
        })
    end_taken (first a d t f r k) es e lt p begun around counts =
        let fwd = row_forward op r p.1.0 (suc t) (end_of ck top from last k) p.1.1 in
        let know = still_knows ck top from last i m n l recent (first a d t f r k) es p begun (omega arith) around in
        let shape : shape_of (op i) ≡ else_to t = rw e p.7 in
        let lands : Lands ck i t = into p.0 (omega (arith, e, p.8)) (λ h. let z : Plain (else_to t) = rw shape at h in z) in
        let counted =
        counts_on ck top from last i m n l recent k es t i p.2 (omega (arith, p.3, begun)) (omega (arith, fwd, e, p.8)) (omega (arith, p.3, begun)) (omega (arith, e, p.8)) (omega (arith, fwd)) lands
        (inl (λ g. let o : ◌≡◌ {A = ℕ} 0 1 = cc in omega arith)) counts in
        let later = lands_recent ck top from last i m n l recent t lands in
        rw (e, p.7)
        (record {
          part = arm a t f r k;
          full = end;
          row = end;
          is = (true, refl);
          begun = p.4;
          tail = end_tail top t;
          placed = (p.0, p.1, p.2, p.3, p.4, p.5, p.6);
          known = end_known ck t n;
          around = know;
          counts = counted;
          recent = later;
        })
    end_taken (body q d b f r k) [] e lt p begun around counts = absurd p
    end_taken (body q d b f r k) (x ∷ es) e lt p begun around counts =
        let fwd = row_forward op r p.1.0 (suc d) (end_of ck top from last k) p.1.1 in
        let know = still_knows ck top from last i m n l recent (body q d b f r k) (x ∷ es) p begun (omega arith) around in
        let shape : shape_of (op i) ≡ end_loop = rw e p.0 in
        let lands : Lands ck i (suc q) = past q refl (rw p.11 tt) (λ h. let z : Plain end_loop = rw shape at h in z) in
        let counted =
        counts_on ck top from last i m n l recent k es (suc q) q p.2 (omega (arith, p.3, begun)) (omega (arith, fwd, e)) (omega (arith, p.3)) (omega arith) (omega (arith, fwd, p.4)) lands
        (inl (λ g. let o : ◌≡◌ {A = ℕ} 0 1 = cc in omega arith)) counts.1 in
        let later = lands_recent ck top from last i m n l recent (suc q) lands in
        let own : CountedSoFar ck top from last q d x.passed (suc q) n = λ N s. counting_again ck s x.passed m n (rw e at (counts.0 N s)) (rw e at (leaves_kept ck i m n l)) in
        let again : At (suc q) (x ∷ es) n =
        record {
          part = body q d b f r k;
          full = b;
          row = b;
          is = p.9;
          begun = omega arith;
          tail = p.10;
          placed = p;
          known = known_start ck b (suc q) n (λ s h. (held_range op b p.9.0 (suc q) d s p.9.1 h).0);
          around = know;
          counts = (own, counted);
          recent = later;
        } in
        rw (e, p.0) (rw (← p.8) at again)

    -- and before it, before the first op of what is left
    row_taken : (r : Row) (k : SurePart) (full : Row) (b : Bool) (es : List Entry) → IsRow op b i (end_of ck top from last k) r → i < last → PlacedIn k es
        → start_of ck top from last k ≤ i → Tail top full r i (end_of ck top from last k) → Known ck full i m → Knows ck top from last k m → EntryCounts ck top from last k es i m
        → HeaderWay ck es i m w → Goes (shape_of (op i)) w i es n
    row_taken end k full b es is lt p begun tail known around counts way = end_taken k es is lt p begun around counts
    row_taken (step j r) k full b es is lt p begun tail known around counts way =
        let o =
        one_on cs c top from last i es m n l recent k full p begun known around counts r (b, is.3)
        (tail_next op top full b i (end_of ck top from last k) j r is.0 tail) is.1 (plain_test (shape_of (op i)) is.2) in
        by_plain (λ s. Goes s w i es n) o (λ k. o) (shape_of (op i)) is.2
    row_taken (stop j r) k full b es is lt p begun tail known around counts way = by_ending (λ s. Goes s w i es n) tt tt (shape_of (op i)) is.2
    row_taken (leave j r) k full b es is lt p begun tail known around counts way =
        let o = out cs c top from last i es m n l recent k full p begun known around counts (λ h. let z : Plain breaks = rw is.2 at h in z) is.1 in
        rw is.2 o
    row_taken (leave_if j r) k full b es is lt p begun tail known around counts way =
        let o =
        tests k full es w r p begun known around counts (b, is.4) (tail_test op top full b i (end_of ck top from last k) j r is.0 tail) is.1 is.2 way in
        rw is.2 o
    row_taken (if_then j t q r) k full b es is lt p begun tail known around counts way =
        let o = if_goes cs c top from last i es m n l recent k full p begun known around counts w j t q r b is tail in
        rw is.1 o
    row_taken (if_else j e t q s r) k full b es is lt p begun tail known around counts way =
        let o = else_goes cs c top from last i es m n l recent k full p begun known around counts w j e t q s r b is tail in
        rw is.1 o
    row_taken (loop j e q r) k full b es is lt p begun tail known around counts way =
        let o = loop_goes cs c top from last i es m n l recent k full p begun known around counts w j e q r b is tail in
        rw is.1 o

  pub sure_taken : (i : ℕ) (es : List Entry) (m n : Memory) (w : Way) → i < last → At i es m → Leaves (effect_at ck i) m n → HeaderWay ck es i m w
      → Goes (shape_of (op i)) w i es n
  sure_taken i es m n w lt s l way =
      row_taken i m n w l s.recent s.row s.part s.full s.is.0 es s.is.1 lt s.placed s.begun s.tail s.known s.around s.counts way

  -- before the first op, whatever the memory
  pub sure_start : (b : Bool) (m : Memory) → IsRow op b from last top → RecentAt ck from m → At from [] m
  sure_start b m is recent =
      record {
        part = root;
        full = top;
        row = top;
        is = (b, is);
        begun = omega arith;
        tail = whole_tail top from last;
        placed = refl;
        known = known_start ck top from m (λ s h. (held_range op top b from last s is h).0);
        around = tt;
        counts = tt;
        recent = recent;
      }
