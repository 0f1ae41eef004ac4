-- Where an op leads from a place of SurePlaces, taken as its effect says: one on in its row, out of a loop, or into a block. Assumes nothing.
use mathlib.Core.Path.{◌≡◌, refl, ◌∙◌}
use mathlib.Core.Bool.{Bool, true, false}
use mathlib.Core.List.{List, [], ◌∷◌}
use mathlib.Core.Logic.{inl, inr}
use Prim.Native.Nat.{ℕ, suc, ◌≤◌, ◌<◌}
use native.Mathlib.Omega.{arith}
use lib.Dec.{eqb}
use Rattle.rules.specs.Kinds as K
use Rattle.rules.specs.Form.{Chunk}
use Rattle.rules.specs.Ops.{kind, op_at}
use Rattle.rules.specs.Rows.{Shape, if_to, loop_to, breaks_if, shape_of}
use Rattle.rules.specs.Rows.{Row, end, if_then, if_else, loop, Plain, IsRow}
use Rattle.rules.specs.Count.{is_set_local}
use Rattle.rules.specs.Sure.{holds, same_row, all_in_row}
use Rattle.rules.specs.Placed.{all_of}
use Rattle.rules.specs.Order.{chunk_at}
use Rattle.rules.specs.Paths.{Way, on, aside, Entry}
use Rattle.rules.specs.Values.{Memory, effect_at, Leaves}
use Rattle.rules.proofs.Flags.{both}
use Rattle.rules.proofs.Shapes.{shape_tells}
use Rattle.rules.proofs.RowTree.{row_forward}
use Rattle.rules.proofs.HeldRows.{Hides, held_range}
use Rattle.rules.proofs.RowTails.{Tail, tail_body, tail_behind, tail_held, tail_arm, tail_behind_if, tail_first, tail_second, tail_behind_else}
use Rattle.rules.proofs.Searches.{all_held, Known, known_start, known_next, known_into, local_number}
use Rattle.rules.proofs.Effects.{no_set, leaves_kept}
use Rattle.rules.proofs.Operands.{RecentAt}
use Rattle.rules.proofs.SureLoop.{counter, limit}
use Rattle.rules.proofs.Counting.{Lands, next, into, past, counting_start}
use Rattle.rules.proofs.Runs.{Outward, Leads}
use Rattle.rules.proofs.SurePlaces.{SurePart, root, arm, first, body, start_of, end_of, Rows, InPlace, Knows, EntryCounts, SurePlace, lands_recent, set_behind, still_knows, counts_on}

-- a row with no op left
pub end_tail : (top : Row) (t : ℕ) → Tail top end end t t
unfolding holds
end_tail top t = record { same = λ s p b h. absurd (omega arith); rest = λ s le h. h }

pub end_known : (c : Chunk) (h : ℕ) (m : Memory) → Known c end h m
unfolding holds
end_known c h m x s f g = absurd (let o : ◌≡◌ {A = ℕ} 0 1 = cc in omega arith)

-- all stops of a sure count are held by the row that holds its Loop
held_all : (top full : Row) (p : ℕ) (ss : List ℕ) → ((s : ℕ) → same_row top s p ≡ true → holds full s ≡ true) → all_in_row top p ss ≡ true → all_held full ss ≡ true
unfolding all_in_row all_of
held_all top full p [] h a = refl
held_all top full p (s ∷ ss) h a =
    let b = both (same_row top s p) (all_in_row top p ss) a in
    rw (h s b.0) (held_all top full p ss h b.1)

-- shapes that set no local
Opens : Shape → Type 0
Opens s = (w : ℕ) → shape_of w ≡ s → (k : ℕ) × (kind w ≡ k) × (eqb k K.set_local ≡ false)

if_opens : (t : ℕ) → Opens (if_to t)
unfolding Opens
if_opens t w e = (K.if, (shape_tells w (if_to t) e).0, refl)

loop_opens : (t : ℕ) → Opens (loop_to t)
unfolding Opens
loop_opens t w e = (K.loop, (shape_tells w (loop_to t) e).0, refl)

module _ (cs : List Chunk) (c : ℕ) (top : Row) (from last : ℕ) where
  -- the chunk
  abbrev ck : Chunk
  ck = chunk_at cs c

  -- the op at a position
  abbrev op : ℕ → ℕ
  op i = op_at ck.ops i

  -- a path stands so before position i
  abbrev At : ℕ → List Entry → Memory → Type 0
  At i es m = SurePlace ck top from last i es m

  -- the same, as Runs asks it of each frame
  abbrev pub SureAt : ℕ → ℕ → List Entry → Memory → Type 0
  SureAt d i es m = At i es m

  -- where an op of that shape leads, with memory n behind it
  abbrev pub To : Shape → Way → ℕ → List Entry → Memory → Type 0
  To s w i es n = Leads cs Memory SureAt s w c i es n

  -- The op at i in part k, whose row is `full`.
  module _ (i : ℕ) (es : List Entry) (m n : Memory) (l : Leaves (effect_at ck i) m n) (recent : RecentAt ck i m) (k : SurePart) (full : Row) (p : InPlace ck top from last k es)
      (begun : start_of ck top from last k ≤ i) (known : Known ck full i m) (around : Knows ck top from last k m) (counts : EntryCounts ck top from last k es i m) where
    -- the end of the part
    abbrev end_at : ℕ
    end_at = end_of ck top from last k

    none_set : (s : Shape) → Opens s → shape_of (op i) ≡ s → (x : ℕ) → is_set_local x (op i) ≡ false
    unfolding Opens
    none_set s o e = let (q, h, ne) = o (op i) e in no_set ck i q h ne

    -- one on in the same row, with the entries that are open then
    pub next_place : (r : Row) (fs : List Entry) → Rows ck top from last (suc i) end_at r → Tail top full r (suc i) end_at → i < end_at → InPlace ck top from last k fs
        → EntryCounts ck top from last k fs (suc i) n → At (suc i) fs n
    next_place r fs is tail lt placed counted =
        record {
          part = k;
          full = full;
          row = r;
          is = is;
          begun = omega arith;
          tail = tail;
          placed = placed;
          known = known_next ck full i m n known (leaves_kept ck i m n l) (set_behind ck top from last i m n l recent full known);
          around = still_knows ck top from last i m n l recent k es p begun (omega arith) around;
          counts = counted;
          recent = lands_recent ck top from last i m n l recent (suc i) (next refl);
        }

    -- with the same ones
    pub one_on : (r : Row) → Rows ck top from last (suc i) end_at r → Tail top full r (suc i) end_at → i < end_at → (shape_of (op i) ≡ breaks_if → ⊥) → At (suc i) es n
    one_on r is tail lt no_test =
        next_place r es is tail lt p (counts_on ck top from last i m n l recent k es (suc i) i p begun lt begun (omega arith) lt (next refl) (inl no_test) counts)

    -- out of the innermost loop
    breaks_out : (k : SurePart) (es : List Entry) → InPlace ck top from last k es → start_of ck top from last k ≤ i → i ≤ end_of ck top from last k
        → (Plain (shape_of (op i)) → ⊥) → Knows ck top from last k n → EntryCounts ck top from last k es i m → Outward cs Memory SureAt c es n
    breaks_out root [] p b le no_plain a g = tt
    breaks_out root (x ∷ es) p b le no_plain a g = absurd (let o : ◌≡◌ {A = ℕ} 0 1 = cc in omega arith)
    breaks_out (arm s t f r k) es p b le no_plain a g =
        let fwd = row_forward op r p.1.0 (suc t) (end_of ck top from last k) p.1.1 in
        breaks_out k es p.2 (omega (arith, p.3, b)) (omega (arith, fwd, le)) no_plain a.1 g
    breaks_out (first s e t f r k) es p b le no_plain a g =
        let fwd = row_forward op r p.1.0 (suc t) (end_of ck top from last k) p.1.1 in
        breaks_out k es p.2 (omega (arith, p.3, b)) (omega (arith, fwd, le, p.8)) no_plain a.1 g
    breaks_out (body q e d f r k) [] p b le no_plain a g = absurd p
    breaks_out (body q e d f r k) (x ∷ es) p b le no_plain a g =
        let fwd = row_forward op r p.1.0 (suc e) (end_of ck top from last k) p.1.1 in
        let lands : Lands ck i (suc e) = past e refl (rw p.0 tt) no_plain in
        rw p.7
        (record {
          part = k;
          full = f;
          row = r;
          is = p.1;
          begun = omega (arith, p.3, p.4);
          tail = p.6;
          placed = p.2;
          known = a.0;
          around = a.1;
          counts = counts_on ck top from last i m n l recent k es (suc e) i p.2 (omega (arith, p.3, b)) (omega (arith, fwd, le)) (omega (arith, p.3, b)) (omega arith) fwd
              lands (inr (q, omega (arith, p.3), b, rw p.11 tt)) g.1;
          recent = lands_recent ck top from last i m n l recent (suc e) lands;
        })

    pub out : (Plain (shape_of (op i)) → ⊥) → i < end_at → Outward cs Memory SureAt c es n
    out no_plain lt = breaks_out k es p begun (omega arith) no_plain (still_knows ck top from last i m n l recent k es p begun (omega arith) around) counts

    -- into an arm from a up to `to`, before position j, of an If with EndIf at t
    arm_counts : (j : ℕ) → i < j → j ≤ end_at → Lands ck i j → (shape_of (op i) ≡ breaks_if → ⊥) → EntryCounts ck top from last k es j n
    arm_counts j lt le lands no_test =
        counts_on ck top from last i m n l recent k es j i p begun (omega arith) begun lt le lands (inl no_test) counts

    enters : (t : ℕ) (s : Shape) → Opens s → shape_of (op i) ≡ s → i ≤ t → t < end_at → Hides full (suc i) t
        → Known ck full (suc t) n × Knows ck top from last k n
    enters t s o e le lt hides = (
      known_into ck full t i m n hides le (none_set s o e) (leaves_kept ck i m n l) known,
      still_knows ck top from last i m n l recent k es p begun (omega arith) around,
    )

    -- at the start of a row
    row_start : (r : Row) (b : Bool) (a to : ℕ) → IsRow op b a to r → Known ck r a n
    row_start r b a to w = known_start ck r a n (λ s h. (held_range op r b a to s w h).0)

    pub if_goes : (w : Way) (j t : ℕ) (q r : Row) (b : Bool) → IsRow op b i end_at (if_then j t q r) → Tail top full (if_then j t q r) i end_at → To (if_to t) w i es n
    if_goes w j t q r b is tail = by w
      where
        behind : Tail top full r (suc t) end_at × Hides full (suc i) t
        behind = tail_behind_if op top full b i end_at j t q r is tail

        fwd : suc t ≤ end_at
        fwd = row_forward op r b (suc t) end_at is.6

        place : InPlace ck top from last (arm (suc i) t full r k) es
        place = (is.4, (b, is.6), p, omega arith, is.2, behind.1, behind.0)

        no_test : shape_of (op i) ≡ breaks_if → ⊥
        no_test e = let f = is.1 in let o : ◌≡◌ {A = ℕ} 0 1 = cc in omega arith

        no_plain : Plain (shape_of (op i)) → ⊥
        no_plain h = let z : Plain (if_to t) = rw is.1 at h in z

        aim : Lands ck i t
        aim = into is.4 is.2 no_plain

        by : (w : Way) → To (if_to t) w i es n
        by on =
            record {
              part = arm (suc i) t full r k;
              full = q;
              row = q;
              is = (b, is.5);
              begun = omega arith;
              tail = tail_arm op top full b i end_at j t q r is tail;
              placed = place;
              known = row_start q b (suc i) t is.5;
              around = enters t (if_to t) (if_opens t) is.1 (omega arith) fwd behind.1;
              counts = arm_counts (suc i) (omega arith) (omega arith) (next refl) no_test;
              recent = lands_recent ck top from last i m n l recent (suc i) (next refl);
            }
        by aside =
            record {
              part = arm (suc i) t full r k;
              full = end;
              row = end;
              is = (b, refl);
              begun = is.2;
              tail = end_tail top t;
              placed = place;
              known = end_known ck t n;
              around = enters t (if_to t) (if_opens t) is.1 (omega arith) fwd behind.1;
              counts = arm_counts t is.2 (omega arith) aim no_test;
              recent = lands_recent ck top from last i m n l recent t aim;
            }

    pub else_goes : (w : Way) (j e t : ℕ) (q s r : Row) (b : Bool) → IsRow op b i end_at (if_else j e t q s r) → Tail top full (if_else j e t q s r) i end_at
        → To (if_to (suc e)) w i es n
    else_goes w j e t q s r b is tail = by w
      where
        behind : Tail top full r (suc t) end_at × Hides full (suc i) t
        behind = tail_behind_else op top full b i end_at j e t q s r is tail

        fwd : suc t ≤ end_at
        fwd = row_forward op r b (suc t) end_at is.9

        no_test : shape_of (op i) ≡ breaks_if → ⊥
        no_test f = let g = is.1 in let o : ◌≡◌ {A = ℕ} 0 1 = cc in omega arith

        no_plain : Plain (shape_of (op i)) → ⊥
        no_plain h = let z : Plain (if_to (suc e)) = rw is.1 at h in z

        aim : Lands ck i (suc e)
        aim = past e refl (rw is.5 tt) no_plain

        by : (w : Way) → To (if_to (suc e)) w i es n
        by on =
            record {
              part = first (suc i) e t full r k;
              full = q;
              row = q;
              is = (b, is.7);
              begun = omega arith;
              tail = tail_first op top full b i end_at j e t q s r is tail;
              placed = (is.6, (b, is.9), p, omega arith, omega arith, behind.1, behind.0, is.5, is.3);
              known = row_start q b (suc i) e is.7;
              around = enters t (if_to (suc e)) (if_opens (suc e)) is.1 (omega arith) fwd behind.1;
              counts = arm_counts (suc i) (omega arith) (omega arith) (next refl) no_test;
              recent = lands_recent ck top from last i m n l recent (suc i) (next refl);
            }
        by aside =
            record {
              part = arm (suc e) t full r k;
              full = s;
              row = s;
              is = (b, is.8);
              begun = omega arith;
              tail = tail_second op top full b i end_at j e t q s r is tail;
              placed = (is.6, (b, is.9), p, omega arith, is.3, (λ s le le'. behind.1 s (omega arith) le'), behind.0);
              known = row_start s b (suc e) t is.8;
              around = enters t (if_to (suc e)) (if_opens (suc e)) is.1 (omega arith) fwd behind.1;
              counts = arm_counts (suc e) (omega arith) (omega arith) aim no_test;
              recent = lands_recent ck top from last i m n l recent (suc e) aim;
            }

    pub loop_goes : (w : Way) (j e : ℕ) (q r : Row) (b : Bool) → IsRow op b i end_at (loop j e q r) → Tail top full (loop j e q r) i end_at → To (loop_to (suc e)) w i es n
    loop_goes w j e q r b is tail d =
        let fwd = row_forward op r b (suc e) end_at is.6 in
        let behind = tail_behind op top full b i end_at j e q r is tail in
        let held : (s : ℕ) → same_row top s i ≡ true → holds full s ≡ true = tail_held op top full b i end_at j e q r is tail in
        let unset = none_set (loop_to (suc e)) (loop_opens (suc e)) is.1 in
        let kept = leaves_kept ck i m n l in
        record {
          part = body i e q full r k;
          full = q;
          row = q;
          is = (true, is.5);
          begun = omega arith;
          tail = tail_body op top full b i end_at j e q r is tail;
          placed = (
            is.4,
            (b, is.6),
            p,
            omega arith,
            is.2,
            behind.1,
            behind.0,
            refl,
            refl,
            (true, is.5),
            tail_body op top full b i end_at j e q r is tail,
            is.1,
          );
          known = row_start q true (suc i) e is.5;
          around = enters e (loop_to (suc e)) (loop_opens (suc e)) is.1 (omega arith) fwd behind.1;
          counts = (
            λ N s.
                counting_start ck s n
                (kept (counter ck top i) (unset (counter ck top i))
                ∙ local_number ck full i (counter ck top i) s.start m known s.value (held_all top full i _ held s.held))
                (kept (limit ck top i) (unset (limit ck top i))
                ∙ local_number ck full i (limit ck top i) s.stop m known s.end_value (held_all top full i _ held s.end_held)),
            arm_counts (suc i) (omega arith) (omega arith) (next refl) (λ f. let g = is.1 in let o : ◌≡◌ {A = ℕ} 0 1 = cc in omega arith),
          );
          recent = lands_recent ck top from last i m n l recent (suc i) (next refl);
        }
