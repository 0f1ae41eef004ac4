-- What the walk behind an If, an Else and a Loop gives, from what its parts gave: positions counted as the code does.
-- Assumes nothing.
use mathlib.Core.Path.{◌≡◌, refl, sym, ◌∙◌}
use mathlib.Core.Bool.{Bool, true, false}
use mathlib.Core.List.{List}
use Prim.Native.Nat.{ℕ, suc, ◌+◌, max}
use native.Mathlib.Numerals.{add-one}
use native.Mathlib.Omega.{arith}
use Rattle.std.specs.Prelude.{Option, is_some, Ok}
use Rattle.rules.specs.Form.{Chunk}
use Rattle.rules.specs.Count.{count_at}
use Rattle.rules.specs.Stack as R
use Rattle.words.specs.Found.{found_of}
use Rattle.rows.specs.Opens.{IfFits, ElseFits, LoopFits}
use Rattle.stack.specs.declared.level.Level.{Level}
use Rattle.stack.specs.declared.height.Height.{Height}
use Rattle.stack.specs.declared.region.Step.{Step}
use Rattle.stack.specs.declared.region.Step.TheVariants.{Goes}
use Rattle.stack.specs.Levels.{raised_to, marked_as, height_of, ends_at}
use Rattle.stack.specs.Steps.{PartMeans, IfMeans, ElseMeans, LoopMeans, joined, passed_once}
use Rattle.stack.proofs.BoundLaws.{height_more, ends_small, joined_onward, passed_onward}
use Rattle.stack.proofs.StackLaws.{joined_means, body_goes, body_ends}

module _ (c : Chunk) (callees : List ℕ) (left : ℕ) (l : Level) where
  -- the walk of a part behind the op at i that ends at `end`, from the level behind that op with any mark
  walked_as : (i end : ℕ) {m : Level} {broken : Bool} (h : Height) → m ≡ marked_as l broken → PartMeans c callees (i + 1) end left m (Ok h)
      → PartMeans c callees (suc i) end left (marked_as l broken) (Ok h)
  walked_as i end h same w = rw (same, add-one i) at w

  -- an If at i with EndIf at t
  pub if_joins : {i t to : ℕ} → IfFits c.ops i t to → (arm : Height) → PartMeans c callees (i + 1) t left l (Ok arm)
      → {before : R.Height} → before ≡ ends_at l → (k : Step) → k ≡ joined t l before (height_of arm) → IfMeans c callees i t to left l (Ok k)
  if_joins {i} {t} {to} h arm walked b k is =
      let w = walked_as i t arm refl walked in
      let twice : max l.peak.0 l.peak.0 ≡ l.peak.0 = omega arith in
      let s = rw b at is in
      rw s (
        joined_means c callees t to left l (ends_at l) (height_of arm) ∙ rw (← w.0, twice),
        joined_onward c.ops i t to l h.at.target h.at.within h.at.rest (ends_at l) (height_of arm)
            (λ b s. (height_more (ends_small s) (omega arith), w.1 b s.offset)),
      )

  -- an If at i with Else at e and EndIf at f
  pub else_joins : {i e f to : ℕ} → ElseFits c.ops i e f to → (arm : Height) → PartMeans c callees (i + 1) e left l (Ok arm)
      → {again : Level} → again ≡ marked_as l arm.broken → (other : Height) → PartMeans c callees (e + 1) f left again (Ok other)
      → (k : Step) → k ≡ joined f l (height_of arm) (height_of other) → ElseMeans c callees i e f to left l (Ok k)
  else_joins {i} {e} {f} {to} h arm walked same other walked-again k is =
      let first = walked_as i e arm refl walked in
      let second = walked_as e f other same walked-again in
      let a = h.at.target in
      let b = h.at.else_behind in
      rw is (
        joined_means c callees f to left l (height_of arm) (height_of other) ∙ rw (← first.0, ← second.0),
        joined_onward c.ops i f to l (omega arith) h.at.within h.at.rest (height_of arm) (height_of other)
            (λ b m. (height_more (first.1 b m.offset) (omega arith), height_more (second.1 b m.offset) (omega arith))),
      )

  -- a Loop at i with EndLoop at e, whose body goes on and is counted
  pub loop_goes : {i e to : ℕ} → LoopFits c.ops i e to → {inside : Level} → inside ≡ marked_as l false
      → (body : Height) → PartMeans c callees (i + 1) e left inside (Ok body) → {after : Level} → after ≡ raised_to l body.peak.0
      → is_some body.delta ≡ true → (o : Option ℕ) → found_of o ≡ count_at c.constants c.ops i → is_some o ≡ true
      → LoopMeans c callees i e to left l (Ok (Goes (e + 1) after))
  loop_goes {i} {e} {to} h same body walked raised goes o count counted =
      let w = walked_as i e body same walked in
      rw (add-one, raised) (
        rw (← w.0) (sym (body_goes c callees body.delta o i goes count counted body.broken _ _ _ _)),
        passed_onward c.ops i e to l h.at.target h.at.within h.at.rest body.peak.0 true (λ b s. (w.1 b s.offset).peak),
      )

  -- one whose body ends
  pub loop_once : {i e to : ℕ} → LoopFits c.ops i e to → {inside : Level} → inside ≡ marked_as l false
      → (body : Height) → PartMeans c callees (i + 1) e left inside (Ok body) → {after : Level} → after ≡ raised_to l body.peak.0
      → is_some body.delta ≡ false → (k : Step) → k ≡ passed_once e after body.broken → LoopMeans c callees i e to left l (Ok k)
  loop_once {i} {e} {to} h same body walked raised ends k is =
      let w = walked_as i e body same walked in
      let s = rw raised at is in
      rw s (
        rw (← w.0) (body_ends c callees body.delta i e to left (raised_to l body.peak.0) ends body.broken),
        passed_onward c.ops i e to l h.at.target h.at.within h.at.rest body.peak.0 body.broken (λ b s. (w.1 b s.offset).peak),
      )
