-- `greatest_fields` lists what the table says: one test over the 66 kinds shows it. Assumes nothing.
use mathlib.Core.Path.{◌≡◌, refl, ap, ap₂, ◌∙◌}
use mathlib.Core.Bool.{false, cond}
use mathlib.Core.List.{List}
use Prim.Native.Nat.{ℕ, ◌≤◌}
use native.Mathlib.Omega.{arith}
use lib.ListN.{get_or, set, replicate}
use Rattle.rules.specs.Ops.{uses_a, greatest_b}
use Rattle.words.proofs.Table.{same}
use Rattle.writer.specs.Fields.{fields_of, no_fields}
use Rattle.writer.specs.declared.fits.Greatest.{Greatest}
use Rattle.writer.proofs.fits.greatest_fields.Goals as goal

-- fields, and a list with an a or a b changed
abbrev fields : ℕ → ℕ → Greatest
fields a b = record { a = a; b = b }

module _ (g : Greatest) where
  abbrev with_a : ℕ → List Greatest → List Greatest
  with_a k l = set l k (record (get_or l k g) { a = 65535 })

  abbrev with_b : ℕ → ℕ → List Greatest → List Greatest
  with_b k b l = set l k (record (get_or l k g) { b = b })

  -- what the list is, from the fields that it is filled with
  abbrev listed : List Greatest
  listed =
      let l0 = with_a 27 (with_a 26 (with_a 25 (with_a 24 (with_a 22 (with_a 21 (with_a 2 (with_a 1 (with_a 0 (replicate 66 g))))))))) in
      let l1 = set (set l0 30 (fields 65535 255)) 34 (fields 65535 3) in
      let l2 = with_b 58 255 (with_a 50 (with_b 36 1 l1)) in
      set (set l2 64 (fields 65535 255)) 65 (fields 65535 255)

table : (k : ℕ) → k ≤ 65 → get_or (listed no_fields) k no_fields ≡ fields_of k
table k h =
    ap₂ fields (same (λ k. false) (λ k. (get_or (listed no_fields) k no_fields).a) (λ k. cond (uses_a k) 65535 0) 66 refl k (omega arith) refl)
    (same (λ k. false) (λ k. (get_or (listed no_fields) k no_fields).b) greatest_b 66 refl k (omega arith) refl)

pub returns : goal.returns
returns c k h =
    let none = ap₂ fields c.default-most.ensures.0 c.default-most.ensures.1 in
    ap (λ (g : Greatest). get_or (listed g) k no_fields) none ∙ table k h
