-- Every module whose integers have 64 bits can be lent: its lists hold it. Assumes nothing.
use mathlib.Core.Path.{◌≡◌, refl, ap}
use mathlib.Core.List.{List, [], ◌∷◌, ◌++◌, flat_map}
use Prim.Native.Nat.{◌+◌, ◌*◌, ◌/◌, ◌%◌, ◌^◌}
use native.Mathlib.Omega.{arith}
use borrow.Author.Tests.{le-leb}
use lib.ListN.{length, length-append}
use lib.Seq.{take_at, drop_at}
use Rattle.rules.specs.Form.{Constant, integer, other, bits, Each, ConstantFits}
use Rattle.rules.specs.Writing.{Op, Draft, holds, held_constants, held_ops, held, lent_chunk, lent_constant, lent_op, lent_constants, lent_ops, lent_extras}
use Rattle.rules.proofs.ConstantWords.{signed_bits}

constants-length : (ks : List Constant) → length (flat_map lent_constant ks) ≡ 3 * length ks
unfolding flat_map
constants-length [] = refl
constants-length (integer z ∷ ks) = omega (arith, constants-length ks)
constants-length (other ∷ ks) = omega (arith, constants-length ks)

ops-length : (os : List Op) → length (flat_map lent_op os) ≡ 3 * length os
unfolding flat_map
ops-length [] = refl
ops-length (o ∷ os) = omega (arith, ops-length os)

constants-held : (ks : List Constant) → Each ConstantFits ks → held_constants (flat_map lent_constant ks) ≡ holds ks
unfolding flat_map held_constants
constants-held [] h = refl
constants-held (integer z ∷ ks) h =
    let n : bits z % 2 ^ 32 + 2 ^ 32 * (bits z / 2 ^ 32) ≡ bits z = omega arith in
    rw (constants-held ks h.1, n, signed_bits z h.0)
constants-held (other ∷ ks) h = rw (constants-held ks h.1)

ops-held : (os : List Op) → held_ops (flat_map lent_op os) ≡ os
unfolding flat_map held_ops
ops-held [] = refl
ops-held (o ∷ os) = ap (λ (ps : List Op). o ∷ ps) (ops-held os)

pub held-lent : (ds : List Draft) → Each (λ d. Each ConstantFits d.constants) ds
    → held (flat_map lent_chunk ds) (lent_constants ds) (lent_ops ds) (lent_extras ds) ≡ holds ds
unfolding flat_map held
held-lent [] h = refl
held-lent (d ∷ ds) h =
    let ks = flat_map lent_constant d.constants in
    let os = flat_map lent_op d.ops in
    let lk = constants-length d.constants in
    let lo = ops-length d.ops in
    rw (
      le-leb (3 * length d.constants) (length (ks ++ lent_constants ds)) (omega (arith, lk, length-append ks (lent_constants ds))),
      le-leb (3 * length d.ops) (length (os ++ lent_ops ds)) (omega (arith, lo, length-append os (lent_ops ds))),
      le-leb (length d.extras) (length (d.extras ++ lent_extras ds)) (omega (arith, length-append d.extras (lent_extras ds))),
      take_at ks (lent_constants ds) (3 * length d.constants) lk,
      drop_at ks (lent_constants ds) (3 * length d.constants) lk,
      take_at os (lent_ops ds) (3 * length d.ops) lo,
      drop_at os (lent_ops ds) (3 * length d.ops) lo,
      take_at d.extras (lent_extras ds) (length d.extras) refl,
      drop_at d.extras (lent_extras ds) (length d.extras) refl,
      constants-held d.constants h.0,
      held-lent ds h.1,
      ops-held d.ops,
    )
