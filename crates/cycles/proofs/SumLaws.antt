-- Products by a count against a cap, by one division. The walk's products stop by themselves, so no proof cites these; docs/LANDINGS.md names them.
-- Assumes nothing.
use Prim.Native.Nat.{ℕ, suc, ◌*◌, ◌/◌, ◌≤◌, ◌<◌}
use native.Mathlib.Nat.{mul-suc, mul_comm, div-add-mod, mod-lt, mul-le-mul_left}
use native.Mathlib.Omega.{arith}

-- for any cap: a product by n is within it exactly if the other factor is at most the cap divided by n
pub product_fits : (cap a n : ℕ) → 0 < n → a ≤ cap / n → a * n ≤ cap
product_fits cap a n h le =
    let k : n * a ≤ n * (cap / n) = mul-le-mul_left n le in
    omega (arith, k, div-add-mod cap n, mul_comm a n)

-- and above it where the other factor is greater
pub product_over : (cap a n : ℕ) → 0 < n → cap / n < a → cap < a * n
product_over cap a n h lt =
    let k : n * suc (cap / n) ≤ n * a = mul-le-mul_left n (omega (arith, lt)) in
    omega (arith, k, mul-suc n (cap / n), div-add-mod cap n, mod-lt cap h, mul_comm a n)
