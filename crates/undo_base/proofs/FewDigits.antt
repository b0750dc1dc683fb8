-- How large the numbers of few digits are.
use Rattle.std.proofs.Common.{◌≡◌, ℕ, zero, suc, ◌+◌, ◌-◌, ◌*◌, ◌^◌, ◌<◌, ◌≤◌, arith}
use Rattle.std.proofs.Math.Nat.{pow-suc}

-- a greater power of ten
ten_grows : (j i : ℕ) → 10 ^ i ≤ 10 ^ (i + j)
ten_grows zero i = let e : i + zero ≡ i = omega arith in rw e (omega arith)
ten_grows (suc j) i =
    let e : i + suc j ≡ suc (i + j) = omega arith in
    let p : 10 ^ suc (i + j) ≡ 10 ^ (i + j) * 10 = pow-suc 10 (i + j) in
    rw (e, p) (omega (arith, ten_grows j i))

-- up to twelve digits fit
pub digits_fit : (n i : ℕ) → n < 10 ^ i → i < 12 → 10 * n + 255 < 2 ^ 64
digits_fit n i below few =
    let e : i + (11 - i) ≡ 11 = omega arith in
    let le : 10 ^ i ≤ 10 ^ 11 = rw e at (ten_grows (11 - i) i) in
    omega arith
