-- Rounding and holding keep the order.
use Rattle.std.specs.Prelude.{◌∷◌, ◌+◌, ◌*◌, ◌/◌, ◌≤◌, ◌<◌, ◌+ℤ◌, ◌*ℤ◌, ◌≤ℤ◌, ◌<ℤ◌}
use Rattle.range.specs.Prelude.{[], ℕ, zero, suc, arith, lit<, ℤ, pos, negsuc, neg_ℤ, shr_z, away, upward, clamp_z}
use Rattle.std.proofs.Math.Nat.{div-zero}
use Rattle.std.proofs.Common.{mul-pos, mul-le-mul_right, le_of_mul-le-mul_right, le-div_iff_mul-le, div-mul-le_self}
use Rattle.algebra.specs.Order.{zarith, neg-p, neg-n}
use Rattle.algebra.specs.Ring.{var, ◌⊞◌, ◌⊠◌, #◌}
use Rattle.algebra.specs.Cert.{num, le, ◌⊗◌, by_le, le-pos}
use Rattle.algebra.specs.Floor.{floor-le, floor-lt, cancel-lt}
use Rattle.algebra.specs.ClampLaws.{clamp-cases, clamp-low}

-- ---- a/m ≤ b/n, rounded down

pub quotient-mono : (a b m n : ℕ) → 0 < m → 0 < n → a * n ≤ b * m → a / m ≤ b / n
quotient-mono a b m n h k l =
    (le-div_iff_mul-le {k = n} {x = a / m} {y = b} k).1
    (le_of_mul-le-mul_right {k = m} (omega (arith, l, mul-le-mul_right n (div-mul-le_self a m))) h)

pub quotient-rises : (a b m : ℕ) → a ≤ b → a / m ≤ b / m
quotient-rises a b zero h = omega (arith, div-zero a, div-zero b)
quotient-rises a b (suc m) h = quotient-mono a b (suc m) (suc m) (omega arith) (omega arith) (mul-le-mul_right (suc m) h)

-- ---- z/m ≤ z'/n, to nearest, halves away from zero

nearest : (a b m n : ℕ) → 0 < m → 0 < n → a * n ≤ b * m → (2 * a + m) / (2 * m) ≤ (2 * b + n) / (2 * n)
nearest a b m n h k l =
    quotient-mono (2 * a + m) (2 * b + n) (2 * m) (2 * n) (mul-pos {m = 2} (lit< tt) h) (mul-pos {m = 2} (lit< tt) k) (omega (arith, l))

opposite : (a b : ℕ) → a ≤ b → neg_ℤ (pos b) ≤ℤ neg_ℤ (pos a)
opposite a b h = omega (zarith, neg-p (pos a), neg-n (pos a), neg-p (pos b), neg-n (pos b))

turned : (a b : ℕ) → neg_ℤ (pos a) ≤ℤ neg_ℤ (pos b) → b ≤ a
turned a b h = omega (zarith, neg-p (pos a), neg-n (pos a), neg-p (pos b), neg-n (pos b))

pub away-mono : (z z' : ℤ) (m n : ℕ) → 0 < m → 0 < n → (z *ℤ pos n) ≤ℤ (z' *ℤ pos m) → away z m ≤ℤ away z' n
unfolding away
away-mono (pos a) (pos b) m n h k l = le-pos (nearest a b m n h k (omega zarith))
away-mono (pos a) (negsuc b) m n h k l = absurd (omega (zarith, neg-p (pos (suc b * m)), neg-n (pos (suc b * m))))
away-mono (negsuc a) (pos b) m n h k l =
    let q = (2 * suc a + m) / (2 * m) in
    omega (zarith, neg-p (pos q), neg-n (pos q))
away-mono (negsuc a) (negsuc b) m n h k l =
    opposite ((2 * suc b + n) / (2 * n)) ((2 * suc a + m) / (2 * m)) (nearest (suc b) (suc a) n m k h (turned (suc a * n) (suc b * m) l))

-- ---- to nearest, halves upward

pub upward-mono : (z z' : ℤ) (m : ℕ) → 0 < m → z ≤ℤ z' → upward z m ≤ℤ upward z' m
unfolding upward
upward-mono z z' m h l =
    let above : 0 < 2 * m = mul-pos {m = 2} (lit< tt) h in
    let Z = pos 2 *ℤ z +ℤ pos m in
    let Z' = pos 2 *ℤ z' +ℤ pos m in
    let more : Z ≤ℤ Z' = by_le (z ∷ z' ∷ pos m ∷ []) (# 2 ⊠ var 0 ⊞ var 2) (# 2 ⊠ var 1 ⊞ var 2) (num 2 ⊗ le (var 0) (var 1) l) tt in
    let low : (pos (2 * m) *ℤ shr_z Z (2 * m)) ≤ℤ Z = floor-le Z (2 * m) above in
    let high : Z' <ℤ (pos (2 * m) *ℤ shr_z Z' (2 * m) +ℤ pos (2 * m)) = floor-lt Z' (2 * m) above in
    cancel-lt (2 * m) (shr_z Z' (2 * m)) (shr_z Z (2 * m)) above (between low more high)
  where
    between : {a b c d : ℤ} → a ≤ℤ b → b ≤ℤ c → c <ℤ d → a <ℤ d
    between {a} {b} {c} {d} h k l = omega zarith

-- ---- holding

pub clamp-mono : (lo hi z z' : ℤ) → lo ≤ℤ hi → z ≤ℤ z' → clamp_z lo hi z ≤ℤ clamp_z lo hi z'
clamp-mono lo hi z z' h l =
    clamp-cases lo hi z h (λ t. t ≤ℤ clamp_z lo hi z')
    (λ a. clamp-low lo hi z' h)
    (λ a b. clamp-cases lo hi z' h (λ t. z ≤ℤ t) (λ c. omega zarith) (λ c d. l) (λ c. b))
    (λ a. clamp-cases lo hi z' h (λ t. hi ≤ℤ t) (λ c. omega zarith) (λ c d. omega zarith) (λ c. omega zarith))
