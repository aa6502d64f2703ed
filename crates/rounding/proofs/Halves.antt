-- Rounding the absolute value. The floor is unique, so it is two inequalities.
use Rattle.std.specs.Prelude.{◌≡◌, ◌∷◌, ◌+◌, ◌*◌, ◌/◌, ◌≤◌, ◌<◌}
use Rattle.algebra.specs.Prelude.{sym, [], ℕ, arith, lit<, pos}
use native.Mathlib.Nat.{mul-pos, mul-le-mul_left, div-add-mod', mod-lt, div-mul-le_self, div-lt_iff_lt-mul}
use Rattle.algebra.specs.Vars.{vars3}
use Rattle.algebra.specs.Ring.{◌⊞◌, ◌⊠◌, #◌}
use Rattle.algebra.specs.Cert.{le, by_le, by-lt, le-pos}
use Rattle.algebra.specs.Floor.{floor-unique}
use Rattle.algebra.specs.Nearest.{upward}

module _ (a m n : ℕ) (h : 0 < m) where
  upward-pos : 2 * (m * n) ≤ 2 * a + m → 2 * a + 1 ≤ 2 * (m * n) + m → pos n ≡ upward (pos a) m
  unfolding upward
  upward-pos k l =
      let (A, M, N) = vars3 in
      let xs = pos a ∷ pos m ∷ pos n ∷ [] in
      sym
      (floor-unique _ (pos n) (2 * m) (mul-pos {m = 2} (lit< tt) h)
      (by_le xs (# 2 ⊠ M ⊠ N) (# 2 ⊠ A ⊞ M) (le (# 2 ⊠ (M ⊠ N)) (# 2 ⊠ A ⊞ M) (le-pos k)) tt)
      (by-lt xs (# 2 ⊠ A ⊞ M) (# 2 ⊠ M ⊠ N ⊞ # 2 ⊠ M) (le (# 2 ⊠ A ⊞ # 1) (# 2 ⊠ (M ⊠ N) ⊞ M) (le-pos l)) tt))

-- the floor of (a + b)/m, where b is half of m or less
module _ (a m b : ℕ) (h : 0 < m) where
  abbrev n : ℕ
  n = (a + b) / m

  low : n * m ≤ a + b
  low = div-mul-le_self (a + b) m

  high : a + b < n * m + m
  high = omega (arith, div-add-mod' (a + b) m, mod-lt (a + b) h)

  small : b + b ≤ m → n ≤ a
  small k = let l : n < a + 1 = (div-lt_iff_lt-mul {k = m} {x = a + b} {y = a + 1} h).1 (omega (arith, mul-le-mul_left a h)) in omega arith

pub up : (a m : ℕ) → 0 < m → (pos ((a + m / 2) / m) ≡ upward (pos a) m) × ((a + m / 2) / m ≤ a)
up a m h =
    (upward-pos a m (n a m (m / 2) h) h (omega (arith, low a m (m / 2) h)) (omega (arith, high a m (m / 2) h)), small a m (m / 2) h (omega arith))
