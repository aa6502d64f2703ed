-- Sums and products of bounded numbers, as 64-bit code has them.
use Rattle.std.specs.Prelude.{◌≡◌, ◌+◌, ◌*◌, ◌^◌, ◌+ℤ◌, ◌*ℤ◌}
use Rattle.algebra.specs.Prelude.{ℕ, T, ltb, ℤ, w32, w64, to_z-of_z}
use mir.Val.{SFits, to_z, of_z, hbits}
use Rattle.algebra.specs.Bound.{AtMost, add_most, mul_most, most_fits, widen-fits}
use Rattle.algebra.specs.Fit.{abs-sfits}

-- a sum, with its operands read back from their bits
abbrev pub plus64 : ℤ → ℤ → ℤ
plus64 a b = to_z w64 (of_z w64 a) +ℤ to_z w64 (of_z w64 b)

module _ {a b : ℤ} {m n : ℕ} (ha : AtMost m a) (hb : AtMost n b) (s : T (ltb m (2 ^ hbits w64))) (t : T (ltb n (2 ^ hbits w64))) where
  pub sum_is : plus64 a b ≡ a +ℤ b
  sum_is = rw (to_z-of_z (most_fits w64 a m ha s), to_z-of_z (most_fits w64 b n hb t))

  pub sum-most : AtMost (m + n) (plus64 a b)
  sum-most = rw sum_is (add_most ha hb)

  pub product_is : to_z w64 (of_z w64 a) *ℤ to_z w64 (of_z w64 b) ≡ a *ℤ b
  product_is = rw (to_z-of_z (most_fits w64 a m ha s), to_z-of_z (most_fits w64 b n hb t))

  pub product-most : AtMost (m * n) (to_z w64 (of_z w64 a) *ℤ to_z w64 (of_z w64 b))
  product-most = rw product_is (mul_most ha hb)

-- a 32-bit number
module _ {y : ℤ} (h : SFits w32 y) where
  pub wide_fits : SFits w64 (to_z w32 (of_z w32 y))
  wide_fits = rw (to_z-of_z h) (widen-fits y h)

  pub wide-most : AtMost 2147483648 (to_z w32 (of_z w32 y))
  wide-most = rw (to_z-of_z h) (record { most = abs-sfits y h })
