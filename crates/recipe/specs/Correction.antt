-- The merge recipe of document 01 on one tile of differences, over the side's tables and scales: B, Q, G and P, in exact whole numbers.
use Rattle.std.specs.Prelude.{◌+◌, ◌*◌, ◌+ℤ◌, ◌-ℤ◌, ◌*ℤ◌}
use Rattle.algebra.specs.Prelude.{ℕ, zero, suc, ℤ, pos, nat_abs, neg_ℤ}
use Rattle.algebra.specs.Sums.{sum_z}
use Rattle.algebra.specs.Nearest.{away}
use Rattle.recipe.specs.Side.{Side, cos_at, sin_at}

-- |Q|² + V, from the parts of Q
abbrev pub power : ℕ → ℤ → ℤ → ℕ
power v q r = nat_abs q * nat_abs q + nat_abs r * nat_abs r + v

-- One part of G, from that part q of Q and the other part r: V·q/(|Q|²+V) to nearest, halves away from zero; 0 if V is 0
unfoldable pub wiener : ℕ → ℤ → ℤ → ℤ
wiener zero q r = pos 0
wiener (suc v) q r = away (pos (suc v) *ℤ q) (power (suc v) q r)

module _ (s : Side) where
  -- B at (u, v): the two-way transform of the differences d with C(k) and −S(k), along each row and then along the columns
  module _ (d : ℕ → ℕ → ℤ) where
    unfoldable pub row_re : ℕ → ℕ → ℤ
    row_re y v = sum_z s.side (λ x. d y x *ℤ cos_at s (v * x))

    unfoldable pub row_im : ℕ → ℕ → ℤ
    row_im y v = sum_z s.side (λ x. d y x *ℤ neg_ℤ (sin_at s (v * x)))

    unfoldable pub bin_re : ℕ → ℕ → ℤ
    bin_re u v = sum_z s.side (λ y. row_re y v *ℤ cos_at s (u * y) -ℤ row_im y v *ℤ neg_ℤ (sin_at s (u * y)))

    unfoldable pub bin_im : ℕ → ℕ → ℤ
    bin_im u v = sum_z s.side (λ y. row_re y v *ℤ neg_ℤ (sin_at s (u * y)) +ℤ row_im y v *ℤ cos_at s (u * y))

  -- One part of Q: that part of B divided by the quantum, to nearest, halves away from zero
  unfoldable pub quantized : ℤ → ℤ
  quantized b = away b s.quantum

  -- One part of G, from that part b of B and the other part c
  unfoldable pub filtered : ℕ → ℤ → ℤ → ℤ
  filtered noise b c = wiener noise (quantized b) (quantized c)

  -- The inverse's factor (C(uy) + i·S(uy))·(C(vx) + i·S(vx)) of bin (u, v) at row y and column x
  unfoldable pub twiddle_re : (y x u v : ℕ) → ℤ
  twiddle_re y x u v = cos_at s (u * y) *ℤ cos_at s (v * x) -ℤ sin_at s (u * y) *ℤ sin_at s (v * x)

  unfoldable pub twiddle_im : (y x u v : ℕ) → ℤ
  twiddle_im y x u v = cos_at s (u * y) *ℤ sin_at s (v * x) +ℤ sin_at s (u * y) *ℤ cos_at s (v * x)

  -- The real part of the inverse sum of G = g + i·h at row y and column x; P is that divided, to nearest, halves away from zero
  module _ (g h : ℕ → ℕ → ℤ) where
    unfoldable pub inverse_re : ℕ → ℕ → ℤ
    inverse_re y x = sum_z s.side (λ u. sum_z s.side (λ v. twiddle_re y x u v *ℤ g u v -ℤ twiddle_im y x u v *ℤ h u v))

    unfoldable pub inverse_at : ℕ → ℕ → ℤ
    inverse_at y x = away (inverse_re y x) s.divisor

  -- P of the differences d at the noise number
  unfoldable pub correction_at : ℕ → (ℕ → ℕ → ℤ) → ℕ → ℕ → ℤ
  correction_at noise d =
      inverse_at (λ u v. filtered noise (bin_re d u v) (bin_im d u v)) (λ u v. filtered noise (bin_im d u v) (bin_re d u v))
