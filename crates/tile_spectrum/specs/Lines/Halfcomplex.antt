-- The halfcomplex form of a line of real numbers' transform: the real parts of its numbers 0..n/2, then the imaginary parts of 1..n/2−1; for a line of
-- sixteen, those of 0..8 and of 1..7. The other numbers are conjugates of these.
use Rattle.std.specs.Prelude.{◌+◌, ◌-◌, ◌*◌, ◌/◌, ◌%◌, ◌*ℤ◌}
use Rattle.tile_spectrum.specs.Lines.Prelude.{cond, ℕ, suc, eqb, ltb, ℤ, pos, negsuc, neg_ℤ, sum_z, Side, cos_at, side16}

-- half of a number, toward 0
unfoldable pub half_z : ℤ → ℤ
half_z (pos a) = pos (a / 2)
half_z (negsuc a) = neg_ℤ (pos (suc a / 2))

-- ---- a line of any side

module _ (s : Side) where
  -- place k holds a part of this number
  unfoldable pub frequency_of : ℕ → ℕ
  frequency_of k = cond (ltb k (s.half + 1)) k (k - s.half)

  -- and its real part is taken against C(j), its imaginary part against −S(j) = C(j+n/4)
  unfoldable pub phase_of : ℕ → ℕ
  phase_of k = cond (ltb k (s.half + 1)) 0 (s.side / 4)

  unfoldable pub basis_of : (k n : ℕ) → ℤ
  basis_of k n = cos_at s (frequency_of k * n + phase_of k)

  -- place k of the transform of the line x
  unfoldable pub halfcomplex_of : (ℕ → ℤ) → ℕ → ℤ
  halfcomplex_of x k = sum_z s.side (λ n. x n *ℤ basis_of k n)

  -- number n of the transposed sum: the places z, each against its basis
  unfoldable pub backward_of : (ℕ → ℤ) → ℕ → ℤ
  backward_of z n = sum_z s.side (λ k. z k *ℤ basis_of k n)

  -- half of the transposed sum in which places 0 and n/2 count once and the others twice: these two, against C(0) or −C(0), against half of the basis
  unfoldable pub half_basis_of : (k n : ℕ) → ℤ
  half_basis_of k n = cond (eqb (k % s.half) 0) (half_z (basis_of k n)) (basis_of k n)

  unfoldable pub half_sum_of : (ℕ → ℤ) → ℕ → ℤ
  half_sum_of z n = sum_z s.side (λ k. z k *ℤ half_basis_of k n)

-- ---- a line of sixteen

abbrev pub basis : (k n : ℕ) → ℤ
basis = basis_of side16

abbrev pub halfcomplex : (ℕ → ℤ) → ℕ → ℤ
halfcomplex = halfcomplex_of side16

abbrev pub backward : (ℕ → ℤ) → ℕ → ℤ
backward = backward_of side16

abbrev pub half_sum : (ℕ → ℤ) → ℕ → ℤ
half_sum = half_sum_of side16
