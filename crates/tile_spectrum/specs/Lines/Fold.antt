-- A line folded in halves. C(j+n/2) = −C(j), so a transform's even places need only the sums of numbers half a line apart, and its odd places only their
-- differences; on the way back, the numbers of the two halves are the even places' sum and the odd places' sum, added and subtracted.
use Rattle.std.specs.Prelude.{◌+◌, ◌*◌, ◌%◌, ◌+ℤ◌, ◌-ℤ◌, ◌*ℤ◌}
use Rattle.tile_spectrum.specs.Lines.Prelude.{cond, ℕ, eqb, ℤ, pos, sum_z, Side, side16}
use Rattle.tile_spectrum.specs.Lines.Halfcomplex.{basis_of, half_basis_of}

-- ---- a line of any side

module _ (s : Side) where
  -- number n of the fold for the even places, and for the odd ones
  unfoldable pub sum_of : (ℕ → ℤ) → ℕ → ℤ
  sum_of x n = x n +ℤ x (n + s.half)

  unfoldable pub difference_of : (ℕ → ℤ) → ℕ → ℤ
  difference_of x n = x n -ℤ x (n + s.half)

  -- place k of the transform, of a folded line
  unfoldable pub folded_of : (ℕ → ℤ) → ℕ → ℤ
  folded_of z k = sum_z s.half (λ n. z n *ℤ basis_of s k n)

  -- number n of the transposed sum over the even places z, and over the odd ones
  unfoldable pub even_sum_of : (ℕ → ℤ) → ℕ → ℤ
  even_sum_of z n = sum_z s.half (λ k. z k *ℤ basis_of s (2 * k) n)

  unfoldable pub odd_sum_of : (ℕ → ℤ) → ℕ → ℤ
  odd_sum_of z n = sum_z s.half (λ k. z k *ℤ basis_of s (2 * k + 1) n)

  -- the same over the even places for half of the sum; the odd places' sum is the same for it
  unfoldable pub even_half_of : (ℕ → ℤ) → ℕ → ℤ
  even_half_of z n = sum_z s.half (λ k. z k *ℤ half_basis_of s (2 * k) n)

-- every second of the numbers z, those of parity p, and 0 for the others
unfoldable pub every_second : (p : ℕ) → (ℕ → ℤ) → ℕ → ℤ
every_second p z k = cond (eqb (k % 2) p) (z k) (pos 0)

-- ---- a line of sixteen

abbrev pub sum_at : (ℕ → ℤ) → ℕ → ℤ
sum_at = sum_of side16

abbrev pub difference_at : (ℕ → ℤ) → ℕ → ℤ
difference_at = difference_of side16

abbrev pub folded : (ℕ → ℤ) → ℕ → ℤ
folded = folded_of side16

abbrev pub even_sum : (ℕ → ℤ) → ℕ → ℤ
even_sum = even_sum_of side16

abbrev pub odd_sum : (ℕ → ℤ) → ℕ → ℤ
odd_sum = odd_sum_of side16

abbrev pub even_half : (ℕ → ℤ) → ℕ → ℤ
even_half = even_half_of side16
