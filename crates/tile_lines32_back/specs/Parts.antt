-- The sum over the odd places of a line of thirty-two in two parts: what the real parts add, against cosines, and what the imaginary parts add, against sines.
-- From number n to number 16 − n the first changes its sign, and the second stays. At number 0 there is only the first, at number 8 only the second, and half
-- of it is taken, so that it is below 2^53.
use Rattle.std.specs.Prelude.{◌≡◌, ◌+◌, ◌*◌, ◌%◌, ◌≤◌, ◌*ℤ◌}
use Rattle.tile_lines32_back.specs.Prelude.{cond, List, ℕ, eqb, ℤ, nat_abs, Float, sum_z, side32, half_z, basis_of, double_line}

unfoldable pub part_basis : (k n : ℕ) → ℤ
part_basis k n = cond (eqb (n % 8) 0) (half_z (basis_of side32 k n)) (basis_of side32 k n)

-- z k is place 2k + 1: the real parts are the first eight of them, the imaginary parts the others
unfoldable pub cosine_part : (ℕ → ℤ) → ℕ → ℤ
cosine_part z n = sum_z 8 (λ k. z k *ℤ part_basis (2 * k + 1) n)

unfoldable pub sine_part : (ℕ → ℤ) → ℕ → ℤ
sine_part z n = sum_z 8 (λ k. z (8 + k) *ℤ part_basis (2 * k + 17) n)

-- both parts in double, at even and at odd numbers, where the places are at most m
pub record InParts (m : ℕ) (a b c d : List Float) : Type 0 where
  pub number : ℕ → ℤ
  pub most : (k : ℕ) → nat_abs (number k) ≤ m
  pub even_cosines : a ≡ double_line 4 (λ n. cosine_part number (2 * n))
  pub odd_cosines : b ≡ double_line 4 (λ n. cosine_part number (2 * n + 1))
  pub even_sines : c ≡ double_line 4 (λ n. sine_part number (2 * n + 2))
  pub odd_sines : d ≡ double_line 4 (λ n. sine_part number (2 * n + 1))
