-- Inside this crate: the odd places of a line of thirty-two, from the even and the odd ones of its sixteen differences z.
use Rattle.std.specs.Prelude.{◌≡◌, ◌+◌, ◌*◌, ◌/◌, ◌%◌, ◌*ℤ◌}
use Rattle.tile_lines32_whole.specs.Prelude.{List, ℕ, ℤ, sum_z, tab, side16, side32, basis_of, folded_of, difference_fold_most}

-- what the odd ones, of which number n is z n, add to the real parts of numbers 1, 3, 5 and 7 of the transform, then to the imaginary parts
abbrev pub odd_part : (ℕ → ℤ) → ℕ → ℤ
odd_part z i = sum_z 8 (λ n. z n *ℤ basis_of side32 (2 * (i % 4) + 1 + 16 * (i / 4)) (2 * n + 1))

-- what the even ones add to them stands at the odd places of a line of sixteen
pub record InParts (z : ℕ → ℤ) (e o : List ℤ) : Type 0 where
  pub even : e ≡ tab 8 (λ i. folded_of side16 (λ n. z (2 * n)) (2 * i + 1))
  pub odd : o ≡ tab 8 (odd_part (λ n. z (2 * n + 1)))

-- either is at most this
abbrev pub part_most : ℕ
part_most = 8 * (difference_fold_most * 16384)
