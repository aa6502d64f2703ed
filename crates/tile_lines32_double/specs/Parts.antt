-- Inside this crate: a line of whole numbers of at most `long_sum_most` in parts, each in double.
use Rattle.std.specs.Prelude.{◌≡◌, ◌+◌, ◌*◌, ◌≤◌, ◌+ℤ◌, ◌-ℤ◌}
use Rattle.tile_lines32_double.specs.Prelude.{List, ℕ, ℤ, nat_abs, Float, side32, folded_of, every_second, long_sum_most, double_line}

-- the sums and the differences of numbers sixteen apart
pub record Halved (z : ℕ → ℤ) (a b : List Float) : Type 0 where
  pub most : (k : ℕ) → nat_abs (z k) ≤ long_sum_most
  pub sums : a ≡ double_line 16 (λ i. z i +ℤ z (i + 16))
  pub differences : b ≡ double_line 16 (λ i. z i -ℤ z (i + 16))

-- what the even and the odd numbers add to the real parts of numbers 1, 3, 5 and 7 of the transform, and to the imaginary parts
pub record InParts (z : ℕ → ℤ) (a b c d : List Float) : Type 0 where
  pub most : (k : ℕ) → nat_abs (z k) ≤ long_sum_most
  pub even_cosines : a ≡ double_line 4 (λ i. folded_of side32 (every_second 0 z) (2 * i + 1))
  pub odd_cosines : b ≡ double_line 4 (λ i. folded_of side32 (every_second 1 z) (2 * i + 1))
  pub even_sines : c ≡ double_line 4 (λ i. folded_of side32 (every_second 0 z) (2 * i + 17))
  pub odd_sines : d ≡ double_line 4 (λ i. folded_of side32 (every_second 1 z) (2 * i + 17))
