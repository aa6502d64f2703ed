-- Inside the crates of the range: the two ends of an inverse sum by their sum and by how far they are apart. Over any side; G is g + i·h at one V and
-- g' + i·h' at the other.
use Rattle.std.specs.Prelude.{◌+◌, ◌*◌, ◌+ℤ◌, ◌-ℤ◌}
use Rattle.range_pair.specs.Prelude.{ℕ, ℤ, nat_abs, sum_n, Side, twiddle_re, twiddle_im, inverse_re}

module _ (s : Side) (g h g' h' : ℕ → ℕ → ℤ) where
  -- the inverse sums at both, added: the inverse sum of both G, added
  unfoldable pub both_re : ℕ → ℕ → ℤ
  both_re = inverse_re s (λ u v. g u v +ℤ g' u v) (λ u v. h u v +ℤ h' u v)

  -- how far the least and the greatest sum are apart: each part by its two results, times its factor
  unfoldable pub width_at : ℕ → ℕ → ℕ
  width_at y x =
      sum_n s.side (λ u. sum_n s.side (λ v.
      nat_abs (twiddle_re s y x u v) * nat_abs (g u v -ℤ g' u v) + nat_abs (twiddle_im s y x u v) * nat_abs (h u v -ℤ h' u v)))
