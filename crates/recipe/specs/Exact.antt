-- The exact merge of document 01: the same noise number and differences, and the other steps in fractions, without rounding.
use Rattle.std.specs.Prelude.{◌*◌}
use Rattle.algebra.specs.Prelude.{ℕ, zero, suc, arith, ℤ, pos}
use Rattle.std.proofs.Common.{mul-pos}
use Rattle.algebra.specs.Fraction.{Frac, frac, whole, ◌+F◌, ◌-F◌, ◌·F◌, ◌×F◌, ◌÷F◌, over, sum_f, held}
use Rattle.recipe.specs.Side.{Side}
use Rattle.recipe.specs.Correction.{bin_re, bin_im, twiddle_re, twiddle_im}
use Rattle.recipe.specs.Output.{row_in, column_in, weight_in}

module _ (s : Side) where
  -- one part of a bin: B/2^28 for side 16
  unfoldable pub exact_bin : ℤ → Frac
  exact_bin b = frac b s.scale s.scale_above

  -- the noise: V/256 for side 16
  unfoldable pub exact_noise : ℕ → Frac
  exact_noise v = frac (pos v) (s.parts * s.parts) (mul-pos s.parts_above s.parts_above)

  -- one part of the bin's correction, from that part b of the bin and the other part c: noise·bin/(|bin|² + noise); 0 where V is 0
  unfoldable pub exact_wiener : ℕ → Frac → Frac → Frac
  exact_wiener zero b c = whole (pos 0)
  exact_wiener (suc v) b c = (exact_noise (suc v) ×F b) ÷F (b ×F b +F c ×F c +F exact_noise (suc v))

  -- the same from the parts of B
  unfoldable pub exact_filtered : ℕ → ℤ → ℤ → Frac
  exact_filtered v b c = exact_wiener v (exact_bin b) (exact_bin c)

  -- the real part of the inverse sum of g + i·h at row y and column x, divided: by 256·2^28 for side 16
  module _ (g h : ℕ → ℕ → Frac) where
    unfoldable pub exact_inverse_re : ℕ → ℕ → Frac
    exact_inverse_re y x =
        sum_f s.side (λ u. sum_f s.side (λ v. twiddle_re s y x u v ·F g u v -F twiddle_im s y x u v ·F h u v))

    unfoldable pub exact_inverse_at : ℕ → ℕ → Frac
    exact_inverse_at y x = over (exact_inverse_re y x) (s.side * s.side * s.scale) s.size_above

  -- p of the differences d at the noise number
  unfoldable pub exact_correction_at : ℕ → (ℕ → ℕ → ℤ) → ℕ → ℕ → Frac
  exact_correction_at noise d =
      exact_inverse_at (λ u v. exact_filtered noise (bin_re s d u v) (bin_im s d u v)) (λ u v. exact_filtered noise (bin_im s d u v) (bin_re s d u v))

  -- the exact sample, where tile t puts q t to the sum: T0 − (sum over the four tiles)/(weight·N), held to 0..4095; weight is 2^24 for side 16
  abbrev pub unrounded : (others : ℕ) (q : ℕ → Frac) (t0 : ℤ) → Frac
  unrounded others q t0 = held 4095 (whole t0 -F over (sum_f 4 q) (s.weight * suc others) (mul-pos s.weight_above (omega arith)))

  -- tile t puts the sum over the other frames of w·w'·p; arguments as `output_sample` takes them
  unfoldable pub exact_sample : (a b others : ℕ) (noise : ℕ → ℕ) (d : ℕ → ℕ → ℕ → ℕ → ℤ) (t0 : ℤ) → Frac
  exact_sample a b others noise d t0 =
      unrounded others (λ t. sum_f others (λ z. pos (weight_in s a b t) ·F exact_correction_at (noise t) (d t z) (row_in s a t) (column_in s b t))) t0
