-- Request L14, "Noise known only as a range": the low and the high sample where each tile's noise number is known only between two ends.
use Rattle.std.specs.Prelude.{◌-ℤ◌, ◌*ℤ◌}
use Rattle.range.specs.Prelude.{ℕ, ℤ, pos, away, min_z, max_z, Side}
use Rattle.algebra.specs.Sums.{sum_z}
use Rattle.recipe.specs.Correction.{bin_re, bin_im, filtered, twiddle_re, twiddle_im}
use Rattle.recipe.specs.Output.{row_in, column_in, weight_in, rounded}

module _ (s : Side) where
  -- "In each bin, the real and the imaginary part of G each range between their results at the lower and the upper V. Each pixel's sum takes the
  -- end that makes it least or greatest": `added` picks of the real part's two products with its factor, and `taken` of the imaginary part's, which are subtracted
  unfoldable pub end_re : (added taken : ℤ → ℤ → ℤ) (lower upper : ℕ) (d : ℕ → ℕ → ℤ) → ℕ → ℕ → ℤ
  end_re added taken lower upper d y x =
      sum_z s.side (λ u. sum_z s.side (λ v.
      let g : ℕ → ℤ = λ noise. twiddle_re s y x u v *ℤ filtered s noise (bin_re s d u v) (bin_im s d u v) in
      let h : ℕ → ℤ = λ noise. twiddle_im s y x u v *ℤ filtered s noise (bin_im s d u v) (bin_re s d u v) in
      added (g lower) (g upper) -ℤ taken (h lower) (h upper)))

  -- "and the recipe's rounding follows": P of the least sum, and of the greatest
  unfoldable pub least_at : (lower upper : ℕ) (d : ℕ → ℕ → ℤ) → ℕ → ℕ → ℤ
  least_at lower upper d y x = away (end_re min_z max_z lower upper d y x) s.divisor

  unfoldable pub greatest_at : (lower upper : ℕ) (d : ℕ → ℕ → ℤ) → ℕ → ℕ → ℤ
  greatest_at lower upper d y x = away (end_re max_z min_z lower upper d y x) s.divisor

  -- `output_sample` (recipe/PlainOutput) from any corrections: `P t z` is tile t's for the z-th other frame at the sample
  abbrev pub sample_from : (a b others : ℕ) (P : ℕ → ℕ → ℤ) (t0 : ℤ) → ℤ
  sample_from a b others P t0 = rounded s others (λ t. sum_z others (λ z. pos (weight_in s a b t) *ℤ P t z)) t0

  -- "two frames, low and high": P is subtracted, so the greatest gives the low sample. Tile t's noise number lies between `lower t` and `upper t`
  module _ (a b others : ℕ) (lower upper : ℕ → ℕ) (d : ℕ → ℕ → ℕ → ℕ → ℤ) where
    unfoldable pub low_sample : ℤ → ℤ
    low_sample = sample_from a b others (λ t z. greatest_at (lower t) (upper t) (d t z) (row_in s a t) (column_in s b t))

    unfoldable pub high_sample : ℤ → ℤ
    high_sample = sample_from a b others (λ t z. least_at (lower t) (upper t) (d t z) (row_in s a t) (column_in s b t))
