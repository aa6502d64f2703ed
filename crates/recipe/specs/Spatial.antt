-- The spatial filter of request L13 in whole numbers, over the side's tables and scales.
use Rattle.std.specs.Prelude.{◌*◌, ◌+ℤ◌, ◌-ℤ◌, ◌*ℤ◌}
use Rattle.algebra.specs.Prelude.{ℕ, suc, ℤ, pos}
use Rattle.algebra.specs.Sums.{sum_z}
use Rattle.algebra.specs.Nearest.{away}
use Rattle.recipe.specs.Side.{Side}
use Rattle.recipe.specs.Correction.{wiener, bin_re, bin_im, inverse_at, correction_at}
use Rattle.recipe.specs.Output.{row_in, column_in, weight_in, rounded}

-- what the filter takes of one tile
pub record FilteredTile : Type 0 where
  -- V
  pub noise : ℕ
  -- V' of bin (u, v)
  pub spatial : ℕ → ℕ → ℕ
  -- T0
  pub reference : ℕ → ℕ → ℤ
  -- T0 − Tz, for the z-th other frame
  pub differences : ℕ → ℕ → ℕ → ℤ

module _ (s : Side) where
  -- "bins are rounded likewise to sixteenths": one part of the copy's bin, whose scale is 256 times that of B
  unfoldable pub copy_quantized : ℤ → ℤ
  copy_quantized b = away b (256 * s.quantum)

  -- "The base's Wiener step on these bins, with V' for V": one part, from that part b of the bin and the other part c
  unfoldable pub copy_filtered : ℕ → ℤ → ℤ → ℤ
  copy_filtered noise b c = wiener noise (copy_quantized b) (copy_quantized c)

module _ (s : Side) (others : ℕ) (t : FilteredTile) where
  -- the sum of P over the other frames: the merged tile is T0 less this over 256·N, where N = others + 1
  unfoldable pub merged_sum : ℕ → ℕ → ℤ
  merged_sum y x = sum_z others (λ z. correction_at s t.noise (t.differences z) y x)

  -- "A copy of the merged tile, before windows, is rounded to 1/256, halves away from zero"
  unfoldable pub copy_at : ℕ → ℕ → ℤ
  copy_at y x = away (t.reference y x *ℤ pos (256 * suc others) -ℤ merged_sum y x) (suc others)

  -- "and transformed", the Wiener step "gives a correction that is turned back, rounded to 1/256"
  unfoldable pub spatial_at : ℕ → ℕ → ℤ
  spatial_at =
      inverse_at s (λ u v. copy_filtered s (t.spatial u v) (bin_re s copy_at u v) (bin_im s copy_at u v)) (λ u v. copy_filtered s (t.spatial u v) (bin_im s copy_at u v) (bin_re s copy_at u v))

  -- "and subtracted from the unrounded merged tile": what is taken from T0 in all, in 1/(256·N)
  unfoldable pub taken_at : ℕ → ℕ → ℤ
  taken_at y x = merged_sum y x +ℤ pos (suc others) *ℤ spatial_at y x

-- "the windowed sum is rounded once, as in the base"; `tiles t` is tile t = 0..3 over the sample
unfoldable pub filtered_sample : (s : Side) (a b others : ℕ) (tiles : ℕ → FilteredTile) (t0 : ℤ) → ℤ
filtered_sample s a b others tiles t0 =
    rounded s others (λ t. pos (weight_in s a b t) *ℤ taken_at s others (tiles t) (row_in s a t) (column_in s b t)) t0
