-- Request L13 for side 16: a filtered sample lies within two steps of the exact filtered merge's, in fact within nine tenths.
use Rattle.std.specs.Prelude.{◌+◌, ◌*◌, ◌≤◌, ◌<◌}
use Rattle.closeness.specs.Spatial.Prelude.{refl, ℕ, suc, arith, lit<, lit≤, ℤ, whole, Within, side16, tile_error, FilteredTile, filtered_sample, exact_filtered_sample}
use Rattle.closeness.specs.Side16.{fitting16}
use Rattle.closeness.specs.Spatial.Bessel16.{gain16}
use Rattle.closeness.specs.Spatial.Closeness.{Figures, spatial_error, filtered-within}

-- the copy's bins are off by at most 359/8 sixteenths, as a length, and those of the correction by at most 68
figures16 : (others : ℕ) → others ≤ 7 → Figures side16 4295154752 359 68 others
unfolding side16
figures16 others few = record { gain_above = lit< tt; halves = refl; spread_enough = omega arith; far_enough = lit≤ tt }

-- one sample, for N = others + 1 from 1 to 8 frames, whatever the tiles hold: m/n is at least 1/2 + 7/8·0.1346 + 0.2676
module _ (a b others : ℕ) (tiles : ℕ → FilteredTile) (t0 : ℤ) (k : a < 8) (l : b < 8) (few : others ≤ 7) where
  within : (m n : ℕ) → n * (others * tile_error side16 379633849 + suc others * spatial_error side16 4295154752 68 + 128 * (2 * side16.divisor * suc others)) ≤ m * (256 * (2 * side16.divisor * suc others)) → Within m n (whole (filtered_sample side16 a b others tiles t0)) (exact_filtered_sample side16 a b others tiles t0)
  unfolding side16
  within = filtered-within fitting16 gain16 (figures16 others few) a b tiles t0 k l

  pub nine-tenths : Within 9 10 (whole (filtered_sample side16 a b others tiles t0)) (exact_filtered_sample side16 a b others tiles t0)
  unfolding side16
  nine-tenths = within 9 10 (omega arith)

  -- "users of the filter are owed a sample within two steps of the exact filtered merge with the same V'"
  pub two_steps : Within 2 1 (whole (filtered_sample side16 a b others tiles t0)) (exact_filtered_sample side16 a b others tiles t0)
  unfolding side16
  two_steps = within 2 1 (omega arith)
